-- What a patch answers, and what the image holds then, of document 02 (vi). Assumes nothing.
use Rattle.std.specs.Prelude.{Bool, ◌&&◌, cond, false, List, ℕ, zero, suc, ◌+◌, ◌/◌, ◌%◌, ◌^◌, leb, ltb, length, set, Result, Ok, Err, ⊤}
use Rattle.refusal.specs.declared.Refusal.{Refusal}
use Rattle.refusal.specs.declared.Refusal.TheVariants.{NoWord}
use Rattle.arm7tdmi.specs.Signed.{moved}
use Rattle.arm7tdmi.specs.declared.Form.TheVariants.{Sheet}
use Rattle.lines.specs.Answer.{Answer}
use Rattle.thumb.specs.Pair.{is_pair}
use Rattle.arm_print.specs.Print.{arm_line}
use Rattle.thumb_print.specs.Print.{thumb_line}
use Rattle.reading.specs.Read.{read_back}
use Rattle.image.specs.Bytes.{half, word}
use Rattle.image.specs.Refusal.{or_place, refusal_at, unit}
use Rattle.image.specs.Stretches.{pairs, set_at}
use Rattle.image.specs.declared.Set.{Set}
use Rattle.image.specs.declared.Set.TheVariants.{Arm, Thumb}

-- ---- the words of a set
-- how many there are, which one stands at a place, and what one of them shows at an address p
abbrev pub words_of : Set → ℕ
words_of Arm = 2 ^ 32
words_of (Thumb e) = 2 ^ 16

abbrev pub word_in : List ℕ → Set → ℕ → ℕ
word_in image Arm at = word image at
word_in image (Thumb e) at = half image at

abbrev pub word_line : Set → ℕ → ℕ → Answer
word_line Arm p w = arm_line Sheet p w
word_line (Thumb e) p w = thumb_line Sheet p w

-- The patch "takes offset and sheet line, reads it for the stretch at that place": the lowest word of the set that prints the line at p, or, where none does,
-- how many words there are
abbrev pub read_in : Set → ℕ → List ℕ → ℕ
read_in s p l = read_back (word_line s p) (words_of s) l

-- ---- a word stored
-- a number in so many bytes from a place on, little-endian; all other bytes are as they were
unfoldable pub with_number : List ℕ → ℕ → ℕ → ℕ → List ℕ
with_number bytes at zero n = bytes
with_number bytes at (suc width) n = with_number (set bytes at (n % 2 ^ 8)) (at + 1) width (n / 2 ^ 8)

-- it "overwrites just the 4 or 2 bytes of one word"
abbrev pub stored : List ℕ → Set → ℕ → ℕ → List ℕ
stored image s at w = with_number image at (unit s) w

-- ---- the answer
-- "Refusal 8, for resuming and patching: .. or for a patch equal to the end. It follows 6 and 7": 6, 7, 8, or none
unfoldable pub patch_refusal : List ℕ → List ℕ → ℕ → Result ⊤ Refusal
patch_refusal image list at = or_place (refusal_at image list at) (leb (length image) at)

-- ".. and precedes 4": of a line at an address p, by the set at the place
unfoldable pub patched_in : List ℕ → Set → ℕ → ℕ → List ℕ → Result ⊤ Refusal × List ℕ
patched_in image s p at l = cond (ltb (read_in s p l) (words_of s)) (Ok tt, stored image s at (read_in s p l)) (Err NoWord, image)

-- a refusal, or what is answered and held otherwise
abbrev pub patched_unless : Result ⊤ Refusal → Result ⊤ Refusal × List ℕ → List ℕ → Result ⊤ Refusal × List ℕ
patched_unless (Ok done) p image = p
patched_unless (Err r) p image = (Err r, image)

-- the answer, and the image then. "A refused patch writes nothing."
unfoldable pub patched : List ℕ → List ℕ → ℕ → ℕ → List ℕ → Result ⊤ Refusal × List ℕ
patched image list base at l = patched_unless (patch_refusal image list at) (patched_in image (set_at (pairs list) at) (moved base at) at l) image

-- ---- the step there
-- "a pair needs two patches": whether a word w that is stored at a place joins a pair with the halfword behind it, in Thumb, inside one stretch
abbrev pub joins : Set → ℕ → ℕ → ℕ → Bool
joins Arm at w behind = false
joins (Thumb e) at w behind = leb (at + 4) e && is_pair w behind
