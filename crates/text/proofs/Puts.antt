-- Laws of a writer. Assumes nothing.
use Rattle.std.proofs.Common.{◌≡◌, refl, ap, sym, List, [], ◌∷◌, ◌++◌, ℕ, ◌+◌, ◌≤◌, length, take, drop, append_assoc}
use borrow.Rule.Slice.PartMut.{put_mid}
use lib.Seq.{drop-drop}
use Rattle.text.proofs.Wrote.{placed, stores_append}
use Rattle.text.specs.Puts.{place_of, puts, standing}
use Rattle.text.specs.Wrote.{Wrote}
use Rattle.text.specs.declared.put.Writer.{Writer}

-- a write of two texts is two writes, the second where the first ended
pub puts_append : (w : Writer) (x y : List ℕ) → puts w (x ++ y) ≡ puts (puts w x) y
unfolding puts
puts_append w x y = ap (standing w) (sym (stores_append (place_of w) x y))

-- and one of a byte and a text
pub puts_cons : (w : Writer) (b : ℕ) (bs : List ℕ) → puts w (b ∷ bs) ≡ puts (puts w (b ∷ [])) bs
puts_cons w b bs = puts_append w (b ∷ []) bs

-- nothing written
pub puts_nil : (w : Writer) → puts w [] ≡ w
unfolding puts
puts_nil w = refl

-- the bytes of a write, in the buffer
pub puts_wrote : (w : Writer) (bs : List ℕ) → let v = puts w bs in Wrote w.bytes.now w.at bs v.bytes.now v.at
unfolding puts
puts_wrote w bs = record { after = refl }

-- the same of a writer that stands so
pub wrote_of : (w v : Writer) (bs : List ℕ) → v ≡ puts w bs → Wrote w.bytes.now w.at bs v.bytes.now v.at
wrote_of w v bs e = rw e (puts_wrote w bs)

-- what a write of several texts is: the writes of its parts
pub ruleset written = (puts_append, puts_cons, puts_nil)

-- a write for which there is room, by what the buffer holds then
pub puts_placed : (w : Writer) (bs : List ℕ) → w.at + length bs ≤ length w.bytes.now
    → record w { bytes = record w.bytes { now = put_mid w.at (length bs) w.bytes.now bs }; at = w.at + length bs } ≡ puts w bs
unfolding puts
puts_placed w bs h =
    rw (drop-drop (length bs) w.at w.bytes.now, ← append_assoc (take w.at w.bytes.now) bs (drop (w.at + length bs) w.bytes.now)) (ap (standing w) (placed w.bytes.now w.at bs h).after)
