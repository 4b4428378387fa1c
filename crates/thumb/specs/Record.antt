-- Decoded Thumb words. Document 02 (iii): "The decoded Thumb record now carries one or two halfwords, and every record, ARM included, its byte
-- length; a pair has the kind of its halves." Assumes nothing.
use Rattle.std.specs.Prelude.{ℕ, cond}
use Rattle.arm7tdmi.specs.declared.Form.{Form}
use Rattle.thumb.specs.Kinds.{thumb_format}
use Rattle.thumb.specs.Pair.{is_pair}
use Rattle.thumb.specs.declared.Halfwords.{Halfwords}
use Rattle.thumb.specs.declared.Halfwords.TheVariants.{One, Two}
use Rattle.thumb.specs.declared.ThumbInstruction.{ThumbInstruction}

-- what is decoded of two halfwords: both, if they are a pair, and else the first alone
unfoldable pub halfwords_of : ℕ → ℕ → Halfwords
halfwords_of first second = cond (is_pair first second) (Two first second) (One first)

-- the halfword that tells the kind: of a pair the first, and the second tells the same (`pair_kinds` of thumb_words)
abbrev pub leading : Halfwords → ℕ
leading (One h) = h
leading (Two first second) = first

abbrev pub byte_length : Halfwords → ℕ
byte_length (One h) = 2
byte_length (Two first second) = 4

unfoldable pub decoded : Form → Halfwords → ℕ → ThumbInstruction
decoded form h address = record { fmt = thumb_format form (leading h); raw = h; pc = address; byte_length = byte_length h }
