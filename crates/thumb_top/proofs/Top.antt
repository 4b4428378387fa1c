-- Each entry of both tables is the kind that the mask tests give, and so it is for each halfword. Assumes nothing.
use Prim.Native.Nat.{◌/◌, ◌<◌, ◌^◌, ℕ}
use borrow.Author.Tests.{eqb-true}
use lib.Dec.{eqb}
use mathlib.Core.Bool.{Bool, true}
use mathlib.Core.Path.{◌∙◌, ◌≡◌, refl, sym}
use native.Mathlib.Omega.{arith}
use Rattle.std.specs.Prelude.{slice_index_or}
use Rattle.arm7tdmi.specs.declared.Form.{Form}
use Rattle.arm7tdmi.specs.declared.Form.TheVariants.{Bench, Sheet}
use Rattle.common.proofs.Tests.{at, every}
use Rattle.thumb.specs.Kinds.{thumb_format, thumb_number, thumb_rows}
use Rattle.thumb.specs.declared.ThumbFormat.{ThumbFormat}
use Rattle.thumb_top.specs.Top.{kind_of, table, top_kind}
use Rattle.thumb_words.proofs.Laws.{same_kind, thumb_top}

-- the kind that a table has for a top byte
abbrev pub entry : Form → ℕ → ThumbFormat
entry form top = kind_of (slice_index_or (table form) top 0)

-- one test of all entries against the mask tests
right : Form → ℕ → Bool
right form top = eqb (thumb_number (entry form top)) (thumb_number (top_kind form top))

all_right : (form : Form) → every (right form) 256 ≡ true
unfolding right kind_of thumb_rows
all_right Bench = refl
all_right Sheet = refl

-- the entry of a top byte is the kind that the mask tests give for it
pub entry_right : (form : Form) (top : ℕ) → top < 256 → entry form top ≡ top_kind form top
unfolding right
entry_right form top h = same_kind (entry form top) (top_kind form top) (eqb-true _ _ (at (right form) 256 (all_right form) top h))

-- they look at the top byte alone
pub by_top : (form : Form) (w : ℕ) → top_kind form (w / 2 ^ 8) ≡ thumb_format form w
by_top form w = sym (thumb_top form w)

-- "Both are shown, by the same argument over form and all 65,536 halfwords, to give the kind that the mask tests give"
pub tables_right : (form : Form) (w : ℕ) → w < 2 ^ 16 → entry form (w / 2 ^ 8) ≡ thumb_format form w
tables_right form w h = entry_right form (w / 2 ^ 8) (omega arith) ∙ by_top form w
