-- No long line prints. Assumes nothing.
use Prim.Native.Nat.{◌<◌, ◌^◌, ◌≤◌, ℕ}
use lib.ListN.{length}
use mathlib.Core.List.{List}
use mathlib.Core.Path.{◌≡◌}
use native.Mathlib.Omega.{arith}
use Rattle.arm7tdmi.specs.declared.Form.{Form}
use Rattle.reading.proofs.Demand.{none_read, read_most}
use Rattle.thumb_print.proofs.Lengths.{thumb_within}
use Rattle.thumb_print.specs.Print.{thumb_line}
use Rattle.thumb_lowest.specs.Read.{read_thumb}

-- a line of more than 80 bytes
pub long_none : (form : Form) (pc : ℕ) (l : List ℕ) → 80 < length l → read_thumb form pc l ≡ 2 ^ 16
unfolding read_thumb
long_none form pc l h = none_read (thumb_line form pc) (2 ^ 16) l (λ w g e. let m = (thumb_within form pc w e).most in omega arith)

pub read_le : (form : Form) (pc : ℕ) (l : List ℕ) → read_thumb form pc l ≤ 2 ^ 16
unfolding read_thumb
read_le form pc l = read_most (thumb_line form pc) (2 ^ 16) l
