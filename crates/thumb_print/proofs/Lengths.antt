-- "A line has from 5 to 80 bytes", whatever line a word prints. Assumes nothing.
use mathlib.Core.Path.{◌≡◌}
use mathlib.Core.List.{List}
use Prim.Native.Nat.{ℕ}
use Rattle.text.proofs.Within.{Within}
use Rattle.lines.specs.Answer.{line}
use Rattle.lines.proofs.Whole.{Whole}
use Rattle.arm7tdmi.specs.declared.Form.{Form}
use Rattle.thumb.specs.Kinds.{thumb_format}
use Rattle.thumb_disass.specs.Line.{line_of}
use Rattle.thumb_print.specs.Print.{thumb_line}
use Rattle.thumb_disass.proofs.Lengths.{line_within}

pub thumb_within : (form : Form) (pc raw : ℕ) {bs : List ℕ} → thumb_line form pc raw ≡ line bs → Within 5 80 bs
unfolding thumb_line
thumb_within form pc raw {bs} e = let same : line_of form (thumb_format form raw) pc raw ≡ bs = cc in rw (← same) (line_within form (thumb_format form raw) pc raw)

pub thumb_whole : (form : Form) (pc raw : ℕ) → Whole (thumb_line form pc raw)
unfolding thumb_line
thumb_whole form pc raw = (line_within form (thumb_format form raw) pc raw).most
