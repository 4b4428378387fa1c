-- Whether a word shows no instruction, by its kind alone. Assumes nothing.
use Rattle.std.proofs.Common.{◌≡◌, ℕ, eqb}
use Rattle.lines.specs.Answer.{is_invalid}
use Rattle.arm7tdmi.specs.declared.Form.{Form}
use Rattle.thumb.specs.Kinds.{thumb_format, thumb_number}
use Rattle.thumb_disass.proofs.Named.{undefined_line}
use Rattle.thumb_print.specs.Print.{thumb_line}

pub shown_invalid : (form : Form) (pc raw : ℕ) → is_invalid (thumb_line form pc raw) ≡ eqb (thumb_number (thumb_format form raw)) 19
unfolding thumb_line
shown_invalid form pc raw = undefined_line form (thumb_format form raw) pc raw
