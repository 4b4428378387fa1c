-- Print Thumb: the line of a word, at an address, in a form. No word is refused. Assumes nothing.
use Rattle.std.specs.Prelude.{ℕ}
use Rattle.thumb.specs.Kinds.{thumb_format}
use Rattle.lines.specs.Answer.{Answer, line}
use Rattle.arm7tdmi.specs.declared.Form.{Form}
use Rattle.thumb_disass.specs.Line.{line_of}

-- "Only 3, likewise": what the buffer's length decides, and the word does not
unfoldable pub thumb_line : Form → ℕ → ℕ → Answer
thumb_line form pc raw = line (line_of form (thumb_format form raw) pc raw)
