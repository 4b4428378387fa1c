-- Read, for Thumb. Assumes nothing.
use Rattle.std.specs.Prelude.{◌^◌, ℕ, List}
use Rattle.arm7tdmi.specs.declared.Form.{Form}
use Rattle.reading.specs.Read.{read_back}
use Rattle.thumb_print.specs.Print.{thumb_line}

-- "On success, the lowest such word": the lowest halfword whose line, in that form at that address, is l; 2 ^ 16 where "no word of that set prints the line"
unfoldable pub read_thumb : Form → ℕ → List ℕ → ℕ
read_thumb form pc l = read_back (thumb_line form pc) (2 ^ 16) l
