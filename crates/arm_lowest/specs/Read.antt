-- Read, of ARM lines. Assumes nothing.
use Rattle.std.specs.Prelude.{◌^◌, ℕ, List}
use Rattle.arm7tdmi.specs.declared.Form.{Form}
use Rattle.arm_print.specs.Print.{arm_line}
use Rattle.reading.specs.Read.{read_back}

-- The word that is read from a line, in a form, at an address. "Only 4: no word of that set prints the line in that form at that address": here 2 ^ 32.
-- "On success, the lowest such word."
unfoldable pub read_arm : Form → ℕ → List ℕ → ℕ
read_arm form pc l = read_back (arm_line form pc) (2 ^ 32) l
