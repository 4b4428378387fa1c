-- What a read of an ARM line answers. Assumes nothing.
use Rattle.std.specs.Prelude.{◌^◌, ℕ, List, Option}
use Rattle.arm7tdmi.specs.declared.Form.{Form}
use Rattle.arm_lowest.specs.Read.{read_arm}
use Rattle.reading.specs.Answered.{word_below}
pub use Rattle.reading.specs.Answered.{read_number, read_word}

-- the answer for a line, in a form, at an address
unfoldable pub read_answer : Form → ℕ → List ℕ → Option ℕ
read_answer form pc l = word_below (2 ^ 32) (read_arm form pc l)
