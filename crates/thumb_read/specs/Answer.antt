-- What a read of a Thumb line answers. Assumes nothing.
use Rattle.std.specs.Prelude.{◌^◌, ℕ, List, Option, unwrap_or}
use Rattle.arm7tdmi.specs.declared.Form.{Form}
use Rattle.thumb_lowest.specs.Read.{read_thumb}
use Rattle.reading.specs.Answered.{word_below}
pub use Rattle.reading.specs.Answered.{read_number, read_word}

-- the answer for a line, in a form, at an address
unfoldable pub read_answer : Form → ℕ → List ℕ → Option ℕ
read_answer form pc l = word_below (2 ^ 16) (read_thumb form pc l)

-- the word of an answer, or 2 ^ 16: above each word
abbrev pub low : Option ℕ → ℕ
low o = unwrap_or o (2 ^ 16)
