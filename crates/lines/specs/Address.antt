-- How an address is spelled in a line. Assumes nothing.
use Rattle.std.specs.Prelude.{List, ℕ}
use Rattle.text.specs.Digits.{prefixed}
use Rattle.arm7tdmi.specs.declared.Form.{Form}
use Rattle.arm7tdmi.specs.declared.Form.TheVariants.{Bench, Sheet}

-- bench: as many digits as the number has, by the Rust's "{:#x}".
-- S9, of document 02: "In sheet lines every address becomes 0x and eight digits, zero filled"
unfoldable pub address : Form → ℕ → List ℕ
address Bench n = prefixed 1 n
address Sheet n = prefixed 8 n
