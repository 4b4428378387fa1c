-- Laws of an address: how long it is, and that it is one word of a line and is read back. Assumes nothing.
use Prim.Native.Nat.{◌<◌, ◌^◌, ℕ}
use lib.ListN.{drop}
use mathlib.Core.Bool.{true}
use mathlib.Core.Path.{◌≡◌}
use native.Mathlib.Omega.{arith}
use Rattle.arm7tdmi.specs.declared.Form.{Form}
use Rattle.arm7tdmi.specs.declared.Form.TheVariants.{Bench, Sheet}
use Rattle.lines.specs.Address.{address}
use Rattle.text.proofs.Digits.{prefixed_back}
use Rattle.text.proofs.Within.{Within, loosely, prefixed_within}
use Rattle.text.proofs.Word.{prefixed_wordy, wordy}
use Rattle.text.specs.Digits.{value}

-- on the sheet all are of one length
pub sheet_within : (n : ℕ) → Within 10 10 (address Sheet n)
unfolding address
sheet_within n = prefixed_within 8 n (omega arith)

pub address_within : (form : Form) (n : ℕ) → Within 3 10 (address form n)
unfolding address
address_within Bench n = prefixed_within 1 n (omega arith)
address_within Sheet n = loosely (sheet_within n) (omega arith) (omega arith)

pub address_wordy : (form : Form) (n : ℕ) → wordy (address form n) ≡ true
unfolding address
address_wordy Bench n = prefixed_wordy 1 n (omega arith)
address_wordy Sheet n = prefixed_wordy 8 n (omega arith)

pub address_back : (form : Form) (n : ℕ) → n < 2 ^ 32 → value 16 (drop 2 (address form n)) ≡ n
unfolding address
address_back Bench n h = prefixed_back 1 n h
address_back Sheet n h = prefixed_back 8 n h
