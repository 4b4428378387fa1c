-- `text::read::digit_value` meets its contract. Assumes nothing.
use borrow.Author.Tests.{eq-eqb, ne_eqb}
use native.Mathlib.Omega.{arith}
use Rattle.text.proofs.Digits.{low_bits, value_of_byte}
use Rattle.text.specs.Digits.{digit}
use Rattle.text.proofs.read.digit_value.Goals as goal

pub returns-then-names-v : goal.returns-then-names-v
returns-then-names-v c =
    let x = c.args.x in
    (rw (eq-eqb (digit (low_bits x)) x c.if-names-v.true) at (value_of_byte x (omega arith)), omega arith)

pub returns : goal.returns
returns c =
    let x = c.args.x in
    (rw (ne_eqb (digit (low_bits x)) x c.if-names-v.false) at (value_of_byte x (omega arith)), omega arith)
