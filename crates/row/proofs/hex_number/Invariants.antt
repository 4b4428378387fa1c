-- `row::hex_number` meets its contract. Invariant: the number is that of the digits that are left behind v. Assumes nothing.
use Rattle.std.proofs.Common.{◌≡◌, ◌^◌, ◌<◌, drop}
use Rattle.row.proofs.Answers.{number_from}
use Rattle.row.specs.Row.{hex_number}
use Rattle.row.proofs.hex_number.Given as goal

abbrev pub invariant-loop-x : goal.invariant-loop-x
invariant-loop-x l = (l.v < 2 ^ 32) × (hex_number l.s ≡ number_from l.v (drop l.x-index l.s))
