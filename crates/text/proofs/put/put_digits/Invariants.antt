-- `text::put::put_digits` meets its contract. Invariant: the digits are those that are left, and then those that the scratch holds from `first` to k. Assumes nothing.
use Rattle.std.proofs.Common.{◌≡◌, ◌++◌, ◌-◌, ◌≤◌, drop, length, take}
use Rattle.text.specs.Digits.{digits}
use Rattle.text.proofs.put.put_digits.Given as goal

abbrev pub invariant-loop-i : goal.invariant-loop-i
invariant-loop-i g l =
    (l.first ≡ l.i) × (l.i ≤ l.k) × (length l.scratch ≡ 10)
    × (digits g.row.BASE l.k l.w l.n ≡ digits g.row.BASE l.first l.wide l.rest ++ take (l.k - l.first) (drop l.first l.scratch))
