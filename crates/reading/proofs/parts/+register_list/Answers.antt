-- `reading::parts::register_list` meets its contract. Assumes nothing.
use Prim.Native.Nat.{◌%◌, ◌*◌, ◌^◌}
use lib.ListN.{length}
use mathlib.Core.Path.{◌≡◌}
use native.Mathlib.Nat.{pow-le-pow_right}
use native.Mathlib.Omega.{arith}
use borrow.Author.Rules.{rules}
use Rattle.reading.proofs.RegisterList.{list_end, list_more, list_none}
use Rattle.reading.proofs.parts.+register_list.Goals as goal

pub returns-then-left-eq0 : goal.returns-then-left-eq0
returns-then-left-eq0 t c = (rw c.if-left-eq0.true (list_none c.args.l.now), search rules)

pub returns-then-is_empty : goal.returns-then-is_empty
returns-then-is_empty t c =
    let a = c.args in
    let z : length c.first_word-name.result.now ≡ 0 = search rules in
    (list_end a.left a.l.now (rw c.first_word-name.ensures at z), search rules)

pub returns : goal.returns
returns t c =
    let a = c.args in
    let reg = c.read_reg.result in
    let l = pow-le-pow_right {n = 2} (omega arith) c.read_reg.ensures.1 in
    let f : length c.first_word-name.result.now ≡ 0 → ⊥ = search rules in
    let e : 1 * 2 ^ reg % 2 ^ 32 ≡ 2 ^ reg = omega (l, arith) in (
      rw (e, c.register_list.ensures.0, c.read_reg.ensures.0, c.next_word.ensures, c.first_word-name.ensures)
          (list_more a.left a.l.now c.if-left-eq0.false (rw c.first_word-name.ensures at f)),
      omega (l, e, c.register_list.ensures.1, arith),
    )
