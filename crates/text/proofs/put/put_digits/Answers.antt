-- `text::put::put_digits` meets its contract. Assumes nothing.
use Rattle.std.proofs.Common.{◌≡◌, ◌∙◌, ◌-◌, ◌++◌, take, drop, refl, arith, append-nil, rules}
use lib.ListN.{length-set}
use Rattle.text.proofs.Digits.{scratch_done, scratch_none, scratch_step}
use Rattle.text.specs.Digits.{digits}
use Rattle.text.proofs.put.put_digits.Goals as goal
use Rattle.text.proofs.put.put_digits.Goals.{else-loop-i-test, then-loop-i-test+then-rest-wide-eq0}

pub loop-i-init : goal.loop-i-init
loop-i-init g c =
    let a = c.args in
    let z : a.k - a.k ≡ 0 = omega arith in
    (refl, omega arith, search rules, rw (z, append-nil))

pub loop-i-preserved : goal.loop-i-preserved
loop-i-preserved g c =
    let l = c.loop-i in
    let a = c.args in
    let b = g.row.BASE in
    let s = scratch_step b a.k l.i l.wide l.rest l.scratch (omega arith) (omega arith) (omega arith) c.if-rest-wide-eq0.false in (
      refl,
      omega arith,
      simp length-set (omega arith),
      rw (c.saturating_sub-wide.ensures, c.last_digit.ensures) (l.invariant.3 ∙ rw l.invariant.0 s),
    )

pub returns : goal.returns
returns g c =
    let l = c.loop-i in
    let a = c.args in
    let b = g.row.BASE in
    let e : digits b l.first l.wide l.rest ++ take (a.k - l.first) (drop l.first l.scratch) ≡ take (a.k - l.first) (drop l.first l.scratch) = elim c.loop-i-test.branch [
      | else-loop-i-test w ↦ scratch_done b a.k l.first l.wide l.rest l.scratch (omega arith)
      | then-loop-i-test+then-rest-wide-eq0 w ↦ scratch_none b a.k l.first l.wide l.rest l.scratch w.if-rest-wide-eq0.true
    ] in
    rw (l.invariant.3, e) c.put_text_at.ensures
