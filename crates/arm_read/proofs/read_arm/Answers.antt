-- `arm_read::read_arm` meets its contract. Assumes nothing.
use mathlib.Core.Path.{◌∙◌, ap}
use native.Mathlib.Omega.{arith}
use Rattle.arm_print.specs.Print.{arm_line}
use Rattle.arm_candidate.specs.Candidate.{candidate}
use Rattle.arm_read.proofs.Lines.{arm_sound, not_line, nothing_read, word_read}
use Rattle.std.specs.Prelude.{Some}
use borrow.Author.Rules.{rules}
use Rattle.arm_read.proofs.read_arm.Goals as goal

pub returns-then-line-eq0 : goal.returns-then-line-eq0
returns-then-line-eq0 c =
    let a = c.args in
    let l = a.line.now in
    let n = not_line (arm_line a.form a.address (candidate a.form a.address l)) l (arm_sound a.form a.address (candidate a.form a.address l)) (λ lo hi. omega (lo, c.if-line-eq0.true, arith)) in
    nothing_read a.form a.address (search rules) l n

pub returns-then-line-gt-LINE : goal.returns-then-line-gt-LINE
returns-then-line-gt-LINE c =
    let a = c.args in
    let l = a.line.now in
    let n = not_line (arm_line a.form a.address (candidate a.form a.address l)) l (arm_sound a.form a.address (candidate a.form a.address l)) (λ lo hi. omega (hi, c.if-line-gt-LINE.true, arith)) in
    nothing_read a.form a.address (search rules) l n

pub returns-then-prints : goal.returns-then-prints
returns-then-prints c =
    let a = c.args in
    let l = a.line.now in
    ap Some c.candidate_of-word.ensures
    ∙ word_read a.form a.address (search rules) l (rw (← c.candidate_of-word.ensures, ← c.prints.ensures) c.if-prints.true)

pub returns : goal.returns
returns c =
    let a = c.args in
    let l = a.line.now in
    nothing_read a.form a.address (search rules) l (rw (← c.candidate_of-word.ensures, ← c.prints.ensures) c.if-prints.false)
