-- `row::block::answer_last` meets its contract: the output has room for the answer. Assumes nothing.
use Rattle.std.proofs.Common.{◌≡◌, ◌∙◌, arith, length, sym, true≢false}
use Rattle.text.proofs.Puts.{wrote_of}
use Rattle.row.proofs.Blocks.{last_some, same_buffer, within}
use Rattle.row.proofs.block.answer_last.Goals as goal

pub shape_of-out : goal.shape_of-out
shape_of-out c = same_buffer _ _ _ c.answer_line.ensures

pub returns-clause-out_after : goal.returns-clause-out_after
returns-clause-out_after c =
    let a = c.args in
    let n : length a.out.now ≡ 393336 = omega arith in
    let b = c.row-row.ensures.bytes in
    let f = c.row-row.ensures.few in
    let t = rw b at (sym c.if-is_empty.false ∙ c.is_empty.ensures) in
    last_some a.begun.now (λ e. true≢false (sym (rw e at t))) (omega arith) (rw b at (wrote_of _ _ _ c.answer_line.ensures))

pub returns-clause-room : goal.returns-clause-room
returns-clause-room c =
    let n : length c.args.out.now ≡ 393336 = omega arith in
    let h = within (wrote_of _ _ _ c.answer_line.ensures) (omega arith) in
    omega arith
