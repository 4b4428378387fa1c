-- `row::block::answer_block` meets its contract: the output has room for the answers. Assumes nothing.
use Rattle.std.proofs.Common.{◌≡◌, arith, length}
use Rattle.text.proofs.Puts.{wrote_of}
use Rattle.row.proofs.Blocks.{block_answered, same_buffer, within}
use Rattle.row.proofs.block.answer_block.Goals as goal

pub shape_of-out : goal.shape_of-out
shape_of-out c = same_buffer _ _ _ c.answer_input.ensures.wrote

pub returns-clause-out_after : goal.returns-clause-out_after
returns-clause-out_after c h =
    let a = c.args in
    let n : length a.out.now ≡ 393336 = omega arith in
    block_answered a.begun.now a.block.now c.answer_input.ensures.few h n (wrote_of _ _ _ c.answer_input.ensures.wrote)

pub returns-clause-room : goal.returns-clause-room
returns-clause-room c =
    let n : length c.args.out.now ≡ 393336 = omega arith in
    let h = within (wrote_of _ _ _ c.answer_input.ensures.wrote) (omega arith) in
    omega arith
