-- `row::block::Begun::add` meets its contract. Assumes nothing.
use Rattle.std.proofs.Common.{◌≡◌, arith, length}
use Rattle.text.proofs.Puts.{wrote_of}
use Rattle.text.proofs.Wrote.{clipped}
use Rattle.row.proofs.Blocks.{same_buffer, within}
use Rattle.row.proofs.block.Begun.add.Goals as goal

pub shape_of-self-inside : goal.shape_of-self-inside
shape_of-self-inside c = same_buffer _ _ _ c.put_text.ensures

pub invariant_of-self : goal.invariant_of-self
invariant_of-self c =
    let n : length c.self.inside.bytes ≡ 20 = omega arith in
    let i = c.self.invariant in
    let h = within (wrote_of _ _ _ c.put_text.ensures) (omega arith) in
    omega arith

pub returns-clause-held : goal.returns-clause-held
returns-clause-held c =
    let n : length c.self.inside.bytes ≡ 20 = omega arith in
    rw (n, c.self.view_is) at (clipped (wrote_of _ _ _ c.put_text.ensures))
