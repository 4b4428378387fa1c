-- `steps::halves_at` meets its contract. Assumes nothing.
use Rattle.std.proofs.Common.{arith, ◌≡◌, ◌+◌}
use Rattle.image.specs.Bytes.{half, word}
use Rattle.steps.proofs.halves_at.Goals as goal

pub returns : goal.returns
unfolding word half
returns c =
    let l = c.args.image.now in
    let at = c.args.at in
    let a = (c.type_inv.image at).fits in
    let b = (c.type_inv.image (at + 1)).fits in
    let e : c.word_at-both.result ≡ word l at = c.word_at-both.ensures in
    (omega (arith, a, b, e), omega (arith, a, b, e))
