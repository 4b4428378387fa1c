-- `image::Image::ends_past` meets its contract. Assumes nothing.
use Rattle.std.proofs.Common.{rules, ltb, ltb-true, ltb-false, ◌/◌, length}
use Rattle.common.proofs.Tests.{by_test}
use Rattle.image.proofs.Stretches.{pair_none, pair_there}
use Rattle.image.proofs.Image.ends_past.Goals as goal

pub returns : goal.returns
returns c =
    let a = c.args in
    let list = a.self.stretches.now in
    let n = length list / 8 in
    by_test (ltb a.i n)
    (λ t. let h = rw (c.stretch.ensures, pair_there list a.i (ltb-true a.i n t)) at c.is_some_and.ensures in rw t (search rules))
    (λ t. let h = rw (c.stretch.ensures, pair_none list a.i (ltb-false a.i n t)) at c.is_some_and.ensures in rw t h)
