-- `image::Image::first_left` meets its contract. Assumes nothing.
use Rattle.std.proofs.Common.{rules, arith, tests, ◌<◌, ◌≤◌, ◌/◌, length}
use Rattle.std.proofs.lemmas.Iterator.{first_from_Range}
use Rattle.image.proofs.Stretches.{found_left}
use Rattle.image.specs.Stretches.{end, pair_at}
use Rattle.image.proofs.Image.first_left.Goals as goal

pub returns : goal.returns
returns c =
    let list = c.args.self.stretches.now in
    let at = c.args.at in
    let found = first_from_Range _ _ _ _ (λ i. at < end (pair_at list i)) (λ i. i < length list / 8 → end (pair_at list i) ≤ at) c.find.ensures.ran
    (λ x q k. grind (arith, tests))
    (λ x q k. (search rules, grind (arith, tests))) in
    rw (c.unwrap_or.ensures, c.max.ensures) (found_left list c.args.next at c.count-n.result c.find.result c.count-n.ensures found)
