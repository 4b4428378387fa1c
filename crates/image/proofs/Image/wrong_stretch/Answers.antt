-- `image::Image::wrong_stretch` meets its contract. Assumes nothing.
use Rattle.std.proofs.Common.{◌≡◌, Bool, true, false, not, rules, refl, length, sym, ◌∙◌}
use Rattle.image.proofs.Valid.{folded}
use Rattle.image.proofs.Image.wrong_stretch.Goals as goal

turned : (a b : Bool) → b ≡ not a → not b ≡ a
turned true b e = rw e
turned false b e = rw e

pub returns : goal.returns
returns c =
    let a = c.args.self in
    sym (turned c.is_none.result _ c.is_none.ensures)
    ∙ folded a.stretches.now (length a.bytes.now) _ _ _ (λ before i v q k. (search rules, search rules)) _ _ c.try_fold.result refl c.count.ensures c.try_fold.ensures.ran
