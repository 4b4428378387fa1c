-- `image::Image::set_at` meets its contract: the first stretch that is left tells the set. Assumes nothing.
use Rattle.std.proofs.Common.{sym, ◌∙◌}
use Rattle.image.proofs.Stretches.{set_arm, set_none, set_thumb}
use Rattle.image.proofs.Image.set_at.Goals as goal

pub returns-in-Some : goal.returns-in-Some
returns-in-Some c =
    let a = c.args in
    let f = c.first_left in
    rw c.end.ensures (sym (set_thumb a.self.stretches.now a.next a.at f.result f.ensures c.in-Some.s (sym c.stretch.ensures ∙ c.in-Some.is) c.if-s-at.true))

pub returns-in_default : goal.returns-in_default
returns-in_default c =
    let a = c.args in
    let f = c.first_left in
    sym (set_arm a.self.stretches.now a.next a.at f.result f.ensures c.in-Some.s (sym c.stretch.ensures ∙ c.in-Some.is) c.if-s-at.false)

pub returns-in_default-2 : goal.returns-in_default-2
returns-in_default-2 c =
    let a = c.args in
    let f = c.first_left in
    sym (set_none a.self.stretches.now a.next a.at f.result f.ensures (sym c.stretch.ensures ∙ c.in_default.is))
