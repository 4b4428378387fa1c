-- `image::half_at` meets its contract. Assumes nothing.
use Rattle.std.proofs.Common.{drop, ◌∙◌}
use Rattle.std.proofs.lemmas.List.{get_or-drop, get_or-take}
use Rattle.image.proofs.Bytes.{half_here, half_of}
use Rattle.image.proofs.half_at.Goals as goal

pub returns-in-Some : goal.returns-in-Some
returns-in-Some c =
    let s = c.args.s.now in
    let at = c.args.at in
    half_of s c.in-Some.bytes.now at c.from_le_bytes.result c.from_le_bytes.ensures
    (λ k h. rw (c.in-Some.ensures.cases.0, c.bytes_from-rest.ensures) (get_or-take 2 (drop at s) k 0 h ∙ get_or-drop at s k 0))

pub returns : goal.returns
returns c =
    half_here c.args.s.now c.bytes_from-rest.result.now c.args.at c.from_le_bytes-2.result c.bytes_from-rest.ensures
    c.byte_or_zero.result c.byte_or_zero-2.result c.byte_or_zero.ensures c.byte_or_zero-2.ensures c.from_le_bytes-2.ensures
