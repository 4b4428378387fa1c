-- What the offsets are, said of the listing and of the image. Assumes nothing.
use Rattle.std.proofs.Common.{◌≡◌, ℕ, zero, suc, ◌+◌, ◌-◌, ◌<◌, ◌≤◌, true, false, ltb, leb, List, [], ◌∷◌, length, map, replicate, get_or, find, Some, None, refl, sym, ◌∙◌, arith, ltb-true, ltb-false, leb-true, le-leb, le-ltb}
use Rattle.std.proofs.lemmas.List.{get_or-map, get_or_append_left, length-map}
use mathlib.Core.Bool.{and-false}
use Rattle.common.proofs.Tests.{and_left, by_test}
use Rattle.steps.specs.Steps.{Step, Follow, covers, steps}
use Rattle.step_offsets.specs.Offsets.{offsets, place_of, step_offset}
use Rattle.step_offsets.specs.Laws.{GivesCovering, GivesNoneOutside, GivesStepInside}
use Rattle.step_offsets.proofs.Places.{found_contained, found_covers, found_offset}

-- ---- of steps that follow one another
-- each begins at the start or behind it
begins : (at to : ℕ) (ss : List Step) (s : Step) (i : ℕ) → Follow at ss to → i < length ss → get_or ss i s ≡ s → at ≤ s.offset
begins at to [] s i f h e = absurd (omega arith)
begins at to (t ∷ ts) s zero f h e = let q : t.offset ≡ s.offset = rw e in omega (arith, f.0, q)
begins at to (t ∷ ts) s (suc i) f h e = let ih = begins (at + t.bytes) to ts s i f.2 (omega arith) e in omega arith

-- and their end is no lower
ends : (at to : ℕ) (ss : List Step) → Follow at ss to → at ≤ to
ends at to [] f = omega (arith, f)
ends at to (t ∷ ts) f = let ih = ends (at + t.bytes) to ts f.2 in omega arith

-- whichever covers a place is the one that is found
found_only : (k at to : ℕ) (ss : List Step) (s : Step) (i : ℕ) → Follow at ss to → i < length ss → get_or ss i s ≡ s → covers k s ≡ true → find (covers k) ss ≡ Some s
found_only k at to [] s i f h e c = absurd (omega arith)
found_only k at to (t ∷ ts) s zero f h e c = let q : t ≡ s = e in rw (q, c)
found_only k at to (t ∷ ts) s (suc i) f h e c =
    let b = begins (at + t.bytes) to ts s i f.2 (omega arith) e in
    let low = leb-true s.offset k (and_left (leb s.offset k) (ltb k (s.offset + s.bytes)) c) in
    let past : ltb k (t.offset + t.bytes) ≡ false = le-ltb k (t.offset + t.bytes) (omega (arith, f.0)) in
    rw (past, and-false (leb t.offset k)) (found_only k (at + t.bytes) to ts s i f.2 (omega arith) e c)

-- past their end there is none
none_found : (k at to : ℕ) (ss : List Step) → Follow at ss to → to ≤ k → find (covers k) ss ≡ None
none_found k at to [] f h = refl
none_found k at to (t ∷ ts) f h =
    let ih = none_found k (at + t.bytes) to ts f.2 h in
    let b = ends (at + t.bytes) to ts f.2 in
    rw (le-ltb k (t.offset + t.bytes) (omega (arith, f.0, b)), and-false (leb t.offset k)) ih

-- and before it there is one
one_found : (k at to : ℕ) (ss : List Step) → Follow at ss to → at ≤ k → k < to → (s : Step) × (find (covers k) ss ≡ Some s)
one_found k at to [] f h g = absurd (omega (arith, f))
one_found k at to (t ∷ ts) f h g =
    let ih = one_found k (at + t.bytes) to ts f.2 in
    by_test (ltb k (t.offset + t.bytes))
    (λ u. (t, rw (le-leb t.offset k (omega (arith, f.0)), u)))
    (λ u. let l = ltb-false _ _ u in let r = ih (omega (arith, f.0)) g in (r.0, rw (u, and-false (leb t.offset k)) r.1))

-- ---- of an image whose steps follow one another to its end
module _ (image list : List ℕ) (base : ℕ) (addresses : List ℕ) (follow : Follow 0 (steps image list base 0) (length image)) where
  abbrev all : List Step
  all = steps image list base 0

  number : (i : ℕ) → i < length addresses → get_or (offsets image list base addresses) i 0 ≡ step_offset image list base (get_or addresses i 0)
  number i h =
      let l : i < length (map (step_offset image list base) addresses) = rw length-map h in
      get_or_append_left (map (step_offset image list base) addresses) (replicate (64 - length addresses) 0xffffffff) 0 i l ∙ get_or-map (step_offset image list base) addresses i 0 0 h

  pub of_covering : GivesCovering all base addresses (offsets image list base addresses)
  of_covering i s h m c =
      let k = place_of base (get_or addresses i 0) in
      number i h ∙ rw (found_only k 0 (length image) all s m.0 follow m.1 m.2 c)

  pub of_inside : GivesStepInside all image base addresses (offsets image list base addresses)
  of_inside i h g =
      let k = place_of base (get_or addresses i 0) in
      let r = one_found k 0 (length image) all follow (omega arith) g in
      (r.0, found_contained k r.0 all (sym r.1), found_covers k r.0 all (sym r.1), number i h ∙ sym (found_offset k r.0 all (sym r.1)).0)

  pub none_outside : length image ≤ 65536 → GivesNoneOutside image base addresses (offsets image list base addresses)
  none_outside short i h =
      let k = place_of base (get_or addresses i 0) in
      let n = number i h in (
        λ q. by_test (ltb k (length image))
            (λ t. let r = one_found k 0 (length image) all follow (omega arith) (ltb-true _ _ t) in
            let o = found_offset k r.0 all (sym r.1) in
            let l = ltb-true k (length image) t in
            absurd (omega (arith, o.0, o.1, q, n)))
            (λ t. ltb-false _ _ t),
        λ g. n ∙ rw (none_found k 0 (length image) all follow g),
      )
