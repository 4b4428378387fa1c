-- The listing of an image: its steps follow one another from the place to the image's end, and it ends. Assumes nothing.
use Rattle.std.proofs.Common.{◌≡◌, ℕ, zero, suc, ◌+◌, ◌-◌, ◌*◌, ◌%◌, ◌<◌, ◌≤◌, true, false, ltb, leb, List, [], ◌∷◌, ◌++◌, length, sym, refl, ap, ◌∙◌, true≢false, arith, ltb-false, ltb-true, le-leb, leb-true}
use mathlib.Core.Bool.{and-false}
use borrow.Author.Tests.{lt-leb}
use Rattle.common.proofs.Tests.{by_test}
use Rattle.thumb.specs.Pair.{is_first_half, is_pair, is_second_half}
use Rattle.pairs.proofs.Halves.{not_both}
use Rattle.image.specs.Bytes.{half}
use Rattle.std.proofs.Common.{Some, None, Ok}
use Rattle.std.proofs.lemmas.Option.{none-some}
use Rattle.image.specs.Stretches.{pairs, set_at}
use Rattle.image.specs.declared.Stretch.{Stretch}
use Rattle.image.specs.Refusal.{unit, refusal, refusal_at}
use Rattle.image.specs.declared.Set.{Set}
use Rattle.image.specs.declared.Set.TheVariants.{Arm, Thumb}
use Rattle.image.proofs.Stretches.{thumb_before, thumb_on}
use Rattle.image.proofs.Valid.{Valid, valid, Placed, placed, not_refused, start, thumb_inside}
use Rattle.steps.specs.Steps.{call_pair, span_in, span_at, span_bytes, Step, step_of, has_step, span_here, steps_for, steps, total, Follow, times}
use Rattle.steps.specs.declared.Span.{Span}
use Rattle.steps.specs.declared.Span.TheVariants.{Word, Half, Pair}
use Rattle.steps.proofs.Bytes.{pair_inside}

-- ---- one step, for any bytes
-- each has two bytes at least
pub some_bytes : (x : Span) → 2 ≤ span_bytes x
some_bytes Word = omega arith
some_bytes Half = omega arith
some_bytes Pair = omega arith

module _ (image : List ℕ) (ss : List Stretch) where
  abbrev bytes : ℕ → ℕ
  bytes at = span_bytes (span_at image ss at)

  -- at the end, or past it, there is none
  pub no_step : (at : ℕ) → length image ≤ at → has_step image ss at ≡ false
  no_step at h = let b = some_bytes (span_at image ss at) in lt-leb (at + bytes at) (length image) (omega (arith, h, b))

  -- so there is a span where there is a step, and none elsewhere
  pub span_some : (at : ℕ) (x : Span) → Some x ≡ span_here image ss at → (has_step image ss at ≡ true) × (x ≡ span_at image ss at)
  span_some at x e =
      by_test (has_step image ss at)
      (λ t. let q : Some x ≡ Some (span_at image ss at) = rw t at e in (t, cc))
      (λ t. let q : Some x ≡ None = rw t at e in absurd (none-some x (sym q)))

  pub span_none : (at : ℕ) → None ≡ span_here image ss at → has_step image ss at ≡ false
  span_none at e =
      by_test (has_step image ss at)
      (λ t. let q : None ≡ Some (span_at image ss at) = rw t at e in absurd (none-some (span_at image ss at) q))
      (λ t. t)

  -- one that is there lies inside the image
  pub step_inside : (at : ℕ) → has_step image ss at ≡ true → at + bytes at ≤ length image
  step_inside at t = leb-true (at + bytes at) (length image) t

  module _ (base : ℕ) where
    -- more fuel than bytes left changes nothing
    pub enough : (f g at : ℕ) → length image - at ≤ f → length image - at ≤ g → steps_for image ss base at f ≡ steps_for image ss base at g
    unfolding steps_for
    enough zero zero at h k = refl
    enough zero (suc g) at h k = rw (no_step at (omega arith))
    enough (suc f) zero at h k = rw (no_step at (omega arith))
    enough (suc f) (suc g) at h k =
        let b = some_bytes (span_at image ss at) in
        let ih = enough f g (at + bytes at) in
        by_test (has_step image ss at)
        (λ t. let l = step_inside at t in rw t (ap (λ (z : List Step). step_of image (span_at image ss at) base at ∷ z) (ih (omega (arith, l, b)) (omega (arith, l, b)))))
        (λ t. rw t)

module _ (image list : List ℕ) (base : ℕ) where
  -- where there is no step there is nothing; else a step, and the listing from behind it
  pub steps_end : (at : ℕ) → has_step image (pairs list) at ≡ false → steps image list base at ≡ []
  unfolding steps steps_for
  steps_end at t = enough image (pairs list) base (length image - at) (suc (length image - at)) at (omega arith) (omega arith) ∙ rw t

  pub steps_next : (at : ℕ) → has_step image (pairs list) at ≡ true
      → steps image list base at ≡ step_of image (span_at image (pairs list) at) base at ∷ steps image list base (at + span_bytes (span_at image (pairs list) at))
  unfolding steps steps_for
  steps_next at t =
      let n = span_bytes (span_at image (pairs list) at) in
      let b = some_bytes (span_at image (pairs list) at) in
      let l = step_inside image (pairs list) at t in
      enough image (pairs list) base (length image - at) (suc (length image - at)) at (omega arith) (omega arith)
      ∙ rw t (ap (λ (z : List Step). step_of image (span_at image (pairs list) at) base at ∷ z) (enough image (pairs list) base (length image - at) (length image - (at + n)) (at + n) (omega (arith, b, l)) (omega arith)))

  -- the image not altered, a listing put aside at any step's offset and resumed there gives exactly the steps that it would have given
  pub resumed : (from : ℕ) (given : List Step) (s : Step) (rest : List Step) → steps image list base from ≡ given ++ s ∷ rest → steps image list base s.offset ≡ s ∷ rest
  resumed from [] s rest e =
      by_test (has_step image (pairs list) from)
      (λ t. let n = steps_next from t in let q : step_of image (span_at image (pairs list) from) base from ≡ s = cc in rw (ap (λ (x : Step). x.offset) q) at e)
      (λ t. let n = steps_end from t in let z : ◌≡◌ {A = ℕ} 0 1 = cc in absurd (omega arith))
  resumed from (g ∷ given) s rest e =
      let next = from + span_bytes (span_at image (pairs list) from) in
      let ih = resumed next given s rest in
      by_test (has_step image (pairs list) from)
      (λ t. let n = steps_next from t in let q : steps image list base next ≡ given ++ s ∷ rest = cc in ih q)
      (λ t. let n = steps_end from t in let z : ◌≡◌ {A = ℕ} 0 1 = cc in absurd (omega arith))

-- "a second call half alone at the offset prints alone": no pair begins with it
pub second_alone : (image : List ℕ) (e at : ℕ) → is_second_half (half image at) ≡ true → span_in image (Thumb e) at ≡ Half
unfolding span_in call_pair is_pair
second_alone image e at s =
    let h = half image at in
    by_test (is_first_half h)
    (λ t. absurd (true≢false (sym s ∙ not_both h t)))
    (λ t. rw (t, and-false (leb (at + 4) e)))

-- ---- the steps of an image that is not refused, from a place that is not
module _ (image list : List ℕ) (v : Valid image list) where
  -- a multiple of 4 is fine in either set
  either_set : (k : ℕ) (s : Set) → k % 4 ≡ 0 → k % unit s ≡ 0
  either_set k Arm h = h
  either_set k (Thumb e) h = omega arith

  -- a step ends where the place is not refused, so inside the image
  abbrev Ends : ℕ → Set → Type 0
  Ends at s = Placed image list (at + span_bytes (span_in image s at))

  in_arm : (at : ℕ) → at < length image → at % 4 ≡ 0 → Ends at Arm
  unfolding span_in
  in_arm at h a =
      let f = v.fours in
      record { within = omega (arith, f); even = either_set (at + 4) (set_at (pairs list) (at + 4)) (omega arith) }

  -- up to its end a stretch is in Thumb, and its end is a multiple of 4
  in_stretch : (at k e : ℕ) → set_at (pairs list) at ≡ Thumb e → at ≤ k → k ≤ e → k % 2 ≡ 0 → Placed image list k
  in_stretch at k e p h g a =
      let i = thumb_inside (length image) 0 (pairs list) at e v.sorted p in
      by_test (ltb k e)
      (λ t. let q = thumb_on (pairs list) at k e p h (ltb-true _ _ t) in record { within = omega (arith, i.0); even = rw q a })
      (λ t. let q : k ≡ e = omega (arith, ltb-false k e t) in record { within = omega (arith, i.0); even = either_set k (set_at (pairs list) k) (omega (arith, i.1)) })

  in_thumb : (at e : ℕ) → set_at (pairs list) at ≡ Thumb e → at % 2 ≡ 0 → Ends at (Thumb e)
  unfolding span_in
  in_thumb at e p a =
      let b = thumb_before (pairs list) at e p in
      let i = thumb_inside (length image) 0 (pairs list) at e v.sorted p in
      by_test (call_pair image e at)
      (λ t. rw t (in_stretch at (at + 4) e p (omega arith) (pair_inside image e at t) (omega arith)))
      (λ t. rw t (in_stretch at (at + 2) e p (omega arith) (omega (arith, i.1)) (omega arith)))

  pub place_next : (at : ℕ) → at < length image → Placed image list at → Placed image list (at + span_bytes (span_at image (pairs list) at))
  place_next at h p = by_set (set_at (pairs list) at) refl
    where
      by_set : (s : Set) → set_at (pairs list) at ≡ s → Placed image list (at + span_bytes (span_in image (set_at (pairs list) at) at))
      by_set Arm e = rw e (in_arm at h (rw e at p.even))
      by_set (Thumb n) e = rw e (in_thumb at n e (rw e at p.even))

  -- so before the image's end there is a step
  pub step_there : (at : ℕ) → at < length image → Placed image list at → has_step image (pairs list) at ≡ true
  step_there at h p = le-leb (at + span_bytes (span_at image (pairs list) at)) (length image) (place_next at h p).within

  -- each step begins where the one before ends, the first at the place, and the last ends at the image's end
  follow_for : (base fuel at : ℕ) → length image - at ≤ fuel → Placed image list at → Follow at (steps image list base at) (length image)
  follow_for base zero at h p = rw (steps_end image list base at (no_step image (pairs list) at (omega arith))) (omega (arith, p.within))
  follow_for base (suc fuel) at h p =
      let b = some_bytes (span_at image (pairs list) at) in
      let ih = follow_for base fuel (at + span_bytes (span_at image (pairs list) at)) in
      by_test (ltb at (length image))
      (λ t. let l = ltb-true at (length image) t in
      rw (steps_next image list base at (step_there at l p)) (refl, omega (arith, b), ih (omega (arith, b, l)) (place_next at l p)))
      (λ t. let l = ltb-false at (length image) t in rw (steps_end image list base at (no_step image (pairs list) at l)) (omega (arith, p.within, l)))

-- "At the image's end the answer is an end mark", and nowhere before
pub at_end : (image list : List ℕ) (at : ℕ) → refusal_at image list at ≡ Ok tt → has_step image (pairs list) at ≡ false → at ≡ length image
at_end image list at e t =
    let p = placed image list at e in
    let v = valid image list (not_refused image list at e) in
    by_test (ltb at (length image))
    (λ l. absurd (true≢false (sym (step_there image list v at (ltb-true at (length image) l) p) ∙ t)))
    (λ l. omega (arith, p.within, ltb-false at (length image) l))

-- "no byte is listed twice": from a place that is not refused the steps follow one another, without gap or overlap, to the image's end
pub steps_follow : (image list : List ℕ) (base at : ℕ) → refusal_at image list at ≡ Ok tt → Follow at (steps image list base at) (length image)
steps_follow image list base at e = follow_for image list (valid image list (not_refused image list at e)) base (length image - at) at (omega arith) (placed image list at e)

-- ---- what follows from that of any steps
follow_total : (at to : ℕ) (ss : List Step) → Follow at ss to → at + total ss ≡ to
unfolding total
follow_total at to [] f = omega (arith, f)
follow_total at to (s ∷ ss) f = let ih = follow_total (at + s.bytes) to ss f.2 in omega arith

-- "The byte lengths of a resumed listing add up to the image's length less that offset"
pub lengths_add : (image list : List ℕ) (base at : ℕ) → refusal_at image list at ≡ Ok tt → total (steps image list base at) ≡ length image - at
lengths_add image list base at e = let f = follow_total at (length image) (steps image list base at) (steps_follow image list base at e) in omega arith

-- "Over a full listing the byte lengths add up to the image's length"
pub full_adds : (image list : List ℕ) (base : ℕ) → refusal image list ≡ Ok tt → total (steps image list base 0) ≡ length image
full_adds image list base e = let f = lengths_add image list base 0 (start image list e) in omega arith

-- a byte before the first step is in none
none_before : (k at to : ℕ) (ss : List Step) → Follow at ss to → k < at → times k ss ≡ 0
unfolding times
none_before k at to [] f h = refl
none_before k at to (s ∷ ss) f h = let ih = none_before k (at + s.bytes) to ss f.2 (omega arith) in rw (f.0, lt-leb at k h) (omega arith)

once : (k at to : ℕ) (ss : List Step) → Follow at ss to → at ≤ k → k < to → times k ss ≡ 1
unfolding times
once k at to [] f h g = absurd (omega (arith, f))
once k at to (s ∷ ss) f h g =
    let ih = once k (at + s.bytes) to ss f.2 in
    by_test (ltb k (at + s.bytes))
    (λ t. rw (f.0, le-leb at k h, t, none_before k (at + s.bytes) to ss f.2 (ltb-true _ _ t)))
    (λ t. let i = ih (ltb-false _ _ t) g in rw (f.0, le-leb at k h, t) (omega arith))

-- "no byte is listed twice": from a place that is not refused each byte is in exactly one step, and none before it is in any
pub bytes_once : (image list : List ℕ) (base at k : ℕ) → refusal_at image list at ≡ Ok tt → at ≤ k → k < length image → times k (steps image list base at) ≡ 1
bytes_once image list base at k e h g = once k at (length image) (steps image list base at) (steps_follow image list base at e) h g

pub bytes_before : (image list : List ℕ) (base at k : ℕ) → refusal_at image list at ≡ Ok tt → k < at → times k (steps image list base at) ≡ 0
bytes_before image list base at k e h = none_before k at (length image) (steps image list base at) (steps_follow image list base at e) h

-- over a full listing each byte is in one
pub byte_once : (image list : List ℕ) (base k : ℕ) → refusal image list ≡ Ok tt → k < length image → times k (steps image list base 0) ≡ 1
byte_once image list base k e h = bytes_once image list base 0 k (start image list e) (omega arith) h

-- the listing ends: there are at most half as many steps as bytes
few_for : (image : List ℕ) (ss : List Stretch) (base fuel at : ℕ) → 2 * length (steps_for image ss base at fuel) ≤ length image - at
unfolding steps_for
few_for image ss base zero at = omega arith
few_for image ss base (suc fuel) at =
    let b = some_bytes (span_at image ss at) in
    let ih = few_for image ss base fuel (at + span_bytes (span_at image ss at)) in
    by_test (has_step image ss at)
    (λ t. let l = step_inside image ss at t in rw t (omega (arith, b, l, ih)))
    (λ t. rw t (omega arith))

pub steps_few : (image list : List ℕ) (base at : ℕ) → refusal image list ≡ Ok tt → length (steps image list base at) ≤ 32768
unfolding steps
steps_few image list base at e =
    let f = few_for image (pairs list) base (length image - at) at in
    let v = valid image list e in
    omega (arith, v.short, f)
