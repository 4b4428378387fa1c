-- Kept steps as bytes, in a ring where one takes the place of another. Assumes nothing.
use Rattle.std.proofs.Common.{◌≡◌, ℕ, zero, suc, ◌+◌, ◌-◌, ◌/◌, ◌%◌, ◌<◌, ◌≤◌, ◌==◌, List, [], ◌∷◌, ◌++◌, length, get_or, set, take, drop, replicate, fold, refl, length-append, length-drop, length-take, sym, ap, ◌∙◌, arith}
use Rattle.std.proofs.lemmas.List.{length-set}
use Rattle.std.proofs.lemmas.List.Sums.{fold-append}
use Rattle.std.proofs.Math.Nat.{mod-lt}
use Rattle.worst_run.specs.Worst.{blank}
use Rattle.worst_run.specs.Window.{kept_at, kept_from, kept_ring, latest_offset, IsNear}
use Rattle.worst_run.specs.declared.window.Kept.{Kept}
use Rattle.worst_run.proofs.Rings.{front, ring_from, turned}

from_cons : (at b : ℕ) (bs : List ℕ) → kept_from at (b ∷ bs) ≡ kept_at at b ∷ kept_from (at + b / 2) bs
unfolding kept_from
from_cons at b bs = refl

length_from : (at : ℕ) (bs : List ℕ) → length (kept_from at bs) ≡ length bs
unfolding kept_from
length_from at [] = refl
length_from at (b ∷ bs) = ap suc (length_from (at + b / 2) bs)

-- bytes of 1 are blanks
pub from_blanks : (n : ℕ) → kept_from 0 (replicate n 1) ≡ replicate n blank
unfolding kept_from
from_blanks zero = refl
from_blanks (suc n) = ap (λ (ks : List Kept). blank ∷ ks) (from_blanks n)

-- ---- where the latest begins
pub latest_offset_push : (ks : List Kept) (k : Kept) → latest_offset (ks ++ k ∷ []) ≡ k.offset
latest_offset_push ks k = fold-append (λ (at : ℕ) (j : Kept). j.offset) 0 ks (k ∷ [])

pub latest_offset_blank : (n : ℕ) → latest_offset (replicate n blank) ≡ 0
latest_offset_blank zero = refl
latest_offset_blank (suc n) = latest_offset_blank n

-- with none, where the step before begins
abbrev latest_from : ℕ → List ℕ → ℕ
latest_from at bs = fold (λ _ k. k.offset) at (kept_from at bs)

latest_beyond : (at : ℕ) (bs : List ℕ) → at ≤ latest_from at bs
unfolding kept_from
latest_beyond at [] = omega arith
latest_beyond at (b ∷ bs) = let ih = latest_beyond (at + b / 2) bs in omega (arith, ih)

first_before : (at b : ℕ) (bs : List ℕ) → at + b / 2 ≤ latest_from at (b ∷ bs)
unfolding kept_from
first_before at b bs = latest_beyond (at + b / 2) bs

-- one more comes last
from_push : (at : ℕ) (bs : List ℕ) (b : ℕ) → kept_from at (bs ++ b ∷ []) ≡ kept_from at bs ++ kept_at (latest_from at bs) b ∷ []
unfolding kept_from
from_push at [] b = refl
from_push at (x ∷ bs) b = ap (λ (ks : List Kept). kept_at at x ∷ ks) (from_push (at + x / 2) bs b)

latest_of_push : (at : ℕ) (bs : List ℕ) (b : ℕ) → latest_from at (bs ++ b ∷ []) ≡ latest_from at bs + b / 2
latest_of_push at bs b = ap (fold (λ (_ : ℕ) (k : Kept). k.offset) at) (from_push at bs b) ∙ fold-append (λ (_ : ℕ) (k : Kept). k.offset) at (kept_from at bs) (kept_at (latest_from at bs) b ∷ [])

module _ (n k at : ℕ) (xs : List ℕ) (long : length xs ≡ n) (h : k < n) where
  abbrev ring : List ℕ
  ring = ring_from k xs

  abbrev others : List ℕ
  others = drop (k + 1) xs ++ take k xs

  abbrev first_at : Kept
  first_at = record { invalid = get_or xs k 0 % 2 == 0; offset = at }

  ring_is : kept_ring at ring ≡ first_at ∷ kept_from at others
  ring_is = ap (kept_ring at) (front n k xs 0 0 long h)

  pub first_is : kept_ring at ring ≡ first_at ∷ drop 1 (kept_ring at ring)
  first_is = rw ring_is refl

  pub length_is : length (kept_ring at ring) ≡ n
  length_is = rw ring_is (ap suc (length_from at others) ∙ simp (length-append, length-drop, length-take) (omega (arith, long, h)))

  -- another comes for the first
  module _ (b : ℕ) where
    abbrev place : ℕ
    place = (k + 1) % n

    abbrev next_first : ℕ
    next_first = get_or (set xs k b) place 0

    abbrev next_others : List ℕ
    next_others = drop (place + 1) (set xs k b) ++ take place (set xs k b)

    turned_is : next_first ∷ next_others ≡ others ++ b ∷ []
    turned_is =
        sym (front n place (set xs k b) 0 0 (length-set xs k b ∙ long) (mod-lt (k + 1) (omega (arith, h))))
        ∙ turned n k xs b 0 long h
        ∙ ap (λ (l : List ℕ). drop 1 l ++ b ∷ []) (front n k xs 0 0 long h)

    next_within : at + next_first / 2 ≤ latest_offset (kept_ring at ring) + b / 2
    next_within =
        let e = ap (latest_from at) turned_is ∙ latest_of_push at others b in
        let l = first_before at next_first next_others in
        rw ring_is (omega (arith, l, e))

    ring_turned : kept_ring (at + next_first / 2) (ring_from place (set xs k b)) ≡ drop 1 (kept_ring at ring) ++ kept_at (latest_offset (kept_ring at ring)) b ∷ []
    ring_turned =
        ap (kept_ring (at + next_first / 2)) (front n place (set xs k b) 0 0 (length-set xs k b ∙ long) (mod-lt (k + 1) (omega (arith, h))))
        ∙ sym (from_cons at next_first next_others)
        ∙ ap (kept_from at) turned_is
        ∙ from_push at others b
        ∙ ap (λ (ks : List Kept). drop 1 ks ++ kept_at (latest_offset ks) b ∷ []) (sym ring_is)

    -- a step that is near, as its byte
    module _ (ks : List Kept) (step : Kept) (latest : ℕ) (e : kept_ring at ring ≡ ks) (l : latest ≡ latest_offset ks) (near : IsNear ks step)
        (g : (m : ℕ) → kept_at m b ≡ record { invalid = step.invalid; offset = m + (step.offset - latest) }) where
      pub first_within : at + next_first / 2 ≤ step.offset
      first_within =
          let d = ap (λ (k : Kept). k.offset) (g 0) in
          omega (arith, next_within, ap latest_offset e, d, l, near.0)

      pub next_is : kept_ring (at + next_first / 2) (ring_from place (set xs k b)) ≡ drop 1 ks ++ step ∷ []
      next_is =
          let last : kept_at (latest_offset ks) b ≡ step =
          g (latest_offset ks) ∙ ap (λ (m : ℕ). record { invalid = step.invalid; offset = m }) (omega (arith, near.0, l)) in
          ring_turned ∙ ap (λ (js : List Kept). drop 1 js ++ kept_at (latest_offset js) b ∷ []) e ∙ ap (λ (j : Kept). drop 1 ks ++ j ∷ []) last
