-- The steps from the first on that ends past a place, and what is found among them. Assumes nothing.
use Rattle.std.proofs.Common.{◌≡◌, ℕ, suc, ◌+◌, ◌<◌, ◌≤◌, ltb, leb, List, [], ◌∷◌, find, slice_get, Some, true, refl, sym, arith, leb-true, ltb-true, ltb-false, lt-ltb, le-ltb, le-leb}
use Rattle.std.proofs.lemmas.Option.{none-some}
use Rattle.std.specs.Prelude.{Contains}
use Rattle.common.proofs.Tests.{and_left, by_test}
use Rattle.steps.specs.Steps.{Step, Follow, covers}
use Rattle.step_offsets.specs.Offsets.{steps_past, offset_in}

pub past_here : (k : ℕ) (s : Step) (ss : List Step) → k < s.offset + s.bytes → steps_past k (s ∷ ss) ≡ s ∷ ss
unfolding steps_past
past_here k s ss h = rw (lt-ltb k (s.offset + s.bytes) h)

pub past_on : (k : ℕ) (s : Step) (ss : List Step) → s.offset + s.bytes ≤ k → steps_past k (s ∷ ss) ≡ steps_past k ss
unfolding steps_past
past_on k s ss h = rw (le-ltb k (s.offset + s.bytes) h)

pub past_none : (k : ℕ) → steps_past k [] ≡ []
unfolding steps_past
past_none k = refl

-- where a search begins does not matter, as long as it is no later place
pub past_again : (j k : ℕ) (ss : List Step) → j ≤ k → steps_past k (steps_past j ss) ≡ steps_past k ss
past_again j k [] h = rw (past_none j)
past_again j k (s ∷ ss) h =
    let ih = past_again j k ss h in
    by_test (ltb j (s.offset + s.bytes))
    (λ t. rw (past_here j s ss (ltb-true _ _ t)))
    (λ t. let e = ltb-false _ _ t in rw (past_on j s ss e, past_on k s ss (omega arith)) ih)

-- of steps that follow one another, the one that covers a place is the first that ends past it
pub found_past : (k at to : ℕ) (ss : List Step) → Follow at ss to → at ≤ k → find (covers k) ss ≡ slice_get (steps_past k ss) 0
found_past k at to [] f h = rw (past_none k)
found_past k at to (s ∷ ss) f h =
    let ih = found_past k (at + s.bytes) to ss f.2 in
    by_test (ltb k (s.offset + s.bytes))
    (λ t. let e = ltb-true _ _ t in rw (past_here k s ss e, le-leb s.offset k (omega (arith, f.0)), t))
    (λ t. let e = ltb-false _ _ t in rw (past_on k s ss e, le-leb s.offset k (omega (arith, f.0)), t) (ih (omega (arith, f.0))))

-- none ends before it begins
none_past : (at to : ℕ) (ss : List Step) → Follow at ss to → steps_past at ss ≡ ss
none_past at to [] f = past_none at
none_past at to (s ∷ ss) f = past_here at s ss (omega (arith, f.0, f.1))

-- one that is found covers the place
pub found_covers : (k : ℕ) (s : Step) (ss : List Step) → Some s ≡ find (covers k) ss → covers k s ≡ true
found_covers k s [] e = absurd (none-some s (sym e))
found_covers k s (t ∷ ts) e =
    let ih = found_covers k s ts in
    by_test (covers k t)
    (λ c. let q : Some s ≡ Some t = rw c at e in let r : s ≡ t = cc in rw r c)
    (λ c. ih (rw c at e))

-- and is one of them
pub found_contained : (k : ℕ) (s : Step) (ss : List Step) → Some s ≡ find (covers k) ss → Contains ss s
found_contained k s [] e = absurd (none-some s (sym e))
found_contained k s (t ∷ ts) e =
    let ih = found_contained k s ts in
    by_test (covers k t)
    (λ c. let q : Some s ≡ Some t = rw c at e in let r : t ≡ s = cc in (0, omega arith, r))
    (λ c. let m = ih (rw c at e) in (suc m.0, omega (arith, m.1), m.2))

-- so its offset is what a search gives, and no larger than the place
pub found_offset : (k : ℕ) (s : Step) (ss : List Step) → Some s ≡ find (covers k) ss → (s.offset ≡ offset_in ss k) × (s.offset ≤ k)
found_offset k s ss e = (rw (← e), leb-true s.offset k (and_left (leb s.offset k) (ltb k (s.offset + s.bytes)) (found_covers k s ss e)))

-- of all steps from the start to some end
module _ (to : ℕ) (all : List Step) (f : Follow 0 all to) where
  -- a search that goes on from an earlier place finds what one from the start does
  pub found_on : (j k : ℕ) → j ≤ k → slice_get (steps_past k (steps_past j all)) 0 ≡ find (covers k) all
  found_on j k h = rw (past_again j k all h) (sym (found_past k 0 to all f (omega arith)))

  pub past_start : steps_past 0 all ≡ all
  past_start = none_past 0 to all f
