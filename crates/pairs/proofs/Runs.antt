-- The check of a run. Assumes nothing.
use Rattle.std.proofs.Common.{◌≡◌, ◌∙◌, ℕ, ◌<◌, ◌≤◌, Bool, true, false, true≢false, not, ◌||◌, List, length, ltb, ltb-false, ltb-true, refl, sym, arith, le-ltb, lt-ltb, Option, Some, None}
use Rattle.std.specs.Prelude.{MatchOption}
use Rattle.common.proofs.Lowest.{lowest_is}
use Rattle.common.proofs.Tests.{by_test}
use Rattle.common.specs.Lowest.{lowest}
use Rattle.thumb.specs.Pair.{is_first_half, is_second_half}
use Rattle.pairs.specs.Run.{first_unpaired, lacks, lacks_at, unpaired}
use Rattle.pairs.proofs.Halves.{not_both}

or_none : (b : Bool) → (b || false) ≡ b
or_none true = refl
or_none false = refl

-- ---- a half, by what the code tests
module _ (before h behind : ℕ) where
  pub lacks_first : is_first_half h ≡ true → lacks before h behind ≡ not (is_second_half behind)
  unfolding lacks
  lacks_first e = rw (e, not_both h e) (or_none (not (is_second_half behind)))

  pub lacks_second : is_first_half h ≡ false → is_second_half h ≡ true → lacks before h behind ≡ not (is_first_half before)
  unfolding lacks
  lacks_second e f = rw (e, f)

  pub lacks_none : is_first_half h ≡ false → is_second_half h ≡ false → lacks before h behind ≡ false
  unfolding lacks
  lacks_none e f = rw (e, f)

-- ---- what the search over the places of a run finds
pub searched : (run : List ℕ) (r : Option ℕ)
    → MatchOption r ((k : ℕ) → 0 ≤ k → k < length run → lacks_at run k ≡ false) (λ i. (0 ≤ i) × (i < length run) × (lacks_at run i ≡ true) × ((k : ℕ) → 0 ≤ k → k < i → lacks_at run k ≡ false))
    → r ≡ unpaired run
unfolding unpaired first_unpaired
searched run None f =
    let q : lowest (lacks_at run) (length run) ≡ length run = lowest_is (lacks_at run) (length run) (length run) (omega arith) (λ h. absurd (omega arith)) (λ m h t. absurd (true≢false (sym t ∙ f m (omega arith) h))) in
    rw (q, le-ltb (length run) (length run) (omega arith))
searched run (Some i) f =
    let q : lowest (lacks_at run) (length run) ≡ i =
    lowest_is (lacks_at run) (length run) i (omega (f.1, arith)) (λ h. f.2)
    (λ m h t. by_test (ltb m i) (λ e. absurd (true≢false (sym t ∙ f.3 m (omega arith) (ltb-true m i e)))) (λ e. ltb-false m i e)) in
    rw (q, lt-ltb i (length run) f.1)
