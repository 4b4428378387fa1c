-- The worst run is one that has most, and each that begins before it has fewer. Of any steps. Assumes nothing.
use mathlib.Core.Logic.{◌⊎◌, inl, inr, ⊎_elim}
use Rattle.std.proofs.Common.{◌≡◌, ℕ, zero, suc, ◌+◌, ◌<◌, ◌≤◌, min, max, ltb, eqb, List, [], ◌∷◌, ◌++◌, length, take, drop, map, find, Some, refl, sym, ap, ◌∙◌, arith, ltb-true, ltb-false, lt-ltb, length-append, length-take}
use Rattle.std.proofs.lemmas.Bool.{eqb-false}
use Rattle.std.proofs.lemmas.List.{append-nil, nil_from_length, take-append-drop, take_all, take_at}
use Rattle.std.proofs.lemmas.List.Sums.{count_by-le-length}
use Rattle.std.proofs.lemmas.Option.{none-some}
use Rattle.common.proofs.Tests.{by_test}
use Rattle.lines.specs.Answer.{is_invalid}
use Rattle.steps.specs.Steps.{Step, Follow}
use Rattle.worst_run.specs.Worst.{first_offset, invalid_count, largest_count, run_of, runs, worst_of}
use Rattle.worst_run.specs.Laws.{HasMost, IsFirst, IsReached, IsRun, IsSmall}
use Rattle.worst_run.specs.declared.Run.{Run}
use Rattle.worst_run.proofs.Runs.{later, later_some, runs_first}
use Rattle.worst_run.proofs.Worst.{has, largest_cons, worst_count, worst_found}

begin_take : (n : ℕ) (ss : List Step) → 0 < n → first_offset (take n ss) ≡ first_offset ss
begin_take zero ss h = absurd (omega arith)
begin_take (suc n) [] h = refl
begin_take (suc n) (s ∷ ss) h = refl

-- ---- runs of a listing that is one step longer
module _ (n : ℕ) where
  pub first_run : (ss : List Step) → IsRun n ss (take n ss)
  first_run ss = record { before = []; behind = drop n ss; consecutive = sym (take-append-drop n ss); long = length-take n ss }

  run_on : (s : Step) (ss run : List Step) → n < length (s ∷ ss) → IsRun n ss run → IsRun n (s ∷ ss) run
  run_on s ss run h k = record { before = s ∷ k.before; behind = k.behind; consecutive = ap (λ (l : List Step). s ∷ l) k.consecutive; long = omega (arith, k.long) }

  -- the first, or one of those behind the first step
  run_of_cons : (s : Step) (ss run before behind : List Step) → s ∷ ss ≡ before ++ run ++ behind → length run ≡ min n (length (s ∷ ss)) → (run ≡ take n (s ∷ ss)) ⊎ ((n < length (s ∷ ss)) × IsRun n ss run)
  run_of_cons s ss run [] behind e l =
      let m : length (s ∷ ss) ≡ length run + length behind = ap (λ (l : List Step). length l) e ∙ length-append run behind in
      inl
      (by_test (ltb n (length (s ∷ ss)))
      (λ t. let h = ltb-true n (length (s ∷ ss)) t in rw e (sym (take_at run behind n (omega (arith, l, h)))))
      (λ t. let h = ltb-false n (length (s ∷ ss)) t in
      let z : length behind ≡ 0 = omega (arith, l, h, m) in
      sym (append-nil run) ∙ ap (λ (l : List Step). run ++ l) (sym (nil_from_length behind z)) ∙ sym e ∙ sym (take_all n (s ∷ ss) h)))
  run_of_cons s ss run (b ∷ before) behind e l =
      let q : ss ≡ before ++ run ++ behind = cc in
      let m : length ss ≡ length before + length run + length behind = ap (λ (l : List Step). length l) q ∙ simp length-append in
      let h : n < length (s ∷ ss) = omega arith in
      inr (h, record { before = before; behind = behind; consecutive = q; long = omega arith })

  of_none : (run : List Step) → IsRun n [] run → run ≡ []
  of_none run k =
      let m = ap (λ (l : List Step). length l) k.consecutive in
      nil_from_length run (omega (arith, k.long))

  -- ---- none has more than the largest
  two : (s : Step) (ss : List Step) → largest_count (map run_of (runs n (s ∷ ss))) ≡ max (invalid_count (take n (s ∷ ss))) (largest_count (map run_of (later n (s ∷ ss))))
  two s ss = rw (runs_first n (s ∷ ss)) (largest_cons (run_of (take n (s ∷ ss))) (map run_of (later n (s ∷ ss))))

  in_first : (s : Step) (ss run : List Step) → run ≡ take n (s ∷ ss) → invalid_count run ≤ largest_count (map run_of (runs n (s ∷ ss)))
  in_first s ss run e = let c : invalid_count run ≡ invalid_count (take n (s ∷ ss)) = ap invalid_count e in omega (arith, two s ss, c)

  in_later : (s : Step) (ss run : List Step) → n < length (s ∷ ss) → invalid_count run ≤ largest_count (map run_of (runs n ss)) → invalid_count run ≤ largest_count (map run_of (runs n (s ∷ ss)))
  in_later s ss run h i =
      let l : largest_count (map run_of (later n (s ∷ ss))) ≡ largest_count (map run_of (runs n ss)) = ap (λ (rs : List (List Step)). largest_count (map run_of rs)) (later_some n s ss h) in
      omega (arith, two s ss, l, i)

  count_largest : (ss run : List Step) → IsRun n ss run → invalid_count run ≤ largest_count (map run_of (runs n ss))
  count_largest [] run k = rw (of_none run k) (omega arith)
  count_largest (s ∷ ss) run k =
      let ih = count_largest ss run in
      ⊎_elim (λ e. in_first s ss run e) (λ g. in_later s ss run g.0 (ih g.1)) (run_of_cons s ss run k.before k.behind k.consecutive k.long)

  -- ---- some run is the one that is found
  found_run : (m : ℕ) (w : Run) (ss : List Step) → find (has m) (map run_of (runs n ss)) ≡ Some w → (run : List Step) × IsRun n ss run × (run_of run ≡ w)
  unfolding runs
  found_run m w [] e = by_test (eqb 0 m) (λ t. let q : Some (run_of []) ≡ Some w = rw t at e in ([], first_empty, cc)) (λ t. absurd (none-some w (rw t at e)))
    where
      first_empty : IsRun n [] []
      first_empty = record { before = []; behind = []; consecutive = refl; long = omega arith }
  found_run m w (s ∷ ss) e =
      let ih = found_run m w ss in
      by_test (eqb (invalid_count (take n (s ∷ ss))) m)
      (λ t. let q : Some (run_of (take n (s ∷ ss))) ≡ Some w = rw t at e in (take n (s ∷ ss), first_run (s ∷ ss), cc))
      (λ t. by_test (ltb n (length (s ∷ ss)))
      (λ u. let r = ih (rw (t, u) at e) in (r.0, run_on s ss r.0 (ltb-true _ _ u) r.1, r.2))
      (λ u. absurd (none-some w (rw (t, u) at e))))

  end_within : (at to : ℕ) (ss : List Step) → Follow at ss to → at ≤ to
  end_within at to [] f = omega (arith, f)
  end_within at to (s ∷ ss) f = let ih = end_within (at + s.bytes) to ss f.2 in omega arith

  -- ---- each that begins before that one has another count
  begins : (at to : ℕ) (ss before run behind : List Step) → Follow at ss to → ss ≡ before ++ run ++ behind → 0 < length run → at ≤ first_offset run
  begins at to ss [] [] behind f e h = absurd (omega arith)
  begins at to [] [] (r ∷ run) behind f e h = let z : ◌≡◌ {A = ℕ} 0 1 = cc in absurd (omega arith)
  begins at to (s ∷ ss) [] (r ∷ run) behind f e h = let q : s ≡ r = cc in rw (← q) (omega (arith, f.0))
  begins at to [] (b ∷ before) run behind f e h = let z : ◌≡◌ {A = ℕ} 0 1 = cc in absurd (omega arith)
  begins at to (s ∷ ss) (b ∷ before) run behind f e h =
      let q : ss ≡ before ++ run ++ behind = cc in
      let ih = begins (at + s.bytes) to ss before run behind f.2 q h in
      omega arith

  -- none begins behind the end
  begins_within : (at to : ℕ) (ss before run behind : List Step) → Follow at ss to → ss ≡ before ++ run ++ behind → first_offset run ≤ to
  begins_within at to ss [] [] behind f e = omega arith
  begins_within at to [] [] (r ∷ run) behind f e = let z : ◌≡◌ {A = ℕ} 0 1 = cc in absurd (omega arith)
  begins_within at to (s ∷ ss) [] (r ∷ run) behind f e = let q : s ≡ r = cc in let l = end_within (at + s.bytes) to ss f.2 in rw (← q) (omega (arith, f.0))
  begins_within at to [] (b ∷ before) run behind f e = let z : ◌≡◌ {A = ℕ} 0 1 = cc in absurd (omega arith)
  begins_within at to (s ∷ ss) (b ∷ before) run behind f e = let q : ss ≡ before ++ run ++ behind = cc in begins_within (at + s.bytes) to ss before run behind f.2 q

  earlier : (at to m : ℕ) (w : Run) (ss run : List Step) → 0 < n → Follow at ss to → find (has m) (map run_of (runs n ss)) ≡ Some w → IsRun n ss run → first_offset run < w.offset → invalid_count run ≡ m → ⊥
  unfolding runs
  earlier at to m w [] run some f e k h c =
      let r = of_none run k in
      by_test (eqb 0 m) (λ t. let q : Some (run_of []) ≡ Some w = rw t at e in let o : run_of [] ≡ w = cc in omega (arith, ap (λ (x : Run). x.offset) o)) (λ t. none-some w (rw t at e))
  earlier at to m w (s ∷ ss) run some f e k h c =
      let ih = earlier (at + s.bytes) to m w ss run some f.2 in
      by_test (eqb (invalid_count (take n (s ∷ ss))) m)
      (λ t. let q : Some (run_of (take n (s ∷ ss))) ≡ Some w = rw t at e in
      let o : run_of (take n (s ∷ ss)) ≡ w = cc in
      let b = begin_take n (s ∷ ss) some in
      let l = begins at to (s ∷ ss) k.before run k.behind f k.consecutive (omega (arith, k.long)) in
      omega (arith, ap (λ (x : Run). x.offset) o, b, l, f.0))
      (λ t. ⊎_elim
      (λ r. eqb-false (invalid_count (take n (s ∷ ss))) m t (rw r at c))
      (λ g. ih (rw (t, lt-ltb n (length (s ∷ ss)) g.0) at e) g.1 h c)
      (run_of_cons s ss run k.before k.behind k.consecutive k.long))

  -- ---- the worst
  module _ (ss : List Step) where
    abbrev the_worst : Run
    the_worst = worst_of (map run_of (runs n ss))

    abbrev m : ℕ
    m = largest_count (map run_of (runs n ss))

    found : find (has m) (map run_of (runs n ss)) ≡ Some the_worst
    found = rw (runs_first n ss) (worst_found (run_of (take n ss)) (map run_of (later n ss)))

    its_count : the_worst.count ≡ m
    its_count = rw (runs_first n ss) (worst_count (run_of (take n ss)) (map run_of (later n ss)))

    pub is_reached : IsReached n ss the_worst
    is_reached = found_run m the_worst ss found

    pub has_most : HasMost n ss the_worst
    has_most run k = rw its_count (count_largest ss run k)

    pub is_first : (to : ℕ) → 0 < n → Follow 0 ss to → IsFirst n ss the_worst
    is_first to some f run k h =
        let c = count_largest ss run k in
        let e = earlier 0 to m the_worst ss run some f found k h in
        rw its_count (omega (arith, c, e))

    -- it counts n steps at most, and begins no further on than the image is long
    pub is_small : (image : List ℕ) → length image ≤ 65536 → Follow 0 ss (length image) → IsSmall n image the_worst
    is_small image short f =
        let r = is_reached in
        let k = r.1 in
        let o : first_offset r.0 ≤ length image = begins_within 0 (length image) ss k.before r.0 k.behind f k.consecutive in
        let m = count_by-le-length (λ s. is_invalid s.shows) r.0 in
        rw (← r.2) (omega (arith, m, k.long), o, short)
