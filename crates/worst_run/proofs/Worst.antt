-- The worst of some runs, taken one after another. Assumes nothing.
use Rattle.std.proofs.Common.{◌≡◌, ℕ, ◌<◌, ◌≤◌, max, Bool, false, leb, eqb, List, [], ◌∷◌, ◌++◌, map, fold, find, unwrap_or, Option, Some, refl, sym, ap, subst, ◌∙◌, arith, leb-true, leb-false, le-leb, eq-eqb, ne_eqb}
use Rattle.std.proofs.lemmas.Bool.{eqb-false, lt-leb}
use Rattle.std.proofs.lemmas.List.Sums.{fold-append}
use Rattle.common.proofs.Tests.{by_test}
use Rattle.worst_run.specs.Worst.{largest_count, no_run, or_worse, worst_of}
use Rattle.worst_run.specs.declared.Run.{Run}

pub keep : (r s : Run) → s.count ≤ r.count → or_worse r s ≡ r
keep r s h = rw (le-leb s.count r.count h)

pub over : (r s : Run) → r.count < s.count → or_worse r s ≡ s
over r s h = rw (lt-leb s.count r.count h)

-- the worse of what was found and the next
abbrev worst_from : Run → List Run → Run
worst_from r rs = fold or_worse r rs

worse_max : (r s : Run) → (or_worse r s).count ≡ max r.count s.count
worse_max r s =
    by_test (leb s.count r.count)
    (λ t. let h = leb-true s.count r.count t in rw (keep r s h) (omega arith))
    (λ t. let h = leb-false s.count r.count t in rw (over r s h) (omega arith))

count_from : (r : Run) (rs : List Run) → fold max r.count (map (λ s. s.count) rs) ≡ (worst_from r rs).count
count_from r [] = refl
count_from r (s ∷ rs) = ap (λ (m : ℕ). fold max m (map (λ z. z.count) rs)) (sym (worse_max r s)) ∙ count_from (or_worse r s) rs

at_least : (r : Run) (rs : List Run) → r.count ≤ (worst_from r rs).count
at_least r [] = omega arith
at_least r (s ∷ rs) = let ih = at_least (or_worse r s) rs in let m = worse_max r s in omega arith

abbrev pub has : ℕ → Run → Bool
has m r = eqb r.count m

-- one that is not worse than the one before it is not found where that is not
not_worse : (m : ℕ) (r s : Run) (rs : List Run) (w : Run) → find (has m) (r ∷ rs) ≡ Some w → (eqb r.count m ≡ false → eqb s.count m ≡ false) → find (has m) (r ∷ s ∷ rs) ≡ Some w
not_worse m r s rs w e f = by_test (eqb r.count m) (λ t. rw t (rw t at e)) (λ t. rw (t, f t) (rw t at e))

first_from : (r : Run) (rs : List Run) → find (has (worst_from r rs).count) (r ∷ rs) ≡ Some (worst_from r rs)
first_from r [] = rw (eq-eqb r.count r.count refl)
first_from r (s ∷ rs) =
    let kept = first_from r rs in
    let passed = first_from s rs in
    let a = at_least r rs in
    let b = at_least s rs in
    by_test (leb s.count r.count)
    (λ t. let h = leb-true s.count r.count t in
    let m = (worst_from r rs).count in
    same (worst_from r rs) (ap (λ (z : Run). worst_from z rs) (keep r s h)) (not_worse m r s rs (worst_from r rs) kept (λ f. ne_eqb s.count m (λ e. eqb-false r.count m f (omega arith)))))
    (λ t. let h = leb-false s.count r.count t in
    let m = (worst_from s rs).count in
    same (worst_from s rs) (ap (λ (z : Run). worst_from z rs) (over r s h)) (rw (ne_eqb r.count m (λ e. omega arith)) passed))
  where
    same : (w : Run) → worst_from r (s ∷ rs) ≡ w → find (has w.count) (r ∷ s ∷ rs) ≡ Some w → find (has (worst_from r (s ∷ rs)).count) (r ∷ s ∷ rs) ≡ Some (worst_from r (s ∷ rs))
    same w e f = subst (λ (w : Run). find (has w.count) (r ∷ s ∷ rs) ≡ Some w) (sym e) f

-- its count is the largest
largest_is : (r : Run) (rs : List Run) → largest_count (r ∷ rs) ≡ (worst_from r rs).count
largest_is r rs = let z : max 0 r.count ≡ r.count = omega arith in ap (λ (m : ℕ). fold max m (map (λ s. s.count) rs)) z ∙ count_from r rs

found : (r : Run) (rs : List Run) → find (has (largest_count (r ∷ rs))) (r ∷ rs) ≡ Some (worst_from r rs)
found r rs = subst (λ (m : ℕ). find (has m) (r ∷ rs) ≡ Some (worst_from r rs)) (sym (largest_is r rs)) (first_from r rs)

worst_is : (r : Run) (rs : List Run) → worst_of (r ∷ rs) ≡ worst_from r rs
worst_is r rs = ap (λ (o : Option Run). unwrap_or o no_run) (found r rs)

pub worst_found : (r : Run) (rs : List Run) → find (has (largest_count (r ∷ rs))) (r ∷ rs) ≡ Some (worst_of (r ∷ rs))
worst_found r rs = found r rs ∙ ap (λ (w : Run). Some w) (sym (worst_is r rs))

pub worst_count : (r : Run) (rs : List Run) → (worst_of (r ∷ rs)).count ≡ largest_count (r ∷ rs)
worst_count r rs = ap (λ (w : Run). w.count) (worst_is r rs) ∙ sym (largest_is r rs)

-- of one, and of one more
pub worst_one : (r : Run) → worst_of (r ∷ []) ≡ r
worst_one r = worst_is r []

pub worst_more : (r : Run) (rs : List Run) (s : Run) → worst_of ((r ∷ rs) ++ s ∷ []) ≡ or_worse (worst_of (r ∷ rs)) s
worst_more r rs s = worst_is r (rs ++ s ∷ []) ∙ fold-append or_worse r rs (s ∷ []) ∙ ap (λ (w : Run). or_worse w s) (sym (worst_is r rs))

fold_max : (a b : ℕ) (xs : List ℕ) → fold max (max a b) xs ≡ max a (fold max b xs)
fold_max a b [] = refl
fold_max a b (x ∷ xs) = let e : max (max a b) x ≡ max a (max b x) = omega arith in ap (λ (m : ℕ). fold max m xs) e ∙ fold_max a (max b x) xs

pub largest_cons : (r : Run) (rs : List Run) → largest_count (r ∷ rs) ≡ max r.count (largest_count rs)
largest_cons r rs = let e : max 0 r.count ≡ max r.count 0 = omega arith in ap (λ (m : ℕ). fold max m (map (λ s. s.count) rs)) e ∙ fold_max r.count 0 (map (λ s. s.count) rs)
