-- What is kept of the last steps, and the worst run among all so far. Assumes nothing.
use Rattle.std.proofs.Common.{◌≡◌, ℕ, zero, suc, ◌+◌, ◌-◌, ◌<◌, ◌≤◌, Bool, true, false, cond, ltb, leb, List, [], ◌∷◌, ◌++◌, length, take, drop, map, count_by, replicate, refl, sym, ap, ap₂, ◌∙◌, arith, ltb-true, ltb-false, leb-true, leb-false, append-nil, append_assoc, drop-drop, length-append, length-drop}
use mir.Val.{bool_byte}
use Rattle.std.proofs.lemmas.List.{drop-append-le, drop-replicate, drop_at, length-replicate, length_push, map_push}
use Rattle.std.proofs.lemmas.List.Sums.{sum_by-append, sum_by-cons}
use Rattle.common.proofs.Tests.{by_test}
use Rattle.worst_run.specs.Worst.{blank, kept_offset, kept_run, or_worse, runs, worst_of}
use Rattle.worst_run.specs.declared.window.Kept.{Kept}
use Rattle.worst_run.proofs.Runs.{later, runs_few, runs_first, runs_more}
use Rattle.worst_run.proofs.Worst.{keep, over, worst_more, worst_one}

-- what a step adds to a count
abbrev pub one : Kept → ℕ
one k = cond k.invalid 1 0

abbrev pub count : List Kept → ℕ
count ks = count_by (λ k. k.invalid) ks

pub count_cons : (k : Kept) (ks : List Kept) → count (k ∷ ks) ≡ one k + count ks
count_cons k ks = sum_by-cons one k ks

pub count_push : (ks : List Kept) (k : Kept) → count (ks ++ k ∷ []) ≡ count ks + one k
count_push ks k = sum_by-append one ks (k ∷ []) ∙ ap (λ (m : ℕ). count ks + m) (count_cons k [] ∙ omega arith)

-- a `bool` as a number is that
pub as_one : (b : Bool) → bool_byte b ≡ cond b 1 0
as_one true = refl
as_one false = refl

pub one_at_most : (b : Bool) → bool_byte b ≤ 1
one_at_most true = omega arith
one_at_most false = omega arith

-- ---- the last n, behind blanks where there are fewer
abbrev pub latest : ℕ → List Kept → List Kept
latest n ks = drop (length ks) (replicate n blank ++ ks)

module _ (n : ℕ) where
  pub latest_none : latest n [] ≡ replicate n blank
  latest_none = append-nil (replicate n blank)

  length_latest : (ks : List Kept) → length (latest n ks) ≡ n
  length_latest ks = simp (length-drop, length-append, length-replicate) (omega arith)

  pub latest_push : (ks : List Kept) (k : Kept) → 0 < n → drop 1 (latest n ks) ++ k ∷ [] ≡ latest n (ks ++ k ∷ [])
  latest_push ks k some =
      let p = replicate n blank ++ ks in
      let l : length ks ≤ length p = omega (arith, length-append (replicate n blank) ks) in
      sym (
      ap₂ (λ (m : ℕ) (z : List Kept). drop m z) (length_push ks k) (sym (append_assoc (replicate n blank) ks (k ∷ [])))
      ∙ sym (drop-drop 1 (length ks) (p ++ k ∷ []))
      ∙ ap (λ (z : List Kept). drop 1 z) (drop-append-le (length ks) p (k ∷ []) l)
      ∙ drop-append-le 1 (latest n ks) (k ∷ []) (omega (arith, length_latest ks)))

  latest_few : (ks : List Kept) → length ks ≤ n → latest n ks ≡ replicate (n - length ks) blank ++ ks
  latest_few ks h =
      drop-append-le (length ks) (replicate n blank) ks (omega (arith, length-replicate n blank))
      ∙ ap (λ (z : List Kept). z ++ ks) (drop-replicate (length ks) n blank)

  latest_more : (ks : List Kept) → n ≤ length ks → latest n ks ≡ drop (length ks - n) ks
  latest_more ks h =
      let e : length ks ≡ n + (length ks - n) = omega arith in
      ap (λ (m : ℕ). drop m (replicate n blank ++ ks)) e
      ∙ sym (drop-drop (length ks - n) n (replicate n blank ++ ks))
      ∙ ap (λ (z : List Kept). drop (length ks - n) z) (drop_at (replicate n blank) ks n (length-replicate n blank))

-- blanks in front count nothing, and begin at 0
blanks : (m : ℕ) (ks : List Kept) → count (replicate m blank ++ ks) ≡ count ks
blanks zero ks = refl
blanks (suc m) ks = let ih = blanks m ks in omega (arith, count_cons blank (replicate m blank ++ ks))

behind_blanks : (m : ℕ) (ks : List Kept) → kept_offset ks ≡ 0 → kept_run (replicate m blank ++ ks) ≡ kept_run ks
behind_blanks zero ks e = refl
behind_blanks (suc m) ks e = ap₂ (λ (c at : ℕ). record { count = c; offset = at }) (blanks (suc m) ks) (sym e)

-- ---- where a step takes the place of the first
module _ (ks : List Kept) (first : Kept) (f : ks ≡ first ∷ drop 1 ks) where
  count_first : count ks ≡ one first + count (drop 1 ks)
  count_first = ap count f ∙ count_cons first (drop 1 ks)

  pub counted : (k : Kept) → count (drop 1 ks ++ k ∷ []) + one first ≡ count ks + one k
  counted k = omega (arith, count_first, count_push (drop 1 ks) k)

-- ---- one step more
-- a run that begins at 0 and grows is the worse for it
from_start : (ks : List Kept) (k : Kept) → kept_offset (ks ++ k ∷ []) ≡ 0 → kept_offset ks ≡ 0
from_start [] k e = refl
from_start (j ∷ ks) k e = e

grown : (ks : List Kept) (k : Kept) → kept_offset (ks ++ k ∷ []) ≡ 0 → or_worse (kept_run ks) (kept_run (ks ++ k ∷ [])) ≡ kept_run (ks ++ k ∷ [])
grown ks k e =
    let c = count_push ks k in
    by_test (leb (count (ks ++ k ∷ [])) (count ks))
    (λ t. let h = leb-true (count (ks ++ k ∷ [])) (count ks) t in
    keep (kept_run ks) (kept_run (ks ++ k ∷ [])) h ∙ ap₂ (λ (m at : ℕ). record { count = m; offset = at }) (omega (arith, c, h)) (from_start ks k e ∙ sym e))
    (λ t. over (kept_run ks) (kept_run (ks ++ k ∷ [])) (leb-false (count (ks ++ k ∷ [])) (count ks) t))

module _ (n : ℕ) (some : 0 < n) (ks : List Kept) (k : Kept) (start : kept_offset (ks ++ k ∷ []) ≡ 0) where
  one_run : (js : List Kept) → length js ≤ n → worst_of (map kept_run (runs n js)) ≡ kept_run js
  one_run js h = ap (λ (rs : List (List Kept)). worst_of (map kept_run rs)) (runs_few n js h) ∙ worst_one (kept_run js)

  few : length ks < n → or_worse (worst_of (map kept_run (runs n ks))) (kept_run (latest n (ks ++ k ∷ []))) ≡ worst_of (map kept_run (runs n (ks ++ k ∷ [])))
  few h =
      let l = length_push ks k in
      let now : kept_run (latest n (ks ++ k ∷ [])) ≡ kept_run (ks ++ k ∷ []) =
      ap kept_run (latest_few n (ks ++ k ∷ []) (omega arith)) ∙ behind_blanks (n - length (ks ++ k ∷ [])) (ks ++ k ∷ []) start in
      ap₂ or_worse (one_run ks (omega arith)) now ∙ grown ks k start ∙ sym (one_run (ks ++ k ∷ []) (omega arith))

  one_more : (run : List Kept) → worst_of (map kept_run (runs n ks ++ run ∷ [])) ≡ or_worse (worst_of (map kept_run (runs n ks))) (kept_run run)
  one_more run =
      rw (runs_first n ks)
      (ap worst_of (map_push kept_run (take n ks ∷ later n ks) run) ∙ worst_more (kept_run (take n ks)) (map kept_run (later n ks)) (kept_run run))

  many : n ≤ length ks → or_worse (worst_of (map kept_run (runs n ks))) (kept_run (latest n (ks ++ k ∷ []))) ≡ worst_of (map kept_run (runs n (ks ++ k ∷ [])))
  many h =
      let run = drop (length ks + 1 - n) (ks ++ k ∷ []) in
      let l = length_push ks k in
      let now : latest n (ks ++ k ∷ []) ≡ run = latest_more n (ks ++ k ∷ []) (omega arith) ∙ ap (λ (m : ℕ). drop (m - n) (ks ++ k ∷ [])) l in
      ap (λ (js : List Kept). or_worse (worst_of (map kept_run (runs n ks))) (kept_run js)) now
      ∙ sym (one_more run)
      ∙ ap (λ (rs : List (List Kept)). worst_of (map kept_run rs)) (sym (runs_more n ks k some h))

  pub turn : or_worse (worst_of (map kept_run (runs n ks))) (kept_run (latest n (ks ++ k ∷ []))) ≡ worst_of (map kept_run (runs n (ks ++ k ∷ [])))
  turn = by_test (ltb (length ks) n) (λ t. few (ltb-true _ _ t)) (λ t. many (ltb-false _ _ t))

-- before the first there is one run, of no steps
pub before_any : (n : ℕ) → kept_run (replicate n blank) ≡ worst_of (map kept_run (runs n []))
before_any n = ap kept_run (sym (append-nil (replicate n blank))) ∙ behind_blanks n [] refl ∙ sym (ap (λ (rs : List (List Kept)). worst_of (map kept_run rs)) (runs_few n [] (omega arith)) ∙ worst_one (kept_run []))
