-- What reading is held to, for words of any width: document 01's third demand, undivided. Assumes nothing.
use Prim.Native.Nat.{◌<◌, ◌≤◌, ℕ}
use borrow.Author.Tests.{eqb-false, eqb-true}
use lib.Dec.{eqb}
use mathlib.Core.Bool.{Bool, cond, true, true≢false}
use mathlib.Core.List.{List}
use mathlib.Core.Path.{◌≡◌, ap, sym}
use native.Mathlib.Nat.{lt_irrefl}
use native.Mathlib.Omega.{arith}
use Rattle.lines.specs.Answer.{Answer, refused, line}
use Rattle.common.proofs.Lists.{same_eq, same_refl}
use Rattle.common.proofs.Lowest.{lowest_at_most, lowest_is, lowest_le, lowest_passes, verified_fails, verified_passes}
use Rattle.common.proofs.Tests.{by_test}
use Rattle.reading.specs.Read.{is_line, read_back}

is_line_lem : (a : Answer) (l : List ℕ) → is_line a l ≡ true → a ≡ line l
is_line_lem (refused n) l e = absurd (true≢false (sym e))
is_line_lem (line t) l e = ap line (same_eq t l e)

pub line_is : (a : Answer) (l : List ℕ) → a ≡ line l → is_line a l ≡ true
line_is a l e = rw e (same_refl l)

-- "Every other word that prints it is higher"
module _ (print : ℕ → Answer) (bound : ℕ) (l : List ℕ) where
  abbrev pub OthersHigher : ℕ → Type 0
  OthersHigher w = (v : ℕ) → v < bound → print v ≡ line l → (v ≡ w → ⊥) → w < v

  abbrev test : ℕ → Bool
  test w = is_line (print w) l

  -- "Reading succeeds with a word exactly when that word prints exactly that line and every other word that prints it is higher"
  pub read_prints : (w : ℕ) → w < bound → read_back print bound l ≡ w → (print w ≡ line l) × OthersHigher w
  unfolding read_back
  read_prints w h e = (
    is_line_lem (print w) l (rw e at (lowest_passes test bound (rw e h))),
    λ v g p n. let m : w ≤ v = rw e at (lowest_at_most test bound v (line_is (print v) l p)) in
        by_test (eqb v w) (λ q. absurd (n (eqb-true v w q))) (λ q. let f = eqb-false v w q in omega arith),
  )

  pub prints_read : (w : ℕ) → w < bound → print w ≡ line l → OthersHigher w → read_back print bound l ≡ w
  unfolding read_back
  prints_read w h p o =
      lowest_is test bound w (omega arith) (λ g. line_is (print w) l p)
      (λ v g t. by_test (eqb v w) (λ q. let f = eqb-true v w q in omega arith) (λ q. let s = o v g (is_line_lem (print v) l t) (eqb-false v w q) in omega arith))

  -- "it gives 4 exactly when none does"
  pub none_prints : read_back print bound l ≡ bound → (w : ℕ) → w < bound → print w ≡ line l → ⊥
  unfolding read_back
  none_prints e w h p = let m : bound ≤ w = rw e at (lowest_at_most test bound w (line_is (print w) l p)) in omega arith

  pub none_read : ((w : ℕ) → w < bound → print w ≡ line l → ⊥) → read_back print bound l ≡ bound
  unfolding read_back
  none_read n = lowest_is test bound bound (omega arith) (λ g. absurd (lt_irrefl bound g)) (λ v g t. absurd (n v g (is_line_lem (print v) l t)))

  -- it is a word or the bound
  pub read_most : read_back print bound l ≤ bound
  unfolding read_back
  read_most = lowest_le test bound

  -- a candidate that is at most each word that prints the line, and prints it if any does: printed and compared, it is what is read
  module _ (c : ℕ) (below : c < bound) (law : (w : ℕ) → w < bound → print w ≡ line l → (c ≤ w) × (print c ≡ line l)) where
    candidate : (w : ℕ) → w < bound → test w ≡ true → (c ≤ w) × (test c ≡ true)
    candidate w h t = let f = law w h (is_line_lem (print w) l t) in (f.0, line_is (print c) l f.1)

    pub candidate_reads : read_back print bound l ≡ cond (is_line (print c) l) c bound
    unfolding read_back
    candidate_reads =
        by_test (test c)
        (λ e. rw e (verified_passes test bound c below candidate e))
        (λ e. rw e (verified_fails test bound c below candidate e))
