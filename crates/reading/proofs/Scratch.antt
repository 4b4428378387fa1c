-- What was printed into scratch space, compared with a line. Assumes nothing.
use Prim.Native.Nat.{ℕ}
use borrow.Author.Tests.{le-ltb}
use lib.ListN.{drop, length, take}
use lib.Seq.{take_at}
use mathlib.Core.Bool.{false}
use mathlib.Core.List.{List, ◌++◌}
use mathlib.Core.Path.{◌≡◌, ap, refl, sym}
use Rattle.std.proofs.Common.{Result, Ok, Err}
use Rattle.common.specs.Lists.{same}
use Rattle.lines.proofs.Whole.{Whole, apart}
use Rattle.lines.specs.Answer.{Answer, line, printed, refused}
use Rattle.reading.specs.Read.{is_line}
use Rattle.reading.specs.Shown.{Short, empty}
use Rattle.refusal.specs.declared.Refusal.{Refusal}

-- what a print shows has room in the scratch space
pub short_of : (a : Answer) → Whole a → Short a
short_of (refused r) w = tt
short_of (line bs) w = w

module _ (l t : List ℕ) where
  pub same_shown : (a : Answer) (n : ℕ) → Short a → printed a empty ≡ (Ok n, l) → same (take n l) t ≡ is_line a t
  unfolding printed
  same_shown (refused r) n w e = absurd (apart (ap (λ (x : Result ℕ Refusal × List ℕ). x.0) e))
  same_shown (line bs) n w e =
      let d = rw (le-ltb (length empty) (length bs) w) at e in
      let q : Ok (length bs) ≡ Ok n = ap (λ (x : Result ℕ Refusal × List ℕ). x.0) d in
      let m : length bs ≡ n = cc in
      let h : bs ++ drop (length bs) empty ≡ l = ap (λ (x : Result ℕ Refusal × List ℕ). x.1) d in
      rw (← m, ← h) (ap (λ (x : List ℕ). same x t) (take_at bs (drop (length bs) empty) (length bs) refl))

  pub none_shown : (a : Answer) (r : Refusal) → Short a → printed a empty ≡ (Err r, l) → false ≡ is_line a t
  unfolding printed
  none_shown (refused n) r w e = refl
  none_shown (line bs) r w e =
      let d = rw (le-ltb (length empty) (length bs) w) at e in
      absurd (apart (sym (ap (λ (x : Result ℕ Refusal × List ℕ). x.0) d)))
