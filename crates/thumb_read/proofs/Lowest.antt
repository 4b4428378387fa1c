-- The candidates of the rows of a line's mnemonic, and the lowest of them that prints the line. Assumes nothing.
use Prim.Native.Nat.{◌<◌, ◌^◌, ◌≤◌, min, suc, zero, ℕ}
use borrow.Author.Tests.{lt-ltb}
use lib.Dec.{eqb}
use lib.ListN.{get_or, length, take}
use mathlib.Core.Bool.{Bool, cond}
use mathlib.Core.List.{List, [], ◌++◌, ◌∷◌, map}
use mathlib.Core.Path.{◌∙◌, ◌≡◌, ap, refl}
use native.Mathlib.Omega.{arith}
use Rattle.arm7tdmi.specs.declared.Form.{Form}
use Rattle.common.proofs.Tests.{by_test}
use Rattle.common.specs.Lists.{first, same}
use Rattle.reading.proofs.Several.{best}
use Rattle.reading.specs.Answered.{word_below}
use Rattle.reading.specs.Read.{is_line}
use denote.Param.Members.{Mut}
use Rattle.std.proofs.lemmas.Fn.{fold_over}
use Rattle.std.proofs.lemmas.Iterator.{YieldsList}
use Rattle.std.specs.Fn.{Called}
use Rattle.std.specs.Iterator.{Drains}
use Rattle.std.specs.List.{FoldsTo, filter}
use Rattle.std.specs.Prelude.{IfSome, None, Option, Some}
use Rattle.text.proofs.Packed.{Bytes}
use Rattle.text.specs.Word.{is_gap, packed, word}
use Rattle.thumb_candidate.specs.Candidate.{candidate, candidates, candidates_from, suits}
use Rattle.thumb_lowest.proofs.Found.{rows_many}
use Rattle.thumb_lowest.proofs.Read.{read_thumb_lem}
use Rattle.thumb_lowest.proofs.Numbers.{row_number}
use Rattle.thumb_lowest.specs.Read.{read_thumb}
use Rattle.thumb_mnemonic.specs.Rows.{Row, no_row, rows, rows_of, rows_with}
use Rattle.thumb_mnemonic.specs.declared as code
use Rattle.thumb_print.specs.Print.{thumb_line}
use Rattle.thumb_read.specs.Answer.{low}

-- ---- what each call of a fold's closure keeps is true at its end
pub fold_keeps : {S A B C F : Type 0} {steps : S → Option A → S → Type 0} {v : A → B} {s : S} {all : List B} (g : Mut F (C × (A × Unit {0})) C) (J : List B → C → Type 0) {f : F} (init r : C)
    → ((xs : List A) × (q : F) × Drains steps s xs × FoldsTo {P = F × C} (λ a x b. Called g a.0 (a.1, (x, tt)) b.1 b.0) (f, init) xs (q, r)) → YieldsList steps v s all → J [] init
    → ((ys : List B) (a : C) (x : A) (b : C) (q : F) → J ys a → Called g f (a, (x, tt)) b q → (q ≡ f) × J (ys ++ (v x ∷ [])) b) → J all r
fold_keeps {S} {A} {B} {C} {F} {steps} {v} {s} {all} g J {f} init r ran e j k = fold_over steps v g J f (λ ys a x b q i c. let m = k ys a x b q i c in (m.1, m.0)) s all init r e.runs j ran

-- the first word of bytes
bytes_take : (n : ℕ) (l : List ℕ) → Bytes l → Bytes (take n l)
bytes_take zero l h i = omega arith
bytes_take (suc n) [] h i = omega arith
bytes_take (suc n) (x ∷ l) h zero = h 0
bytes_take (suc n) (x ∷ l) h (suc i) = bytes_take n l (λ j. h (suc j)) i

-- ---- the lowest of candidates that passes, the last of them taken last
module _ (p : ℕ → Bool) (n : ℕ) where
  best_most : (cs : List ℕ) → best p n cs ≤ n
  unfolding best
  best_most [] = omega arith
  best_most (c ∷ cs) = let ih = best_most cs in by_test (p c) (λ e. rw e (omega arith)) (λ e. rw e ih)

  pub best_push : (cs : List ℕ) (c : ℕ) → best p n (cs ++ (c ∷ [])) ≡ min (best p n cs) (cond (p c) c n)
  unfolding best
  best_push [] c = by_test (p c) (λ e. rw e (omega arith)) (λ e. rw e (omega arith))
  best_push (d ∷ cs) c =
      let ih = best_push cs c in
      by_test (p d) (λ e. rw e (omega arith)) (λ e. rw e ih)

-- ---- the candidates of a line
module _ (form : Form) (pc : ℕ) (l : List ℕ) where
  abbrev pub suiting : code.Row.Row → Bool
  suiting r = suits r.1 l

  abbrev pub candidate_at : code.Row.Row → ℕ
  candidate_at r = candidate form pc l r.1 r.0

  abbrev pub found : List code.Row.Row → List ℕ
  found rs = map candidate_at (filter suiting rs)

  found_in : (rs : List Row) → ((i : ℕ) → i < length rs → eqb (packed (get_or rs i no_row).name) (packed (word l)) ≡ same (get_or rs i no_row).name (word l)) → candidates_from form pc l rs ≡ found (rows_with (packed (word l)) rs)
  found_in [] h = refl
  found_in (r ∷ rs) h =
      let e : eqb (packed r.name) (packed (word l)) ≡ same r.name (word l) = h 0 (omega arith) in
      let ih = found_in rs (λ i b. h (suc i) (omega arith)) in
      by_test (same r.name (word l))
      (λ t. by_test (suits r.kind l) (λ u. rw (e, t, u) (ap (λ cs. candidate form pc l r.kind r.bits ∷ cs) ih)) (λ u. rw (e, t, u) ih))
      (λ t. rw (e, t) ih)

  found_are : Bytes l → candidates form pc l ≡ found (rows_of (packed (word l)))
  unfolding candidates rows_of word
  found_are h = found_in rows (λ i b. let m = rows_many in row_number i (omega arith) (word l) (bytes_take (first is_gap l) l h))

  pub read_found : Bytes l → read_thumb form pc l ≡ best (λ w. is_line (thumb_line form pc w) l) (2 ^ 16) (found (rows_of (packed (word l))))
  read_found h = rw (← found_are h) (read_thumb_lem form pc l)

  -- the best so far is that of the candidates so far
  abbrev pub Best : List ℕ → Option ℕ → Type 0
  Best cs o = low o ≡ best (λ w. is_line (thumb_line form pc w) l) (2 ^ 16) cs

  pub best_none : Best [] None
  unfolding best
  best_none = refl

  pub best_more : (cs : List ℕ) (o : Option ℕ) (c : ℕ) (q : Option ℕ) → Best cs o → low q ≡ min (low o) (cond (is_line (thumb_line form pc c) l) c (2 ^ 16)) → Best (cs ++ (c ∷ [])) q
  best_more cs o c q h e = e ∙ rw (h, best_push (λ w. is_line (thumb_line form pc w) l) (2 ^ 16) cs c)

-- ---- a word or none
pub low_answers : (o : Option ℕ) → IfSome o (λ w. w < 2 ^ 16) → o ≡ word_below (2 ^ 16) (low o)
low_answers None h = refl
low_answers (Some w) h = rw (lt-ltb w (2 ^ 16) h)
