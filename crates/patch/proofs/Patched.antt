-- What a patch gives: the lowest word that prints the line stands there, the step there shows the line, and all else is as it was. Assumes nothing.
use mathlib.Core.Path.{◌≡◌, ap, refl, sym, ◌∙◌}
use mathlib.Core.Bool.{false, true, true≢false}
use mathlib.Core.List.{List, ◌∷◌, ◌++◌}
use mathlib.Core.Logic.{inr}
use Prim.Native.Nat.{ℕ, ◌+◌, ◌<◌, ◌≤◌}
use native.Mathlib.Nat.{le_refl}
use native.Mathlib.Omega.{arith}
use borrow.Author.Tests.{le-ltb, lt-ltb, ltb-false, ltb-true}
use lib.Dec.{leb, ltb}
use lib.ListN.{length, drop, get_or}
use Rattle.common.proofs.Tests.{by_test}
use Rattle.arm7tdmi.specs.Signed.{moved}
use Rattle.lines.specs.Answer.{line}
use Rattle.pairs.specs.Print.{pair_line, pair_text}
use Rattle.pairs.proofs.Printing.{is_printed}
use Rattle.reading.proofs.Demand.{OthersHigher, none_prints, none_read, prints_read, read_most, read_prints}
use Rattle.image.specs.Bytes.{half, word}
use Rattle.image.specs.Refusal.{refusal, refusal_at, unit, wrong_image, wrong_list, wrong_place}
use Rattle.image.specs.Stretches.{pairs, set_at}
use Rattle.image.specs.declared.Set.{Set}
use Rattle.image.specs.declared.Set.TheVariants.{Arm, Thumb}
use Rattle.image.proofs.Valid.{valid, placed, not_refused}
use Rattle.std.proofs.Common.{Result, Ok, Err}
use Rattle.std.specs.Prelude.{⊤}
use Rattle.refusal.specs.Refusal.{number}
use Rattle.refusal.specs.declared.Refusal.{Refusal}
use Rattle.refusal.specs.declared.Refusal.TheVariants.{NoWord, WrongImage, WrongStretches, WrongPlace}
use Rattle.steps.specs.Steps.{call_pair, has_step, span_at, span_bytes, span_in, span_line, steps}
use Rattle.steps.specs.Listed.{list_step, listed}
use Rattle.steps.specs.declared.Listed.{Listed}
use Rattle.steps.specs.declared.Listed.TheVariants.{Line}
use Rattle.steps.proofs.Answers.{listed_line, span_whole, step_given}
use Rattle.steps.proofs.Steps.{step_there, steps_next}
use Rattle.patch.specs.Patch.{joins, patched, patched_in, patch_refusal, read_in, stored, word_in, word_line, words_of}
use Rattle.patch.proofs.Answered.{before_end, may_resume, room}
use Rattle.patch.proofs.Calls.{no_half}
use Rattle.patch.proofs.Stored.{Apart, half_kept, stored_length, stored_other, stored_there, word_kept}

-- ---- a word and the halfword behind it
-- alone it is the step there
alone_span : (image : List ℕ) (s : Set) (p at : ℕ) → joins s at (word_in image s at) (half image (at + 2)) ≡ false
    → (span_bytes (span_in image s at) ≡ unit s) × (span_line image (span_in image s at) p at ≡ word_line s p (word_in image s at))
unfolding span_in span_line call_pair
alone_span image Arm p at e = (refl, refl)
alone_span image (Thumb n) p at e = (rw e, rw e)

-- and joined with it the two are
pair_span : (image : List ℕ) (s : Set) (p at : ℕ) → joins s at (word_in image s at) (half image (at + 2)) ≡ true
    → (span_bytes (span_in image s at) ≡ 4) × (span_line image (span_in image s at) p at ≡ pair_line p (word_in image s at) (half image (at + 2)))
unfolding span_in span_line call_pair
pair_span image Arm p at e = absurd (true≢false (sym e))
pair_span image (Thumb n) p at e = (rw e, rw e)

-- to store a word leaves the one behind it
same_joins : (image : List ℕ) (s : Set) (at w v : ℕ) → joins s at v (half (stored image s at w) (at + 2)) ≡ joins s at v (half image (at + 2))
same_joins image Arm at w v = refl
same_joins image (Thumb n) at w v = rw (half_kept image (Thumb n) at w (at + 2) (inr (omega arith)))

behind_kept : (image : List ℕ) (s : Set) (at w v : ℕ) → joins s at v (half image (at + 2)) ≡ true → half (stored image s at w) (at + 2) ≡ half image (at + 2)
behind_kept image Arm at w v e = absurd (true≢false (sym e))
behind_kept image (Thumb n) at w v e = half_kept image (Thumb n) at w (at + 2) (inr (omega arith))

-- a pair's line is not that of its first half
pair_apart : (s : Set) (p at w behind : ℕ) (l : List ℕ) → joins s at w behind ≡ true → w < words_of s → word_line s p w ≡ line l → pair_line p w behind ≡ line l → ⊥
pair_apart Arm p at w behind l j h e f = absurd (true≢false (sym j))
pair_apart (Thumb n) p at w behind l j h e f = no_half p p w behind w h (e ∙ sym (ap line (is_printed p w behind l f).1))

-- ---- what is refused, and what is stored
-- whatever its line, a patch is refused with 6, 7 or 8 alone
place_number : (P : Result ⊤ Refusal → Type 0) (image list : List ℕ) (at : ℕ) → P (Ok tt) → P (Err WrongImage) → P (Err WrongStretches) → P (Err WrongPlace) → P (patch_refusal image list at)
unfolding patch_refusal refusal_at refusal
place_number P image list at none six seven eight =
    by_test (wrong_image image)
    (λ a. rw a six)
    (λ a. by_test (wrong_list image list)
    (λ b. rw (a, b) seven)
    (λ b. by_test (wrong_place image list at)
    (λ c. rw (a, b, c) eight)
    (λ c. by_test (leb (length image) at) (λ d. rw (a, b, c, d) eight) (λ d. rw (a, b, c, d) none))))

-- by what a check answered
by_check : {C : Type 0} (x : Result ⊤ Refusal) → (x ≡ Ok tt → C) → ((r : Refusal) → x ≡ Err r → C) → C
by_check (Ok done) f g = f refl
by_check (Err r) f g = g r refl

apart : {r : Refusal} → ◌≡◌ {A = Result ⊤ Refusal} (Ok tt) (Err r) → ⊥
apart e = let z : ◌≡◌ {A = ℕ} 0 1 = cc in omega arith

other : {r : Refusal} → (number r ≡ 4 → ⊥) → ◌≡◌ {A = Result ⊤ Refusal} (Err r) (Err NoWord) → ⊥
other {r} f e = let q : r ≡ NoWord = cc in f (ap number q)

abbrev answer : Result ⊤ Refusal × List ℕ → Result ⊤ Refusal
answer z = z.0

abbrev step_answer : Listed × List ℕ → Result Listed Refusal × List ℕ
step_answer z = (Ok z.0, z.1)

abbrev then : Result ⊤ Refusal × List ℕ → List ℕ
then z = z.1

module _ (image list : List ℕ) (base at : ℕ) (l : List ℕ) where
  abbrev s : Set
  s = set_at (pairs list) at

  abbrev p : ℕ
  p = moved base at

  -- where the place is not refused: 4 if no word of the set there prints the line, and nothing is written
  pub none_four : patch_refusal image list at ≡ Ok tt → ((w : ℕ) → w < words_of s → word_line s p w ≡ line l → ⊥) → patched image list base at l ≡ (Err NoWord, image)
  unfolding patched patched_in
  none_four e n = rw (e, none_read (word_line s p) (words_of s) l n, le-ltb (words_of s) (words_of s) (le_refl (words_of s)))

  -- and only then
  pub four_none : (image' : List ℕ) → patched image list base at l ≡ (Err NoWord, image') → (w : ℕ) → w < words_of s → word_line s p w ≡ line l → ⊥
  unfolding patched patched_in
  four_none image' e w h q =
      by_check (patch_refusal image list at)
      (λ t. by_test (ltb (read_in s p l) (words_of s))
      (λ u. let z : ◌≡◌ {A = Result ⊤ Refusal} (Ok tt) (Err NoWord) = ap answer (rw (t, u) at e) in absurd (apart z))
      (λ u. let m = read_most (word_line s p) (words_of s) l in let n = ltb-false (read_in s p l) (words_of s) u in
      none_prints (word_line s p) (words_of s) l (omega (arith, m, n)) w h q))
      (λ r t. let z : ◌≡◌ {A = Result ⊤ Refusal} (Err r) (Err NoWord) = ap answer (rw t at e) in
      place_number (λ (x : Result ⊤ Refusal). x ≡ Err NoWord → ⊥) image list at apart (other (λ y. omega arith)) (other (λ y. omega arith)) (other (λ y. omega arith)) (t ∙ z))

  -- else the lowest that does is written
  pub some_stored : patch_refusal image list at ≡ Ok tt → (w : ℕ) → w < words_of s → word_line s p w ≡ line l → OthersHigher (word_line s p) (words_of s) l w
      → patched image list base at l ≡ (Ok tt, stored image s at w)
  unfolding patched patched_in
  some_stored e w h q o = rw (e, prints_read (word_line s p) (words_of s) l w h q o, lt-ltb w (words_of s) h)

  -- "A refused patch writes nothing."
  pub refused_keeps : (r : Refusal) (image' : List ℕ) → patched image list base at l ≡ (Err r, image') → image' ≡ image
  unfolding patched patched_in
  refused_keeps r image' e =
      by_check (patch_refusal image list at)
      (λ t. by_test (ltb (read_in s p l) (words_of s))
      (λ u. let z : ◌≡◌ {A = Result ⊤ Refusal} (Ok tt) (Err r) = ap answer (rw (t, u) at e) in absurd (apart z))
      (λ u. let q : ◌≡◌ {A = Result ⊤ Refusal × List ℕ} (Err NoWord, image) (Err r, image') = rw (t, u) at e in sym (ap then q)))
      (λ n t. let q : ◌≡◌ {A = Result ⊤ Refusal × List ℕ} (Err n, image) (Err r, image') = rw t at e in sym (ap then q))

  -- it is done, or refused with 6, 7, 8 or 4
  pub patch_number : (P : Result ⊤ Refusal → Type 0) → P (Ok tt) → P (Err NoWord) → P (Err WrongImage) → P (Err WrongStretches) → P (Err WrongPlace) → P (patched image list base at l).0
  unfolding patched patched_in
  patch_number P none four six seven eight =
      by_check (patch_refusal image list at)
      (λ t. by_test (ltb (read_in s p l) (words_of s)) (λ u. rw (t, u) none) (λ u. rw (t, u) four))
      (λ r t. rw t (rw t at (place_number P image list at none six seven eight)))

-- "a pair needs two patches": in Thumb the line of a pair is refused with 4
pub pair_four : (image list : List ℕ) (base at e q first second : ℕ) → patch_refusal image list at ≡ Ok tt → set_at (pairs list) at ≡ Thumb e → patched image list base at (pair_text q first second) ≡ (Err NoWord, image)
pair_four image list base at e q first second r t =
    none_four image list base at (pair_text q first second) r (rw t (λ w h f. no_half (moved base at) q first second w h f))

-- ---- a patch that is not refused
module _ (image list : List ℕ) (base at : ℕ) (l image' : List ℕ) (e : patched image list base at l ≡ (Ok tt, image')) where
  abbrev set : Set
  set = set_at (pairs list) at

  abbrev pc : ℕ
  pc = moved base at

  -- the word that the line reads as, and the halfword behind it
  abbrev w : ℕ
  w = read_in set pc l

  abbrev behind : ℕ
  behind = half image (at + 2)

  allowed : patch_refusal image list at ≡ Ok tt
  unfolding patched
  allowed = by_check (patch_refusal image list at) (λ t. t) (λ r t. let z : ◌≡◌ {A = Result ⊤ Refusal} (Err r) (Ok tt) = ap answer (rw t at e) in absurd (apart (sym z)))

  in_set : patched_in image set pc at l ≡ (Ok tt, image')
  unfolding patched
  in_set = rw allowed at e

  done : (w < words_of set) × (image' ≡ stored image set at w)
  unfolding patched_in
  done =
      by_test (ltb w (words_of set))
      (λ t. let q : ◌≡◌ {A = Result ⊤ Refusal × List ℕ} (Ok tt, stored image set at w) (Ok tt, image') = rw t at in_set in (ltb-true _ _ t, sym (ap then q)))
      (λ t. let z : ◌≡◌ {A = Result ⊤ Refusal} (Err NoWord) (Ok tt) = ap answer (rw t at in_set) in absurd (apart (sym z)))

  -- the word stands there: the lowest of the set that prints the line
  pub word_there : word_in image' set at ≡ w
  word_there = rw done.1 (stored_there image set at w (room image list at allowed) done.0)

  pub word_prints : word_line set pc (word_in image' set at) ≡ line l
  word_prints = rw word_there (read_prints (word_line set pc) (words_of set) l w done.0 refl).0

  pub word_lowest : OthersHigher (word_line set pc) (words_of set) l (word_in image' set at)
  word_lowest = rw word_there (read_prints (word_line set pc) (words_of set) l w done.0 refl).1

  -- image and stretches stay valid: there are as many bytes, and the same images, stretches and places are refused
  pub length_kept : length image' ≡ length image
  length_kept = rw done.1 (stored_length image set at w)

  pub refusal_kept : refusal image' list ≡ refusal image list
  unfolding refusal
  refusal_kept = rw length_kept

  pub places_kept : (k : ℕ) → refusal_at image' list k ≡ refusal_at image list k
  unfolding refusal_at
  places_kept k = rw (refusal_kept, length_kept)

  -- all bytes, halfwords and words elsewhere are as they were
  pub bytes_kept : (k : ℕ) → Apart k 1 at (unit set) → get_or image' k 0 ≡ get_or image k 0
  bytes_kept k a = rw done.1 (stored_other image set at w k a)

  pub halves_kept : (k : ℕ) → Apart k 2 at (unit set) → half image' k ≡ half image k
  halves_kept k a = rw done.1 (half_kept image set at w k a)

  pub words_kept : (k : ℕ) → Apart k 4 at (unit set) → word image' k ≡ word image k
  words_kept k a = rw done.1 (word_kept image set at w k a)

  -- ---- the step there, of the altered image
  fine : refusal_at image' list at ≡ Ok tt
  fine = places_kept at ∙ may_resume image list at allowed

  has_step_lem : has_step image' (pairs list) at ≡ true
  has_step_lem = step_there image' list (valid image' list (not_refused image' list at fine)) at (rw length_kept (before_end image list at allowed)) (placed image' list at fine)

  joins_now : joins set at (word_in image' set at) (half image' (at + 2)) ≡ joins set at w behind
  joins_now = rw (word_there, done.1) (same_joins image set at w w)

  -- where the word joins no pair, the step "prints just that line"
  alone_shows : joins set at w behind ≡ false → (span_bytes (span_at image' (pairs list) at) ≡ unit set) × (span_line image' (span_at image' (pairs list) at) pc at ≡ line l)
  alone_shows j = let a = alone_span image' set pc at (joins_now ∙ j) in (a.0, a.1 ∙ word_prints)

  pub shows_line : joins set at w behind ≡ false → steps image' list base at ≡ record { offset = at; bytes = unit set; shows = line l } ∷ steps image' list base (at + unit set)
  shows_line j = let a = alone_shows j in steps_next image' list base at has_step_lem ∙ rw (a.0, a.1)

  pub step_line : joins set at w behind ≡ false → (ys : List ℕ) → 80 ≤ length ys → list_step image' list base at ys ≡ (Ok (Line at (unit set) (length l)), l ++ drop (length l) ys)
  step_line j ys fits =
      let a = alone_shows j in
      let x = span_at image' (pairs list) at in
      let e : listed image' (pairs list) base at ys ≡ (Line at (unit set) (length l), l ++ drop (length l) ys) =
      listed_line image' (pairs list) base at ys has_step_lem l a.1 (rw a.1 at (span_whole image' x pc at)) fits ∙ rw a.0 in
      step_given image' list base at ys fine ∙ ap step_answer e

  -- where it joins one, the step is the pair, and its line is another
  pub shows_pair : joins set at w behind ≡ true → steps image' list base at ≡ record { offset = at; bytes = 4; shows = pair_line pc w behind } ∷ steps image' list base (at + 4)
  shows_pair j =
      let a = pair_span image' set pc at (joins_now ∙ j) in
      let b : half image' (at + 2) ≡ behind = rw done.1 (behind_kept image set at w w j) in
      steps_next image' list base at has_step_lem ∙ rw (a.0, a.1, word_there, b)

  pub pair_other : joins set at w behind ≡ true → pair_line pc w behind ≡ line l → ⊥
  pair_other j f = pair_apart set pc at w behind l j done.0 (rw word_there at word_prints) f
