-- What a step answers: its offset, how far it moves on, and which refusals there are. Assumes nothing.
use Rattle.std.proofs.Common.{◌≡◌, ℕ, ◌+◌, ◌-◌, ◌≤◌, true, false, eqb, leb, List, ◌++◌, length, drop, refl, arith, ne_eqb, ap, Result, Ok, Err}
use Rattle.common.proofs.Tests.{and_right, by_test}
use Rattle.arm7tdmi.specs.Signed.{moved}
use Rattle.arm7tdmi.specs.declared.Form.TheVariants.{Sheet}
use Rattle.lines.specs.Answer.{refused, line, printed}
use Rattle.refusal.specs.Refusal.{number}
use Rattle.refusal.specs.declared.Refusal.{Refusal}
use Rattle.lines.proofs.Whole.{Whole, with_room, print_kept}
use Rattle.arm_print.proofs.Whole.{WordRefusal, arm_whole, arm_refusals}
use Rattle.thumb.specs.Pair.{is_pair}
use Rattle.thumb_print.specs.Print.{thumb_line}
use Rattle.thumb_print.proofs.Lengths.{thumb_whole}
use Rattle.pairs.specs.Print.{pair_line}
use Rattle.pairs.proofs.Printing.{pair_length, pair_prints}
use Rattle.image.specs.Bytes.{half, word}
use Rattle.image.specs.Refusal.{refusal_at}
use Rattle.image.specs.Stretches.{pairs, set_at}
use Rattle.image.specs.declared.Stretch.{Stretch}
use Rattle.image.specs.declared.Set.{Set}
use Rattle.steps.specs.Steps.{call_pair, span_in, span_at, span_bytes, span_line, has_step}
use Rattle.steps.specs.Listed.{listed_offset, listed_bytes, told, listed, list_step, step_unless}
use Rattle.steps.specs.declared.Span.{Span}
use Rattle.steps.specs.declared.Span.TheVariants.{Word, Half, Pair}
use Rattle.std.specs.Prelude.{⊤}
use Rattle.steps.specs.declared.Listed.{Listed}
use Rattle.steps.specs.declared.Listed.TheVariants.{Line, Refused, End}
use Rattle.steps.proofs.Steps.{step_inside}

-- ---- what is told
told_offset : (at n : ℕ) (p : Result ℕ Refusal) → listed_offset (told at n p) ≡ at
told_offset at n (Ok m) = refl
told_offset at n (Err r) = by_test (eqb (number r) 3) (λ u. rw u) (λ u. rw u)

told_bytes : (at n : ℕ) (p : Result ℕ Refusal) → listed_bytes (told at n p) ≤ n
told_bytes at n (Ok m) = omega arith
told_bytes at n (Err r) = by_test (eqb (number r) 3) (λ u. rw u (omega arith)) (λ u. rw u (omega arith))

module _ (image : List ℕ) (ss : List Stretch) (base at : ℕ) (l : List ℕ) where
  abbrev said : Result ℕ Refusal
  said = (printed (span_line image (span_at image ss at) (moved base at) at) l).0

  -- the offset is the place
  pub listed_offset_lem : listed_offset (listed image ss base at l).0 ≡ at
  unfolding listed
  listed_offset_lem = by_test (has_step image ss at) (λ t. rw t (told_offset at (span_bytes (span_at image ss at)) said)) (λ t. rw t)

  -- a step moves on inside the image
  pub listed_inside : listed_bytes (listed image ss base at l).0 ≤ length image - at
  unfolding listed
  listed_inside =
      by_test (has_step image ss at)
      (λ t. let b = told_bytes at (span_bytes (span_at image ss at)) said in let i = step_inside image ss at t in rw t (omega (arith, b, i)))
      (λ t. rw t (omega arith))

  -- the buffer stays as long as it is
  pub listed_kept : length (listed image ss base at l).1 ≡ length l
  unfolding listed
  listed_kept = by_test (has_step image ss at) (λ t. rw t (print_kept (span_line image (span_at image ss at) (moved base at) at) l)) (λ t. rw t)

  -- the end mark, whatever the buffer
  pub listed_end : has_step image ss at ≡ false → listed image ss base at l ≡ (End at, l)
  unfolding listed
  listed_end t = rw t

  -- a word's refusal, whatever the buffer: it comes before 3
  pub listed_refused : has_step image ss at ≡ true → (k : Refusal) → span_line image (span_at image ss at) (moved base at) at ≡ refused k → Whole (refused k)
      → listed image ss base at l ≡ (Refused k at (span_bytes (span_at image ss at)), l)
  unfolding listed printed
  listed_refused t k e w = rw (t, e, ne_eqb (number k) 3 w.1)

  -- a line, where the buffer has room for any
  pub listed_line : has_step image ss at ≡ true → (bs : List ℕ) → span_line image (span_at image ss at) (moved base at) at ≡ line bs → Whole (line bs) → 80 ≤ length l
      → listed image ss base at l ≡ (Line at (span_bytes (span_at image ss at)) (length bs), bs ++ drop (length bs) l)
  unfolding listed
  listed_line t bs e w room = rw (t, e, with_room bs l w room)

-- ---- which answers there are
-- what a step shows is a line of at most 80 bytes, or a refusal of its own
pair_whole : (p first second : ℕ) → Whole (pair_line p first second)
unfolding pair_line
pair_whole p first second =
    let n = pair_length p first second in
    by_test (is_pair first second) (λ t. rw t (omega (arith, n))) (λ t. rw t (omega arith, λ z. omega arith))

pub span_whole : (image : List ℕ) (x : Span) (p at : ℕ) → Whole (span_line image x p at)
unfolding span_line
span_whole image Word p at = arm_whole Sheet p (word image at)
span_whole image Half p at = thumb_whole Sheet p (half image at)
span_whole image Pair p at = pair_whole p (half image at) (half image (at + 2))

-- a halfword is not refused, nor is a call pair
half_shown : (p h : ℕ) (k : Refusal) → thumb_line Sheet p h ≡ refused k → ⊥
unfolding thumb_line
half_shown p h k e = let z : ◌≡◌ {A = ℕ} 0 1 = cc in omega arith

pair_shown : (image : List ℕ) (n p at : ℕ) (k : Refusal) → call_pair image n at ≡ true → pair_line p (half image at) (half image (at + 2)) ≡ refused k → ⊥
unfolding call_pair
pair_shown image n p at k t e =
    let f = pair_prints p (half image at) (half image (at + 2)) (and_right (leb (at + 4) n) (is_pair (half image at) (half image (at + 2))) t) in
    let z : ◌≡◌ {A = ℕ} 0 1 = cc in omega arith

-- "refusal 1 or 2 for that word", and 9, "as for 1 and 2": it is an ARM word, so of 4 bytes
pub word_refusals : (image : List ℕ) (s : Set) (p at : ℕ) (k : Refusal) → span_line image (span_in image s at) p at ≡ refused k → (span_bytes (span_in image s at) ≡ 4) × WordRefusal Sheet k
unfolding span_in span_line
word_refusals image Set.Arm p at k e = (refl, arm_refusals Sheet p (word image at) k e)
word_refusals image (Set.Thumb n) p at k e =
    by_test (call_pair image n at)
    (λ t. absurd (pair_shown image n p at k t (rw t at e)))
    (λ t. absurd (half_shown p (half image at) k (rw t at e)))

-- ---- pairs that are left
-- a step goes by the set at its place alone, so pairs that end before it, or there, may be dropped
pub listed_same : (image : List ℕ) (ss ts : List Stretch) (base at : ℕ) (l : List ℕ) → set_at ss at ≡ set_at ts at → listed image ss base at l ≡ listed image ts base at l
unfolding listed
listed_same image ss ts base at l e = rw e

-- ---- one step at any place
-- its offset is the place, or 0, and it has few bytes: both fit in 32 bits where the place does
few_bytes : (x : Span) → span_bytes x ≤ 4
few_bytes Word = omega arith
few_bytes Half = omega arith
few_bytes Pair = omega arith

listed_few : (image : List ℕ) (ss : List Stretch) (base at : ℕ) (l : List ℕ) → listed_bytes (listed image ss base at l).0 ≤ 4
unfolding listed
listed_few image ss base at l =
    let x = span_at image ss at in
    let b = told_bytes at (span_bytes x) (said image ss base at l) in
    let f = few_bytes x in
    by_test (has_step image ss at) (λ t. rw t (omega (arith, b, f))) (λ t. rw t (omega arith))

pub listed_small : (image : List ℕ) (ss : List Stretch) (base at : ℕ) (l : List ℕ) → (listed_offset (listed image ss base at l).0 ≤ at) × (listed_bytes (listed image ss base at l).0 ≤ 4)
listed_small image ss base at l = let o = listed_offset_lem image ss base at l in (omega (arith, o), listed_few image ss base at l)

-- what a step of an image that is not refused gives
pub step_given : (image list : List ℕ) (base at : ℕ) (l : List ℕ) → refusal_at image list at ≡ Ok tt
    → list_step image list base at l ≡ (Ok (listed image (pairs list) base at l).0, (listed image (pairs list) base at l).1)
unfolding list_step
step_given image list base at l e = rw e

given : (x : Result ⊤ Refusal) (s : Listed × List ℕ) (l : List ℕ) (r : Listed) (zs : List ℕ) → step_unless x s l ≡ (Ok r, zs) → (x ≡ Ok tt) × (s ≡ (r, zs))
given (Ok done) s l r zs e =
    let q : Ok s.0 ≡ Ok r = ap (λ (x : Result Listed Refusal × List ℕ). x.0) e in
    let a : s.0 ≡ r = cc in
    let b : s.1 ≡ zs = ap (λ (x : Result Listed Refusal × List ℕ). x.1) e in
    (refl, rw (← a, ← b))
given (Err n) s l r zs e =
    let q : Err n ≡ Ok r = ap (λ (x : Result Listed Refusal × List ℕ). x.0) e in
    let z : ◌≡◌ {A = ℕ} 0 1 = cc in
    absurd (omega arith)

-- and where one gives a step, the place is not refused
pub step_from_place : (image list : List ℕ) (base at : ℕ) (l : List ℕ) (r : Listed) (zs : List ℕ) → list_step image list base at l ≡ (Ok r, zs)
    → (refusal_at image list at ≡ Ok tt) × (listed image (pairs list) base at l ≡ (r, zs))
unfolding list_step
step_from_place image list base at l r zs e = given (refusal_at image list at) (listed image (pairs list) base at l) l r zs e

pub step_small : (image list : List ℕ) (base at : ℕ) (l : List ℕ) (r : Listed) (zs : List ℕ) → list_step image list base at l ≡ (Ok r, zs) → (listed_offset r ≤ at) × (listed_bytes r ≤ 4)
step_small image list base at l r zs e =
    let s = (step_from_place image list base at l r zs e).1 in
    let b = listed_small image (pairs list) base at l in
    (rw s at b.0, rw s at b.1)
