-- A listing of a moved image, run into any buffer in any number of calls, shows what the listing of the image shows, with each address raised. Assumes nothing.
use Rattle.std.proofs.Common.{◌≡◌, ℕ, zero, suc, ◌+◌, ◌%◌, ◌≤◌, true, eqb, ltb, List, [], ◌++◌, length, drop, length-append, length-drop, Result, Ok, Err, refl, sym, ◌∙◌, arith}
use lib.Seq.{take_at}
use borrow.Author.Tests.{le-ltb, ltb-false}
use Rattle.std.specs.Prelude.{⊤}
use Rattle.common.proofs.Tests.{by_test}
use Rattle.arm7tdmi.specs.Signed.{moved}
use Rattle.refusal.specs.Refusal.{number}
use Rattle.refusal.specs.declared.Refusal.{Refusal}
use Rattle.lines.specs.Answer.{Answer, refused, line, printed}
use Rattle.image.specs.Refusal.{refusal_at}
use Rattle.image.specs.Bytes.{half, word}
use Rattle.image.specs.Stretches.{pairs}
use Rattle.image.specs.declared.Image.{Image}
use Rattle.image.specs.declared.Stretch.{Stretch}
use Rattle.steps.specs.Steps.{Step, span_at, span_bytes, span_line, has_step}
use Rattle.steps.specs.Listed.{listed, next_place, told_of}
use Rattle.steps.specs.declared.Span.{Span}
use Rattle.steps.specs.declared.Span.TheVariants.{Word, Half, Pair}
use Rattle.steps.proofs.Answers.{listed_end}
use Rattle.steps.proofs.Steps.{no_step}
use Rattle.listing.specs.declared.Listing.{Listing}
use Rattle.listing.specs.Listing.{Resumed, held_of, place_of}
use Rattle.listing.specs.Run.{run, run_from, shown}
use Rattle.line_address.specs.Elsewhere.{raised, showing, with_address}
use Rattle.line_address.proofs.Arm.{arm_same}
use Rattle.line_address.proofs.Thumb.{pair_same, thumb_same}
use Rattle.moved_image.specs.Moved.{raised_steps, step_address}
use Rattle.moved_image.proofs.Steps.{shown_moved}

-- what a print answers for a buffer is the same at both addresses
span_same : (image : List ℕ) (x : Span) (p d at : ℕ) (ys : List ℕ) → (printed (span_line image x (moved p d) at) ys).0 ≡ (printed (span_line image x p at) ys).0
unfolding span_line
span_same image Word p d at ys = arm_same (word image at) p d ys
span_same image Half p d at ys = thumb_same (half image at) p d ys
span_same image Pair p d at ys = pair_same (half image at) (half image (at + 2)) p d ys

-- so two lines of which that holds for every buffer are of one length
roomy : (bs ys : List ℕ) → length bs ≤ length ys → (printed (line bs) ys).0 ≡ Ok (length bs)
unfolding printed
roomy bs ys h = rw (le-ltb (length ys) (length bs) h)

as_long : {a b : Answer} (xs bs : List ℕ) → a ≡ line xs → b ≡ line bs → ((ys : List ℕ) → (printed a ys).0 ≡ (printed b ys).0) → length xs ≡ length bs
as_long xs bs s e f =
    let ys = xs ++ bs in
    let n : length ys ≡ length xs + length bs = simp length-append in
    let g : (printed (line xs) ys).0 ≡ (printed (line bs) ys).0 = rw (s, e) at (f ys) in
    let h = sym (roomy xs ys (omega arith)) ∙ g ∙ roomy bs ys (omega arith) in
    cc

module _ (d : ℕ) (fours : d % 4 ≡ 0) (image : Image) where
  abbrev bytes : List ℕ
  bytes = image.bytes.now

  abbrev list : List ℕ
  list = image.stretches.now

  abbrev ss : List Stretch
  ss = pairs list

  -- what a call shows, and those behind it
  abbrev called : ℕ → ℕ → List ℕ → ℕ → List Step
  called base at ys calls = let a = listed bytes ss base at ys in shown a.0 a.1 (run_from bytes list base (next_place a.0) a.1 calls)

  -- at a place with a step
  module _ (at : ℕ) (here : has_step bytes ss at ≡ true) where
    abbrev x : Span
    x = span_at bytes ss at

    listed_as : (base : ℕ) (ys : List ℕ) (a : Answer) → span_line bytes x (moved base at) at ≡ a → listed bytes ss base at ys ≡ told_of at (span_bytes x) (printed a ys)
    unfolding listed
    listed_as base ys a e = rw (here, e)

    module _ (calls : ℕ) (ys zs : List ℕ) (same : length zs ≡ length ys)
        (ih : (us vs : List ℕ) → length vs ≡ length us
        → run_from bytes list (moved image.base d) (at + span_bytes x) vs calls ≡ raised_steps image d (run_from bytes list image.base (at + span_bytes x) us calls)) where
      by_answer : (a : Answer) → span_line bytes x (moved image.base at) at ≡ a → called (moved image.base d) at zs calls ≡ raised_steps image d (called image.base at ys calls)
      unfolding showing printed
      by_answer (refused k) e =
          let s : span_line bytes x (moved (moved image.base d) at) at ≡ refused k = shown_moved d fours image at ∙ rw e in
          let listed_here = listed_as image.base ys (refused k) e in
          let listed_there = listed_as (moved image.base d) zs (refused k) s in
          by_test (eqb (number k) 3) (λ t. rw (listed_here, listed_there, t)) (λ t. rw (listed_here, listed_there, t, ih ys zs same))
      by_answer (line bs) e =
          let xs = with_address (raised d (step_address image at)) bs in
          let p : moved (moved image.base d) at ≡ moved (moved image.base at) d = omega arith in
          let s : span_line bytes x (moved (moved image.base d) at) at ≡ line xs = shown_moved d fours image at ∙ rw e in
          let n : length xs ≡ length bs = as_long xs bs (rw p at s) e (span_same bytes x (moved image.base at) d at) in
          let listed_here = listed_as image.base ys (line bs) e in
          let listed_there = listed_as (moved image.base d) zs (line xs) s in
          by_test (ltb (length ys) (length bs))
          (λ t. rw (listed_here, listed_there, n, same, t))
          (λ t.
          let k = ltb-false (length ys) (length bs) t in
          let us = bs ++ drop (length bs) ys in
          let vs = xs ++ drop (length bs) zs in
          let w : length vs ≡ length us = simp (length-append, length-drop) (omega arith) in
          rw (listed_here, listed_there, n, same, t, take_at bs (drop (length bs) ys) (length bs) refl, take_at xs (drop (length bs) zs) (length bs) n, ih us vs w))

  run_moved_for : (calls at : ℕ) (ys zs : List ℕ) → length zs ≡ length ys → run_from bytes list (moved image.base d) at zs calls ≡ raised_steps image d (run_from bytes list image.base at ys calls)
  unfolding run_from
  run_moved_for zero at ys zs same = refl
  run_moved_for (suc calls) at ys zs same =
      let ih = run_moved_for calls (at + span_bytes (span_at bytes ss at)) in
      by_test (has_step bytes ss at)
      (λ t. by_answer at t calls ys zs same ih (span_line bytes (span_at bytes ss at) (moved image.base at) at) refl)
      (λ t. rw (listed_end bytes ss image.base at ys t, listed_end bytes ss (moved image.base d) at zs t))

  -- of a listing that is refused, and holds no bytes, there is nothing to show
  nothing : (base : ℕ) (ys : List ℕ) (calls : ℕ) → run_from [] [] base 0 ys calls ≡ []
  unfolding run_from
  nothing base ys zero = refl
  nothing base ys (suc calls) = rw (listed_end [] (pairs []) base 0 ys (no_step [] (pairs []) 0 (omega arith)))

  run_held : (r : Result ⊤ Refusal) (offset : ℕ) (ys zs : List ℕ) → length zs ≡ length ys → (calls : ℕ)
      → run_from (held_of bytes r) (held_of list r) (moved image.base d) (place_of offset r) zs calls
      ≡ raised_steps image d (run_from (held_of bytes r) (held_of list r) image.base (place_of offset r) ys calls)
  run_held (Ok done) offset ys zs same calls = run_moved_for calls offset ys zs same
  run_held (Err k) offset ys zs same calls = rw (nothing (moved image.base d) zs calls, nothing image.base ys calls)

  pub run_moved : (offset : ℕ) (here there : Listing) → Resumed bytes list image.base offset here → Resumed bytes list (moved image.base d) offset there
      → (ys zs : List ℕ) → length zs ≡ length ys → (calls : ℕ) → run there zs calls ≡ raised_steps image d (run here ys calls)
  run_moved offset here there h t ys zs same calls =
      rw (h.image_held, h.stretches_held, h.base_held, h.place_held, t.image_held, t.stretches_held, t.base_held, t.place_held)
      (run_held (refusal_at bytes list offset) offset ys zs same calls)
