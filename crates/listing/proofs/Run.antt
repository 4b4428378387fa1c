-- The steps of a listing that holds its place: they are those of the image from there on, however often it is put aside and resumed. Assumes nothing.
use Rattle.std.proofs.Common.{◌≡◌, ℕ, zero, suc, ◌+◌, ◌-◌, ◌≤◌, true, List, [], ◌∷◌, ◌++◌, length, drop, length-append, length-drop, Result, Ok, Err, add-zero, refl, ap, sym, ◌∙◌, arith}
use lib.Seq.{take_at}
use Rattle.std.specs.Prelude.{⊤}
use Rattle.common.proofs.Tests.{by_test}
use Rattle.arm7tdmi.specs.Signed.{moved}
use Rattle.refusal.specs.declared.Refusal.{Refusal}
use Rattle.lines.specs.Answer.{Answer, refused, line}
use Rattle.lines.proofs.Whole.{Whole}
use Rattle.image.specs.Refusal.{refusal, refusal_at}
use Rattle.image.specs.Stretches.{pairs}
use Rattle.image.specs.declared.Image.{Image}
use Rattle.image.specs.declared.Stretch.{Stretch}
use Rattle.image.proofs.Valid.{start, start_same}
use Rattle.steps.specs.Steps.{Step, step_of, span_at, span_bytes, span_line, has_step, steps_for, steps}
use Rattle.steps.specs.Listed.{listed, list_step, next_place}
use Rattle.steps.specs.declared.Listed.{Listed}
use Rattle.steps.specs.declared.Listed.TheVariants.{End}
use Rattle.steps.specs.declared.Span.{Span}
use Rattle.steps.proofs.Answers.{listed_end, listed_line, listed_refused, span_whole, step_given}
use Rattle.steps.proofs.Places.{next_listed}
use Rattle.steps.proofs.Steps.{enough, no_step}
use Rattle.listing.specs.declared.Listing.{Listing}
use Rattle.listing.specs.Listing.{held_of, place_of, refusal_of, Opened, Resumed, step_from, SteppedIs}
use Rattle.listing.specs.Run.{run, run_from, shown}

-- ---- a run
module _ (image list : List ℕ) (base : ℕ) where
  abbrev ss : List Stretch
  ss = pairs list

  -- what a call and those behind it show
  abbrev called : ℕ → List ℕ → ℕ → List Step
  called at ys calls = let a = listed image ss base at ys in shown a.0 a.1 (run_from image list base (next_place a.0) a.1 calls)

  module _ (at : ℕ) where
    abbrev x : Span
    x = span_at image ss at

    abbrev behind : ℕ → List Step
    behind calls = steps_for image ss base (at + span_bytes x) calls

    -- one call where there is a step, by what the calls behind it show
    one_call : (ys : List ℕ) (calls : ℕ) → 80 ≤ length ys → has_step image ss at ≡ true → ((zs : List ℕ) → 80 ≤ length zs → run_from image list base (at + span_bytes x) zs calls ≡ behind calls)
        → called at ys calls ≡ step_of image x base at ∷ behind calls
    one_call ys calls room t ih = by_answer (span_line image x (moved base at) at) refl (span_whole image x (moved base at) at)
      where
        by_answer : (b : Answer) → span_line image x (moved base at) at ≡ b → Whole b → called at ys calls ≡ step_of image x base at ∷ behind calls
        by_answer (refused k) e w = rw (listed_refused image ss base at ys t k e w, e, ih ys room)
        by_answer (line bs) e w =
            let zs = bs ++ drop (length bs) ys in
            let n : 80 ≤ length zs = simp (length-append, length-drop) (omega arith) in
            rw (listed_line image ss base at ys t bs e w room, e, take_at bs (drop (length bs) ys) (length bs) refl, ih zs n)

  -- all calls
  run_for : (calls at : ℕ) (ys : List ℕ) → 80 ≤ length ys → run_from image list base at ys calls ≡ steps_for image ss base at calls
  unfolding run_from steps_for
  run_for zero at ys room = refl
  run_for (suc calls) at ys room =
      let ih = run_for calls (at + span_bytes (x at)) in
      by_test (has_step image ss at)
      (λ t. rw t (one_call at ys calls room t ih))
      (λ t. rw (t, listed_end image ss base at ys t))

-- The lines "to come are what the altered image lists from that offset": a listing that was resumed, run into a buffer of 80 bytes or more in as many calls as
-- there are bytes left or more, shows just the steps of the image from there on
pub run_resumed : (image list : List ℕ) (base offset : ℕ) (l : Listing) (ys : List ℕ) (calls : ℕ) → Resumed image list base offset l → refusal_at image list offset ≡ Ok tt → 80 ≤ length ys
    → length image - offset ≤ calls → run l ys calls ≡ steps image list base offset
unfolding steps
run_resumed image list base offset l ys calls o e room h =
    let xs : l.walk.image.bytes.now ≡ image = rw e at o.image_held in
    let ls : l.walk.image.stretches.now ≡ list = rw e at o.stretches_held in
    let at : l.walk.place ≡ offset = rw e at o.place_held in
    rw (xs, ls, o.base_held, at) (run_for image list base calls offset ys room ∙ enough image (pairs list) base calls (length image - offset) offset h (omega arith))

-- "Over a full listing": one that was opened shows just the steps of the image
pub run_steps : (image list : List ℕ) (base : ℕ) (l : Listing) (ys : List ℕ) (calls : ℕ) → Opened image list base l → refusal image list ≡ Ok tt → 80 ≤ length ys → length image ≤ calls
    → run l ys calls ≡ steps image list base 0
run_steps image list base l ys calls o e room h = run_resumed image list base 0 l ys calls o (start image list e) room (omega arith)

-- "A resumption refused with 6, 7 or 8 holds no bytes and stands at offset 0", so it gives the end mark there; "as in (v)" one that was opened does
refused_by : (x : Result ⊤ Refusal) → (x ≡ Ok tt → ⊥) → ((bytes : List ℕ) → held_of bytes x ≡ []) × ((offset : ℕ) → place_of offset x ≡ 0)
refused_by (Ok done) f = absurd (f refl)
refused_by (Err r) f = (λ bytes. refl, λ offset. refl)

pub refused_resumed : (image list : List ℕ) (base offset : ℕ) (l : Listing) (ys : List ℕ) → Resumed image list base offset l → (refusal_at image list offset ≡ Ok tt → ⊥) → step_from l ys ≡ (End 0, ys)
refused_resumed image list base offset l ys o f =
    let n = refused_by (refusal_at image list offset) f in
    let i = l.walk.image in
    let xs : i.bytes.now ≡ [] = o.image_held ∙ n.0 image in
    let at : l.walk.place ≡ 0 = o.place_held ∙ n.1 offset in
    listed_end i.bytes.now (pairs i.stretches.now) i.base l.walk.place ys (no_step i.bytes.now (pairs i.stretches.now) l.walk.place (rw xs (omega arith))) ∙ rw at

pub refused_ends : (image list : List ℕ) (base : ℕ) (l : Listing) (ys : List ℕ) → Opened image list base l → (refusal image list ≡ Ok tt → ⊥) → step_from l ys ≡ (End 0, ys)
refused_ends image list base l ys o f = refused_resumed image list base 0 l ys o (λ z. f (sym (start_same image list) ∙ z))

-- one that was opened has 6, 7 or no refusal, and stands at the start
pub opened_as : (image list : List ℕ) (base : ℕ) (l : Listing) → Opened image list base l → (l.refusal ≡ refusal_of (refusal image list)) × (l.walk.place ≡ 0)
opened_as image list base l o = (o.refusal_held ∙ ap refusal_of (start_same image list), o.place_held ∙ at_start (refusal_at image list 0))
  where
    at_start : (x : Result ⊤ Refusal) → place_of 0 x ≡ 0
    at_start (Ok done) = refl
    at_start (Err r) = refl

-- ---- a listing on its way
-- it holds an image that is not refused, and stands at a place that is not
pub record Stands (xs list : List ℕ) (base : ℕ) (l : Listing) : Type 0 where
  pub image_is : l.walk.image.bytes.now ≡ xs
  pub stretches_is : l.walk.image.stretches.now ≡ list
  pub base_is : l.walk.image.base ≡ base
  pub fine : refusal_at xs list l.walk.place ≡ Ok tt

pub resumed_stands : (xs list : List ℕ) (base offset : ℕ) (l : Listing) → Resumed xs list base offset l → refusal_at xs list offset ≡ Ok tt → (l.walk.place ≡ offset) × Stands xs list base l
resumed_stands xs list base offset l o e =
    let at : l.walk.place ≡ offset = rw e at o.place_held in
    (at, record { image_is = rw e at o.image_held; stretches_is = rw e at o.stretches_held; base_is = o.base_held; fine = rw at e })

pub opened_stands : (xs list : List ℕ) (base : ℕ) (l : Listing) → Opened xs list base l → refusal xs list ≡ Ok tt → Stands xs list base l
opened_stands xs list base l o e = (resumed_stands xs list base 0 l o (start xs list e)).1

-- its step is the one step at that place
as_listed : (xs list : List ℕ) (base : ℕ) (l : Listing) (ys : List ℕ) → Stands xs list base l → step_from l ys ≡ listed xs (pairs list) base l.walk.place ys
as_listed xs list base l ys s = rw (s.image_is, s.stretches_is, s.base_is)

pub as_anywhere : (xs list : List ℕ) (base : ℕ) (l : Listing) (ys : List ℕ) → Stands xs list base l → list_step xs list base l.walk.place ys ≡ (Ok (step_from l ys).0, (step_from l ys).1)
as_anywhere xs list base l ys s = rw (as_listed xs list base l ys s) (step_given xs list base l.walk.place ys s.fine)

-- so the first step of one that is resumed is the one step at that offset
pub resumed_step : (xs list : List ℕ) (base offset : ℕ) (l : Listing) (ys : List ℕ) → Resumed xs list base offset l → refusal_at xs list offset ≡ Ok tt → list_step xs list base offset ys ≡ (Ok (step_from l ys).0, (step_from l ys).1)
resumed_step xs list base offset l ys o e =
    let s = resumed_stands xs list base offset l o e in
    ap (λ (k : ℕ). list_step xs list base k ys) (sym s.0) ∙ as_anywhere xs list base l ys s.1

-- and behind a step, it stands so again
pub stands_on : (xs list : List ℕ) (base : ℕ) (l : Listing) (ys : List ℕ) (r : Listed) (zs : List ℕ) (l' : Listing) → Stands xs list base l → SteppedIs l ys r zs l' → Stands xs list base l'
stands_on xs list base l ys r zs l' s a =
    let e = sym (as_listed xs list base l ys s) ∙ a.answer in
    let f : refusal_at xs list (next_place r) ≡ Ok tt = rw e at (next_listed xs list base l.walk.place ys s.fine) in
    record {
      image_is = ap (λ (i : Image). i.bytes.now) a.image_kept ∙ s.image_is;
      stretches_is = ap (λ (i : Image). i.stretches.now) a.image_kept ∙ s.stretches_is;
      base_is = ap (λ (i : Image). i.base) a.image_kept ∙ s.base_is;
      fine = rw a.place_next f;
    }

-- "At the image's end the answer is an end mark", again and again, whatever the buffer: the listing stays there
pub end_mark : (xs list : List ℕ) (base : ℕ) (l : Listing) (ys : List ℕ) → Stands xs list base l → l.walk.place ≡ length xs → (step_from l ys ≡ (End (length xs), ys)) × (next_place (End (length xs)) ≡ length xs)
end_mark xs list base l ys s e =
    (as_listed xs list base l ys s ∙ listed_end xs (pairs list) base l.walk.place ys (no_step xs (pairs list) l.walk.place (omega arith)) ∙ rw e, add-zero (length xs))

-- ---- put aside and resumed
-- the image not altered, a listing put aside as its offset and resumed gives exactly the steps that it would have given, whatever the buffer
pub put_aside : (xs list : List ℕ) (base : ℕ) (l m : Listing) (ys : List ℕ) (calls : ℕ) → Stands xs list base l → Resumed xs list base l.walk.place m → run m ys calls ≡ run l ys calls
put_aside xs list base l m ys calls s o =
    let t = resumed_stands xs list base l.walk.place m o s.fine in
    rw (s.image_is, s.stretches_is, s.base_is, (t.1).image_is, (t.1).stretches_is, (t.1).base_is, t.0)
