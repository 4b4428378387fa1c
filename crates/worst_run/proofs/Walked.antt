-- A walk over the steps of a listing: after each, the window holds the last of them, and the worst run so far is known. Assumes nothing.
use Rattle.std.proofs.Common.{◌≡◌, ℕ, zero, suc, ◌+◌, ◌<◌, ◌≤◌, List, [], ◌∷◌, ◌++◌, length, get_or, take, drop, map, replicate, refl, sym, ap, ◌∙◌, arith}
use Rattle.std.specs.Iterator.{YieldsFirstBy}
use Rattle.std.proofs.lemmas.Iterator.{YieldsList}
use Rattle.std.proofs.lemmas.Iterator.Consumers.{YieldsList-at, YieldsList-from_first}
use Rattle.std.proofs.lemmas.List.{map_push, take_all, take_more}
use Rattle.steps.specs.Steps.{Step, span_bytes, Follow}
use Rattle.steps.specs.Walk.{listed_step, rest}
use Rattle.steps.specs.declared.Span.{Span}
use Rattle.steps.specs.declared.Span.TheVariants.{Word, Half, Pair}
use Rattle.steps.specs.declared.walk.UnprintedStep.{UnprintedStep}
use Rattle.steps.specs.declared.walk.Walk.{Walk}
use Rattle.worst_run.specs.Worst.{blank, kept, kept_offset, kept_run, or_worse, run_of, runs, worst_of}
use Rattle.worst_run.specs.Window.{latest_offset, IsNear}
use Rattle.worst_run.specs.declared.Run.{Run}
use Rattle.worst_run.specs.declared.window.Kept.{Kept}
use Rattle.worst_run.proofs.Bases.{worst_kept}
use Rattle.worst_run.proofs.Bytes.{latest_offset_blank, latest_offset_push}
use Rattle.worst_run.proofs.Windows.{before_any, latest, latest_none, latest_push, turn}

-- what is kept of the first i steps
abbrev so_far : List Step → ℕ → List Kept
so_far all i = map kept (take i all)

pub record Walked (n : ℕ) (all : List Step) (i : ℕ) (window : List Kept) (worst : Run) : Type 0 where
  pub latest_is : window ≡ latest n (so_far all i)
  pub worst_is : worst ≡ worst_of (map kept_run (runs n (so_far all i)))
  pub next_near : (s : Step) → i < length all → s ≡ get_or all i s → IsNear window (kept s)

-- ---- each step begins near the one before it
first_place : (all : List Step) (to : ℕ) (s : Step) → Follow 0 all to → 0 < length all → s ≡ get_or all 0 s → s.offset ≡ 0
first_place [] to s f h e = absurd (omega arith)
first_place (x ∷ ss) to s f h e = ap (λ (y : Step). y.offset) e ∙ f.0

next_place : (at to i : ℕ) (all : List Step) (s t : Step) → Follow at all to → suc i < length all → s ≡ get_or all i s → t ≡ get_or all (suc i) t → t.offset ≡ s.offset + s.bytes
next_place at to i [] s t f h d e = absurd (omega arith)
next_place at to zero (x ∷ []) s t f h d e = absurd (omega arith)
next_place at to zero (x ∷ y ∷ ss) s t f h d e =
    let q = ap (λ (z : Step). z.offset) e ∙ f.2.0 in
    rw d (omega (arith, q, f.0))
next_place at to (suc i) (x ∷ ss) s t f h d e = next_place (at + x.bytes) to i ss s t f.2 (omega arith) d e

pub short : (u : UnprintedStep) → (listed_step u).bytes ≤ 4
short u = at_most u.span
  where
    at_most : (x : Span) → span_bytes x ≤ 4
    at_most Word = omega arith
    at_most Half = omega arith
    at_most Pair = omega arith

pub start : (n : ℕ) (all : List Step) (to : ℕ) (window : List Kept) (worst : Run) → Follow 0 all to → window ≡ replicate n blank → worst ≡ kept_run window → Walked n all 0 window worst
start n all to window worst follow e f =
    record {
      latest_is = e ∙ sym (latest_none n);
      worst_is = f ∙ ap kept_run e ∙ before_any n;
      next_near = near;
    }
  where
    near : (s : Step) → 0 < length all → s ≡ get_or all 0 s → IsNear window (kept s)
    near s h d =
        let l = ap latest_offset e ∙ latest_offset_blank n in
        let o = first_place all to s follow h d in
        (omega (arith, l), omega (arith, l, o))

-- steps that follow one another from 0 begin there
begin_so_far : (all : List Step) (to i : ℕ) → Follow 0 all to → kept_offset (so_far all i) ≡ 0
begin_so_far [] to zero f = refl
begin_so_far [] to (suc i) f = refl
begin_so_far (s ∷ ss) to zero f = refl
begin_so_far (s ∷ ss) to (suc i) f = f.0

pub turned : {n : ℕ} {all : List Step} {i : ℕ} {window next : List Kept} {worst after : Run} (to : ℕ) (s : Step) → s.bytes ≤ 4 → 0 < n → Follow 0 all to → Walked n all i window worst
    → i < length all → s ≡ get_or all i s → next ≡ drop 1 window ++ kept s ∷ [] → after ≡ or_worse worst (kept_run next) → Walked n all (i + 1) next after
turned {n} {all} {i} {window} {next} {worst} {after} to s little some follow w h e f g =
    let more : so_far all (i + 1) ≡ so_far all i ++ kept s ∷ [] =
    ap (map kept) (take_more all i s h ∙ ap (λ (x : Step). take i all ++ x ∷ []) (sym e)) ∙ map_push kept (take i all) s in
    let start : kept_offset (so_far all i ++ kept s ∷ []) ≡ 0 = ap kept_offset (sym more) ∙ begin_so_far all to (i + 1) follow in
    let l : next ≡ latest n (so_far all i ++ kept s ∷ []) = f ∙ ap (λ (ks : List Kept). drop 1 ks ++ kept s ∷ []) w.latest_is ∙ latest_push n (so_far all i) (kept s) some in
    record {
      latest_is = l ∙ ap (latest n) (sym more);
      worst_is =
          g
          ∙ ap (λ (r : Run). or_worse r (kept_run next)) w.worst_is
          ∙ ap (λ (ks : List Kept). or_worse (worst_of (map kept_run (runs n (so_far all i)))) (kept_run ks)) l
          ∙ turn n some (so_far all i) (kept s) start
          ∙ ap (λ (ks : List Kept). worst_of (map kept_run (runs n ks))) (sym more);
      next_near = near;
    }
  where
    near : (t : Step) → i + 1 < length all → t ≡ get_or all (i + 1) t → IsNear next (kept t)
    near t d b =
        let l = ap latest_offset f ∙ latest_offset_push (drop 1 window) (kept s) in
        let o = next_place 0 to i all s t follow (omega (arith, d)) e (b ∙ ap (λ (j : ℕ). get_or all j t) (omega arith)) in
        (omega (arith, l, o), omega (arith, l, o, little))

pub ended : {n : ℕ} {all : List Step} {i : ℕ} {window : List Kept} {worst : Run} → Walked n all i window worst → i ≡ length all → worst ≡ worst_of (map run_of (runs n all))
ended {n} {all} {i} w e =
    w.worst_is ∙ ap (λ (ss : List Step). worst_of (map kept_run (runs n (map kept ss)))) (take_all i all (omega (arith, e))) ∙ worst_kept n all

-- the walk gives just these steps
pub walks : (w i : Walk) (all : List Step) → rest w ≡ all → i ≡ w → YieldsList (YieldsFirstBy listed_step rest) listed_step i all
walks w i all e same = YieldsList-at same (YieldsList-from_first listed_step rest all e)
