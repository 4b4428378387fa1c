-- `lines::print_line` meets its contract. Assumes nothing.
use Rattle.std.proofs.Common.{◌≡◌, ◌≤◌, List, arith, drop, le-ltb, length, length-take, refl, replicate, take, take_at, ℕ}
use Rattle.lines.specs.Answer.{printed}
use Rattle.lines.proofs.print_line.Goals as goal
use Rattle.text.proofs.Wrote.{kept, lies}
use Rattle.text.specs.Wrote.{Wrote}

-- what the scratch holds: the line, and its length is the answer
in_scratch : (bs : List ℕ) {l : List ℕ} {r : ℕ} → length bs ≤ 80 → Wrote (replicate 80 0) 0 bs l r → (take r l ≡ bs) × (r ≤ length l)
in_scratch bs {l} {r} short w =
    let e = lies w short in
    let k = kept w in
    (rw (e.1, e.0) (take_at bs (drop (length bs) (replicate 80 0)) (length bs) refl), omega (e.1, short, k, arith))

pub returns-then-buf-ge-LINE : goal.returns-then-buf-ge-LINE
unfolding printed
returns-then-buf-ge-LINE g c =
    let a = c.args in
    let bs = g.L.Line.shown a.l.now in
    let short = g.met.L.Line.short a.l.now in
    let room : length bs ≤ length a.buf.now = omega (short, c.if-buf-ge-LINE.true, arith) in
    let e = lies c.put_at_start.ensures room in
    rw (le-ltb (length a.buf.now) (length bs) room, e.0, ← e.1)

pub slice_bounds-scratch-end : goal.slice_bounds-scratch-end
slice_bounds-scratch-end g c = (in_scratch (g.L.Line.shown c.args.l.now) (g.met.L.Line.short c.args.l.now) c.put_at_start-n.ensures).1

pub slice_bounds-give_line-end : goal.slice_bounds-give_line-end
slice_bounds-give_line-end g c =
    let h = (in_scratch (g.L.Line.shown c.args.l.now) (g.met.L.Line.short c.args.l.now) c.put_at_start-n.ensures).1 in
    simp length-take (omega (h, arith))

pub returns : goal.returns
returns g c =
    let e = (in_scratch (g.L.Line.shown c.args.l.now) (g.met.L.Line.short c.args.l.now) c.put_at_start-n.ensures).0 in
    rw e at c.give_line.ensures
