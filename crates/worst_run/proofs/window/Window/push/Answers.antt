-- `worst_run::window::Window::push` meets its contract. Assumes nothing.
use Rattle.std.proofs.Common.{◌+◌, drop, length, sym, ap, ◌∙◌, arith}
use Rattle.std.proofs.lemmas.List.Sums.{count_by-le-length}
use Rattle.std.proofs.Math.Nat.{mod-lt}
use Rattle.worst_run.specs.Window.{latest_offset}
use Rattle.worst_run.proofs.Bytes.{first_within, latest_offset_push, length_is, next_is}
use Rattle.worst_run.proofs.Windows.{as_one, count, counted, one_at_most}
use Rattle.worst_run.proofs.window.Window.push.Goals as goal

pub overflow_add-self : goal.overflow_add-self
overflow_add-self c =
    let w = c.self.inside in
    let most = count_by-le-length (λ k. k.invalid) c.args.self.now in
    let long = length_is 256 w.oldest w.offset_oldest w.ring c.self.told c.self.invariant.0 in
    omega (arith, c.self.invariant.1, ap count c.self.view_is, most, ap length c.self.view_is, long, one_at_most c.args.step.invalid, c.from.ensures)

pub overflow_add-self-3 : goal.overflow_add-self-3
overflow_add-self-3 c =
    let w = c.self.inside in
    let latest = c.self.invariant.2 ∙ ap latest_offset c.self.view_is in
    let within = first_within 256 w.oldest w.offset_oldest w.ring c.self.told c.self.invariant.0 c.byte_of.result c.args.self.now c.args.step w.offset_latest c.self.view_is latest c.requires c.byte_of.ensures in
    omega (arith, within, c.from-3.ensures, c.well_formed)

pub invariant_of-self : goal.invariant_of-self
invariant_of-self c =
    let w = c.self.inside in
    let ks = c.args.self.now in
    let step = c.args.step in
    let first = c.first-oldest in
    let latest = c.self.invariant.2 ∙ ap latest_offset c.self.view_is in
    let next = next_is 256 w.oldest w.offset_oldest w.ring c.self.told c.self.invariant.0 c.byte_of.result ks step w.offset_latest c.self.view_is latest c.requires c.byte_of.ensures in
    let counts = counted ks first.result first.ensures step in
    rw c.from-3.ensures (
      mod-lt (w.oldest + 1) (omega arith),
      omega (arith, c.self.invariant.1, ap count c.self.view_is, ap count next, c.from.ensures, c.from-2.ensures, as_one step.invalid, as_one first.result.invalid, counts),
      sym (ap latest_offset next ∙ latest_offset_push (drop 1 ks) step),
    )

pub returns : goal.returns
returns c =
    let w = c.self.inside in
    let latest = c.self.invariant.2 ∙ ap latest_offset c.self.view_is in
    rw c.from-3.ensures (next_is 256 w.oldest w.offset_oldest w.ring c.self.told c.self.invariant.0 c.byte_of.result c.args.self.now c.args.step w.offset_latest c.self.view_is latest c.requires c.byte_of.ensures)
