-- `lines::put_listed` meets its contract. Assumes nothing.
use Rattle.std.proofs.Common.{◌∙◌, [], ℕ, List, sym, ne_eqb}
use Rattle.arm7tdmi.specs.Names.{reg_string}
use Rattle.lines.proofs.Positions.{first_name, next_name}
use Rattle.lines.specs.Pieces.{listed, registers}
use Rattle.lines.specs.Position.{BeforeName, names}
use Rattle.text.proofs.Puts.{puts_append, puts_nil, wrote_of}
use Rattle.text.specs.Wrote.{Behind}
use Rattle.lines.proofs.put_listed.Goals as goal
use Rattle.lines.proofs.put_listed.Goals.{then-bit_range-ne0, else-bit_range-ne0}

-- before the name the position stands directly behind the last byte written, if the place that was given stands directly behind the registers below it: a name
-- alone stands where no register is below it, another one behind a separator
pub before_name : {l : List ℕ} {start : ℕ} (c : goal.After-put_reg) → let a = c.args in Behind l start (registers a.raw a.i) a.out.now.bytes.now a.out.now.at
    → BeforeName l start (names a.raw a.i) (reg_string a.i) [] c.put_reg.new.out.bytes.now c.put_reg.new.out.at
before_name c b =
    let a = c.args in
    elim c.if-bit_range-ne0.branch [
      | then-bit_range-ne0 w ↦ next_name a.raw a.i b (λ e. w.if-bit_range-ne0.true (c.bit_range.ensures ∙ e)) (wrote_of _ _ _ (w.out-is ∙ w.put_text.ensures)) (wrote_of _ _ _ c.put_reg.ensures)
      | else-bit_range-ne0 w ↦ first_name a.raw a.i b (sym c.bit_range.ensures ∙ w.if-bit_range-ne0.false) (rw w.out-is at (wrote_of _ _ _ c.put_reg.ensures))
    ]

pub returns-after-bit_range-ne0 : goal.returns-after-bit_range-ne0
unfolding listed
returns-after-bit_range-ne0 c =
    let a = c.args in
    elim c.if-bit_range-ne0.branch [
      | then-bit_range-ne0 w ↦ rw (← c.bit.ensures, c.if-bit.true, ← c.bit_range.ensures, ne_eqb _ _ w.if-bit_range-ne0.true, puts_append, ← w.put_text.ensures, ← w.out-is) c.put_reg.ensures
      | else-bit_range-ne0 w ↦ rw (← c.bit.ensures, c.if-bit.true, ← c.bit_range.ensures, w.if-bit_range-ne0.false, ← w.out-is) c.put_reg.ensures
    ]

pub returns-else-bit : goal.returns-else-bit
unfolding listed
returns-else-bit c = rw (← c.bit.ensures, c.if-bit.false) (sym (puts_nil c.args.out.now))
