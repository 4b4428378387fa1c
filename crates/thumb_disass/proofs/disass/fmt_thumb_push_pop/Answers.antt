-- `thumb_disass::disass::fmt_thumb_push_pop` meets its contract: the list is the registers and behind them lr or pc. Assumes nothing.
use Rattle.std.proofs.Common.{◌≡◌, cond, [], ◌++◌, ◌∷◌}
use Rattle.common.specs.Bits.{bit}
use Rattle.lines.proofs.Positions.{before_each}
use Rattle.lines.specs.Pieces.{registers}
use Rattle.lines.specs.Position.{BeforeEach, names}
use Rattle.text.proofs.Puts.{puts_append, wrote_of}
use Rattle.text.proofs.Wrote.{behind}
use Rattle.text.specs.Puts.{puts}
use Rattle.text.specs.Wrote.{Behind}
use Rattle.thumb_disass.specs.Line.{fmt_thumb_push_pop}
use Rattle.thumb_operand.proofs.PushPop.{push_pop_list_lem}
use Rattle.thumb_operand.specs.Operand.{link_name, push_pop_list}
use Rattle.thumb_disass.proofs.disass.fmt_thumb_push_pop.Goals as goal
use Rattle.thumb_disass.proofs.disass.fmt_thumb_push_pop.Lts as states
use Rattle.thumb_disass.proofs.disass.fmt_thumb_push_pop.Reads.{Post, Pre}
use Rattle.thumb_disass.proofs.disass.fmt_thumb_push_pop.Tie.{the-claims}

-- the position stands directly behind the registers when `put_link` is called
pub before_link : (c : states.After-put_registers the-claims Pre Post) → let a = c.put_text.new.self in let b = c.put_registers.new.out in
    Behind a.bytes.now a.at (registers c.args.raw 8) b.bytes.now b.at
before_link c = behind (wrote_of _ _ _ c.put_registers.ensures)

-- the list: the registers, and behind them lr or pc
put_list : (c : states.After-put_link the-claims Pre Post) → c.put_link.new.out ≡ puts c.put_text.new.self (push_pop_list c.args.raw)
put_list c =
    rw (← push_pop_list_lem c.args.raw, puts_append, ← c.put_registers.ensures) c.put_link.ensures

-- before each name of the list, lr or pc included, the position stands directly behind the last byte written
pub before_name : (c : states.After-put_link the-claims Pre Post) → let a = c.put_text.new.self in let b = c.put_link.new.out in
    BeforeEach a.bytes.now a.at (names c.args.raw 8 ++ cond (bit c.args.raw 8) (link_name c.args.raw ∷ []) []) b.bytes.now b.at
unfolding push_pop_list
before_name c = before_each (wrote_of _ _ _ (put_list c))

pub returns : goal.returns
unfolding fmt_thumb_push_pop
returns c =
    rw (← push_pop_list_lem c.args.raw, puts_append, puts_append, puts_append, puts_append, ← c.put_either.ensures, ← c.put_text.ensures, ← c.put_registers.ensures, ← c.put_link.ensures) c.put_byte.ensures
