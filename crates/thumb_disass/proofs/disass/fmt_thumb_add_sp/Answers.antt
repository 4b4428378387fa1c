-- `thumb_disass::disass::fmt_thumb_add_sp` meets its contract. Assumes nothing.
use Rattle.text.proofs.Puts.{puts_append}
use Rattle.text.specs.Text.{text}
use Rattle.thumb_disass.specs.Line.{fmt_thumb_add_sp}
use Rattle.thumb_operand.specs.Operand.{sp_offset}
use Rattle.thumb_disass.proofs.disass.fmt_thumb_add_sp.Goals as goal

pub returns : goal.returns
unfolding fmt_thumb_add_sp
returns c =
    let a = c.args in
    rw (puts_append a.out.now (text "add\tsp, #") (sp_offset a.form a.raw), ← c.put_text.ensures) c.put_sp_offset.ensures
