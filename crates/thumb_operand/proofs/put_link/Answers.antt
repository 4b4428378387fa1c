-- What `thumb_operand::put_link` does before the name. Assumes nothing.
use Rattle.std.proofs.Common.{ℕ, List, [], ◌∙◌, sym}
use Rattle.lines.proofs.Positions.{first_name, next_name}
use Rattle.lines.specs.Pieces.{registers}
use Rattle.lines.specs.Position.{BeforeName, names}
use Rattle.text.proofs.Puts.{wrote_of}
use Rattle.text.specs.Wrote.{Behind}
use Rattle.thumb_operand.specs.Operand.{link_name}
use Rattle.thumb_operand.proofs.put_link.Goals.{After-put_link_name, then-register_list-ne0, else-register_list-ne0}

-- before the name the position stands directly behind the last byte written, if the place that was given stands directly behind the registers: a name alone
-- stands where no register is in the list, another one behind a separator
pub before_name : {l : List ℕ} {start : ℕ} (c : After-put_link_name) → let a = c.args in let b = c.put_link_name.new.out in
    Behind l start (registers a.raw 8) a.out.now.bytes.now a.out.now.at → BeforeName l start (names a.raw 8) (link_name a.raw) [] b.bytes.now b.at
before_name c b =
    let a = c.args in
    elim c.if-register_list-ne0.branch [
      | then-register_list-ne0 w ↦ next_name a.raw 8 b (λ e. w.if-register_list-ne0.true (c.register_list.ensures ∙ e)) (wrote_of _ _ _ (w.out-is ∙ w.put_text.ensures)) (wrote_of _ _ _ c.put_link_name.ensures)
      | else-register_list-ne0 w ↦ first_name a.raw 8 b (sym c.register_list.ensures ∙ w.if-register_list-ne0.false) (rw w.out-is at (wrote_of _ _ _ c.put_link_name.ensures))
    ]
