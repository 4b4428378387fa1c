-- `arm_candidate::parts::says` meets its contract. Assumes nothing.
use mathlib.Core.Bool.{false, true}
use mathlib.Core.Path.{ap, ◌∙◌, ◌≡◌, refl, sym}
use Rattle.arm7tdmi.specs.Names.{cond_named}
use Rattle.arm_mnemonic.specs.Heads.{stem_names}
use Rattle.arm_candidate.proofs.Dispatch.{by_parts, by_whole}
use Rattle.arm_mnemonic.proofs.Stems.{head_family, head_small, place_le}
use Rattle.arm_mnemonic.specs.Stems.{head_at, is_mnemonic}
use Rattle.common.proofs.Lists.{part_rest}
use Rattle.common.specs.Lists.{place}
use Rattle.arm_candidate.proofs.parts.says.Goals as goal

pub returns-then-is_mnemonic : goal.returns-then-is_mnemonic
returns-then-is_mnemonic c =
    let t = c.args.w.now in
    let e = c.head_of-head.ensures.0 in
    let h : is_mnemonic (head_at (place stem_names t)) ≡ true = rw e at (sym c.is_mnemonic.ensures ∙ c.if-is_mnemonic.true) in
    let b = place_le t in
    rw (by_whole t h, e) (head_family (place stem_names t) b, refl, refl, head_small (place stem_names t) b)

pub returns : goal.returns
returns c =
    let t = c.args.w.now in
    let e = c.head_of-head.ensures.0 in
    let h : is_mnemonic (head_at (place stem_names t)) ≡ false = rw e at (sym c.is_mnemonic.ensures ∙ c.if-is_mnemonic.false) in
    let n = c.saturating_sub-n.result in
    rw (by_parts t h n c.saturating_sub-n.ensures, c.head_of.ensures.0) (head_family _ (place_le _), refl, c.read_cond.ensures ∙ ap cond_named (part_rest t n), head_small _ (place_le _))
