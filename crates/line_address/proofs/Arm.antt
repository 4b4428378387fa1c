-- Where an ARM word stands elsewhere, its line is the same but for the address. Assumes nothing.
use Rattle.std.proofs.Common.{◌≡◌, ◌↔◌, ℕ, eqb, cond, List, ◌++◌, Option, Some, None, refl, sym, ◌∙◌, ap, append_assoc, true, false, inl, inr, arith, IfSome}
use Rattle.common.proofs.Tests.{by_test}
use Rattle.common.specs.Bits.{bit_range}
use Rattle.text.specs.Text.{text}
use Rattle.refusal.specs.declared.Refusal.{Refusal}
use Rattle.arm7tdmi.specs.Signed.{extended, moved}
use Rattle.arm7tdmi.specs.declared.Form.TheVariants.{Sheet}
use Rattle.arm7tdmi.specs.declared.alu.BarrelShifterValue.{BarrelShifterValue}
use Rattle.arm7tdmi.specs.declared.alu.BarrelShifterValue.TheVariants.{ImmediateValue}
use Rattle.arm.specs.Fields.{branch_target, halfword_type, ldr_str_hs_imm_offset, ldr_str_hs_reg_offset, ldr_str_offset, pc_relative}
use Rattle.arm.specs.Kinds.{arm_format, arm_number}
use Rattle.arm.specs.declared.ArmFormat.{ArmFormat}
use Rattle.arm.specs.declared.ArmFormat.TheVariants as A
use Rattle.lines.specs.Address.{address}
use Rattle.lines.specs.Answer.{is_invalid, line, printed, refused}
use Rattle.lines.specs.Pieces.{either, if_set, reg_at}
use Rattle.arm_operand.specs.Operand.{comment, fmt_rn_offset, indexed, value_comment}
use Rattle.arm_disass.specs.Line.{cond_mark, fmt_branch, fmt_halfword, fmt_ldr_str, fmt_ldr_str_hs_imm_offset, fmt_ldr_str_hs_reg_offset, halfword_text, line_of, user_mark}
use Rattle.arm_disass.proofs.Named.{undefined_line}
use Rattle.arm_print.specs.Print.{answer_of, arm_line, line_unless, refusal_of}
use Rattle.arm_print.proofs.Whole.{by_refusal}
use Rattle.line_address.specs.Elsewhere.{raised, showing}
use Rattle.line_address.specs.Shown.{EndsIn, arm_address, arm_kind_address, comment_address, unless_refused}
use Rattle.line_address.proofs.Placed.{Placed, elsewhere, ends, ends_in, same_answer, stays, unmoved}
use Rattle.line_address.proofs.Raised.{raised_behind}

module _ (raw : ℕ) where
  -- ---- the line of each kind, at a place p
  branch : Placed (λ p. line (fmt_branch Sheet p raw)) (λ p. Some (branch_target p raw))
  unfolding fmt_branch branch_target
  branch = ends (text "b" ++ if_set raw 24 (text "l") ++ cond_mark raw ++ text "\t") (λ p. branch_target p raw) (λ p. omega arith)

  -- a transfer, by what its line has before base and offset
  module _ (head : List ℕ) where
    before : ℕ → List ℕ
    before v = head ++ (text "[" ++ reg_at raw 16 20 ++ indexed Sheet raw (ImmediateValue v)) ++ text "\t; "

    from_pc : (p v : ℕ) → eqb (bit_range raw 16 20) 15 ≡ true → head ++ fmt_rn_offset Sheet p raw (ImmediateValue v) ≡ before v ++ address Sheet (pc_relative p v)
    unfolding fmt_rn_offset comment value_comment before
    from_pc p v t =
        let start = text "[" ++ reg_at raw 16 20 ++ indexed Sheet raw (ImmediateValue v) in
        let n = address Sheet (pc_relative p v) in
        rw t (sym (append_assoc (head ++ start) (text "\t; ") n ∙ append_assoc head start (text "\t; " ++ n)))

    from_other : (p q v : ℕ) → eqb (bit_range raw 16 20) 15 ≡ false → head ++ fmt_rn_offset Sheet q raw (ImmediateValue v) ≡ head ++ fmt_rn_offset Sheet p raw (ImmediateValue v)
    unfolding fmt_rn_offset comment value_comment
    from_other p q v t = rw t

    immediate : (v : ℕ) → Placed (λ p. line (head ++ fmt_rn_offset Sheet p raw (ImmediateValue v))) (λ p. comment_address p raw (ImmediateValue v))
    unfolding pc_relative
    immediate v =
        by_test (eqb (bit_range raw 16 20) 15)
        (λ t. inl (record {
          before = before v;
          target = λ p. pc_relative p v;
          small = λ p. omega arith;
          line_is = λ p. ap line (from_pc p v t);
          address_is = λ p. rw t;
        }))
        (λ t. inr (record { same = λ p q. ap line (from_other p q v t); none = λ p. rw t }))

    transfer : (o : BarrelShifterValue) → Placed (λ p. line (head ++ fmt_rn_offset Sheet p raw o)) (λ p. comment_address p raw o)
    unfolding fmt_rn_offset comment
    transfer (ImmediateValue v) = immediate v
    transfer other = stays (line (head ++ fmt_rn_offset Sheet 0 raw other))

  ldr_str : Placed (λ p. line (fmt_ldr_str Sheet p raw)) (λ p. comment_address p raw (ldr_str_offset raw))
  unfolding fmt_ldr_str
  ldr_str =
      let head = either raw 20 (text "ldr") (text "str") ++ if_set raw 22 (text "b") ++ user_mark raw ++ cond_mark raw ++ text "\t" ++ reg_at raw 12 16 ++ text ", " in
      transfer head (ldr_str_offset raw)

  halfword : (o : BarrelShifterValue) → Placed (λ p. line (fmt_halfword Sheet p raw o)) (λ p. comment_address p raw o)
  unfolding fmt_halfword
  halfword o =
      let head = either raw 20 (text "ldr") (text "str") ++ halfword_text (halfword_type raw) ++ cond_mark raw ++ text "\t" ++ reg_at raw 12 16 ++ text ", " in
      transfer head o

  kind_placed : (fmt : ArmFormat) → Placed (λ p. line (line_of Sheet fmt p raw)) (λ p. arm_kind_address fmt p raw)
  unfolding line_of fmt_ldr_str_hs_imm_offset fmt_ldr_str_hs_reg_offset fmt_halfword fmt_rn_offset comment ldr_str_hs_reg_offset
  kind_placed A.BranchLink = branch
  kind_placed A.SingleDataTransfer = ldr_str
  kind_placed A.HalfwordDataTransferImmediateOffset = halfword (ldr_str_hs_imm_offset raw)
  kind_placed A.HalfwordDataTransferRegOffset = stays (line (line_of Sheet A.HalfwordDataTransferRegOffset 0 raw))
  kind_placed other = stays (line (line_of Sheet other 0 raw))

  -- a refusal does not depend on the place
  unless_placed : (a : Option Refusal) (l : ℕ → List ℕ) (n : ℕ → Option ℕ) → Placed (λ p. line (l p)) n → Placed (λ p. line_unless a (l p)) (λ p. unless_refused (line_unless a (l p)) (n p))
  unless_placed None l n s = s
  unless_placed (Some r) l n s = stays (refused r)

  pub arm_placed : Placed (λ p. arm_line Sheet p raw) (λ p. arm_address p raw)
  unfolding arm_line answer_of arm_address
  arm_placed =
      let fmt = arm_format Sheet raw in
      unless_placed (refusal_of Sheet fmt raw) (λ p. line_of Sheet fmt p raw) (λ p. arm_kind_address fmt p raw) (kind_placed fmt)

  -- ---- the address goes on with the place
  comment_raised : (p d : ℕ) (o : BarrelShifterValue) → comment_address (moved p d) raw o ≡ raised d (comment_address p raw o)
  unfolding pc_relative
  comment_raised p d (ImmediateValue v) = by_test (eqb (bit_range raw 16 20) 15) (λ t. rw t (ap Some (raised_behind p d 8 v))) (λ t. rw t)
  comment_raised p d other = refl

  kind_raised : (p d : ℕ) (fmt : ArmFormat) → arm_kind_address fmt (moved p d) raw ≡ raised d (arm_kind_address fmt p raw)
  unfolding branch_target
  kind_raised p d A.BranchLink = ap Some (raised_behind p d 8 (extended 24 4 (bit_range raw 0 24)))
  kind_raised p d A.SingleDataTransfer = comment_raised p d (ldr_str_offset raw)
  kind_raised p d A.HalfwordDataTransferImmediateOffset = comment_raised p d (ldr_str_hs_imm_offset raw)
  kind_raised p d other = refl

  unless_raised : (d : ℕ) (a : Option Refusal) (l m : List ℕ) (n k : Option ℕ) → k ≡ raised d n → unless_refused (line_unless a l) k ≡ raised d (unless_refused (line_unless a m) n)
  unless_raised d None l m n k e = e
  unless_raised d (Some r) l m n k e = refl

  arm_raised : (p d : ℕ) → arm_address (moved p d) raw ≡ raised d (arm_address p raw)
  unfolding arm_line answer_of arm_address
  arm_raised p d =
      let fmt = arm_format Sheet raw in
      unless_raised d (refusal_of Sheet fmt raw) (line_of Sheet fmt (moved p d) raw) (line_of Sheet fmt p raw) (arm_kind_address fmt p raw) (arm_kind_address fmt (moved p d) raw) (kind_raised p d fmt)

  -- ---- what is promised of it
  pub arm_ends : (p : ℕ) → IfSome (arm_address p raw) (EndsIn (arm_line Sheet p raw))
  arm_ends p = ends_in arm_placed p

  pub arm_moved : (p d : ℕ) → arm_line Sheet (moved p d) raw ≡ showing (raised d (arm_address p raw)) (arm_line Sheet p raw)
  arm_moved p d = elsewhere arm_placed p (moved p d) ∙ rw (arm_raised p d)

  pub arm_unmoved : (p : ℕ) → (arm_address p raw ≡ None) ↔ ((d : ℕ) → arm_line Sheet (moved p d) raw ≡ arm_line Sheet p raw)
  arm_unmoved p = unmoved arm_placed p (arm_raised p 4)

  pub arm_same : (p d : ℕ) (ys : List ℕ) → (printed (arm_line Sheet (moved p d) raw) ys).0 ≡ (printed (arm_line Sheet p raw) ys).0
  arm_same p d ys = same_answer arm_placed p (moved p d) ys

  -- ---- by the test that the print has: a word that shows no instruction shows no address
  undefined_none : (p : ℕ) (fmt : ArmFormat) → eqb (arm_number fmt) 14 ≡ true → arm_kind_address fmt p raw ≡ None
  undefined_none p A.BranchLink e = cc
  undefined_none p A.SingleDataTransfer e = cc
  undefined_none p A.HalfwordDataTransferImmediateOffset e = cc
  undefined_none p other e = refl

  tested : (p : ℕ) (fmt : ArmFormat) → unless_refused (answer_of Sheet fmt p raw) (arm_kind_address fmt p raw) ≡ cond (is_invalid (answer_of Sheet fmt p raw)) None (arm_kind_address fmt p raw)
  unfolding answer_of
  tested p fmt =
      let text = line_of Sheet fmt p raw in
      let n = arm_kind_address fmt p raw in
      by_refusal (λ a. unless_refused (line_unless a text) n ≡ cond (is_invalid (line_unless a text)) None n) Sheet fmt raw
      refl refl (λ s. refl)
      (rw (undefined_line Sheet fmt p raw) (by_test (eqb (arm_number fmt) 14) (λ t. rw (t, undefined_none p fmt t)) (λ t. rw t)))

  pub arm_tested : (p : ℕ) → arm_address p raw ≡ cond (is_invalid (arm_line Sheet p raw)) None (arm_kind_address (arm_format Sheet raw) p raw)
  unfolding arm_address arm_line
  arm_tested p = tested p (arm_format Sheet raw)
