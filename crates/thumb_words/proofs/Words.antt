-- The words of each kind by their fields, from the highest bits down, and the lowest of several words of a kind that show the same. Assumes nothing.
use Prim.Native.Nat.{◌%◌, ◌*◌, ◌+◌, ◌/◌, ◌<◌, ◌^◌, ◌≤◌, ℕ}
use borrow.Author.Tests.{eqb-false, eqb-true}
use lib.Dec.{eqb}
use mathlib.Core.Bool.{cond}
use mathlib.Core.List.{List, [], ◌∷◌}
use mathlib.Core.Path.{◌∙◌, ◌≡◌, ap, sym}
use native.Mathlib.Nat.{mul-le-mul_left}
use native.Mathlib.Omega.{arith}
use Rattle.arm7tdmi.specs.declared.Form.{Form}
use Rattle.arm7tdmi.specs.declared.Form.TheVariants.{Bench}
use Rattle.thumb.specs.declared.ThumbFormat.{ThumbFormat}
use Rattle.thumb.specs.declared.ThumbFormat.TheVariants as H
use Rattle.common.specs.Bits.{bit, bit_range}
use Rattle.common.proofs.Tests.{by_test}
use Rattle.thumb_words.proofs.Laws.{NoHigher, parts, thumb_lower, thumb_read_lem}
use Rattle.thumb_words.proofs.Parts.{Fits, word}

-- the word of a kind's fields, which is one for both forms
abbrev pub assembled : ThumbFormat → List ℕ → ℕ
assembled k xs = word (parts Bench k) xs

-- op: LSL, LSR, ASR; 3 is AddSub, which is tested first
abbrev pub move_shifted_reg_word : ℕ → ℕ → ℕ → ℕ → ℕ
move_shifted_reg_word op offset rs rd = assembled H.MoveShiftedReg (op ∷ offset ∷ rs ∷ rd ∷ [])

-- i: rn is a number; op: sub
abbrev pub add_sub_word : ℕ → ℕ → ℕ → ℕ → ℕ → ℕ
add_sub_word i op rn rs rd = assembled H.AddSub (i ∷ op ∷ rn ∷ rs ∷ rd ∷ [])

abbrev pub data_process_imm_word : ℕ → ℕ → ℕ → ℕ
data_process_imm_word op rd imm = assembled H.DataProcessImm (op ∷ rd ∷ imm ∷ [])

abbrev pub alu_ops_word : ℕ → ℕ → ℕ → ℕ
alu_ops_word op rs rd = assembled H.AluOps (op ∷ rs ∷ rd ∷ [])

-- op: add, cmp, mov, bx; h1 and h2: bits 7 and 6
abbrev pub hi_reg_word : ℕ → ℕ → ℕ → ℕ → ℕ → ℕ
hi_reg_word op h1 h2 rs rd = assembled H.HiRegOpOrBranchExchange (op ∷ h1 ∷ h2 ∷ rs ∷ rd ∷ [])

abbrev pub ldr_pc_word : ℕ → ℕ → ℕ
ldr_pc_word rd imm = assembled H.LdrPc (rd ∷ imm ∷ [])

-- l: load; b: byte
abbrev pub ldr_str_reg_offset_word : ℕ → ℕ → ℕ → ℕ → ℕ → ℕ
ldr_str_reg_offset_word l b ro rb rd = assembled H.LdrStrRegOffset (l ∷ b ∷ ro ∷ rb ∷ rd ∷ [])

-- h: halfword, bit 11; s: sign, bit 10
abbrev pub ldr_str_shb_word : ℕ → ℕ → ℕ → ℕ → ℕ → ℕ
ldr_str_shb_word h s ro rb rd = assembled H.LdrStrSHB (h ∷ s ∷ ro ∷ rb ∷ rd ∷ [])

abbrev pub ldr_str_imm_offset_word : ℕ → ℕ → ℕ → ℕ → ℕ → ℕ
ldr_str_imm_offset_word b l offset rb rd = assembled H.LdrStrImmOffset (b ∷ l ∷ offset ∷ rb ∷ rd ∷ [])

abbrev pub ldr_str_half_word_word : ℕ → ℕ → ℕ → ℕ → ℕ
ldr_str_half_word_word l offset rb rd = assembled H.LdrStrHalfWord (l ∷ offset ∷ rb ∷ rd ∷ [])

abbrev pub ldr_str_sp_word : ℕ → ℕ → ℕ → ℕ
ldr_str_sp_word l rd imm = assembled H.LdrStrSp (l ∷ rd ∷ imm ∷ [])

-- sp: sp, not pc
abbrev pub load_address_word : ℕ → ℕ → ℕ → ℕ
load_address_word sp rd imm = assembled H.LoadAddress (sp ∷ rd ∷ imm ∷ [])

-- s: minus
abbrev pub add_sp_word : ℕ → ℕ → ℕ
add_sp_word s imm = assembled H.AddSp (s ∷ imm ∷ [])

-- r: with lr or pc
abbrev pub push_pop_word : ℕ → ℕ → ℕ → ℕ
push_pop_word l r list = assembled H.PushPop (l ∷ r ∷ list ∷ [])

abbrev pub ldm_stm_word : ℕ → ℕ → ℕ → ℕ
ldm_stm_word l rb list = assembled H.LdmStm (l ∷ rb ∷ list ∷ [])

-- c: below 15 on the bench, below 14 on the sheet
abbrev pub branch_conditional_word : ℕ → ℕ → ℕ
branch_conditional_word c offset = assembled H.BranchConditional (c ∷ offset ∷ [])

abbrev pub swi_word : ℕ → ℕ
swi_word imm = assembled H.Swi (imm ∷ [])

abbrev pub branch_word : ℕ → ℕ
branch_word offset = assembled H.Branch (offset ∷ [])

-- h: the second half, bit 11
abbrev pub branch_long_with_link_word : ℕ → ℕ → ℕ
branch_long_with_link_word h offset = assembled H.BranchLongWithLink (h ∷ offset ∷ [])

-- ---- high registers
-- a flag chooses
pub by_flag : (h a b : ℕ) → h < 2 → cond (eqb h 1) (a + b) b ≡ h * a + b
by_flag h a b l =
    by_test (eqb h 1)
    (λ e. rw (e, eqb-true h 1 e) (omega arith))
    (λ e. let n = eqb-false h 1 e in let z : h ≡ 0 = omega arith in rw (e, z) (omega arith))

-- the destination that the bench shows: bits 3-0 with bit 7 set, else bits 2-0
abbrev pub bench_destination : ℕ → ℕ
bench_destination w = cond (bit w 7) (bit_range w 0 4) (bit_range w 0 3)

module _ (form : Form) (op h1 h2 rs rd : ℕ) (f : Fits (parts form H.HiRegOpOrBranchExchange) (op ∷ h1 ∷ h2 ∷ rs ∷ rd ∷ [])) where
  -- bits 3-0 lie across two fields
  pub hi_reg_low : bit_range (hi_reg_word op h1 h2 rs rd) 0 4 ≡ rs % 2 * 8 + rd
  hi_reg_low = omega arith

  pub bench_destination_lem : bench_destination (hi_reg_word op h1 h2 rs rd) ≡ h1 * (rs % 2 * 8) + rd
  bench_destination_lem =
      let r = thumb_read_lem form H.HiRegOpOrBranchExchange tt (op ∷ h1 ∷ h2 ∷ rs ∷ rd ∷ []) f in
      rw (r 1, hi_reg_low, r 4) (by_flag h1 (rs % 2 * 8) rd f.1.0)

-- so bit 7 shows only where bit 3 is set, and is clear elsewhere in the lowest word
module _ (form : Form) (op h1 h2 rs rd : ℕ) (f : Fits (parts form H.HiRegOpOrBranchExchange) (op ∷ h1 ∷ h2 ∷ rs ∷ rd ∷ [])) where
  pub hi_reg_least : NoHigher form H.HiRegOpOrBranchExchange (op ∷ h1 * (rs % 2) ∷ h2 ∷ rs ∷ rd ∷ []) (op ∷ h1 ∷ h2 ∷ rs ∷ rd ∷ [])
  hi_reg_least =
      let l : h1 * (rs % 2) ≤ h1 * 1 = mul-le-mul_left h1 (omega arith) in
      thumb_lower form H.HiRegOpOrBranchExchange tt (op ∷ h1 * (rs % 2) ∷ h2 ∷ rs ∷ rd ∷ []) (op ∷ h1 ∷ h2 ∷ rs ∷ rd ∷ []) (omega arith) f

  pub hi_reg_same : bench_destination (hi_reg_word op (h1 * (rs % 2)) h2 rs rd) ≡ bench_destination (hi_reg_word op h1 h2 rs rd)
  hi_reg_same =
      let again : h1 * (rs % 2) * (rs % 2 * 8) ≡ h1 * (rs % 2 * 8) =
      by_test (eqb (rs % 2) 1)
      (λ e. rw (eqb-true (rs % 2) 1 e) (omega arith))
      (λ e. let n = eqb-false (rs % 2) 1 e in let z : rs % 2 ≡ 0 = omega arith in rw z (omega arith)) in
      bench_destination_lem form op (h1 * (rs % 2)) h2 rs rd hi_reg_least.fits
      ∙ ap (λ (x : ℕ). x + rd) again ∙ sym (bench_destination_lem form op h1 h2 rs rd f)

-- bx shows neither bit 7 nor bits 2-0
pub bx_least : (form : Form) (h1 h2 rs rd : ℕ) → Fits (parts form H.HiRegOpOrBranchExchange) (3 ∷ h1 ∷ h2 ∷ rs ∷ rd ∷ []) →
    NoHigher form H.HiRegOpOrBranchExchange (3 ∷ 0 ∷ h2 ∷ rs ∷ 0 ∷ []) (3 ∷ h1 ∷ h2 ∷ rs ∷ rd ∷ [])
bx_least form h1 h2 rs rd f = thumb_lower form H.HiRegOpOrBranchExchange tt (3 ∷ 0 ∷ h2 ∷ rs ∷ 0 ∷ []) (3 ∷ h1 ∷ h2 ∷ rs ∷ rd ∷ []) (omega arith) f

-- ---- register lists: the bench's base is bits 5-3, and bits 10-8 are not shown
module _ (form : Form) (l rb list : ℕ) (f : Fits (parts form H.LdmStm) (l ∷ rb ∷ list ∷ [])) where
  pub bench_base : bit_range (ldm_stm_word l rb list) 3 6 ≡ list / 8 % 8
  bench_base = omega arith

  pub ldm_stm_least : NoHigher form H.LdmStm (l ∷ 0 ∷ list ∷ []) (l ∷ rb ∷ list ∷ [])
  ldm_stm_least = thumb_lower form H.LdmStm tt (l ∷ 0 ∷ list ∷ []) (l ∷ rb ∷ list ∷ []) (omega arith) f

-- ---- zero: the bench's add of sp shows no sign of it, and both halves of bl show it alike
pub add_sp_least : (form : Form) (s : ℕ) → s < 2 → NoHigher form H.AddSp (0 ∷ 0 ∷ []) (s ∷ 0 ∷ [])
add_sp_least form s h = thumb_lower form H.AddSp tt (0 ∷ 0 ∷ []) (s ∷ 0 ∷ []) (omega arith) (omega arith)

pub branch_long_with_link_least : (form : Form) (h : ℕ) → h < 2 → NoHigher form H.BranchLongWithLink (0 ∷ 0 ∷ []) (h ∷ 0 ∷ [])
branch_long_with_link_least form h l = thumb_lower form H.BranchLongWithLink tt (0 ∷ 0 ∷ []) (h ∷ 0 ∷ []) (omega arith) (omega arith)

-- ---- lines that two kinds may show: cmp of low registers, and on the bench b with condition 14. The first kind is lower
pub alu_ops_lower : (form : Form) (op rs rd : ℕ) → Fits (parts form H.AluOps) (op ∷ rs ∷ rd ∷ []) → (op' h1 h2 rs' rd' : ℕ) → alu_ops_word op rs rd < hi_reg_word op' h1 h2 rs' rd'
alu_ops_lower form op rs rd f op' h1 h2 rs' rd' = omega arith

pub branch_conditional_lower : (c offset : ℕ) → c < 16 → offset < 2 ^ 8 → (offset' : ℕ) → branch_conditional_word c offset < branch_word offset'
branch_conditional_lower c offset h g offset' = omega arith
