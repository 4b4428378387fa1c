-- Data processing: words from fields. Assumes nothing.
use Prim.Native.Nat.{◌%◌, ◌*◌, ◌+◌, ◌/◌, ◌<◌, ◌^◌, ◌≤◌, ℕ}
use borrow.Author.Tests.{eq-eqb, eqb-false, eqb-true}
use lib.Dec.{eqb}
use mathlib.Core.Bool.{Bool, beq, ◌&&◌, ◌||◌, cond, false, not, true}
use mathlib.Core.List.{List}
use mathlib.Core.Path.{◌∙◌, ◌≡◌, ap, refl, sym}
use native.Mathlib.Omega.{arith}
use Rattle.arm7tdmi.specs.Alu.{alu_op_code, is_setting_flags}
use Rattle.arm.specs.Kinds.{arm_format, arm_rows}
use Rattle.arm7tdmi.specs.declared.Form.{Form}
use Rattle.arm_words.proofs.Branch.{bx_word}
use Rattle.arm_words.proofs.Operand.{ShiftLeast}
use Rattle.arm_words.proofs.Scheme.{Least, Of, Words, bench, differ, hex, kind_of, made, only, shown, shown_low, words}
use Rattle.arm_words.proofs.Status.{MrsFields, flags_word, mrs_kind, mrs_word, msr_word}
use Rattle.common.proofs.Tests.{at, by_test}
use Rattle.common.specs.Bits.{bit, bit_range}
use Rattle.arm.specs.declared.ArmFormat.TheVariants as A

abbrev pub dp_word : ℕ → ℕ → ℕ → ℕ → ℕ → ℕ → ℕ → ℕ
dp_word c i op s rn rd n = c * 2 ^ 28 + i * 2 ^ 25 + op * 2 ^ 21 + s * 2 ^ 20 + rn * 2 ^ 16 + rd * 2 ^ 12 + n

pub record DpFields (c i op s rn rd n : ℕ) : Type 0 where
  pub hc : c < 16
  pub hi : i < 2
  pub hop : op < 16
  pub hs : s < 2
  pub hrn : rn < 16
  pub hrd : rd < 16
  pub hn : n < 2 ^ 12

pub dp_read : {c i op s rn rd n : ℕ} → DpFields c i op s rn rd n → let w = dp_word c i op s rn rd n in
    (bit_range w 28 32 ≡ c) × (bit_range w 25 26 ≡ i) × (bit_range w 21 25 ≡ op) × (bit_range w 20 21 ≡ s) × (bit_range w 16 20 ≡ rn) × (bit_range w 12 16 ≡ rd) × (bit_range w 0 12 ≡ n)
dp_read f = omega arith

pub dp_words : (form : Form) (P : ℕ → Type 0) → ((c i op s rn rd n : ℕ) → DpFields c i op s rn rd n → Of form A.DataProcessing P (dp_word c i op s rn rd n)) → Words form A.DataProcessing P
unfolding arm_rows
dp_words form P f = words form 14 P (λ ds. only) (λ c d6 x y z s rn rd d2 d1 d0 b h m. made form 14 P (f c (d6 / 2) (d6 % 2 * 8 + x * 4 + y * 2 + z) s rn rd (d2 * 256 + d1 * 16 + d0) (omega arith)) (omega arith))

-- ---- words that look like tests with S clear, and are other kinds
pub dp_mrs : (c p rd : ℕ) → dp_word c 0 (8 + p * 2) 0 15 rd 0 ≡ mrs_word c p rd
dp_mrs c p rd = omega arith

pub dp_msr : (c p rm : ℕ) → dp_word c 0 (9 + p * 2) 0 9 15 rm ≡ msr_word c p rm
dp_msr c p rm = omega arith

pub dp_flags : (c p i n : ℕ) → dp_word c i (9 + p * 2) 0 8 15 n ≡ flags_word c p i n
dp_flags c p i n = omega arith

pub dp_bx : (c rm : ℕ) → dp_word c 0 9 0 15 15 (0xf10 + rm) ≡ bx_word c rm
dp_bx c rm = omega arith

-- Rn is pc, and bits 25, 21 and 11-0 are clear: a test with S clear is mrs
abbrev pub mrs_shape : ℕ → ℕ → ℕ → ℕ → Bool
mrs_shape i op rn n = eqb (15 + i + op % 2 + n) rn

-- by digits: the opcode is o * 8 + t, and operand 2 is a, b, e
module _ (form : Form) (c i o t s rn rd a b e : ℕ) (h : DpFields c i (o * 8 + t) s rn rd (a * 256 + b * 16 + e)) (ht : t < 8) (g : (b < 16) × (e < 16)) (clear : b % 2 + b / 8 ≤ 1 + i) where
  abbrev W : ℕ
  W = dp_word c i (o * 8 + t) s rn rd (a * 256 + b * 16 + e)

  abbrev ds : List ℕ
  ds = hex c (i * 2 + o) (t * 2 + s) rn rd a b e

  by_case : (o * 2 + t / 4 ≡ 2 → s ≡ 0 → (rd < 15) × (15 + i + t % 2 + (a * 256 + b * 16 + e) ≡ rn → ⊥)) → arm_format form W ≡ A.DataProcessing
  unfolding arm_rows
  by_case k =
      by_test (eqb (o * 2 + t / 4) 2)
      (λ x. by_test (eqb s 0)
      (λ y. let r = k (eqb-true _ _ x) (eqb-true _ _ y) in kind_of form 14 W ds (omega arith) (omega (arith, r.1)) (omega (arith, r.1)))
      (λ y. let n = eqb-false s 0 y in kind_of form 14 W ds (omega arith) (omega arith) (omega arith)))
      (λ x. let n = eqb-false (o * 2 + t / 4) 2 x in kind_of form 14 W ds (omega arith) (omega arith) (omega arith))

eighth : (m : ℕ) → m % 16 / 8 ≡ m / 8 % 2
eighth m = omega arith

even : (op : ℕ) → op / 4 ≡ 2 → op % 2 ≡ 0 → 8 + op / 2 % 2 * 2 ≡ op
even op t z = omega arith

-- operand 2 by its digits
digit_one : (i n : ℕ) → i < 2 → (i ≡ 0 → bit_range n 4 5 ≡ 1 → bit_range n 7 8 ≡ 0) → n / 16 % 16 % 2 + n / 16 % 16 / 8 ≤ 1 + i
digit_one i n h clear =
    let b4 : n / 16 % 16 % 2 ≡ bit_range n 4 5 = omega arith in
    let q : n / 16 / 8 ≡ n / 2 ^ 7 = omega arith in
    let b7 : n / 16 % 16 / 8 ≡ bit_range n 7 8 = eighth (n / 16) ∙ ap (λ (x : ℕ). x % 2) q in
    rw (b4, b7) (by_test (eqb i 0)
    (λ z. by_test (bit n 4) (λ b. let q = clear (eqb-true _ _ z) (eqb-true _ _ b) in omega arith) (λ b. let q = eqb-false (bit_range n 4 5) 1 b in omega arith))
    (λ z. let q = eqb-false i 0 z in omega arith))

module _ {c i op s rn rd n : ℕ} (f : DpFields c i op s rn rd n) (form : Form) where
  -- bit 7 clear where bit 4 is set; and a test with S clear has no Rd of 15, and is not mrs
  pub dp_kind : (i ≡ 0 → bit_range n 4 5 ≡ 1 → bit_range n 7 8 ≡ 0) → (op / 4 ≡ 2 → s ≡ 0 → (rd < 15) × (mrs_shape i op rn n ≡ false)) → arm_format form (dp_word c i op s rn rd n) ≡ A.DataProcessing
  dp_kind clear test =
      let p : op / 8 * 8 + op % 8 ≡ op = omega arith in
      let q : n / 256 * 256 + n / 16 % 16 * 16 + n % 16 ≡ n = omega arith in
      let g : DpFields c i (op / 8 * 8 + op % 8) s rn rd (n / 256 * 256 + n / 16 % 16 * 16 + n % 16) = rw (p, q) f in
      let t : op / 8 * 2 + op % 8 / 4 ≡ op / 4 = omega arith in
      let e : op % 8 % 2 ≡ op % 2 = omega arith in
      rw (p, q) at (by_case form c i (op / 8) (op % 8) s rn rd (n / 256) (n / 16 % 16) (n % 16) g (omega arith) (omega arith) (digit_one i n f.hi clear)
      (λ x y. let r = test (sym t ∙ x) y in (r.0, rw (e, q) (eqb-false (15 + i + op % 2 + n) rn r.1))))

  -- a test that would be mrs has S set
  pub dp_s_lem : arm_format form (dp_word c i op s rn rd n) ≡ A.DataProcessing → op / 4 ≡ 2 → mrs_shape i op rn n ≡ true → s ≡ 1
  dp_s_lem e t m =
      by_test (eqb s 1) (λ y. eqb-true _ _ y)
      (λ y. let z = eqb-false s 1 y in
      let x = eqb-true (15 + i + op % 2 + n) rn m in
      let g : MrsFields c (op / 2 % 2) rd = omega arith in
      let o = even op t (omega arith) in
      let q : mrs_word c (op / 2 % 2) rd ≡ dp_word c i op s rn rd n = omega arith in
      absurd (differ A.MoveFromStatus A.DataProcessing (sym (mrs_kind g form) ∙ ap (arm_format form) q ∙ e) tt))

-- ---- what a line does not show
-- tst, teq, cmp and cmn; mov and mvn
abbrev pub dp_test : ℕ → Bool
dp_test op = eqb (op / 4) 2

abbrev pub dp_move : ℕ → Bool
dp_move op = eqb (op / 4) 3 && eqb (op % 2) 1

pub same_test : (a b : Bool) → beq a b ≡ true → a ≡ b
same_test true true e = refl
same_test true false e = sym e
same_test false true e = e
same_test false false e = refl

pub dp_test_lem : (op : ℕ) → op < 16 → is_setting_flags (alu_op_code op) ≡ dp_test op
unfolding alu_op_code
dp_test_lem op h = same_test _ _ (at (λ op. beq (is_setting_flags (alu_op_code op)) (dp_test op)) 16 refl op h)

-- Rn of a move on the sheet, Rd of a test and on the bench (S1), and on the bench S of a test, unless that would be mrs; on the sheet a test has S (S11)
abbrev pub dp_rn : Form → ℕ → ℕ → ℕ
dp_rn form op rn = shown (bench form || not (dp_move op)) rn

abbrev pub dp_rd : Form → ℕ → ℕ → ℕ
dp_rd form op rd = shown (not (bench form || dp_test op)) rd

abbrev pub dp_test_s : Form → ℕ → ℕ → ℕ → ℕ → Bool
dp_test_s form i op rn n = not (bench form) || mrs_shape i op rn n

abbrev pub dp_s : Form → ℕ → ℕ → ℕ → ℕ → ℕ → ℕ
dp_s form i op s rn n = cond (dp_test op) (cond (dp_test_s form i op rn n) 1 0) s

module _ {c i op s rn rd n : ℕ} (f : DpFields c i op s rn rd n) (form : Form) (e : arm_format form (dp_word c i op s rn rd n) ≡ A.DataProcessing) (k : ℕ) (low : k ≤ n) (o : i ≡ 0 → ShiftLeast n k) (sheet : bench form ≡ false → dp_test op ≡ true → s ≡ 1) where
  abbrev R : ℕ
  R = dp_rn form op rn

  abbrev D : ℕ
  D = dp_rd form op rd

  abbrev S : ℕ
  S = dp_s form i op s (dp_rn form op rn) k

  r_low : R ≤ rn
  r_low = shown_low (bench form || not (dp_move op)) rn

  d_low : D ≤ rd
  d_low = shown_low (not (bench form || dp_test op)) rd

  d_test : dp_test op ≡ true → D ≡ 0
  d_test t = by_test (bench form) (λ b. rw b) (λ b. rw (b, t))

  -- if that would be mrs, so would the word be
  mrs : mrs_shape i op R k ≡ true → mrs_shape i op rn n ≡ true
  mrs t =
      let x = eqb-true (15 + i + op % 2 + k) R t in
      let l = r_low in
      let z : n ≡ 0 = (o (omega arith)).some (omega arith) in
      eq-eqb (15 + i + op % 2 + n) rn (omega arith)

  s_low : S ≤ s
  s_low =
      by_test (dp_test op)
      (λ t. by_test (bench form)
      (λ b. by_test (mrs_shape i op R k)
      (λ m. let y = dp_s_lem f form e (eqb-true _ _ t) (mrs m) in rw (t, m, b) (omega arith))
      (λ m. rw (t, m, b) (omega arith)))
      (λ b. let y = sheet b t in rw (t, b) (omega arith)))
      (λ t. rw t (omega arith))

  s_mrs : dp_test op ≡ true → S ≡ 0 → mrs_shape i op R k ≡ false
  s_mrs t z =
      by_test (mrs_shape i op R k)
      (λ m. let x : S ≡ 1 = by_test (bench form) (λ b. rw (t, m, b)) (λ b. rw (t, b)) in absurd (omega (arith, x, z)))
      (λ m. m)

  -- with any operand 2 that is not higher, and a register's as far as it is shown
  pub dp_least : let r = dp_rn form op rn in let d = dp_rd form op rd in let t = dp_s form i op s r k in
      Least (DpFields c i op t r d k) form A.DataProcessing (dp_word c i op t r d k) (dp_word c i op s rn rd n)
  dp_least =
      let a = r_low in
      let b = d_low in
      let d = s_low in
      let g : DpFields c i op S R D k = omega arith in
      record {
        fields = g;
        low = omega arith;
        kind = dp_kind g form (λ z. (o z).clear) (λ t z. let q = d_test (eq-eqb _ _ t) in (omega arith, s_mrs (eq-eqb _ _ t) z));
      }
