-- Halfword transfers, by a register and by a number: words from fields. Assumes nothing.
use Prim.Native.Nat.{◌%◌, ◌*◌, ◌+◌, ◌/◌, ◌<◌, ◌^◌, ◌≤◌, suc, zero, ℕ}
use borrow.Author.Tests.{eqb-false, eqb-true}
use lib.Dec.{eqb}
use mathlib.Core.Bool.{Bool, ◌&&◌, cond, true, true≢false}
use mathlib.Core.List.{List}
use mathlib.Core.Path.{◌∙◌, ◌≡◌, ap, refl, sym}
use native.Mathlib.Omega.{arith}
use Rattle.arm.specs.Kinds.{arm_format, arm_rows}
use Rattle.arm7tdmi.specs.declared.Form.{Form}
use Rattle.arm.specs.declared.ArmFormat.{ArmFormat}
use Rattle.arm_words.proofs.Scheme.{Least, Of, Words, differ, hex, kind_of, made, nibble, only, shown, shown_low, words}
use Rattle.arm_words.proofs.Status.{FlagsFields, flags_kind, flags_word}
use Rattle.arm_words.proofs.Transfer.{unsigned}
use Rattle.common.proofs.Tests.{by_test}
use Rattle.common.specs.Bits.{bit_range}
use Rattle.arm.specs.declared.ArmFormat.TheVariants as A

-- i is bit 22: by a number, hi and lo its digits, or by the register lo; k is the type, bits 6-5
abbrev pub half_word : ℕ → ℕ → ℕ → ℕ → ℕ → ℕ → ℕ → ℕ → ℕ → ℕ → ℕ → ℕ
half_word c i p u w l k rn rd hi lo = c * 2 ^ 28 + p * 2 ^ 24 + u * 2 ^ 23 + i * 2 ^ 22 + w * 2 ^ 21 + l * 2 ^ 20 + rn * 2 ^ 16 + rd * 2 ^ 12 + hi * 2 ^ 8 + 9 * 2 ^ 4 + k * 2 ^ 5 + lo

abbrev pub half_kind : ℕ → ArmFormat
half_kind zero = A.HalfwordDataTransferRegOffset
half_kind (suc i) = A.HalfwordDataTransferImmediateOffset

-- by a register bits 11-8 are clear
pub record HalfFields (c i p u w l k rn rd hi lo : ℕ) : Type 0 where
  pub hc : c < 16
  pub hi' : i < 2
  pub hp : p < 2
  pub hu : u < 2
  pub hw : w < 2
  pub hl : l < 2
  pub hk : k < 4
  pub hrn : rn < 16
  pub hrd : rd < 16
  pub hhi : hi < 1 + i * 15
  pub hlo : lo < 16

odd : (d : ℕ) → (d / 8 ≡ 1) × (d % 2 ≡ 1) → 9 + d / 2 % 4 * 2 ≡ d
odd d h = omega arith

module _ {c i p u w l k rn rd hi lo : ℕ} (f : HalfFields c i p u w l k rn rd hi lo) where
  pub half_read : let v = half_word c i p u w l k rn rd hi lo in
      (bit_range v 28 32 ≡ c) × (bit_range v 22 23 ≡ i) × (bit_range v 24 25 ≡ p) × (bit_range v 23 24 ≡ u) × (bit_range v 21 22 ≡ w) × (bit_range v 20 21 ≡ l) × (bit_range v 5 7 ≡ k) × (bit_range v 16 20 ≡ rn) × (bit_range v 12 16 ≡ rd) × (bit_range v 8 12 ≡ hi) × (bit_range v 0 4 ≡ lo)
  half_read = omega arith

  abbrev W : ℕ
  W = half_word c i p u w l k rn rd hi lo

  abbrev ds : List ℕ
  ds = hex c p (u * 8 + i * 4 + w * 2 + l) rn rd hi (9 + k * 2) lo

  -- bits 24-12 but bit 22
  abbrev top : ℕ
  top = p * 2 ^ 12 + u * 2 ^ 11 + w * 2 ^ 9 + l * 2 ^ 8 + rn * 2 ^ 4 + rd

  other : (form : Form) → (top ≡ 0x128f → ⊥) → 1 ≤ k → arm_format form W ≡ half_kind i
  unfolding arm_rows
  other form t h =
      let q = nibble u i w l (omega arith) in
      by_test (eqb i 0)
      (λ e. let z = eqb-true i 0 e in kind_of form 10 W ds (omega arith) (omega arith) (omega arith) ∙ ap half_kind (sym z))
      (λ e. let z : i ≡ 1 = let y = eqb-false i 0 e in omega arith in kind_of form 11 W ds (omega arith) (omega arith) (omega arith) ∙ ap half_kind (sym z))

  -- all types but none, and all but moves to flags
  pub half_kind_lem : (form : Form) → 1 ≤ k → (p ≡ 1 → u ≡ 0 → w ≡ 1 → l ≡ 0 → rn ≡ 8 → rd ≡ 15 → ⊥) → arm_format form (half_word c i p u w l k rn rd hi lo) ≡ half_kind i
  half_kind_lem form h t = other form (λ e. t (omega arith) (omega arith) (omega arith) (omega arith) (omega arith) (omega arith)) h

pub half_words : (form : Form) (P : ℕ → Type 0) (i : ℕ) → i < 2 →
    ((c p u w l k rn rd hi lo : ℕ) → HalfFields c i p u w l k rn rd hi lo → Of form (half_kind i) P (half_word c i p u w l k rn rd hi lo)) → Words form (half_kind i) P
unfolding arm_rows
half_words form P zero h f = words form 10 P (λ ds. only) (λ c p u y w l rn rd hi d1 lo b h m. let q = odd d1 (omega arith) in made form 10 P (f c p u w l (d1 / 2 % 4) rn rd hi lo (omega arith)) (omega arith))
half_words form P (suc zero) h f = words form 11 P (λ ds. only) (λ c p u y w l rn rd hi d1 lo b h m. let q = odd d1 (omega arith) in made form 11 P (f c p u w l (d1 / 2 % 4) rn rd hi lo (omega arith)) (omega arith))
half_words form P (suc (suc i)) h f = absurd (omega arith)

-- ---- moves to flags
pub half_flags : (c i k hi lo : ℕ) → half_word c i 1 0 1 0 k 8 15 hi lo ≡ flags_word c i 0 (hi * 2 ^ 8 + 9 * 2 ^ 4 + k * 2 ^ 5 + lo)
half_flags c i k hi lo = omega arith

-- bits 24 and 21-12 are those of a move to flags: with U clear it is one
abbrev pub flags_shape : ℕ → ℕ → ℕ → ℕ → ℕ → Bool
flags_shape p w l rn rd = eqb (p * 2 ^ 12 + w * 2 ^ 9 + l * 2 ^ 8 + rn * 2 ^ 4 + rd) 0x128f

not_flags : (i : ℕ) → A.MoveToFlags ≡ half_kind i → ⊥
not_flags zero e = differ _ _ e tt
not_flags (suc i) e = differ _ _ e tt

-- ---- what a line does not show
-- W of one that is indexed behind; and the sign of zero, U, but for moves to flags
abbrev pub half_w : ℕ → ℕ → ℕ
half_w p w = shown (eqb p 1) w

abbrev pub half_u : Form → ℕ → ℕ → ℕ → Bool → ℕ
half_u form i u n t = cond (eqb i 1 && unsigned form n) (cond t 1 0) u

module _ {c i p u w l k rn rd hi lo : ℕ} (f : HalfFields c i p u w l k rn rd hi lo) (form : Form) (e : arm_format form (half_word c i p u w l k rn rd hi lo) ≡ half_kind i) where
  pub half_u_lem : flags_shape p (half_w p w) l rn rd ≡ true → u ≡ 1
  half_u_lem t =
      let q : p * 2 ^ 12 + half_w p w * 2 ^ 9 + l * 2 ^ 8 + rn * 2 ^ 4 + rd ≡ 0x128f = eqb-true _ _ t in
      let h = shown_low (eqb p 1) w in
      by_test (eqb u 1) (λ y. eqb-true _ _ y)
      (λ y. let z = eqb-false u 1 y in
      let n = hi * 2 ^ 8 + 9 * 2 ^ 4 + k * 2 ^ 5 + lo in
      let g : FlagsFields c i 0 n = omega arith in
      let s : flags_word c i 0 n ≡ half_word c i p u w l k rn rd hi lo = omega arith in
      absurd (not_flags i (sym (flags_kind g form) ∙ ap (arm_format form) s ∙ e)))

  u_least : (n : ℕ) (t : Bool) → (t ≡ true → u ≡ 1) → (half_u form i u n t ≤ u) × (t ≡ true → half_u form i u n t ≡ 1)
  u_least n t h =
      by_test (eqb i 1 && unsigned form n)
      (λ x. by_test t (λ y. let z = h y in rw (x, y) (omega arith, λ q. refl)) (λ y. rw (x, y) (omega arith, λ q. absurd (true≢false (sym q)))))
      (λ x. rw x (omega arith, h))

  pub half_least : 1 ≤ k → let x = half_w p w in let v = half_u form i u (hi * 2 ^ 4 + lo) (flags_shape p x l rn rd) in
      Least (HalfFields c i p v x l k rn rd hi lo) form (half_kind i) (half_word c i p v x l k rn rd hi lo) (half_word c i p u w l k rn rd hi lo)
  half_least hk =
      let t = flags_shape p (half_w p w) l rn rd in
      let a = u_least (hi * 2 ^ 4 + lo) t half_u_lem in
      let d = shown_low (eqb p 1) w in
      let g : HalfFields c i p (half_u form i u (hi * 2 ^ 4 + lo) t) (half_w p w) l k rn rd hi lo = omega arith in
      record {
        fields = g;
        low = omega arith;
        kind = half_kind_lem g form hk (λ x y z q r s. let v = a.1 (rw (z, x, q, r, s)) in omega arith);
      }
