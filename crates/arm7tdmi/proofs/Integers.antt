-- Signed numbers of 32 bits: the shift that keeps the sign, and the bits of a sign-extended field. Assumes nothing.
use Rattle.std.proofs.Common.{◌≡◌, ℕ, zero, suc, Option, Some, None, SomeIff, unwrap_or, pow-add, ◌+◌, ◌-◌, ◌*◌, ◌/◌, ◌%◌, ◌^◌, ◌<◌, ◌≤◌, ltb, ℤ, pos, negsuc, neg_ℤ, sym, ap, ◌∙◌, mul-le-mul_right, add-mul, mod-lt, mod-eq_of_lt, pow_pos, arith, w32, to_z, of_z, ltb-true}
use lib.Pow.{pow-lt}
use lib.Signed.{mag, shr_z}
use native.Mathlib.Nat.{mul-mod_left}
use mir.ValLaws.{to_z-of_z, to_z_pos}
use Rattle.arm7tdmi.specs.Signed.{extended, signed_times}
use Rattle.arm7tdmi.proofs.Rotate.{parts', shifted_up}
use Rattle.common.proofs.Tests.{by_test}
use Rattle.std.proofs.Math.Facts.{to_z-neg}
use Rattle.std.proofs.lemmas.Int.{of_z-to_z}
use borrow.Author.Tests.{ltb-false}

-- ---- a power of two that has room in 32 bits
pub pow_whole : (n : ℕ) → n < 32 → 2 ^ n % 2 ^ 32 ≡ 2 ^ n
pow_whole n h = mod-eq_of_lt (pow-lt {j = 32} h)

pub pow_out : (n : ℕ) → 32 ≤ n → 2 ^ n % 2 ^ 32 ≡ 0
pow_out n h =
    let e : n ≡ n - 32 + 32 = omega arith in
    let p : 2 ^ n ≡ 2 ^ (n - 32) * 2 ^ 32 = ap (λ (k : ℕ). 2 ^ k) e ∙ pow-add 2 (n - 32) 32 in
    rw p (mul-mod_left (2 ^ (n - 32)) (2 ^ 32))

-- what is taken where there is no value
pub or_default : (o : Option ℕ) (P : Type 0) (v d : ℕ) → SomeIff o P v → ((P → ⊥) → d ≡ v) → unwrap_or o d ≡ v
or_default None P v d h f = f h
or_default (Some x) P v d h f = h.1

-- ---- a number below zero, and the negative of a number
pub below_zero : (k : ℕ) → k < 2 ^ 31 → to_z w32 (of_z w32 (negsuc k)) ≡ negsuc k
below_zero k h = to_z-of_z w32 (negsuc k) (record { sfits = h })

pub neg_pos : (m : ℕ) → 0 < m → neg_ℤ (pos m) ≡ negsuc (m - 1)
neg_pos zero h = absurd (let z : suc 0 ≤ 0 = h in omega arith)
neg_pos (suc k) h = ap negsuc (omega arith)

-- ---- a signed number and its bits
pub kept_value : (z : ℤ) → mag z < 2 ^ 31 - 1 → to_z w32 (of_z w32 z) ≡ z
kept_value z h = to_z-of_z w32 z (record { sfits = omega arith })

-- ---- a sign-extended field: its size, and its bits, for any width and scale that leave room
module _ (w k x : ℕ) (h : x < 2 ^ w) (s : 0 < k) (r : 2 ^ w * k ≤ 2 ^ 30) where
  pub down_size : (2 ^ w - x) * k ≤ 2 ^ 30
  down_size = let a : (2 ^ w - x) * k ≤ 2 ^ w * k = mul-le-mul_right k (omega arith) in omega arith

  down_some : 0 < (2 ^ w - x) * k
  down_some = let a : 1 * k ≤ (2 ^ w - x) * k = mul-le-mul_right k (omega arith) in omega arith

  pub up_size : x * k ≤ 2 ^ 30
  up_size = let a : x * k ≤ 2 ^ w * k = mul-le-mul_right k (omega arith) in omega arith

  pub extended_small : mag (signed_times w k x) < 2 ^ 31 - 1
  extended_small =
      by_test (ltb x (2 ^ (w - 1)))
      (λ e. let a = up_size in rw e (omega arith))
      (λ e. let a = down_size in let b = down_some in rw (e, neg_pos ((2 ^ w - x) * k) b) (omega arith))

  pub extended_bits : of_z w32 (signed_times w k x) ≡ extended w k x
  unfolding extended
  extended_bits =
      by_test (ltb x (2 ^ (w - 1)))
      (λ e. rw e)
      (λ e. let a = down_size in let b = down_some in rw (e, neg_pos ((2 ^ w - x) * k) b) (omega arith))

  -- a result that is passed on is read back from its bits
  module _ {z : ℤ} (e : z ≡ signed_times w k x) where
    pub handed : to_z w32 (of_z w32 z) ≡ signed_times w k x
    handed = ap (λ (y : ℤ). to_z w32 (of_z w32 y)) e ∙ kept_value (signed_times w k x) extended_small

    pub handed_bits : of_z w32 (to_z w32 (of_z w32 z)) ≡ extended w k x
    handed_bits = rw handed extended_bits

-- ---- a field of w bits, shifted up until its sign is at the top, and down by d with it: sign-extended, times k
module _ (w d k raw : ℕ) (h : w ≤ 32) (half : 2 ^ (w - 1) * 2 ^ (32 - w) ≡ 2 ^ 31) (s : 0 < k) (r : 2 ^ w * k ≤ 2 ^ 30)
    (up : (x : ℕ) → x * 2 ^ (32 - w) / d ≡ x * k) (down : (m : ℕ) → 0 < m → (m * 2 ^ (32 - w) - 1) / d ≡ m * k - 1) where
  -- of the field x: without its sign, and with it
  below : (x : ℕ) → x < 2 ^ w → x < 2 ^ (w - 1) → to_z w32 (of_z w32 (shr_z (to_z w32 (x * 2 ^ (32 - w))) d)) ≡ pos (x * k)
  below x l g =
      let a : (x + 1) * 2 ^ (32 - w) ≤ 2 ^ (w - 1) * 2 ^ (32 - w) = mul-le-mul_right (2 ^ (32 - w)) (omega arith) in
      let p = pow_pos (32 - w) in
      let e : (x + 1) * 2 ^ (32 - w) ≡ x * 2 ^ (32 - w) + 2 ^ (32 - w) = omega arith in
      let u = up_size w k x l s r in
      ap (λ (z : ℤ). to_z w32 (of_z w32 (shr_z z d))) (to_z_pos w32 (x * 2 ^ (32 - w)) (omega arith)) ∙ ap (λ (n : ℕ). to_z w32 n) (up x) ∙ to_z_pos w32 (x * k) (omega arith)

  above : (x : ℕ) → x < 2 ^ w → 2 ^ (w - 1) ≤ x → to_z w32 (of_z w32 (shr_z (to_z w32 (x * 2 ^ (32 - w))) d)) ≡ neg_ℤ (pos ((2 ^ w - x) * k))
  above x l g =
      let m = 2 ^ w - x in
      let a : 2 ^ (w - 1) * 2 ^ (32 - w) ≤ x * 2 ^ (32 - w) = mul-le-mul_right (2 ^ (32 - w)) g in
      let b : 1 * 2 ^ (32 - w) ≤ m * 2 ^ (32 - w) = mul-le-mul_right (2 ^ (32 - w)) (omega arith) in
      let p = pow_pos (32 - w) in
      let q = parts' w h in
      let t : m + x ≡ 2 ^ w = omega arith in
      let e : m * 2 ^ (32 - w) + x * 2 ^ (32 - w) ≡ 2 ^ 32 = sym (add-mul m x (2 ^ (32 - w))) ∙ ap (λ (n : ℕ). n * 2 ^ (32 - w)) t ∙ q in
      let f : x * 2 ^ (32 - w) ≡ 2 ^ 32 - suc (m * 2 ^ (32 - w) - 1) = omega arith in
      let o = down_some w k x l s r in
      let c = down_size w k x l s r in
      ap (λ (n : ℕ). to_z w32 (of_z w32 (shr_z (to_z w32 n) d))) f
      ∙ ap (λ (z : ℤ). to_z w32 (of_z w32 (shr_z z d))) (to_z-neg w32 (m * 2 ^ (32 - w) - 1) (omega arith))
      ∙ ap (λ (n : ℕ). to_z w32 (of_z w32 (negsuc n))) (down m (omega arith))
      ∙ below_zero (m * k - 1) (omega arith)
      ∙ sym (neg_pos (m * k) o)

  either : (x : ℕ) → x < 2 ^ w → to_z w32 (of_z w32 (shr_z (to_z w32 (x * 2 ^ (32 - w))) d)) ≡ signed_times w k x
  either x l = by_test (ltb x (2 ^ (w - 1))) (λ t. rw t (below x l (ltb-true _ _ t))) (λ t. rw t (above x l (ltb-false _ _ t)))

  pub sign_kept : {z : ℤ} → z ≡ to_z w32 (raw * 2 ^ (32 - w) % 2 ^ 32) → to_z w32 (of_z w32 (shr_z (to_z w32 (of_z w32 z)) d)) ≡ signed_times w k (raw / 1 % 2 ^ w)
  sign_kept e =
      let q : raw ≡ raw / 1 = omega arith in
      ap (λ (y : ℤ). to_z w32 (of_z w32 (shr_z (to_z w32 (of_z w32 y)) d))) e
      ∙ ap (λ (n : ℕ). to_z w32 (of_z w32 (shr_z (to_z w32 n) d))) (of_z-to_z w32 (raw * 2 ^ (32 - w) % 2 ^ 32) (omega arith) ∙ shifted_up raw w h)
      ∙ either (raw % 2 ^ w) (mod-lt raw (pow_pos w))
      ∙ ap (λ (n : ℕ). signed_times w k (n % 2 ^ w)) q
