-- A word turned right: its parts, and that it is turned back. Assumes nothing.
use borrow.Author.Tests.{eqb-false}
use Rattle.common.proofs.Tests.{by_test}
use Rattle.std.specs.Int.Bits.{or_shifted_r}
use lib.Bits.{or_self}
use Rattle.std.proofs.Common.{eqb, eqb-true, ◌≡◌, ℕ, ◌+◌, ◌-◌, ◌*◌, ◌/◌, ◌%◌, ◌^◌, ◌<◌, ◌≤◌, bit_or, sym, ap, ◌∙◌, add-zero, mul-le-mul_right, mod-lt, mod-eq_of_lt, div-lt_iff_lt-mul, div-add-mod', arith, pow_pos, pow-add}
use lib.Pow.{mod-pow-add, shl-shr}
use native.Mathlib.Nat.{add-mul-div_right, add-mul-mod_self_right, div-eq_of_lt, mul-mod_left}

-- of any p and q: v, cut at p and turned, is cut at q
module _ (p q v : ℕ) (hp : 0 < p) (hq : 0 < q) (h : v < q * p) where
  top : v / p < q
  top = (div-lt_iff_lt-mul hp).1 h

  turn_div : (v / p + v % p * q) / q ≡ v % p
  turn_div = let a = add-mul-div_right (v / p) (v % p) {z = q} hq in let b = div-eq_of_lt top in omega arith

  turn_mod : (v / p + v % p * q) % q ≡ v / p
  turn_mod = add-mul-mod_self_right (v / p) (v % p) q ∙ mod-eq_of_lt top

  -- turned on by q, it is as it was
  pub turn_back : (v / p + v % p * q) / q + (v / p + v % p * q) % q * p ≡ v
  turn_back = let d = div-add-mod' v p in rw (turn_div, turn_mod) (omega arith)

  pub turn_lt : v / p + v % p * q < p * q
  turn_lt =
      let l : v % p < p = mod-lt v hp in
      let m : (v % p + 1) * q ≤ p * q = mul-le-mul_right q (omega arith) in
      let t = top in
      let e : (v % p + 1) * q ≡ v % p * q + q = omega arith in
      omega arith

-- the two parts of a word of 32 bits
pub parts : (k : ℕ) → k ≤ 32 → 2 ^ (32 - k) * 2 ^ k ≡ 2 ^ 32
parts k h = let e : 32 - k + k ≡ 32 = omega arith in sym (pow-add 2 (32 - k) k) ∙ ap (λ (n : ℕ). 2 ^ n) e

pub parts' : (k : ℕ) → k ≤ 32 → 2 ^ k * 2 ^ (32 - k) ≡ 2 ^ 32
parts' k h = let e : k + (32 - k) ≡ 32 = omega arith in sym (pow-add 2 k (32 - k)) ∙ ap (λ (n : ℕ). 2 ^ n) e

-- what `<<` leaves of a word
pub shifted_up : (v k : ℕ) → k ≤ 32 → v * 2 ^ (32 - k) % 2 ^ 32 ≡ v % 2 ^ k * 2 ^ (32 - k)
shifted_up v k h =
    let e : k + (32 - k) ≡ 32 = omega arith in
    let z = mul-mod_left v (2 ^ (32 - k)) in
    ap (λ (n : ℕ). v * 2 ^ (32 - k) % 2 ^ n) (sym e)
    ∙ mod-pow-add (v * 2 ^ (32 - k)) k (32 - k)
    ∙ rw (shl-shr v (32 - k), z, add-zero)

pub turned_lt : (v k : ℕ) → k ≤ 32 → v < 2 ^ 32 → v / 2 ^ k + v % 2 ^ k * 2 ^ (32 - k) < 2 ^ 32
turned_lt v k h l = rw (parts' k h) at (turn_lt (2 ^ k) (2 ^ (32 - k)) v (pow_pos k) (pow_pos (32 - k)) (rw (parts k h) l))

-- what `rotate_right` of std is, said as a sum
pub turned_or : (v n : ℕ) → v < 2 ^ 32 → bit_or (v / 2 ^ (n % 32)) (v * 2 ^ ((32 - n % 32) % 32) % 2 ^ 32) ≡ v / 2 ^ (n % 32) + v % 2 ^ (n % 32) * 2 ^ (32 - n % 32)
turned_or v n l = by_test (eqb (n % 32) 0)
    (λ e.
    let m : v * 1 % 2 ^ 32 ≡ v = omega arith in
    let d : v / 1 ≡ v = omega arith in
    rw (eqb-true _ _ e, m, d, or_self) (omega arith))
    (λ e.
    let d = eqb-false _ _ e in
    let h : n % 32 ≤ 32 = omega arith in
    let k : (32 - n % 32) % 32 ≡ 32 - n % 32 = omega arith in
    let q = top (2 ^ (n % 32)) (2 ^ (32 - n % 32)) v (pow_pos (n % 32)) (pow_pos (32 - n % 32)) (rw (parts (n % 32) h) l) in
    rw (k, shifted_up v (n % 32) h, or_shifted_r (v % 2 ^ (n % 32)) (32 - n % 32) (v / 2 ^ (n % 32)) q) (omega arith))
