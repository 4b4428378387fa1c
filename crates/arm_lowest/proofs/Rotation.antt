-- Rotated immediates: the lowest rotation of a number. Assumes nothing.
use Prim.Native.Nat.{◌%◌, ◌*◌, ◌+◌, ◌-◌, ◌/◌, ◌<◌, ◌^◌, ◌≤◌, ℕ}
use borrow.Author.Tests.{eqb-false, eqb-true, lt-ltb, ltb-true}
use lib.Dec.{eqb, ltb}
use lib.Pow.{pow_pos}
use mathlib.Core.Bool.{true}
use mathlib.Core.Path.{◌∙◌, ◌≡◌, refl}
use native.Mathlib.Nat.{mod-eq_of_lt}
use native.Mathlib.Omega.{arith}
use Rattle.arm7tdmi.proofs.Rotate.{parts, turn_back, turned_lt}
use Rattle.arm7tdmi.specs.Alu.{rotate_right}
use Rattle.arm_candidate.specs.CandidateOperand.{immediate_of, rotation_of, turned_back}
use Rattle.common.proofs.Lowest.{lowest_at_most, lowest_passes}
use Rattle.common.proofs.Tests.{by_test}
use Rattle.common.specs.Bits.{bit_range}
use Rattle.common.specs.Lowest.{lowest}

-- turned by at most 32 places
rotate_by : (v k : ℕ) → k ≤ 32 → v < 2 ^ 32 → rotate_right v k ≡ v / 2 ^ k + v % 2 ^ k * 2 ^ (32 - k)
unfolding rotate_right
rotate_by v k h l =
    by_test (eqb k 32)
    (λ e. let z : k ≡ 32 = eqb-true _ _ e in rw z (omega arith))
    (λ e. let n = eqb-false k 32 e in let z : k % 32 ≡ k = mod-eq_of_lt (omega arith) in rw z)

pub rotate_lt : (v k : ℕ) → k ≤ 32 → v < 2 ^ 32 → rotate_right v k < 2 ^ 32
rotate_lt v k h l = rw (rotate_by v k h l) (turned_lt v k h l)

-- turned on to 32 places, it is as it was
rotate_back : (v j k : ℕ) → j + k ≡ 32 → v < 2 ^ 32 → rotate_right (rotate_right v j) k ≡ v
rotate_back v j k e l =
    let y : 32 - k ≡ j = omega arith in
    let z : 32 - j ≡ k = omega arith in
    let p = rw z at (parts j (omega arith)) in
    rotate_by (rotate_right v j) k (omega arith) (rotate_lt v j (omega arith) l)
    ∙ rw (y, rotate_by v j (omega arith) l, z) (turn_back (2 ^ j) (2 ^ k) v (pow_pos j) (pow_pos k) (rw p l))

-- the number that twelve bits print
abbrev pub immediate_at : ℕ → ℕ
immediate_at n = rotate_right (bit_range n 0 8) (2 * bit_range n 8 12)

pub immediate_lt : (n : ℕ) → immediate_at n < 2 ^ 32
immediate_lt n = rotate_lt (bit_range n 0 8) (2 * bit_range n 8 12) (omega arith) (omega arith)

-- the lowest twelve bits that print it
pub record ImmediateLeast (n k : ℕ) : Type 0 where
  pub low : k ≤ n
  pub value : immediate_at k ≡ immediate_at n

split : (r b : ℕ) → b < 256 → r < 16 → (bit_range (r * 2 ^ 8 + b) 0 8 ≡ b) × (bit_range (r * 2 ^ 8 + b) 8 12 ≡ r)
split r b h g = omega arith

whole : (n : ℕ) → n < 2 ^ 12 → bit_range n 8 12 * 2 ^ 8 + bit_range n 0 8 ≡ n
whole n h = omega arith

module _ (v r b : ℕ) (hb : b < 256) (hr : r < 16) (e : rotate_right b (2 * r) ≡ v) where
  back : turned_back v r ≡ b
  back = rw (← e) (rotate_back b (2 * r) (32 - 2 * r) (omega arith) (omega arith))

  -- the rotation found is at most any that has the number, and turns some byte into it
  pub rotation_least : (immediate_of v ≤ r * 2 ^ 8 + b) × (immediate_at (immediate_of v) ≡ v)
  unfolding immediate_of rotation_of
  rotation_least =
      let vl : v < 2 ^ 32 = rw (← e) (rotate_lt b (2 * r) (omega arith) (omega arith)) in
      let p : ltb (turned_back v r) 256 ≡ true = rw back (lt-ltb b 256 hb) in
      let l = lowest_at_most (λ r. ltb (turned_back v r) 256) 16 r p in
      let s : lowest (λ r. ltb (turned_back v r) 256) 16 < 16 = omega arith in
      let q = ltb-true _ _ (lowest_passes (λ r. ltb (turned_back v r) 256) 16 s) in
      let m : turned_back v (lowest (λ r. ltb (turned_back v r) 256) 16) < 256 = q in
      rw (lt-ltb (lowest (λ r. ltb (turned_back v r) 256) 16) 16 s)
      (lower v r b (lowest (λ r. ltb (turned_back v r) 256) 16) l back m, back_value v (lowest (λ r. ltb (turned_back v r) 256) 16) s m vl)
    where
      lower : (v r b R : ℕ) → R ≤ r → turned_back v r ≡ b → turned_back v R < 256 → R * 2 ^ 8 + turned_back v R ≤ r * 2 ^ 8 + b
      lower v r b R l e m =
          by_test (eqb R r) (λ q. let z : R ≡ r = eqb-true _ _ q in rw (z, e) (omega arith))
          (λ q. let n = eqb-false R r q in omega arith)

      back_value : (v R : ℕ) → R < 16 → turned_back v R < 256 → v < 2 ^ 32 → immediate_at (R * 2 ^ 8 + turned_back v R) ≡ v
      back_value v R h m l =
          let s = split R (turned_back v R) m h in
          rw (s.0, s.1) (rotate_back v (32 - 2 * R) (2 * R) (omega arith) l)

pub immediate_least : (n : ℕ) → n < 2 ^ 12 → ImmediateLeast n (immediate_of (immediate_at n))
immediate_least n h =
    let l = rotation_least (immediate_at n) (bit_range n 8 12) (bit_range n 0 8) (omega arith) (omega arith) refl in
    record { low = rw (whole n h) at l.0; value = l.1 }
