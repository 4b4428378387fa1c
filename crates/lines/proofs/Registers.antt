-- Lists of registers: what one more register adds to a list. Assumes nothing.
use native.Mathlib.Numerals.{one-add, add-one}
use Prim.Native.Nat.{◌%◌, ◌*◌, ◌+◌, ◌-◌, ◌/◌, ◌<◌, ◌^◌, ◌≤◌, suc, zero, ℕ}
use borrow.Author.Tests.{eqb-false, eqb-true, ltb-false, ltb-true, ne_eqb}
use lib.Dec.{eqb, ltb}
use lib.Pow.{mod-mod-pow, mod-pow-add, pow_mono, pow_pos, shr-shr}
use mathlib.Core.Bool.{Bool, cond, false, true, true≢false}
use mathlib.Core.List.{List, [], ◌++◌, ◌∷◌, append_assoc, append-nil, map}
use mathlib.Core.Path.{◌∙◌, ◌≡◌, refl, sym}
use native.Mathlib.Nat.{add-zero, div-one, lt_of_lt_of_le, mod-eq_of_lt, mod-lt}
use native.Mathlib.Omega.{arith}
use Rattle.std.specs.Int.{bit_at}
use Rattle.arm7tdmi.specs.Names.{reg_string}
use Rattle.lines.specs.Pieces.{joined, listed, registers, set_bits}
use Rattle.lines.specs.Position.{names, so_far}
use Rattle.common.proofs.Tests.{by_test}
use Rattle.common.specs.Bits.{bit, bit_range}
use Rattle.text.specs.Text.{text}

-- ---- which bits are set below a number
-- bits 0 to i are those below i and bit i
split : (raw i : ℕ) → raw % 2 ^ suc i ≡ raw / 2 ^ i % 2 * 2 ^ i + raw % 2 ^ i
split raw i = rw one-add at (mod-pow-add raw 1 i)

low_zero : (raw i : ℕ) → raw % 2 ^ suc i ≡ 0 → (raw % 2 ^ i ≡ 0) × (raw / 2 ^ i % 2 ≡ 0)
low_zero raw i e =
    let s = split raw i in
    let p = pow_pos i in
    let z : raw / 2 ^ i % 2 * 2 ^ i ≡ 0 = omega arith in (
      omega arith,
      by_test (eqb (raw / 2 ^ i % 2) 0) (λ d. eqb-true _ _ d)
          (λ d. let n = eqb-false (raw / 2 ^ i % 2) 0 d in let o : raw / 2 ^ i % 2 ≡ 1 = omega arith in absurd (one_not (2 ^ i) p (rw o at z))),
    )
  where
    one_not : (m : ℕ) → 0 < m → 1 * m ≡ 0 → ⊥
    one_not m h e = omega arith

zero_low : (raw i : ℕ) → raw % 2 ^ i ≡ 0 → raw / 2 ^ i % 2 ≡ 0 → raw % 2 ^ suc i ≡ 0
zero_low raw i a b = rw (split raw i, b, a) (omega arith)

-- bits that are clear one by one
pub clear_below : (n z : ℕ) → ((i : ℕ) → i < z → bit_at n i ≡ 0) → n % 2 ^ z ≡ 0
clear_below n zero h = omega arith
clear_below n (suc z) h = zero_low n z (clear_below n z (λ i l. h i (omega arith))) (h z (omega arith))

none_below : (raw i : ℕ) → raw % 2 ^ i ≡ 0 → set_bits raw i ≡ []
unfolding set_bits
none_below raw zero e = refl
none_below raw (suc i) e =
    let h = low_zero raw i e in
    let f : bit raw i ≡ false = ne_eqb (raw / 2 ^ i % 2) 1 (λ q. let z : ◌≡◌ {A = ℕ} 0 1 = sym h.1 ∙ q in omega arith) in
    rw (f, none_below raw i h.0)

abbrev some : {A : Type 0} → List A → Bool
some [] = false
some (x ∷ xs) = true

some_append : {A : Type 0} (xs ys : List A) → some xs ≡ true → some (xs ++ ys) ≡ true
some_append [] ys e = absurd (true≢false (sym e))
some_append (x ∷ xs) ys e = refl

some_last : {A : Type 0} (xs : List A) (y : A) → some (xs ++ (y ∷ [])) ≡ true
some_last [] y = refl
some_last (x ∷ xs) y = refl

some_below : (raw i : ℕ) → (raw % 2 ^ i ≡ 0 → ⊥) → some (set_bits raw i) ≡ true
unfolding set_bits
some_below raw zero e = absurd (e (omega arith))
some_below raw (suc i) e =
    by_test (bit raw i)
    (λ t. rw t (some_last (set_bits raw i) i))
    (λ t. let z : raw / 2 ^ i % 2 ≡ 0 = let n = eqb-false (raw / 2 ^ i % 2) 1 t in omega arith in
    rw (t, append-nil) (some_below raw i (λ q. e (zero_low raw i q z))))

-- ---- a text joined to others
-- a list is the names before a name, each with its separator, and the names from there on
pub joined_so_far : (ts : List (List ℕ)) (t : List ℕ) (us : List (List ℕ)) → joined (ts ++ (t ∷ us)) ≡ so_far ts ++ joined (t ∷ us)
joined_so_far [] t us = refl
joined_so_far (s ∷ []) t us = sym (append_assoc s (text ", ") (joined (t ∷ us)))
joined_so_far (s ∷ v ∷ ts) t us = rw (joined_so_far (v ∷ ts) t us) (sym (append_assoc s (text ", " ++ so_far (v ∷ ts)) (joined (t ∷ us))))

-- the names before a name are a list themselves, with a separator behind it
so_far_some : (ts : List (List ℕ)) → some ts ≡ true → so_far ts ≡ joined ts ++ text ", "
so_far_some [] e = absurd (true≢false (sym e))
so_far_some (t ∷ []) e = refl
so_far_some (t ∷ u ∷ ts) e = rw (so_far_some (u ∷ ts) refl) (sym (append_assoc t (text ", " ++ joined (u ∷ ts)) (text ", ")))

map_last : (f : ℕ → List ℕ) (xs : List ℕ) (y : ℕ) → map f (xs ++ (y ∷ [])) ≡ map f xs ++ (f y ∷ [])
map_last f [] y = refl
map_last f (x ∷ xs) y = rw (map_last f xs y)

some_map : (f : ℕ → List ℕ) (xs : List ℕ) → some xs ≡ true → some (map f xs) ≡ true
some_map f [] e = e
some_map f (x ∷ xs) e = refl

-- ---- register i and those below it
low_bits : (raw i : ℕ) → bit_range raw 0 i ≡ raw % 2 ^ i
low_bits raw i = let e : i - 0 ≡ i = omega arith in rw (e, div-one)

-- what stands before one more name: the list of the registers below i, where there is none and where there are some
pub so_far_first : (raw i : ℕ) → bit_range raw 0 i ≡ 0 → registers raw i ≡ so_far (names raw i)
unfolding registers
so_far_first raw i e = rw (none_below raw i (sym (low_bits raw i) ∙ e))

pub so_far_next : (raw i : ℕ) → (bit_range raw 0 i ≡ 0 → ⊥) → registers raw i ++ text ", " ≡ so_far (names raw i)
unfolding registers
so_far_next raw i e =
    let s = some_below raw i (λ q. e (low_bits raw i ∙ q)) in
    sym (so_far_some (names raw i) (some_map reg_string (set_bits raw i) s))

-- one more text behind the names: alone, or behind a comma
pub registers_then : (raw i : ℕ) (t : List ℕ) → joined (names raw i ++ (t ∷ [])) ≡ registers raw i ++ cond (eqb (bit_range raw 0 i) 0) t (text ", " ++ t)
registers_then raw i t =
    joined_so_far (names raw i) t []
    ∙ by_test (eqb (bit_range raw 0 i) 0)
    (λ z. rw (z, so_far_first raw i (eqb-true _ _ z)))
    (λ z. rw (z, ← so_far_next raw i (eqb-false _ _ z)) (append_assoc (registers raw i) (text ", ") t))

pub registers_next : (raw i : ℕ) → registers raw (i + 1) ≡ registers raw i ++ listed raw i
unfolding registers listed set_bits
registers_next raw i =
    rw add-one
    (by_test (bit raw i)
    (λ t. rw (t, map_last) (registers_then raw i (reg_string i)))
    (λ t. rw (t, append-nil, append-nil)))

-- no register below i, and some
pub registers_none : (raw i : ℕ) → bit_range raw 0 i ≡ 0 → registers raw i ≡ []
unfolding registers
registers_none raw i e = rw (none_below raw i (sym (low_bits raw i) ∙ e))

pub low_some : (raw i : ℕ) → (bit_range raw 0 i ≡ 0 → ⊥) → 0 < i
low_some raw zero e = absurd (e (omega arith))
low_some raw (suc i) e = omega arith

-- ---- clear bits add nothing
clear_bits : (raw i z : ℕ) → raw / 2 ^ i % 2 ^ z ≡ 0 → registers raw (i + z) ≡ registers raw i
unfolding listed
clear_bits raw i zero e = rw add-zero
clear_bits raw i (suc z) e =
    let h = low_zero (raw / 2 ^ i) z e in
    let n : raw / 2 ^ (i + z) % 2 ≡ 0 = rw (shr-shr raw i z) at h.1 in
    let f : bit raw (i + z) ≡ false = ne_eqb (raw / 2 ^ (i + z) % 2) 1 (λ q. let o : ◌≡◌ {A = ℕ} 0 1 = sym n ∙ q in omega arith) in
    let k : i + suc z ≡ i + z + 1 = omega arith in
    rw (k, registers_next raw (i + z), f, append-nil) (clear_bits raw i z h.0)

module _ (raw i n rest : ℕ) (h : i ≤ n) (b : rest ≡ bit_range raw i n) where
  -- none is left
  pub registers_left : rest ≡ 0 → registers raw n ≡ registers raw i
  registers_left e = let k : i + (n - i) ≡ n = omega arith in rw k at (clear_bits raw i (n - i) (sym b ∙ e))

  -- some are left, and the lowest z bits are clear
  pub registers_pass : (z : ℕ) → (rest ≡ 0 → ⊥) → rest % 2 ^ z ≡ 0 → (i + z < n) × (registers raw (i + z) ≡ registers raw i)
  registers_pass z f e =
      by_test (ltb z (n - i))
      (λ t. let l = ltb-true z (n - i) t in
      let k : n - i ≡ n - i - z + z = omega arith in
      let m : raw / 2 ^ i % 2 ^ z ≡ 0 = sym (mod-mod-pow (raw / 2 ^ i) (n - i - z) z) ∙ rw (← k, ← b) e in
      (omega arith, clear_bits raw i z m))
      (λ t. let l = ltb-false z (n - i) t in
      absurd (f (sym (mod-eq_of_lt (rw b (lt_of_lt_of_le (mod-lt (raw / 2 ^ i) (pow_pos (n - i))) (pow_mono l)))) ∙ e)))
