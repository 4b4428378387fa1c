-- Laws of digits: what the code tests, that the text of a number is its number, and how many digits there are. Assumes nothing.
use mathlib.Core.Path.{◌≡◌, refl, sym}
use mathlib.Core.Bool.{cond, false}
use mathlib.Core.List.{List, [], ◌∷◌, ◌++◌, append_assoc}
use Prim.Native.Nat.{ℕ, zero, suc, ◌+◌, ◌-◌, ◌*◌, ◌/◌, ◌%◌, ◌^◌, ◌≤◌, ◌<◌, max}
use native.Mathlib.Nat.{div-add-mod', div-lt_iff_lt-mul, mod-lt, mod-eq_of_lt, pow-suc, pow-zero, div-le_self, lt_of_le_of_lt}
use native.Mathlib.Omega.{arith}
use lib.Dec.{eqb}
use lib.ListN.{length, take, drop, set, length-append, length-set}
use lib.Seq.{drop-cons, get_or-set_same, drop-set-lt}
use borrow.Author.Tests.{eqb-true, eqb-false, eq-eqb, ne_eqb}
use Rattle.common.specs.Lists.{first}
use Rattle.common.proofs.Tests.{by_test, at}
use Rattle.text.specs.Digits.{digit, digit_value, digits, hex, prefixed, dec, value_from, value}

-- ---- digits by what the code tests
pub digits_none : (b k w n : ℕ) → n + w ≡ 0 → digits b k w n ≡ []
unfolding digits
digits_none b zero w n e = refl
digits_none b (suc k) w n e = rw (eq-eqb (n + w) 0 e)

pub digits_more : (b k w n : ℕ) → 0 < k → (n + w ≡ 0 → ⊥) → digits b k w n ≡ digits b (k - 1) (w - 1) (n / b) ++ (digit (n % b) ∷ [])
unfolding digits
digits_more b zero w n h e = absurd (omega arith)
digits_more b (suc k) w n h e = let s : suc k - 1 ≡ k = omega arith in rw (s, ne_eqb (n + w) 0 e)

-- one more digit in front of those that the scratch holds from i to k
pub scratch_step : (b k i w n : ℕ) (s : List ℕ) → 0 < i → i ≤ k → i ≤ length s → (n + w ≡ 0 → ⊥)
    → digits b i w n ++ take (k - i) (drop i s) ≡ digits b (i - 1) (w - 1) (n / b) ++ take (k - (i - 1)) (drop (i - 1) (set s (i - 1) (digit (n % b))))
scratch_step b k i w n s h l m e =
    let d = digit (n % b) in
    let j = i - 1 in
    let si : suc j ≡ i = omega arith in
    let sk : k - j ≡ suc (k - i) = omega arith in
    let a : j < length (set s j d) = rw length-set (omega arith) in
    let c : drop j (set s j d) ≡ d ∷ drop i s =
    rw (drop-cons (set s j d) j 0 a, get_or-set_same s j d 0 (omega arith), drop-set-lt (suc j) s j d (omega arith), si) in
    rw (digits_more b i w n h e, sk, c) (append_assoc (digits b j (w - 1) (n / b)) (d ∷ []) (take (k - i) (drop i s)))

-- no digit is left
pub scratch_done : (b k i w n : ℕ) (s : List ℕ) → i ≡ 0 → digits b i w n ++ take (k - i) (drop i s) ≡ take (k - i) (drop i s)
unfolding digits
scratch_done b k i w n s e = rw e

pub scratch_none : (b k i w n : ℕ) (s : List ℕ) → n + w ≡ 0 → digits b i w n ++ take (k - i) (drop i s) ≡ take (k - i) (drop i s)
scratch_none b k i w n s e = rw (digits_none b i w n e)

-- ---- a digit is read back: 16 tests; and what the code answers for a byte: 256 tests
pub digit_back : (d : ℕ) → d < 16 → digit_value (digit d) ≡ d
unfolding digit_value first
digit_back d h = eqb-true _ _ (at (λ d. eqb (digit_value (digit d)) d) 16 refl d h)

-- the digit that a byte could be, by its low bits
abbrev pub low_bits : ℕ → ℕ
low_bits x = (x % 16 + x / 64 * 9) % 16

pub value_of_byte : (x : ℕ) → x < 256 → cond (eqb (digit (low_bits x)) x) (low_bits x) 16 ≡ digit_value x
unfolding digit_value first
value_of_byte x h = eqb-true _ _ (at (λ x. eqb (cond (eqb (digit (low_bits x)) x) (low_bits x) 16) (digit_value x)) 256 refl x h)

-- ---- the text of a number is its number
pub value_snoc : (b v : ℕ) (xs : List ℕ) (x : ℕ) → value_from b v (xs ++ (x ∷ [])) ≡ (value_from b v xs * b + digit_value x) % 2 ^ 32
unfolding value_from
value_snoc b v [] x = refl
value_snoc b v (y ∷ ys) x = value_snoc b ((v * b + digit_value y) % 2 ^ 32) ys x

module _ (b : ℕ) (hb : 1 < b) (hb' : b ≤ 16) where
  pub below : (n : ℕ) → n % b < 16
  below n = let r : n % b < b = mod-lt n {m = b} (omega arith) in omega arith

  pub value_digits : (k w n : ℕ) → n < b ^ k → n < 2 ^ 32 → value b (digits b k w n) ≡ n
  unfolding digits value_from
  value_digits zero w n l m = let o : n < 1 = rw pow-zero at l in omega arith
  value_digits (suc k) w n l m =
      let q : n / b < b ^ k = (div-lt_iff_lt-mul {k = b} (omega arith)).1 (rw pow-suc at l) in
      let o : n / b < 2 ^ 32 = lt_of_le_of_lt (div-le_self n b) m in
      let d = div-add-mod' n b in
      let ih = value_digits k (w - 1) (n / b) q o in
      by_test (eqb (n + w) 0)
      (λ e. let z : n + w ≡ 0 = eqb-true _ _ e in let y : n ≡ 0 = omega arith in rw e (sym y))
      (λ e. rw (e, value_snoc, ih, digit_back (n % b) (below n), d) (mod-eq_of_lt m))

  -- no more digits than the number needs, or than are asked for
  pub digits_needed : (k w n j : ℕ) → n < b ^ j → length (digits b k w n) ≤ max w j
  unfolding digits
  digits_needed zero w n j l = omega arith
  digits_needed (suc k) w n zero l =
      let o : n < 1 = rw pow-zero at l in
      let z : n / b ≤ n = div-le_self n b in
      let ih = digits_needed k (w - 1) (n / b) 0 (rw pow-zero (omega arith)) in
      by_test (eqb (n + w) 0) (λ e. rw e (omega arith))
      (λ e. let f = eqb-false (n + w) 0 e in rw e (simp length-append (omega arith)))
  digits_needed (suc k) w n (suc j) l =
      let q : n / b < b ^ j = (div-lt_iff_lt-mul {k = b} (omega arith)).1 (rw pow-suc at l) in
      let ih = digits_needed k (w - 1) (n / b) j q in
      by_test (eqb (n + w) 0) (λ e. rw e (omega arith)) (λ e. rw e (simp length-append (omega arith)))

-- as many as are asked for, and at most k
pub digits_least : (b k w n : ℕ) → w ≤ k → w ≤ length (digits b k w n)
unfolding digits
digits_least b zero w n h = omega arith
digits_least b (suc k) w n h =
    let ih = digits_least b k (w - 1) (n / b) (omega arith) in
    by_test (eqb (n + w) 0) (λ e. let z : n + w ≡ 0 = eqb-true _ _ e in rw e (omega arith)) (λ e. rw e (simp length-append (omega arith)))

pub digits_most : (b k w n : ℕ) → length (digits b k w n) ≤ k
unfolding digits
digits_most b zero w n = omega arith
digits_most b (suc k) w n =
    let ih = digits_most b k (w - 1) (n / b) in
    by_test (eqb (n + w) 0) (λ e. rw e (omega arith)) (λ e. rw e (simp length-append (omega arith)))

-- 8 and 10 digits are enough for a number of 32 bits
pub hex_back : (w n : ℕ) → n < 2 ^ 32 → value 16 (hex w n) ≡ n
unfolding hex
hex_back w n h = value_digits 16 (omega arith) (omega arith) 8 w n h h

pub prefixed_back : (w n : ℕ) → n < 2 ^ 32 → value 16 (drop 2 (prefixed w n)) ≡ n
unfolding prefixed
prefixed_back w n h = hex_back w n h

pub dec_back : (n : ℕ) → n < 2 ^ 32 → value 10 (dec n) ≡ n
unfolding dec
dec_back n h = value_digits 10 (omega arith) (omega arith) 10 1 n (omega arith) h

-- ---- all eight digits of a number, one by one
-- a digit that is asked for is there
asked : (n w : ℕ) → 0 < w → eqb (n + w) 0 ≡ false
asked n w h = ne_eqb (n + w) 0 (omega arith)

pub hex_eight : (n : ℕ) → digit (n / 0x10000000 % 16) ∷ digit (n / 0x1000000 % 16) ∷ digit (n / 0x100000 % 16) ∷ digit (n / 0x10000 % 16)
    ∷ digit (n / 0x1000 % 16) ∷ digit (n / 0x100 % 16) ∷ digit (n / 0x10 % 16) ∷ digit (n % 16) ∷ [] ≡ hex 8 n
unfolding hex digits
hex_eight n =
    let b : n / 16 / 16 ≡ n / 0x100 = omega arith in
    let c : n / 0x100 / 16 ≡ n / 0x1000 = omega arith in
    let d : n / 0x1000 / 16 ≡ n / 0x10000 = omega arith in
    let e : n / 0x10000 / 16 ≡ n / 0x100000 = omega arith in
    let f : n / 0x100000 / 16 ≡ n / 0x1000000 = omega arith in
    let g : n / 0x1000000 / 16 ≡ n / 0x10000000 = omega arith in
    rw (
      asked n 8 (omega arith),
      asked (n / 16) 7 (omega arith),
      b,
      asked (n / 0x100) 6 (omega arith),
      c,
      asked (n / 0x1000) 5 (omega arith),
      d,
      asked (n / 0x10000) 4 (omega arith),
      e,
      asked (n / 0x100000) 3 (omega arith),
      f,
      asked (n / 0x1000000) 2 (omega arith),
      g,
      asked (n / 0x10000000) 1 (omega arith),
    )
