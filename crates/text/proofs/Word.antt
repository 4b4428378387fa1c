-- Laws of the words of a line: a word, and what separates it from the next, are read back; numbers are words. Assumes nothing.
use mathlib.Core.Path.{◌≡◌, refl, sym}
use mathlib.Core.Bool.{Bool, true, false, not, true≢false}
use mathlib.Core.List.{List, [], ◌∷◌, ◌++◌}
use Prim.Native.Nat.{ℕ, zero, suc, ◌+◌, ◌-◌, ◌/◌, ◌%◌, ◌≤◌, ◌<◌}
use native.Mathlib.Omega.{arith}
use lib.Dec.{ltb, eqb}
use lib.ListN.{length, get_or}
use lib.Seq.{take_at, drop_at}
use borrow.Author.Tests.{eqb-true}
use Rattle.common.specs.Lists.{first}
use Rattle.common.proofs.Tests.{by_test, and_left, and_right, at}
use Rattle.text.specs.Word.{is_word, is_gap, word, behind, after, all}
use Rattle.text.specs.Digits.{digit, digits, hex, prefixed, dec}
use Rattle.text.proofs.Digits.{below}

-- ---- a run ends where another byte stands
-- whether the text is empty or begins with a byte that passes
abbrev pub stops : (ℕ → Bool) → List ℕ → Bool
stops p [] = true
stops p (x ∷ xs) = p x

first_stops : (p : ℕ → Bool) (b : List ℕ) → stops p b ≡ true → first p b ≡ 0
unfolding first
first_stops p [] e = refl
first_stops p (x ∷ xs) e = rw e

pub first_over : (p : ℕ → Bool) (a b : List ℕ) → all (λ x. not (p x)) a ≡ true → stops p b ≡ true → first p (a ++ b) ≡ length a
unfolding first
first_over p [] b e f = first_stops p b f
first_over p (x ∷ xs) b e f =
    let ih = first_over p xs b (and_right (not (p x)) (all (λ x. not (p x)) xs) e) f in
    rw (was_not (p x) (and_left (not (p x)) (all (λ x. not (p x)) xs) e), ih)
  where
    was_not : (t : Bool) → not t ≡ true → t ≡ false
    was_not true q = sym q
    was_not false q = refl

not_not : (t : Bool) → not (not t) ≡ t
not_not true = refl
not_not false = refl

all_twice : (a : List ℕ) → all is_word a ≡ true → all (λ x. not (is_gap x)) a ≡ true
all_twice [] e = refl
all_twice (x ∷ xs) e = rw not_not (rw (and_left (is_word x) (all is_word xs) e) (all_twice xs (and_right (is_word x) (all is_word xs) e)))

-- ---- a whole word, and what separates words: a byte at least, and none of a word
abbrev pub wordy : List ℕ → Bool
wordy [] = false
wordy (x ∷ xs) = all is_word (x ∷ xs)

abbrev pub gap : List ℕ → Bool
gap [] = false
gap (x ∷ xs) = all is_gap (x ∷ xs)

pub wordy_all : (a : List ℕ) → wordy a ≡ true → all is_word a ≡ true
wordy_all [] e = refl
wordy_all (x ∷ xs) e = e

pub gap_all : (g : List ℕ) → gap g ≡ true → all is_gap g ≡ true
gap_all [] e = refl
gap_all (x ∷ xs) e = e

pub wordy_starts : (a b : List ℕ) → wordy a ≡ true → stops is_word (a ++ b) ≡ true
wordy_starts [] b e = absurd (true≢false (sym e))
wordy_starts (x ∷ xs) b e = and_left (is_word x) (all is_word xs) e

pub gap_starts : (g b : List ℕ) → gap g ≡ true → stops is_gap (g ++ b) ≡ true
gap_starts [] b e = absurd (true≢false (sym e))
gap_starts (x ∷ xs) b e = and_left (is_gap x) (all is_gap xs) e

word_run : (a b : List ℕ) → all is_word a ≡ true → stops is_gap b ≡ true → first is_gap (a ++ b) ≡ length a
word_run a b e f = first_over is_gap a b (all_twice a e) f

-- ---- what is printed is read back
pub word_of : (a b : List ℕ) → all is_word a ≡ true → stops is_gap b ≡ true → word (a ++ b) ≡ a
unfolding word
word_of a b e f = take_at a b (first is_gap (a ++ b)) (sym (word_run a b e f))

pub behind_of : (a b : List ℕ) → all is_word a ≡ true → stops is_gap b ≡ true → behind (a ++ b) ≡ b
unfolding behind
behind_of a b e f = drop_at a b (first is_gap (a ++ b)) (sym (word_run a b e f))

pub after_of : (a g b : List ℕ) → all is_word a ≡ true → stops is_gap (g ++ b) ≡ true → all is_gap g ≡ true → stops is_word b ≡ true → after (a ++ (g ++ b)) ≡ b
unfolding after
after_of a g b e f h i = rw (behind_of a (g ++ b) e f) (drop_at g b _ (sym (first_over is_word g b h i)))

-- ---- digits are a word
pub all_snoc : (xs : List ℕ) (x : ℕ) → all is_word xs ≡ true → is_word x ≡ true → all is_word (xs ++ (x ∷ [])) ≡ true
all_snoc [] x a c = rw c
all_snoc (y ∷ ys) x a c =
    rw (and_left (is_word y) (all is_word ys) a) (all_snoc ys x (and_right (is_word y) (all is_word ys) a) c)

wordy_snoc : (xs : List ℕ) (x : ℕ) → all is_word (xs ++ (x ∷ [])) ≡ true → wordy (xs ++ (x ∷ [])) ≡ true
wordy_snoc [] x e = e
wordy_snoc (y ∷ ys) x e = e

digit_word : (d : ℕ) → d < 16 → is_word (digit d) ≡ true
unfolding is_word
digit_word = at (λ d. is_word (digit d)) 16 refl

module _ (b : ℕ) (hb : 1 < b) (hb' : b ≤ 16) where
  pub digits_all : (k w n : ℕ) → all is_word (digits b k w n) ≡ true
  unfolding digits
  digits_all zero w n = refl
  digits_all (suc k) w n =
      let ih = digits_all k (w - 1) (n / b) in
      by_test (eqb (n + w) 0) (λ e. rw e)
      (λ e. rw e (all_snoc (digits b k (w - 1) (n / b)) (digit (n % b)) ih (digit_word (n % b) (below b hb hb' n))))

  digits_wordy : (k w n : ℕ) → 0 < w → wordy (digits b (suc k) w n) ≡ true
  unfolding digits
  digits_wordy k w n h =
      let a = digits_all k (w - 1) (n / b) in
      by_test (eqb (n + w) 0) (λ e. let z : n + w ≡ 0 = eqb-true _ _ e in absurd (omega arith))
      (λ e. rw e (wordy_snoc (digits b k (w - 1) (n / b)) (digit (n % b)) (all_snoc (digits b k (w - 1) (n / b)) (digit (n % b)) a (digit_word (n % b) (below b hb hb' n)))))

pub hex_wordy : (w n : ℕ) → 0 < w → wordy (hex w n) ≡ true
unfolding hex
hex_wordy w n h = digits_wordy 16 (omega arith) (omega arith) 7 w n h

pub prefixed_wordy : (w n : ℕ) → 0 < w → wordy (prefixed w n) ≡ true
unfolding prefixed is_word
prefixed_wordy w n h = wordy_all (hex w n) (hex_wordy w n h)

pub dec_wordy : (n : ℕ) → wordy (dec n) ≡ true
unfolding dec
dec_wordy n = digits_wordy 10 (omega arith) (omega arith) 9 1 n (omega arith)

-- ---- a number in decimal begins with a digit, as no name does
digit_low : (d : ℕ) → d < 10 → ltb (digit d) 58 ≡ true
digit_low = at (λ d. ltb (digit d) 58) 10 refl

first_snoc : (xs : List ℕ) (y : ℕ) → ltb (get_or xs 0 0) 58 ≡ true → ltb y 58 ≡ true → ltb (get_or (xs ++ (y ∷ [])) 0 0) 58 ≡ true
first_snoc [] y a b = b
first_snoc (x ∷ xs) y a b = a

digits_first : (k w n : ℕ) → ltb (get_or (digits 10 k w n) 0 0) 58 ≡ true
unfolding digits
digits_first zero w n = refl
digits_first (suc k) w n =
    let ih = digits_first k (w - 1) (n / 10) in
    by_test (eqb (n + w) 0) (λ e. rw e)
    (λ e. rw e (first_snoc (digits 10 k (w - 1) (n / 10)) (digit (n % 10)) ih (digit_low (n % 10) (omega arith))))

pub dec_first : (n : ℕ) → ltb (get_or (dec n) 0 0) 58 ≡ true
unfolding dec
dec_first n = digits_first 10 1 n
