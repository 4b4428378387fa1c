-- Laws of a stored number: it stands there, and nothing else moves. Assumes nothing.
use mathlib.Core.Path.{◌≡◌, ap, refl, sym, ◌∙◌}
use mathlib.Core.List.{List, [], ◌∷◌}
use mathlib.Core.Logic.{◌⊎◌, inl, inr, ⊎_elim}
use Prim.Native.Nat.{ℕ, zero, suc, ◌+◌, ◌*◌, ◌/◌, ◌%◌, ◌^◌, ◌<◌, ◌≤◌}
use native.Mathlib.Nat.{pow-suc}
use native.Mathlib.Omega.{arith}
use lib.ListN.{length, get_or, set, length-set}
use lib.Seq.{get_or-set_same, get_or-set_other}
use Rattle.std.specs.Int.{to_le_bytes, w16, w32}
use Rattle.std.specs.List.{splice}
use Rattle.std.proofs.lemmas.List.{drop-set-lt, take-append-drop, take_more_set}
use Rattle.std.proofs.Common.{append_assoc, add-zero}
use Rattle.image.specs.Bytes.{half, word}
use Rattle.image.specs.Refusal.{unit}
use Rattle.image.specs.declared.Set.{Set}
use Rattle.image.specs.declared.Set.TheVariants.{Arm, Thumb}
use Rattle.patch.specs.Patch.{with_number, word_in, words_of, stored}

-- m bytes from k on and n bytes from at on, apart
abbrev pub Apart : ℕ → ℕ → ℕ → ℕ → Type 0
Apart k m at n = (k + m ≤ at) ⊎ (at + n ≤ k)

-- ---- a number of any width
-- its bytes, the lowest first, in the place of those that stood there
low_first : ℕ → ℕ → List ℕ
low_first zero n = []
low_first (suc width) n = n % 2 ^ 8 ∷ low_first width (n / 2 ^ 8)

number_bytes : (width : ℕ) (l : List ℕ) (at n : ℕ) → at + width ≤ length l → splice l at (at + width) (low_first width n) ≡ with_number l at width n
unfolding with_number low_first
number_bytes zero l at n h = rw add-zero (take-append-drop at l)
number_bytes (suc width) l at n h =
    let v = n % 2 ^ 8 in
    let end = at + 1 + width in
    let xs = low_first width (n / 2 ^ 8) in
    let e : at + suc width ≡ end = omega arith in
    let k : splice (set l at v) (at + 1) end xs ≡ splice l at end (v ∷ xs) = rw (take_more_set l at v (omega arith), drop-set-lt end l at v (omega arith), append_assoc) in
    rw e (sym k ∙ number_bytes width (set l at v) (at + 1) (n / 2 ^ 8) (simp length-set (omega arith)))

-- of a word, and of a halfword
pub word_bytes : (l : List ℕ) (at n : ℕ) → at + 4 ≤ length l → splice l at (at + 4) (to_le_bytes w32 n) ≡ with_number l at 4 n
unfolding low_first
word_bytes l at n h =
    let a : n / 2 ^ 8 / 2 ^ 8 ≡ n / 256 ^ 2 = omega arith in
    let b : n / 2 ^ 8 / 2 ^ 8 / 2 ^ 8 ≡ n / 256 ^ 3 = omega arith in
    let e : to_le_bytes w32 n ≡ low_first 4 n = rw (b, a) in
    ap (splice l at (at + 4)) e ∙ number_bytes 4 l at n h

pub half_bytes : (l : List ℕ) (at n : ℕ) → at + 2 ≤ length l → splice l at (at + 2) (to_le_bytes w16 n) ≡ with_number l at 2 n
unfolding low_first
half_bytes l at n h = number_bytes 2 l at n h

number_length : (width : ℕ) (l : List ℕ) (at n : ℕ) → length (with_number l at width n) ≡ length l
unfolding with_number
number_length zero l at n = refl
number_length (suc width) l at n = number_length width (set l at (n % 2 ^ 8)) (at + 1) (n / 2 ^ 8) ∙ simp length-set

number_other : (width : ℕ) (l : List ℕ) (at n k : ℕ) → Apart k 1 at width → get_or (with_number l at width n) k 0 ≡ get_or l k 0
unfolding with_number
number_other zero l at n k a = refl
number_other (suc width) l at n k a =
    number_other width (set l at (n % 2 ^ 8)) (at + 1) (n / 2 ^ 8) k (⊎_elim (λ x. inl (omega arith)) (λ y. inr (omega arith)) a)
    ∙ get_or-set_other l at k (n % 2 ^ 8) 0 (λ z. ⊎_elim (λ x. omega arith) (λ y. omega arith) a)

-- the number that so many bytes hold
abbrev number_at : List ℕ → ℕ → ℕ → ℕ
number_at l at zero = 0
number_at l at (suc width) = get_or l at 0 + number_at l (at + 1) width * 2 ^ 8

number_there : (width : ℕ) (l : List ℕ) (at n : ℕ) → at + width ≤ length l → n < 256 ^ width → number_at (with_number l at width n) at width ≡ n
unfolding with_number
number_there zero l at n h g = omega arith
number_there (suc width) l at n h g =
    let m = set l at (n % 2 ^ 8) in
    let b : n < 256 ^ width * 256 = rw pow-suc at g in
    let low = number_other width m (at + 1) (n / 2 ^ 8) at (inl (omega arith)) ∙ get_or-set_same l at (n % 2 ^ 8) 0 (omega arith) in
    let high = number_there width m (at + 1) (n / 2 ^ 8) (simp length-set (omega arith)) (omega arith) in
    rw (low, high) (omega arith)

-- ---- a word of either set
as_number : (image : List ℕ) (s : Set) (at : ℕ) → word_in image s at ≡ number_at image at (unit s)
unfolding half word
as_number image Arm at =
    let e : at + 1 + 1 ≡ at + 2 = omega arith in
    let f : at + 1 + 1 + 1 ≡ at + 2 + 1 = omega arith in
    rw (f, e) (omega arith)
as_number image (Thumb e) at = omega arith

in_bytes : (s : Set) (w : ℕ) → w < words_of s → w < 256 ^ unit s
in_bytes Arm w h = h
in_bytes (Thumb e) w h = h

module _ (image : List ℕ) (s : Set) (at w : ℕ) where
  -- there are as many bytes
  pub stored_length : length (stored image s at w) ≡ length image
  stored_length = number_length (unit s) image at w

  -- the word stands there
  pub stored_there : at + unit s ≤ length image → w < words_of s → word_in (stored image s at w) s at ≡ w
  stored_there h g = as_number (stored image s at w) s at ∙ number_there (unit s) image at w h (in_bytes s w g)

  -- each other byte is as it was
  pub stored_other : (k : ℕ) → Apart k 1 at (unit s) → get_or (stored image s at w) k 0 ≡ get_or image k 0
  stored_other k a = number_other (unit s) image at w k a

  -- and so are the halfwords and words elsewhere
  part : (k m j : ℕ) → Apart k m at (unit s) → k ≤ j → j + 1 ≤ k + m → get_or (stored image s at w) j 0 ≡ get_or image j 0
  part k m j a h g = stored_other j (⊎_elim (λ x. inl (omega arith)) (λ y. inr (omega arith)) a)

  pub half_kept : (k : ℕ) → Apart k 2 at (unit s) → half (stored image s at w) k ≡ half image k
  unfolding half
  half_kept k a = rw (part k 2 k a (omega arith) (omega arith), part k 2 (k + 1) a (omega arith) (omega arith))

  pub word_kept : (k : ℕ) → Apart k 4 at (unit s) → word (stored image s at w) k ≡ word image k
  unfolding word
  word_kept k a =
      rw (half_kept k (⊎_elim (λ x. inl (omega arith)) (λ y. inr (omega arith)) a), half_kept (k + 2) (⊎_elim (λ x. inl (omega arith)) (λ y. inr (omega arith)) a))
