-- Words put together from parts, fixed bits and fields, for words of any width: their fields read back, each word of the parts' shape is one, and lower fields give no higher word. Assumes nothing.
use Prim.Native.Nat.{◌%◌, ◌*◌, ◌+◌, ◌-◌, ◌/◌, ◌<◌, ◌^◌, ◌≤◌, ℕ}
use borrow.Author.Tests.{eq-eqb, eqb-true, leb-true, lt-ltb, ltb-true}
use lib.Arith.{digits_lt}
use lib.Dec.{eqb, leb, ltb}
use lib.Pow.{high, low, mod-pow-add, pow-add, pow_pos, shr-shr}
use mathlib.Core.Bool.{Bool, ◌&&◌, cond, false, true, true≢false}
use mathlib.Core.List.{List, [], ◌∷◌}
use mathlib.Core.Path.{◌∙◌, ◌≡◌, ap, ap₂, refl, sym}
use native.Mathlib.Nat.{add-le-add, add-sub_of_le, mod-lt, mul-le-mul_right}
use native.Mathlib.Omega.{arith}
use Rattle.common.proofs.Tests.{and_left, and_right, by_test}

-- bits of one value, or a field of so many bits that is below a bound
pub data Part : Type 0 where
  fixed : (bits value : ℕ) → Part
  field : (bits bound : ℕ) → Part

-- a field that takes each value
abbrev pub free : ℕ → Part
free k = field k (2 ^ k)

abbrev pub width : Part → ℕ
width (fixed k v) = k
width (field k b) = k

-- the bits of all parts, which are given from the highest
abbrev pub bits : List Part → ℕ
bits [] = 0
bits (p ∷ ps) = width p + bits ps

-- the word of the fields' values, in the order of the parts
abbrev pub word : List Part → List ℕ → ℕ
word [] xs = 0
word (fixed k v ∷ ps) xs = v * 2 ^ bits ps + word ps xs
word (field k b ∷ ps) [] = 0
word (field k b ∷ ps) (x ∷ xs) = x * 2 ^ bits ps + word ps xs

-- a value for each field, below its bound
abbrev pub Fits : List Part → List ℕ → Type 0
Fits [] [] = Unit {0}
Fits [] (x ∷ xs) = ⊥
Fits (fixed k v ∷ ps) xs = Fits ps xs
Fits (field k b ∷ ps) [] = ⊥
Fits (field k b ∷ ps) (x ∷ xs) = (x < b) × Fits ps xs

-- the bits of a word at a part
abbrev pub at_part : Part → List Part → ℕ → ℕ
at_part p ps w = w / 2 ^ bits ps % 2 ^ width p

-- the fields of a word as they are read
abbrev pub cut : List Part → ℕ → List ℕ
cut [] w = []
cut (fixed k v ∷ ps) w = cut ps w
cut (field k b ∷ ps) w = at_part (field k b) ps w ∷ cut ps w

-- what a part says of its bits, as a fact and as a test
abbrev pub Says : Part → ℕ → Type 0
Says (fixed k v) x = x ≡ v
Says (field k b) x = x < b

abbrev says? : Part → ℕ → Bool
says? (fixed k v) x = eqb x v
says? (field k b) x = ltb x b

says_true : (p : Part) (x : ℕ) → says? p x ≡ true → Says p x
says_true (fixed k v) x e = eqb-true x v e
says_true (field k b) x e = ltb-true x b e

true_says : (p : Part) (x : ℕ) → Says p x → says? p x ≡ true
true_says (fixed k v) x e = eq-eqb x v e
true_says (field k b) x e = lt-ltb x b e

-- each part of a word is as it says
abbrev pub Shaped : List Part → ℕ → Type 0
Shaped [] w = Unit {0}
Shaped (p ∷ ps) w = Says p (at_part p ps w) × Shaped ps w

-- a part's values are within its bits, and one that starts below bit s says nothing else
abbrev sound₁ : ℕ → ℕ → Part → Bool
sound₁ s a (fixed k v) = ltb v (2 ^ k) && leb s a
sound₁ s a (field k b) = leb b (2 ^ k) && cond (leb s a) true (eqb b (2 ^ k))

abbrev pub sound : ℕ → List Part → Bool
sound s [] = true
sound s (p ∷ ps) = sound₁ s (bits ps) p && sound s ps

sound_here : (s : ℕ) (p : Part) (ps : List Part) → sound s (p ∷ ps) ≡ true → sound₁ s (bits ps) p ≡ true
sound_here s p ps e = and_left (sound₁ s (bits ps) p) (sound s ps) e

sound_rest : (s : ℕ) (p : Part) (ps : List Part) → sound s (p ∷ ps) ≡ true → sound s ps ≡ true
sound_rest s p ps e = and_right (sound₁ s (bits ps) p) (sound s ps) e

within_bits : (s a : ℕ) (p : Part) (x : ℕ) → sound₁ s a p ≡ true → Says p x → x < 2 ^ width p
within_bits s a (fixed k v) x e h = let b = ltb-true v (2 ^ k) (and_left _ _ e) in omega arith
within_bits s a (field k b) x e h = let b = leb-true b (2 ^ k) (and_left _ _ e) in omega arith

says_nothing : (s a : ℕ) (p : Part) (x : ℕ) → sound₁ s a p ≡ true → leb s a ≡ false → x < 2 ^ width p → Says p x
says_nothing s a (fixed k v) x e f h =
    let z : ◌≡◌ {A = Bool} true false = sym (and_right (ltb v (2 ^ k)) (leb s a) e) ∙ f in absurd (true≢false z)
says_nothing s a (field k b) x e f h =
    let q : eqb b (2 ^ k) ≡ true = rw f at (and_right (leb b (2 ^ k)) (cond (leb s a) true (eqb b (2 ^ k))) e) in
    rw (eqb-true b (2 ^ k) q) h

-- ---- words of fields
-- two sums of a multiple and a rest agree in both
agree : (a q r v t : ℕ) → r < 2 ^ a → t < 2 ^ a → q * 2 ^ a + r ≡ v * 2 ^ a + t → (q ≡ v) × (r ≡ t)
agree a q r v t h g e =
    (sym (high q a h) ∙ ap (λ (x : ℕ). x / 2 ^ a) e ∙ high v a g, sym (low q a h) ∙ ap (λ (x : ℕ). x % 2 ^ a) e ∙ low v a g)

module _ (s : ℕ) where
  pub word_lt : (ps : List Part) (xs : List ℕ) → sound s ps ≡ true → Fits ps xs → word ps xs < 2 ^ bits ps
  word_lt [] xs e f = omega arith
  word_lt (fixed k v ∷ ps) xs e f =
      rw (pow-add 2 k (bits ps)) (digits_lt (within_bits s (bits ps) (fixed k v) v (sound_here s (fixed k v) ps e) refl) (word_lt ps xs (sound_rest s (fixed k v) ps e) f))
  word_lt (field k b ∷ ps) [] e f = absurd f
  word_lt (field k b ∷ ps) (x ∷ xs) e f =
      rw (pow-add 2 k (bits ps)) (digits_lt (within_bits s (bits ps) (field k b) x (sound_here s (field k b) ps e) f.0) (word_lt ps xs (sound_rest s (field k b) ps e) f.1))

  part_reads : (p : Part) (ps : List Part) (xs : List ℕ) (w v : ℕ) → sound s ps ≡ true → Fits ps xs → w % 2 ^ bits (p ∷ ps) ≡ v * 2 ^ bits ps + word ps xs →
      (at_part p ps w ≡ v) × (w % 2 ^ bits ps ≡ word ps xs)
  part_reads p ps xs w v e f q =
      agree (bits ps) _ _ _ _ (mod-lt w (pow_pos (bits ps))) (word_lt ps xs e f) (sym (mod-pow-add w (width p) (bits ps)) ∙ q)

  -- the fields of such a word, and of one with more bits above, read back, and it has the parts' shape
  pub reads : (ps : List Part) (xs : List ℕ) (w : ℕ) → sound s ps ≡ true → Fits ps xs → w % 2 ^ bits ps ≡ word ps xs → (cut ps w ≡ xs) × Shaped ps w
  reads [] [] w e f q = (refl, tt)
  reads [] (x ∷ xs) w e f q = absurd f
  reads (fixed k v ∷ ps) xs w e f q =
      let r = part_reads (fixed k v) ps xs w v (sound_rest s (fixed k v) ps e) f q in
      let i = reads ps xs w (sound_rest s (fixed k v) ps e) f r.1 in
      (i.0, (r.0, i.1))
  reads (field k b ∷ ps) [] w e f q = absurd f
  reads (field k b ∷ ps) (x ∷ xs) w e f q =
      let r = part_reads (field k b) ps xs w x (sound_rest s (field k b) ps e) f.1 q in
      let i = reads ps xs w (sound_rest s (field k b) ps e) f.1 r.1 in
      (ap₂ ◌∷◌ r.0 i.0, (rw r.0 f.0, i.1))

-- a word of the parts' shape is the word of its fields
pub fits_cut : (ps : List Part) (w : ℕ) → Shaped ps w → Fits ps (cut ps w)
fits_cut [] w h = tt
fits_cut (fixed k v ∷ ps) w h = fits_cut ps w h.1
fits_cut (field k b ∷ ps) w h = (h.0, fits_cut ps w h.1)

pub word_cut : (ps : List Part) (w : ℕ) → Shaped ps w → word ps (cut ps w) ≡ w % 2 ^ bits ps
word_cut [] w h = omega arith
word_cut (fixed k v ∷ ps) w h =
    ap₂ (λ (x y : ℕ). x * 2 ^ bits ps + y) (sym h.0) (word_cut ps w h.1) ∙ sym (mod-pow-add w k (bits ps))
word_cut (field k b ∷ ps) w h =
    ap (λ (y : ℕ). at_part (field k b) ps w * 2 ^ bits ps + y) (word_cut ps w h.1) ∙ sym (mod-pow-add w k (bits ps))

-- ---- all values of the fields, one after the other
abbrev pub Each : List Part → (List ℕ → Type 0) → Type 0
Each [] F = F []
Each (fixed k v ∷ ps) F = Each ps F
Each (field k b ∷ ps) F = (x : ℕ) → Each ps (λ xs. F (x ∷ xs))

pub each : (ps : List Part) (F : List ℕ → Type 0) → Each ps F → (w : ℕ) → F (cut ps w)
each [] F f w = f
each (fixed k v ∷ ps) F f w = each ps F f w
each (field k b ∷ ps) F f w = each ps (λ xs. F (at_part (field k b) ps w ∷ xs)) (f (at_part (field k b) ps w)) w

-- ---- lower fields
abbrev pub Below : List ℕ → List ℕ → Type 0
Below [] [] = Unit {0}
Below [] (y ∷ ys) = ⊥
Below (x ∷ xs) [] = ⊥
Below (x ∷ xs) (y ∷ ys) = (x ≤ y) × Below xs ys

-- with fields that are no higher, a word is no higher, and the fields fit
pub lower : (ps : List Part) (xs ys : List ℕ) → Below xs ys → Fits ps ys → (word ps xs ≤ word ps ys) × Fits ps xs
lower [] [] [] b f = (omega arith, tt)
lower [] [] (y ∷ ys) b f = absurd f
lower [] (x ∷ xs) [] b f = absurd b
lower [] (x ∷ xs) (y ∷ ys) b f = absurd f
lower (fixed k v ∷ ps) xs ys b f = let i = lower ps xs ys b f in (omega arith, i.1)
lower (field k c ∷ ps) xs [] b f = absurd f
lower (field k c ∷ ps) [] (y ∷ ys) b f = absurd b
lower (field k c ∷ ps) (x ∷ xs) (y ∷ ys) b f =
    let i = lower ps xs ys b.1 f.1 in
    (add-le-add (mul-le-mul_right (2 ^ bits ps) b.0) i.0, (omega arith, i.1))

-- ---- the bits from s on: whether they have the shape of the parts there
module _ (s : ℕ) where
  abbrev tops₁ : Part → ℕ → ℕ → Bool
  tops₁ p a t = cond (leb s a) (says? p (t / 2 ^ (a - s) % 2 ^ width p)) true

  abbrev pub tops : List Part → ℕ → Bool
  tops [] t = true
  tops (p ∷ ps) t = tops₁ p (bits ps) t && tops ps t

  high_part : (p : Part) (ps : List Part) (w : ℕ) → leb s (bits ps) ≡ true → w / 2 ^ s / 2 ^ (bits ps - s) % 2 ^ width p ≡ at_part p ps w
  high_part p ps w e =
      ap (λ (x : ℕ). x % 2 ^ width p) (shr-shr w s (bits ps - s) ∙ ap (λ (x : ℕ). w / 2 ^ x) (add-sub_of_le (leb-true s (bits ps) e)))

  pub shaped_tops : (ps : List Part) (w : ℕ) → Shaped ps w → tops ps (w / 2 ^ s) ≡ true
  shaped_tops [] w h = refl
  shaped_tops (p ∷ ps) w h =
      let i = shaped_tops ps w h.1 in
      by_test (leb s (bits ps))
      (λ e. rw (e, high_part p ps w e, true_says p (at_part p ps w) h.0) i)
      (λ e. rw e i)

  pub tops_shaped : (ps : List Part) (w : ℕ) → sound s ps ≡ true → tops ps (w / 2 ^ s) ≡ true → Shaped ps w
  tops_shaped [] w g e = tt
  tops_shaped (p ∷ ps) w g e =
      let here : tops₁ p (bits ps) (w / 2 ^ s) ≡ true = and_left (tops₁ p (bits ps) (w / 2 ^ s)) (tops ps (w / 2 ^ s)) e in (
        by_test (leb s (bits ps))
            (λ d. says_true p (at_part p ps w) (rw (d, high_part p ps w d) at here))
            (λ d. says_nothing s (bits ps) p (at_part p ps w) (sound_here s p ps g) d (mod-lt (w / 2 ^ bits ps) (pow_pos (width p)))),
        tops_shaped ps w (sound_rest s p ps g) (and_right (tops₁ p (bits ps) (w / 2 ^ s)) (tops ps (w / 2 ^ s)) e),
      )
