-- The mnemonics are read back, each with each condition. Assumes nothing.
use Prim.Native.Nat.{◌*◌, ◌+◌, ◌-◌, ◌<◌, ◌^◌, ℕ}
use borrow.Author.Tests.{eqb-true, ltb-true, ne_eqb}
use lib.Dec.{eqb, ltb}
use lib.ListN.{get_or, set}
use mathlib.Core.Bool.{Bool, ◌&&◌, ◌||◌, cond, false, not, true}
use mathlib.Core.List.{List, [], ◌++◌}
use mathlib.Core.Path.{◌≡◌, refl}
use Rattle.std.proofs.Common.{None}
use Rattle.arm7tdmi.specs.Alu.{alu_op_code}
use Rattle.arm.specs.Fields.{halfword_types}
use Rattle.arm7tdmi.specs.Names.{cond_named, cond_names, cond_text}
use Rattle.arm_disass.specs.Line.{halfword_text, op_text}
use Rattle.arm_mnemonic.specs.Heads.{cond_of, head, head_of, stem_at, stem_names, stem_of, stems}
use Rattle.arm_words.proofs.DataProcessing.{dp_test}
use Rattle.common.proofs.Lists.{same_eq}
use Rattle.common.proofs.Tests.{and_left, and_right, at, every}
use Rattle.common.specs.Lists.{first, same}
use Rattle.text.proofs.Word.{wordy}
use Rattle.text.specs.Text.{text}
use Rattle.text.specs.Word.{is_word}

-- ---- tests of all numbers below bounds
pub at₂ : (f : ℕ → ℕ → Bool) (m n : ℕ) → every (λ a. every (f a) n) m ≡ true → (a b : ℕ) → a < m → b < n → f a b ≡ true
at₂ f m n e a b h g = at (f a) n (at (λ a. every (f a) n) m e a h) b g

pub at₃ : (f : ℕ → ℕ → ℕ → Bool) (l m n : ℕ) → every (λ a. every (λ b. every (f a b) n) m) l ≡ true → (a b c : ℕ) → a < l → b < m → c < n → f a b c ≡ true
at₃ f l m n e a b c h g k = at₂ (f a) m n (at (λ a. every (λ b. every (f a b) n) m) l e a h) b c g k

pub at₄ : (f : ℕ → ℕ → ℕ → ℕ → Bool) (k l m n : ℕ) → every (λ z. every (λ a. every (λ b. every (f z a b) n) m) l) k ≡ true → (z a b c : ℕ) → z < k → a < l → b < m → c < n → f z a b c ≡ true
at₄ f k l m n e z a b c i h g j = at₃ (f z) l m n (at (λ z. every (λ a. every (λ b. every (f z a b) n) m) l) k e z i) a b c h g j

-- ---- a text that is a word, and is read as a head
pub record Mnemonic (f b c : ℕ) (t : List ℕ) : Type 0 where
  pub one_word : wordy t ≡ true
  pub says : head_of t ≡ head f b c

-- THE TEST of the table: each stem with each condition is a word, and is read back as the stem and the condition, 1050 tests
module _ (k c : ℕ) where
  abbrev full : List ℕ
  full = (stem_at k).name ++ cond_text c

  abbrev stem_there : Bool
  stem_there = eqb (stem_of full) k

  abbrev cond_there : Bool
  cond_there = eqb (cond_of full) c

stems_back : (k c : ℕ) → k < 70 → c < 15 → (wordy (full k c) && (stem_there k c && cond_there k c)) ≡ true
unfolding stems stem_names stem_of cond_of cond_text cond_named cond_names is_word first same
stems_back = at₂ (λ k c. wordy (full k c) && (stem_there k c && cond_there k c)) 70 15 refl

-- so that a family has to say its stems: text, family and bits
abbrev pub is_at : ℕ → List ℕ → ℕ → ℕ → Bool
is_at k t f b = ltb k 70 && (same t (stem_at k).name && (eqb (stem_at k).family f && eqb (stem_at k).bits b))

module _ (k : ℕ) (t : List ℕ) (f b c : ℕ) (g : c < 15) (e : is_at k t f b ≡ true) where
  pub stem_reads : Mnemonic f b c (t ++ cond_text c)
  unfolding head_of
  stem_reads =
      let e1 = and_right (ltb k 70) (same t (stem_at k).name && (eqb (stem_at k).family f && eqb (stem_at k).bits b)) e in
      let e2 = and_right (same t (stem_at k).name) (eqb (stem_at k).family f && eqb (stem_at k).bits b) e1 in
      let l = ltb-true k 70 (and_left (ltb k 70) (same t (stem_at k).name && (eqb (stem_at k).family f && eqb (stem_at k).bits b)) e) in
      let x : t ≡ (stem_at k).name = same_eq _ _ (and_left (same t (stem_at k).name) (eqb (stem_at k).family f && eqb (stem_at k).bits b) e1) in
      let y : (stem_at k).family ≡ f = eqb-true _ _ (and_left (eqb (stem_at k).family f) (eqb (stem_at k).bits b) e2) in
      let z : (stem_at k).bits ≡ b = eqb-true _ _ (and_right (eqb (stem_at k).family f) (eqb (stem_at k).bits b) e2) in
      let h = stems_back k c l g in
      let h1 = and_right (wordy (full k c)) (stem_there k c && cond_there k c) h in
      let p : stem_of (full k c) ≡ k = eqb-true _ _ (and_left (stem_there k c) (cond_there k c) h1) in
      let q : cond_of (full k c) ≡ c = eqb-true _ _ (and_right (stem_there k c) (cond_there k c) h1) in
      rw x (record { one_word = and_left (wordy (full k c)) (stem_there k c && cond_there k c) h; says = rw (p, q, y, z) })

-- no mnemonic
pub none_says : head_of [] ≡ head 12 0 14
unfolding stems stem_names head_of stem_of cond_of cond_named cond_names first same
none_says = refl

-- ---- the stems of the families, from the bits that they show
-- a text where a bit is set, and another or nothing where it is clear
abbrev pub pick : ℕ → List ℕ → List ℕ → List ℕ
pick n set clear = cond (eqb n 1) set clear

-- 0, data processing: a test shows no S
abbrev pub dp_stem : ℕ → ℕ → List ℕ
dp_stem op s = cond (dp_test op) (op_text (alu_op_code op)) (op_text (alu_op_code op) ++ pick s (text "s") [])

abbrev pub dp_bits : ℕ → ℕ → ℕ
dp_bits op s = op * 2 ^ 21 + cond (dp_test op) 0 s * 2 ^ 20

abbrev dp_at : ℕ → ℕ → ℕ
dp_at op s = cond (not (dp_test op) && eqb s 1) (cond (ltb op 8) (16 + op) (12 + op)) op

pub dp_reads : (op s c : ℕ) → op < 16 → s < 2 → c < 15 → Mnemonic 0 (dp_bits op s) c (dp_stem op s ++ cond_text c)
unfolding op_text alu_op_code stems same
dp_reads op s c h g k =
    stem_reads (dp_at op s) (dp_stem op s) 0 (dp_bits op s) c k (at₂ (λ op s. is_at (dp_at op s) (dp_stem op s) 0 (dp_bits op s)) 16 2 refl op s h g)

-- 1, branches
abbrev pub branch_stem : ℕ → List ℕ
branch_stem l = text "b" ++ pick l (text "l") []

pub branch_reads : (l c : ℕ) → l < 2 → c < 15 → Mnemonic 1 (l * 2 ^ 24) c (branch_stem l ++ cond_text c)
unfolding stems same
branch_reads l c h k = stem_reads (28 + l) (branch_stem l) 1 (l * 2 ^ 24) c k (at (λ l. is_at (28 + l) (branch_stem l) 1 (l * 2 ^ 24)) 2 refl l h)

-- 3, ldr and str
abbrev pub ldr_stem : ℕ → ℕ → ℕ → ℕ → List ℕ
ldr_stem p b w l = pick l (text "ldr") (text "str") ++ pick b (text "b") [] ++ cond (not (eqb p 1) && eqb w 1) (text "t") []

abbrev user : ℕ → ℕ → ℕ
user p w = cond (not (eqb p 1) && eqb w 1) 1 0

abbrev pub ldr_bits : ℕ → ℕ → ℕ → ℕ → ℕ
ldr_bits p b w l = b * 2 ^ 22 + cond (not (eqb p 1) && eqb w 1) 1 0 * 2 ^ 21 + l * 2 ^ 20

pub ldr_reads : (p b w l c : ℕ) → p < 2 → b < 2 → w < 2 → l < 2 → c < 15 → Mnemonic 3 (ldr_bits p b w l) c (ldr_stem p b w l ++ cond_text c)
unfolding stems same
ldr_reads p b w l c hp hb hw hl k =
    stem_reads (35 - l * 4 + b * 2 + user p w) (ldr_stem p b w l) 3 (ldr_bits p b w l) c k
    (at₄ (λ p b w l. is_at (35 - l * 4 + b * 2 + user p w) (ldr_stem p b w l) 3 (ldr_bits p b w l)) 2 2 2 2 refl p b w l hp hb hw hl)

-- 4, ldm and stm
abbrev pub ldm_stem : ℕ → ℕ → ℕ → List ℕ
ldm_stem p u l = pick l (text "ldm") (text "stm") ++ pick u (text "i") (text "d") ++ pick p (text "b") (text "a")

abbrev pub ldm_bits : ℕ → ℕ → ℕ → ℕ
ldm_bits p u l = p * 2 ^ 24 + u * 2 ^ 23 + l * 2 ^ 20

pub ldm_reads : (p u l c : ℕ) → p < 2 → u < 2 → l < 2 → c < 15 → Mnemonic 4 (ldm_bits p u l) c (ldm_stem p u l ++ cond_text c)
unfolding stems same
ldm_reads p u l c h g j k =
    stem_reads (46 - (l * 4 + u * 2 + p)) (ldm_stem p u l) 4 (ldm_bits p u l) c k
    (at₃ (λ p u l. is_at (46 - (l * 4 + u * 2 + p)) (ldm_stem p u l) 4 (ldm_bits p u l)) 2 2 2 refl p u l h g j)

-- 7, mul and mla
abbrev pub mul_stem : ℕ → ℕ → List ℕ
mul_stem a s = pick a (text "mla") (text "mul") ++ pick s (text "s") []

abbrev pub mul_bits : ℕ → ℕ → ℕ
mul_bits a s = a * 2 ^ 21 + s * 2 ^ 20

pub mul_reads : (a s c : ℕ) → a < 2 → s < 2 → c < 15 → Mnemonic 7 (mul_bits a s) c (mul_stem a s ++ cond_text c)
unfolding stems same
mul_reads a s c h g k = stem_reads (49 + a * 2 + s) (mul_stem a s) 7 (mul_bits a s) c k (at₂ (λ a s. is_at (49 + a * 2 + s) (mul_stem a s) 7 (mul_bits a s)) 2 2 refl a s h g)

-- 8, mull and mlal
abbrev pub mull_stem : ℕ → ℕ → ℕ → List ℕ
mull_stem u a s = pick u (text "s") (text "u") ++ pick a (text "mlal") (text "mull") ++ pick s (text "s") []

abbrev pub mull_bits : ℕ → ℕ → ℕ → ℕ
mull_bits u a s = u * 2 ^ 22 + a * 2 ^ 21 + s * 2 ^ 20

pub mull_reads : (u a s c : ℕ) → u < 2 → a < 2 → s < 2 → c < 15 → Mnemonic 8 (mull_bits u a s) c (mull_stem u a s ++ cond_text c)
unfolding stems same
mull_reads u a s c h g j k =
    stem_reads (53 + u * 4 + a * 2 + s) (mull_stem u a s) 8 (mull_bits u a s) c k
    (at₃ (λ u a s. is_at (53 + u * 4 + a * 2 + s) (mull_stem u a s) 8 (mull_bits u a s)) 2 2 2 refl u a s h g j)

-- 9, halfword transfers of a type that is not 0
abbrev pub half_stem : ℕ → ℕ → List ℕ
half_stem l k = pick l (text "ldr") (text "str") ++ halfword_text (get_or halfword_types k None)

abbrev pub half_bits : ℕ → ℕ → ℕ
half_bits l k = l * 2 ^ 20 + k * 2 ^ 5

pub half_reads : (l k c : ℕ) → l < 2 → k < 4 → (k ≡ 0 → ⊥) → c < 15 → Mnemonic 9 (half_bits l k) c (half_stem l k ++ cond_text c)
unfolding halfword_text stems same
half_reads l k c h g n j =
    let t : is_at (63 + k - l * 3) (half_stem l k) 9 (half_bits l k) ≡ true =
    or_false (eqb k 0) _ (ne_eqb k 0 n) (at₂ (λ l k. eqb k 0 || is_at (63 + k - l * 3) (half_stem l k) 9 (half_bits l k)) 2 4 refl l k h g) in
    stem_reads (63 + k - l * 3) (half_stem l k) 9 (half_bits l k) c j t
  where
    or_false : (a b : Bool) → a ≡ false → (a || b) ≡ true → b ≡ true
    or_false a b e f = rw e at f

-- 11, swp
abbrev pub swp_stem : ℕ → List ℕ
swp_stem b = text "swp" ++ pick b (text "b") []

pub swp_reads : (b c : ℕ) → b < 2 → c < 15 → Mnemonic 11 (b * 2 ^ 22) c (swp_stem b ++ cond_text c)
unfolding stems same
swp_reads b c h k = stem_reads (68 + b) (swp_stem b) 11 (b * 2 ^ 22) c k (at (λ b. is_at (68 + b) (swp_stem b) 11 (b * 2 ^ 22)) 2 refl b h)

-- those of one stem
module _ (c : ℕ) (k : c < 15) where
  pub bx_reads : Mnemonic 2 0 c (text "bx" ++ cond_text c)
  unfolding stems same
  bx_reads = stem_reads 30 (text "bx") 2 0 c k refl

  pub mrs_reads : Mnemonic 5 0 c (text "mrs" ++ cond_text c)
  unfolding stems same
  mrs_reads = stem_reads 47 (text "mrs") 5 0 c k refl

  pub msr_reads : Mnemonic 6 0 c (text "msr" ++ cond_text c)
  unfolding stems same
  msr_reads = stem_reads 48 (text "msr") 6 0 c k refl

  pub swi_reads : Mnemonic 10 0 c (text "swi" ++ cond_text c)
  unfolding stems same
  swi_reads = stem_reads 67 (text "swi") 10 0 c k refl
