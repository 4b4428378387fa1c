-- A word as its digits of four bits: a row's test goes digit by digit, and says equations of numbers. Assumes nothing.
use mathlib.Core.Path.{◌≡◌, refl, sym, ◌∙◌, ap, ap₂, subst}
use mathlib.Core.Bool.{Bool, true, false, cond, ◌&&◌}
use mathlib.Core.Logic.{◌⊎◌, inl, inr, ⊎_elim}
use mathlib.Core.List.{List, [], ◌∷◌}
use Prim.Native.Nat.{ℕ, zero, suc, ◌+◌, ◌*◌, ◌/◌, ◌%◌, ◌^◌, ◌<◌}
use native.Mathlib.Nat.{pow-suc, div-lt_iff_lt-mul, eq-or-lt_of_le, not-suc-le-zero, le_of_suc-le-suc}
use native.Mathlib.Omega.{arith}
use lib.Bits.{bit_and, and_block, and_comm, and_lt}
use lib.Dec.{T, eqb, eqb_refl, eqb→eq}
use lib.ListN.{length, get_or}
use borrow.Author.Tests.{eq-eqb, ne_eqb, eqb-true, eqb-false}
use Rattle.words.proofs.Match.{either, num, Claim, All, all, claims, Met₁, met?, Met, within, SaysOr, Says, Misses}
use Rattle.arm7tdmi.specs.Kinds.{first_match}

-- each is a digit
abbrev pub Digits : List ℕ → Type 0
Digits [] = Unit {0}
Digits (d ∷ ds) = (d < 16) × Digits ds

-- a word's digits
abbrev pub digits : ℕ → ℕ → List ℕ
digits zero w = []
digits (suc n) w = w % 16 ∷ digits n (w / 16)

pub num_digits : (n w : ℕ) → w < 16 ^ n → num (digits n w) ≡ w
num_digits zero w h = omega arith
num_digits (suc n) w h =
    let r = num_digits n (w / 16) ((div-lt_iff_lt-mul (omega arith)).1 (subst (λ (x : ℕ). w < x) (pow-suc 16 n) h)) in
    omega arith

-- ---- a test of each number below k, which antt computes
abbrev pub tests : ℕ → (ℕ → Bool) → Bool
tests zero f = true
tests (suc k) f = ((tests k f) && (f k))

T_both : (a b : Bool) → T (a && b) → T a × T b
T_both true b t = (tt, t)
T_both false b t = absurd t

both_t : (a b : Bool) → T a → T b → T (a && b)
both_t true b p q = q
both_t false b p q = p

pub tested : (k : ℕ) (f : ℕ → Bool) → T (tests k f) → (n : ℕ) → n < k → T (f n)
tested zero f t n l = absurd (not-suc-le-zero l)
tested (suc k) f t n l =
    let p = T_both (tests k f) (f k) t in
    ⊎_elim (λ (e : n ≡ k). subst (λ (i : ℕ). T (f i)) (sym e) p.1) (λ (a : n < k). tested k f p.0 n a) (eq-or-lt_of_le (omega arith))

abbrev implies : Bool → Bool → Bool
implies true b = b
implies false b = true

T_implies : (a b : Bool) → T (implies a b) → T a → T b
T_implies true b t p = t
T_implies false b t p = absurd p

-- ---- one digit
all_is : (cs : List Claim) → T (all cs) → All cs
all_is [] t = tt
all_is (c ∷ cs) t = by_test c.if t (all_is cs)
  where
    by_test : (b : Bool) → T (cond b (((eqb c.x c.y) && (all cs))) (all cs)) → (T (all cs) → All cs) → either b ((c.x ≡ c.y) × All cs) (All cs)
    by_test true t f = let p = T_both (eqb c.x c.y) (all cs) t in (eqb→eq c.x c.y p.0, f p.1)
    by_test false t f = f t

is_all : (cs : List Claim) → All cs → T (all cs)
is_all [] a = tt
is_all (c ∷ cs) a = by_test c.if a (is_all cs)
  where
    by_test : (b : Bool) → either b ((c.x ≡ c.y) × All cs) (All cs) → (All cs → T (all cs)) → T (cond b (((eqb c.x c.y) && (all cs))) (all cs))
    by_test true a f = both_t (eqb c.x c.y) (all cs) (subst (λ (k : ℕ). T (eqb c.x k)) a.0 (eqb_refl c.x)) (f a.1)
    by_test false a f = f a

-- all digits under all masks say what they are: 256 tests
met_test : (m d : ℕ) → m < 16 → d < 16 → T (met? m (bit_and m d) d)
met_test m d hm hd = tested 16 (λ d. met? m (bit_and m d) d) (tested 16 (λ m. tests 16 (λ d. met? m (bit_and m d) d)) tt m hm) d hd

-- and what a value within a mask says of a digit is enough: 4096 tests
hit_test : (m v d : ℕ) → m < 16 → v < 16 → d < 16 → T (implies (((eqb (bit_and m v) v) && (met? m v d))) (eqb (bit_and m d) v))
hit_test m v d hm hv hd =
    tested 16 (λ d. implies (((eqb (bit_and m v) v) && (met? m v d))) (eqb (bit_and m d) v))
    (tested 16 (λ v. tests 16 (λ d. implies (((eqb (bit_and m v) v) && (met? m v d))) (eqb (bit_and m d) v)))
    (tested 16 (λ m. tests 16 (λ v. tests 16 (λ d. implies (((eqb (bit_and m v) v) && (met? m v d))) (eqb (bit_and m d) v)))) tt m hm) v hv) d hd

met₁ : (m v d : ℕ) → m < 16 → d < 16 → bit_and m d ≡ v → Met₁ m v d
met₁ m v d hm hd e = all_is (claims m v d) (subst (λ (x : ℕ). T (met? m x d)) e (met_test m d hm hd))

hit₁ : (m v d : ℕ) → m < 16 → v < 16 → d < 16 → T (eqb (bit_and m v) v) → Met₁ m v d → bit_and m d ≡ v
hit₁ m v d hm hv hd w a =
    eqb→eq (bit_and m d) v
    (T_implies (((eqb (bit_and m v) v) && (met? m v d))) (eqb (bit_and m d) v) (hit_test m v d hm hv hd)
    (both_t (eqb (bit_and m v) v) (met? m v d) w (is_all (claims m v d) a)))

-- ---- a word
-- a mask acts digit by digit
and_digit : (ds : List ℕ) (d m : ℕ) → d < 16 → bit_and (num ds * 16 + d) m ≡ bit_and (num ds) (m / 16) * 16 + bit_and (m % 16) d
and_digit ds d m hd =
    let em : m ≡ m / 16 * 16 + m % 16 = omega arith in
    ap (bit_and (num ds * 16 + d)) em ∙ and_block 4 (num ds) (m / 16) d (m % 16) hd (omega arith)
    ∙ ap (λ (x : ℕ). bit_and (num ds) (m / 16) * 16 + x) (and_comm d (m % 16))

pub met : (ds : List ℕ) (m v : ℕ) → Digits ds → bit_and (num ds) m ≡ v → Met ds m v
met [] m v h e = tt
met (d ∷ ds) m v (hd, hs) e =
    let p = sym (and_digit ds d m hd) ∙ e in
    let l = and_lt 4 (m % 16) d (omega arith) hd in
    (met ds (m / 16) (v / 16) hs (omega arith), met₁ (m % 16) (v % 16) d (omega arith) hd (omega arith))

pub hit : (ds : List ℕ) (m v : ℕ) → Digits ds → T (within ds m v) → Met ds m v → bit_and (num ds) m ≡ v
hit [] m v h w q = eqb→eq 0 v w
hit (d ∷ ds) m v (hd, hs) w q =
    let p = T_both (within ds (m / 16) (v / 16)) (eqb (bit_and (m % 16) (v % 16)) (v % 16)) w in
    let a = hit ds (m / 16) (v / 16) hs p.0 q.0 in
    let b = hit₁ (m % 16) (v % 16) d (omega arith) (omega arith) hd p.1 q.1 in
    and_digit ds d m hd ∙ ap₂ (λ (x y : ℕ). x * 16 + y) a b ∙ omega arith

here : (A B : Type 0) (t : Bool) → T t → A → either t (A ⊎ B) B
here A B true h a = inl a
here A B false h a = absurd h

later : (A B : Type 0) (t : Bool) → B → either t (A ⊎ B) B
later A B true b = inr b
later A B false b = b

module _ {R K : Type 0} (mask value : R → ℕ) (kind : R → K) (other : K) where
  module _ (code : K → ℕ) where
    step : (Z : ℕ → Type 0) (r : R) (rs : List R) (ds : List ℕ) → Digits ds → ((bit_and (num ds) (mask r) ≡ value r → ⊥) → SaysOr mask value kind other code Z (code (first_match mask value kind other rs (num ds))) rs ds) →
        SaysOr mask value kind other code Z (code (first_match mask value kind other (r ∷ rs) (num ds))) (r ∷ rs) ds
    step Z r rs ds h f = by_test (eqb (bit_and (num ds) (mask r)) (value r)) refl
      where
        by_test : (t : Bool) → eqb (bit_and (num ds) (mask r)) (value r) ≡ t → SaysOr mask value kind other code Z (code (cond t (kind r) (first_match mask value kind other rs (num ds)))) (r ∷ rs) ds
        by_test true e = here _ _ (eqb (code (kind r)) (code (kind r))) (eqb_refl (code (kind r))) (met ds (mask r) (value r) h (eqb-true _ _ e))
        by_test false e = later _ _ (eqb (code (kind r)) (code (first_match mask value kind other rs (num ds)))) (f (eqb-false _ _ e))

    -- a word of a kind meets a row of the kind
    pub says : (rs : List R) (ds : List ℕ) → Digits ds → Says mask value kind other code (code (first_match mask value kind other rs (num ds))) rs ds
    says [] ds h = eqb_refl (code other)
    says (r ∷ rs) ds h = step (λ i. T (eqb (code other) i)) r rs ds h (λ no. says rs ds h)

    -- one that meets some row is of the kind of a row, and not of that of a word that meets none
    pub says_met : (d : R) (n : ℕ) (rs : List R) (ds : List ℕ) → Digits ds → n < length rs → T (within ds (mask (get_or rs n d)) (value (get_or rs n d))) → Met ds (mask (get_or rs n d)) (value (get_or rs n d)) →
        SaysOr mask value kind other code (λ i. ⊥) (code (first_match mask value kind other rs (num ds))) rs ds
    says_met d n [] ds h l w q = absurd (not-suc-le-zero l)
    says_met d zero (r ∷ rs) ds h l w q = step (λ i. ⊥) r rs ds h (λ no. absurd (no (hit ds (mask r) (value r) h w q)))
    says_met d (suc n) (r ∷ rs) ds h l w q = step (λ i. ⊥) r rs ds h (λ no. says_met d n rs ds h (le_of_suc-le-suc l) w q)

  -- a word's kind is that of a row that it meets, where it meets none before
  pub at_row : (d : R) (n : ℕ) (rs : List R) (ds : List ℕ) → Digits ds → n < length rs → Misses mask value n rs ds →
      T (within ds (mask (get_or rs n d)) (value (get_or rs n d))) → Met ds (mask (get_or rs n d)) (value (get_or rs n d)) → first_match mask value kind other rs (num ds) ≡ kind (get_or rs n d)
  at_row d n [] ds h l f w q = absurd (not-suc-le-zero l)
  at_row d zero (r ∷ rs) ds h l f w q =
      ap (λ (t : Bool). cond t (kind r) (first_match mask value kind other rs (num ds))) (eq-eqb _ _ (hit ds (mask r) (value r) h w q))
  at_row d (suc n) (r ∷ rs) ds h l f w q =
      ap (λ (t : Bool). cond t (kind r) (first_match mask value kind other rs (num ds))) (ne_eqb _ _ (λ (e : bit_and (num ds) (mask r) ≡ value r). f.0 (met ds (mask r) (value r) h e)))
      ∙ at_row d n rs ds h (le_of_suc-le-suc l) f.1 w q
