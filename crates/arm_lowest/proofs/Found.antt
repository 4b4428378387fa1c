-- What a candidate has to be of a word, and the lines of words whose kind is known. Assumes nothing.
use Prim.Native.Nat.{◌<◌, ◌≤◌, ℕ}
use borrow.Author.Tests.{eq-eqb, eqb-false, eqb-true, ne_eqb}
use lib.Dec.{eqb}
use mathlib.Core.Bool.{Bool, ◌&&◌, ◌||◌, false, not, true, true≢false}
use mathlib.Core.List.{List}
use mathlib.Core.Path.{◌∙◌, ◌≡◌, ap, sym}
use native.Mathlib.Nat.{le_of_eq}
use native.Mathlib.Omega.{arith}
use Rattle.refusal.specs.declared.Refusal.TheVariants.{NoCondition, NoTransfer, NoFlags}
use Rattle.lines.specs.Answer.{line, refused}
use Rattle.arm.specs.Kinds.{arm_format}
use Rattle.arm7tdmi.specs.declared.Form.{Form}
use Rattle.arm.specs.declared.ArmFormat.{ArmFormat}
use Rattle.arm_print.specs.Print.{answer_of, arm_line, lacks_flags, lacks_type, prints_cond, refusal_of}
use Rattle.arm_print.proofs.Whole.{no_line}
use Rattle.arm_disass.specs.Line.{line_of}
use Rattle.arm_lowest.proofs.Heads.{Mnemonic}
use Rattle.arm_candidate.specs.CandidateParts.{Candidate}
use Rattle.arm_mnemonic.specs.Heads.{head, head_of}
use Rattle.arm_words.proofs.Scheme.{Least}
use Rattle.common.proofs.Tests.{by_test}
use Rattle.common.specs.Bits.{bit_range}
use Rattle.reading.proofs.Pieces.{Pieces, first_word, first_of, good, spell}
use Rattle.text.specs.Word.{word}

-- ---- a candidate c for the line of w: no higher, and with the same line
pub record Found (form : Form) (pc w c : ℕ) : Type 0 where
  pub low : c ≤ w
  pub same : arm_line form pc c ≡ arm_line form pc w

-- the word itself
pub exact : {form : Form} {pc w c : ℕ} → c ≡ w → Found form pc w c
exact {form} {pc} e = record { low = le_of_eq e; same = ap (arm_line form pc) e }

-- ---- what each kind is to show: the head of a word's line is of the family, and the family's candidate for it is found
pub record Reads (family : ℕ) (cand : Candidate) (form : Form) (pc w : ℕ) (t : List ℕ) : Type 0 where
  pub bits : ℕ
  pub condition : ℕ
  pub first : head_of (word t) ≡ head family bits condition
  pub found : Found form pc w (cand form pc bits condition t)

abbrev pub Law : ℕ → Candidate → Form → ℕ → ℕ → Type 0
Law family cand form pc w = (t : List ℕ) → arm_line form pc w ≡ line t → Reads family cand form pc w t

-- ---- lines of words whose kind is known
line_same : {a b : List ℕ} → line a ≡ line b → a ≡ b
line_same e = cc

-- a halfword transfer has a type, and on the sheet a test has S: no kind but these can be refused with 2 or 9
abbrev pub regular : Form → ArmFormat → ℕ → Bool
regular form k w = not (lacks_type k w || lacks_flags form k w)

-- the word's line is its kind's, its condition is shown, and it is regular
pub record HasLine (form : Form) (k : ArmFormat) (pc w : ℕ) (t : List ℕ) : Type 0 where
  pub text : t ≡ line_of form k pc w
  pub when : prints_cond form k ≡ true → bit_range w 28 32 ≡ 15 → ⊥
  pub regular : regular form k w ≡ true

module _ (form : Form) (k : ArmFormat) (pc w : ℕ) (e : arm_format form w ≡ k) where
  pub printed_line : (t : List ℕ) → arm_line form pc w ≡ line t → HasLine form k pc w t
  unfolding arm_line answer_of refusal_of
  printed_line t q =
      by_test (prints_cond form k && eqb (bit_range w 28 32) 15)
      (λ a. let x : refused NoCondition ≡ line t = sym (rw (e, a)) ∙ q in absurd (no_line x))
      (λ a. by_test (lacks_type k w)
      (λ b. let x : refused NoTransfer ≡ line t = sym (rw (e, a, b)) ∙ q in absurd (no_line x))
      (λ b. by_test (lacks_flags form k w)
      (λ d. let x : refused NoFlags ≡ line t = sym (rw (e, a, b, d)) ∙ q in absurd (no_line x))
      (λ d. record { text = line_same (sym q ∙ rw (e, a, b, d)); when = λ p z. true≢false (sym (rw (p, eq-eqb _ _ z)) ∙ a); regular = rw (b, d) })))

  pub line_printed : (prints_cond form k ≡ true → bit_range w 28 32 ≡ 15 → ⊥) → regular form k w ≡ true → arm_line form pc w ≡ line (line_of form k pc w)
  unfolding arm_line answer_of refusal_of
  line_printed c y =
      let h : lacks_type k w ≡ false = by_test (lacks_type k w) (λ b. absurd (true≢false (sym (rw b at y)))) (λ b. b) in
      let g : lacks_flags form k w ≡ false = by_test (lacks_flags form k w) (λ d. absurd (true≢false (sym (rw (h, d) at y)))) (λ d. d) in
      by_test (prints_cond form k)
      (λ p. rw (e, h, g, p, ne_eqb (bit_range w 28 32) 15 (c p)))
      (λ p. rw (e, h, g, p))

-- a least word with the same condition and text, and regular, is found
pub least_found : {F : Type 0} {form : Form} {k : ArmFormat} {v w : ℕ} (pc : ℕ) (t : List ℕ) → arm_format form w ≡ k → arm_line form pc w ≡ line t → Least F form k v w →
    (prints_cond form k ≡ true → bit_range v 28 32 ≡ bit_range w 28 32) → regular form k v ≡ true → line_of form k pc v ≡ line_of form k pc w → Found form pc w v
least_found {F} {form} {k} {v} {w} pc t e q l c y s =
    let p = printed_line form k pc w e t q in
    record {
      low = l.low;
      same = line_printed form k pc v l.kind (λ z r. p.when z (sym (c z) ∙ r)) y ∙ ap line s ∙ sym (line_printed form k pc w e p.when p.regular);
    }

-- ---- from the pieces of the line
pub pieces_read : {family : ℕ} {cand : Candidate} {form : Form} {pc w : ℕ} {t : List ℕ} {b c : ℕ} (ps : Pieces) → t ≡ spell ps → good ps ≡ true →
    Mnemonic family b c (first_of ps) → Found form pc w (cand form pc b c (spell ps)) → Reads family cand form pc w t
pieces_read {b = b} {c = c} ps z g m f = record { bits = b; condition = c; first = rw (z, first_word ps g) m.says; found = rw z f }

-- a condition that is shown is one of fifteen
pub fifteen : (w : ℕ) {c : ℕ} → bit_range w 28 32 ≡ c → c < 16 → (bit_range w 28 32 ≡ 15 → ⊥) → c < 15
fifteen w {c} e h n = by_test (eqb c 15) (λ t. absurd (n (e ∙ eqb-true c 15 t))) (λ t. let z = eqb-false c 15 t in omega arith)
