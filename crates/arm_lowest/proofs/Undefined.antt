-- Undefined words: the candidate of their line is found. Assumes nothing.
use Prim.Native.Nat.{ℕ}
use mathlib.Core.Bool.{true≢false}
use mathlib.Core.List.{[]}
use mathlib.Core.Path.{◌∙◌, ◌≡◌, ap, refl, sym}
use Rattle.arm.specs.Kinds.{undefined_bits}
use Rattle.arm7tdmi.specs.declared.Form.{Form}
use Rattle.arm_disass.specs.Line.{line_of}
use Rattle.arm_lowest.proofs.Found.{Law, least_found, printed_line}
use Rattle.arm_lowest.proofs.Heads.{none_says}
use Rattle.arm_candidate.specs.CandidateSimple.{undefined_cand}
use Rattle.arm_mnemonic.specs.Heads.{head_of}
use Rattle.arm_words.proofs.Scheme.{Least, Words}
use Rattle.arm_words.proofs.Undefined.{undefined_kind, undefined_least}
use Rattle.common.specs.Lists.{first}
use Rattle.text.specs.Text.{text}
use Rattle.text.specs.Word.{is_word, word}
use Rattle.arm.specs.declared.ArmFormat.TheVariants as A

no_word : word (text "<Undefined>") ≡ []
unfolding word is_word first
no_word = refl

pub undefined_law : (form : Form) (pc : ℕ) → Words form A.Undefined (Law 12 undefined_cand form pc)
unfolding line_of undefined_cand
undefined_law form pc w h e t q =
    let p = printed_line form A.Undefined pc w e t q in
    let l : Least (Unit {0}) form A.Undefined (undefined_bits form) w = record { fields = tt; low = undefined_least form w h e; kind = undefined_kind form } in
    record { bits = 0; condition = 14; first = rw p.text (ap head_of no_word ∙ none_says); found = least_found pc t e q l (λ z. absurd (true≢false (sym z))) refl refl }
