-- Listings of images, from the start and resumed, as document 02 (v), (vi) and (vii) have them. Assumes nothing.
use Rattle.std.specs.Prelude.{ℕ, ◌/◌, ◌%◌, ◌^◌, List, [], ◌∷◌, ◌++◌, Result, Ok, Err, ⊤}
use Prim.Native.String.{String}
use Rattle.text.specs.Text.{text}
use Rattle.refusal.specs.declared.Refusal.{Refusal}
use Rattle.refusal.specs.declared.Refusal.TheVariants.{NoCondition, NoTransfer, WrongImage, WrongStretches, WrongPlace, NoFlags}
use Rattle.lines.specs.Answer.{refused, line}
use Rattle.image.specs.Refusal.{refusal_at}
use Rattle.steps.specs.Steps.{Step, steps}

-- an image with the list of its stretches and its base; the offset that its listing begins at; whether it is refused; and its steps
pub record Row : Type 0 where
  pub image : List ℕ
  pub list : List ℕ
  pub base : ℕ
  pub from : ℕ
  pub checked : Result ⊤ Refusal
  pub shows : List Step

-- the row of what the definitions give
abbrev pub given_row : Row → Row
given_row r =
    record {
      image = r.image;
      list = r.list;
      base = r.base;
      from = r.from;
      checked = refusal_at r.image r.list r.from;
      shows = steps r.image r.list r.base r.from;
    }

-- halfwords and words as bytes, and a pair of the list
abbrev pub half : ℕ → List ℕ
half h = h % 2 ^ 8 ∷ h / 2 ^ 8 ∷ []

abbrev pub word : ℕ → List ℕ
word w = half (w % 2 ^ 16) ++ half (w / 2 ^ 16)

abbrev pub stretch : ℕ → ℕ → List ℕ
stretch offset bytes = word offset ++ word bytes

abbrev pub prints : ℕ → ℕ → String → Step
prints offset bytes s = record { offset = offset; bytes = bytes; shows = line (text s) }

abbrev pub refuses : ℕ → ℕ → Refusal → Step
refuses offset bytes r = record { offset = offset; bytes = bytes; shows = refused r }

abbrev resumes : ℕ → List ℕ → List ℕ → ℕ → List Step → Row
resumes from image list base shows = record { image = image; list = list; base = base; from = from; checked = Ok tt; shows = shows }

abbrev lists : List ℕ → List ℕ → ℕ → List Step → Row
lists image list base shows = resumes 0 image list base shows

abbrev pub table : List Row
table =
    lists [] [] 0 []
    ∷ lists (word 0xEAFFFFFE ++ word 0xEAFFFFFE) [] 0x100 (prints 0 4 "b\t0x00000100" ∷ prints 4 4 "b\t0x00000104" ∷ [])
    ∷ lists (half 0xE000 ++ half 0x4770) (stretch 0 4) 0x100 (prints 0 2 "b\t0x00000104" ∷ prints 2 2 "bx\tlr" ∷ [])
    ∷ lists (word 0xEAFFFFFE ++ half 0xE000 ++ half 0x4770 ++ word 0xEAFFFFFE) (stretch 4 4) 0x100
    (prints 0 4 "b\t0x00000100" ∷ prints 4 2 "b\t0x00000108" ∷ prints 6 2 "bx\tlr" ∷ prints 8 4 "b\t0x00000108" ∷ [])
    -- a call pair inside a stretch, at its end, and cut by its border
    ∷ lists (half 0x4770 ++ half 0xF000 ++ half 0xF800 ++ half 0x4770) (stretch 0 8) 0 (prints 0 2 "bx\tlr" ∷ prints 2 4 "bl\t0x00000006" ∷ prints 6 2 "bx\tlr" ∷ [])
    ∷ lists (half 0xF000 ++ half 0xF800 ++ word 0xEAFFFFFE) (stretch 0 4) 0 (prints 0 4 "bl\t0x00000004" ∷ prints 4 4 "b\t0x00000004" ∷ [])
    ∷ lists (half 0x4770 ++ half 0xF000 ++ half 0xF800 ++ half 0x4770) (stretch 0 4 ++ stretch 4 4) 0
    (prints 0 2 "bx\tlr" ∷ prints 2 2 "bl\t#0x00000000" ∷ prints 4 2 "bl\t#0x00000000" ∷ prints 6 2 "bx\tlr" ∷ [])
    -- two first halves and a second, a first half and two second ones
    ∷ lists (half 0xF000 ++ half 0xF000 ++ half 0xF800 ++ half 0x4770) (stretch 0 8) 0 (prints 0 2 "bl\t#0x00000000" ∷ prints 2 4 "bl\t0x00000006" ∷ prints 6 2 "bx\tlr" ∷ [])
    ∷ lists (half 0xF000 ++ half 0xF800 ++ half 0xF800 ++ half 0x4770) (stretch 0 8) 0 (prints 0 4 "bl\t0x00000004" ∷ prints 4 2 "bl\t#0x00000000" ∷ prints 6 2 "bx\tlr" ∷ [])
    -- words that are refused, and addresses past the last one
    ∷ lists (word 0xF12FFF10 ++ word 0xE1800090 ++ word 0xEAFFFFFE) [] 0 (refuses 0 4 NoCondition ∷ refuses 4 4 NoTransfer ∷ prints 8 4 "b\t0x00000008" ∷ [])
    ∷ lists (word 0xE1000000 ++ word 0xF1000000 ++ word 0xE3600000 ++ word 0xE1100000) [] 0
    (refuses 0 4 NoFlags ∷ refuses 4 4 NoCondition ∷ refuses 8 4 NoFlags ∷ prints 12 4 "tst\tr0, r0" ∷ [])
    ∷ lists (word 0xEAFFFFFE ++ half 0xF000 ++ half 0xF800) (stretch 4 4) 0xFFFFFFFE (prints 0 4 "b\t0xfffffffe" ∷ prints 4 4 "bl\t0x00000006" ∷ [])
    -- resumed: at a pair, at its second half, which prints alone, behind it, and at the end
    ∷ resumes 2 (half 0x4770 ++ half 0xF000 ++ half 0xF800 ++ half 0x4770) (stretch 0 8) 0 (prints 2 4 "bl\t0x00000006" ∷ prints 6 2 "bx\tlr" ∷ [])
    ∷ resumes 4 (half 0x4770 ++ half 0xF000 ++ half 0xF800 ++ half 0x4770) (stretch 0 8) 0 (prints 4 2 "bl\t#0x00000000" ∷ prints 6 2 "bx\tlr" ∷ [])
    ∷ resumes 6 (half 0x4770 ++ half 0xF000 ++ half 0xF800 ++ half 0x4770) (stretch 0 8) 0 (prints 6 2 "bx\tlr" ∷ [])
    ∷ resumes 8 (half 0x4770 ++ half 0xF000 ++ half 0xF800 ++ half 0x4770) (stretch 0 8) 0 []
    -- and at a word that is refused with 9
    ∷ resumes 4 (word 0xEAFFFFFE ++ word 0xE1400000 ++ word 0xEAFFFFFE) [] 0 (refuses 4 4 NoFlags ∷ prints 8 4 "b\t0x00000008" ∷ [])
    ∷ []

-- an image, a list of stretches and an offset that are refused
pub record Refused : Type 0 where
  pub image : List ℕ
  pub list : List ℕ
  pub from : ℕ
  pub checked : Result ⊤ Refusal

abbrev pub given_refusal : Refused → Refused
given_refusal r = record { image = r.image; list = r.list; from = r.from; checked = refusal_at r.image r.list r.from }

abbrev six : List ℕ → List ℕ → Refused
six image list = record { image = image; list = list; from = 1; checked = Err WrongImage }

abbrev seven : List ℕ → List ℕ → Refused
seven image list = record { image = image; list = list; from = 1; checked = Err WrongStretches }

abbrev eight : List ℕ → List ℕ → ℕ → Refused
eight image list from = record { image = image; list = list; from = from; checked = Err WrongPlace }

abbrev two : List ℕ
two = word 0xEAFFFFFE ++ word 0xEAFFFFFE

abbrev pub refusals : List Refused
refusals =
    six (half 0x4770) []
    ∷ six (half 0x4770) (word 0)
    ∷ seven two (word 0)
    ∷ seven two (stretch 0 0)
    ∷ seven two (stretch 2 4)
    ∷ seven two (stretch 0 2)
    ∷ seven two (stretch 4 8)
    ∷ seven two (stretch 0xFFFFFFFC 8)
    ∷ seven two (stretch 4 4 ++ stretch 0 4)
    ∷ seven two (stretch 0 8 ++ stretch 4 4)
    ∷ seven two (stretch 2 0)
    -- odd in Thumb, in the middle of a word of ARM, and past the end
    ∷ eight two (stretch 0 4) 1
    ∷ eight two (stretch 0 4) 5
    ∷ eight two (stretch 0 4) 6
    ∷ eight two (stretch 0 4) 10
    ∷ eight two [] 2
    ∷ eight two [] 12
    ∷ eight [] [] 1
    ∷ []
