-- Call pairs, as document 02 (iii) has them: lines, lines read back, and runs of halfwords. Assumes nothing.
use Rattle.std.specs.Prelude.{List, [], ◌∷◌, ℕ, Option, Some, None, Result}
use Prim.Native.String.{String}
use Rattle.text.specs.Text.{text}
use Rattle.lines.specs.Answer.{Answer, refused, line, refusal, printed}
use Rattle.refusal.specs.declared.Refusal.{Refusal}
use Rattle.refusal.specs.declared.Refusal.TheVariants.{NoRoom, NoPair}
use Rattle.pairs.specs.Print.{pair_line}
use Rattle.pairs.specs.Read.{pair_answer}
use Rattle.pairs.specs.Run.{unpaired}

-- two halfwords and their address, the same with what a lent buffer holds, a line and its address, or a run
pub data Input : Type 0 where
  pair : ℕ → ℕ → ℕ → Input
  pair_into : ℕ → ℕ → ℕ → List ℕ → Input
  pair_read : List ℕ → ℕ → Input
  run : List ℕ → Input

pub data Output : Type 0 where
  shown : Answer → Output
  lent : Result ℕ Refusal × List ℕ → Output
  halves : Option (ℕ × ℕ) → Output
  pairing : Option ℕ → Output

pub record Row : Type 0 where
  pub input : Input
  pub output : Output

-- what the operations give for an input, and the row of what they give
abbrev pub gives : Input → Output
gives (pair first second address) = shown (pair_line address first second)
gives (pair_into first second address buffer) = lent (printed (pair_line address first second) buffer)
gives (pair_read l address) = halves (pair_answer address l)
gives (run hs) = pairing (unpaired hs)

abbrev pub given_row : (Input → Output) → Row → Row
given_row f r = record { input = r.input; output = f r.input }

abbrev prints : ℕ → ℕ → ℕ → String → Row
prints first second address s = record { input = pair first second address; output = shown (line (text s)) }

abbrev refuses : ℕ → ℕ → ℕ → Refusal → Row
refuses first second address r = record { input = pair first second address; output = shown (refused r) }

abbrev keeps : ℕ → ℕ → ℕ → List ℕ → Refusal → Row
keeps first second address buffer r = record { input = pair_into first second address buffer; output = lent (refusal r buffer) }

abbrev reads : String → ℕ → Option (ℕ × ℕ) → Row
reads s address r = record { input = pair_read (text s) address; output = halves r }

abbrev checks : List ℕ → Option ℕ → Row
checks hs r = record { input = run hs; output = pairing r }

abbrev pub table : List Row
table =
    prints 0xF000 0xF800 0 "bl\t0x00000004"
    ∷ prints 0xF7FF 0xFFFE 0x100 "bl\t0x00000100"
    ∷ prints 0xF400 0xF800 0 "bl\t0xffc00004"
    ∷ prints 0xF3FF 0xFFFF 0 "bl\t0x00400002"
    ∷ prints 0xF000 0xF800 0xFFFFFFFE "bl\t0x00000002"
    ∷ refuses 0xF800 0xF000 0 NoPair
    ∷ refuses 0xF000 0xF000 0 NoPair
    ∷ refuses 0xF800 0xF800 0 NoPair
    ∷ refuses 0xE000 0xF800 0 NoPair
    -- "it comes before 3": no buffer, and one of a byte
    ∷ keeps 0xF800 0xF000 0 [] NoPair
    ∷ keeps 0xF800 0xF000 0 (0xA5 ∷ []) NoPair
    ∷ keeps 0xF000 0xF800 0 [] NoRoom
    ∷ keeps 0xF000 0xF800 0 (0xA5 ∷ []) NoRoom
    ∷ reads "bl\t0x00000004" 0 (Some (0xF000, 0xF800))
    ∷ reads "bl\t0x00000100" 0x100 (Some (0xF7FF, 0xFFFE))
    ∷ reads "bl\t0xffc00004" 0 (Some (0xF400, 0xF800))
    ∷ reads "bl\t0x00400002" 0 (Some (0xF3FF, 0xFFFF))
    ∷ reads "bl\t0x00000002" 0xFFFFFFFE (Some (0xF000, 0xF800))
    -- one too far ahead, one too far back, and an odd distance
    ∷ reads "bl\t0x00400004" 0 None
    ∷ reads "bl\t0xffc00002" 0 None
    ∷ reads "bl\t0x00000005" 0 None
    -- the line of a lone half, seven digits, nine, and a capital
    ∷ reads "bl\t#0x00000000" 0 None
    ∷ reads "bl\t0x0000004" 0 None
    ∷ reads "bl\t0x000000004" 0 None
    ∷ reads "bl\t0x0000000A" 0 None
    ∷ reads "" 0 None
    -- "of either kind": F F S, F S S, F, S, a half before another word, and what is paired
    ∷ checks (0xF000 ∷ 0xF000 ∷ 0xF800 ∷ []) (Some 0)
    ∷ checks (0xF000 ∷ 0xF800 ∷ 0xF800 ∷ []) (Some 2)
    ∷ checks (0xF000 ∷ []) (Some 0)
    ∷ checks (0xF800 ∷ []) (Some 0)
    ∷ checks (0x4770 ∷ 0xF000 ∷ 0x4770 ∷ 0xF800 ∷ []) (Some 1)
    ∷ checks (0x4770 ∷ 0xF000 ∷ 0xF800 ∷ 0xF7FF ∷ 0xFFFE ∷ []) None
    ∷ checks [] None
    ∷ []
