-- The worked lines of the scope paper that are marked as proved, and those at address 100, as document 02 (i) respells them; shifts by an amount
-- of 0, as document 02 (ii) has them; and tests without S, as document 02 (vii) has them. Assumes nothing.
use Rattle.std.specs.Prelude.{List, [], ◌∷◌, ℕ}
use Prim.Native.String.{String}
use Rattle.text.specs.Text.{text}
use Rattle.refusal.specs.declared.Refusal.{Refusal}
use Rattle.refusal.specs.declared.Refusal.TheVariants.{NoCondition, NoTransfer, NoFlags}
use Rattle.lines.specs.Answer.{Answer, refused, line}
use Rattle.arm7tdmi.specs.declared.Form.{Form}
use Rattle.arm7tdmi.specs.declared.Form.TheVariants.{Bench, Sheet}
use Rattle.arm_print.specs.Print.{arm_line}
use Rattle.arm_lowest.specs.Read.{read_arm}
use Rattle.thumb_print.specs.Print.{thumb_line}
use Rattle.thumb_lowest.specs.Read.{read_thumb}

-- "A row ending in "read" gives a line to be read, any other a word to be printed": a word and its address, an ARM line at address 0, or a Thumb line and its address
pub data Input : Type 0 where
  arm : ℕ → ℕ → Input
  thumb : ℕ → ℕ → Input
  arm_read : List ℕ → Input
  thumb_read : List ℕ → ℕ → Input

pub data Output : Type 0 where
  printed : Answer → Output
  word : ℕ → Output

-- what is given and what comes of it, in each form: a line to be read may differ with the form, as its addresses do
pub record Row : Type 0 where
  pub bench_input : Input
  pub bench : Output
  pub sheet_input : Input
  pub sheet : Output

-- what the operations give for an input
abbrev pub gives : Form → Input → Output
gives form (arm w address) = printed (arm_line form address w)
gives form (thumb w address) = printed (thumb_line form address w)
gives form (arm_read l) = word (read_arm form 0 l)
gives form (thumb_read l address) = word (read_thumb form address l)

-- the row of what they give in both forms
abbrev pub given_row : (Form → Input → Output) → Row → Row
given_row f r = record { bench_input = r.bench_input; bench = f Bench r.bench_input; sheet_input = r.sheet_input; sheet = f Sheet r.sheet_input }

-- a row of two inputs, one for each form; and one of the same input for both
abbrev apart : Input → Output → Input → Output → Row
apart i b j s = record { bench_input = i; bench = b; sheet_input = j; sheet = s }

abbrev row : Input → Output → Output → Row
row i b s = apart i b i s

abbrev shows : String → Output
shows s = printed (line (text s))

abbrev refuses : Refusal → Output
refuses r = printed (refused r)

-- "The set is ARM where the row names none, and the address is 0 where it names none."
abbrev pub table : List Row
table =
    row (arm 0xE0821003 0) (shows "add\tr2, r2, r3") (shows "add\tr1, r2, r3")
    ∷ row (arm 0xE5110004 0) (shows "ldr\tr0, [r1, #4294967292]\t; 0xfffffffc") (shows "ldr\tr0, [r1, #-4]\t; 0xfffffffc")
    ∷ row (arm 0xE7910002 0) (shows "<Undefined>") (shows "ldr\tr0, [r1, r2]")
    ∷ row (arm 0xE59F0004 0x100) (shows "ldr\tr0, [pc, #4]\t; 0x10c") (shows "ldr\tr0, [pc, #4]\t; 0x0000010c")
    ∷ row (arm 0xEAFFFFFE 0x100) (shows "b\t0x100") (shows "b\t0x00000100")
    ∷ row (arm 0xF12FFF10 0) (shows "bx\tr0") (refuses NoCondition)
    ∷ row (arm 0xE1800090 0) (refuses NoTransfer) (refuses NoTransfer)
    ∷ row (arm 0xF1800090 0) (refuses NoCondition) (refuses NoCondition)
    ∷ row (arm 0xE1A01022 0) (shows "mov\tr0, r2, lsr #0") (shows "mov\tr1, r2, lsr #32")
    ∷ row (arm 0xE1A01062 0) (shows "mov\tr0, r2, ror #0") (shows "mov\tr1, r2, rrx")
    ∷ row (arm 0xE1000000 0) (shows "tst\tr0, r0") (refuses NoFlags)
    ∷ row (arm 0xE1200000 0) (shows "teq\tr0, r0") (refuses NoFlags)
    ∷ row (arm 0xE1400000 0) (shows "cmp\tr0, r0") (refuses NoFlags)
    ∷ row (arm 0xE1600000 0) (shows "cmn\tr0, r0") (refuses NoFlags)
    ∷ row (arm 0xE3000000 0) (shows "tst\tr0, #0\t; 0x0") (refuses NoFlags)
    ∷ row (arm 0xE3200000 0) (shows "teq\tr0, #0\t; 0x0") (refuses NoFlags)
    ∷ row (arm 0xE3400000 0) (shows "cmp\tr0, #0\t; 0x0") (refuses NoFlags)
    ∷ row (arm 0xE3600000 0) (shows "cmn\tr0, #0\t; 0x0") (refuses NoFlags)
    ∷ row (arm 0xE1100000 0) (shows "tst\tr0, r0") (shows "tst\tr0, r0")
    ∷ row (arm 0xE3700000 0) (shows "cmn\tr0, #0\t; 0x0") (shows "cmn\tr0, #0\t; 0x0")
    ∷ row (arm 0xF1000000 0) (refuses NoCondition) (refuses NoCondition)
    ∷ row (arm 0xE1000090 0) (shows "swp\tr0, r0, [r0]") (shows "swp\tr0, r0, [r0]")
    ∷ row (arm 0xE10000B0 0) (shows "strh\tr0, [r0, -r0]") (shows "strh\tr0, [r0, -r0]")
    ∷ row (arm 0xE129F000 0) (shows "msr\tCPSR, r0") (shows "msr\tCPSR, r0")
    ∷ row (arm 0xE328F000 0) (shows "msr\tCPSR_f, #0\t; 0x0\t; N=false Z=false C=false V=false") (shows "msr\tCPSR_f, #0\t; 0x0\t; N=false Z=false C=false V=false")
    ∷ row (arm 0xE121F000 0) (shows "teq\tr1, r0") (refuses NoFlags)
    ∷ row (arm 0xE120F000 0) (shows "teq\tr0, r0") (refuses NoFlags)
    ∷ row (arm 0xE320F000 0) (shows "teq\tr0, #0\t; 0x0") (refuses NoFlags)
    ∷ row (thumb 0x0808 0) (shows "LSR\tr0, r1, #0") (shows "LSR\tr0, r1, #32")
    ∷ row (thumb 0x4480 0) (shows "add\tr0, r0") (shows "add\tr8, r0")
    ∷ row (thumb 0xC808 0) (shows "ldm\tr1!, {r3}") (shows "ldm\tr0!, {r3}")
    ∷ row (thumb 0xB0FF 0) (shows "add\tsp, #fffffe04") (shows "add\tsp, #-0x1fc")
    ∷ row (arm_read (text "tst\tpc, r0")) (word 0xE11F0000) (word 0xE11F0000)
    ∷ row (arm_read (text "tst\tr0, r0")) (word 0xE1000000) (word 0xE1100000)
    ∷ row (arm_read (text "teq\tr0, #0\t; 0x0")) (word 0xE3200000) (word 0xE3300000)
    ∷ row (arm_read (text "cmp\tr0, r0")) (word 0xE1400000) (word 0xE1500000)
    ∷ row (arm_read (text "cmn\tr0, #0\t; 0x0")) (word 0xE3600000) (word 0xE3700000)
    ∷ row (arm_read (text "<Undefined>")) (word 0x06000000) (word 0x06000010)
    ∷ apart (arm_read (text "mov\tr0, r2, lsr #0")) (word 0xE1A00022) (arm_read (text "mov\tr1, r2, lsr #32")) (word 0xE1A01022)
    ∷ apart (thumb_read (text "b\t0x104") 0x100) (word 0xDE00) (thumb_read (text "b\t0x00000104") 0x100) (word 0xE000)
    ∷ []
