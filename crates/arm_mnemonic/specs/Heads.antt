-- The mnemonics, and what the first word of a line says by them: the reader's plan; nothing of the promise rests on it. Assumes nothing.
use Rattle.std.specs.Prelude.{◌-◌, ℕ, ltb, drop, get_or, length, take, Bool, cond, List, [], ◌∷◌, map}
use Rattle.arm7tdmi.specs.Names.{cond_named}
use Rattle.common.specs.Lists.{place}
use Rattle.text.specs.Text.{text}

-- a mnemonic without its condition: its family, and the bits that it says
pub record Stem : Type 0 where
  pub name : List ℕ
  pub family : ℕ
  pub bits : ℕ

abbrev stem : List ℕ → ℕ → ℕ → Stem
stem t f b = record { name = t; family = f; bits = b }

-- the families: 0 data processing, 1 branches, 2 bx, 3 ldr and str, 4 ldm and stm, 5 mrs, 6 msr, 7 mul and mla, 8 mull and mlal, 9 halfword transfers,
-- 10 swi, 11 swp, 12 none
unfoldable pub stems : List Stem
stems =
    stem (text "and") 0 0x00000000 ∷
    stem (text "eor") 0 0x00200000 ∷
    stem (text "sub") 0 0x00400000 ∷
    stem (text "rsb") 0 0x00600000 ∷
    stem (text "add") 0 0x00800000 ∷
    stem (text "adc") 0 0x00a00000 ∷
    stem (text "sbc") 0 0x00c00000 ∷
    stem (text "rsc") 0 0x00e00000 ∷
    stem (text "tst") 0 0x01000000 ∷
    stem (text "teq") 0 0x01200000 ∷
    stem (text "cmp") 0 0x01400000 ∷
    stem (text "cmn") 0 0x01600000 ∷
    stem (text "orr") 0 0x01800000 ∷
    stem (text "mov") 0 0x01a00000 ∷
    stem (text "bic") 0 0x01c00000 ∷
    stem (text "mvn") 0 0x01e00000 ∷
    stem (text "ands") 0 0x00100000 ∷
    stem (text "eors") 0 0x00300000 ∷
    stem (text "subs") 0 0x00500000 ∷
    stem (text "rsbs") 0 0x00700000 ∷
    stem (text "adds") 0 0x00900000 ∷
    stem (text "adcs") 0 0x00b00000 ∷
    stem (text "sbcs") 0 0x00d00000 ∷
    stem (text "rscs") 0 0x00f00000 ∷
    stem (text "orrs") 0 0x01900000 ∷
    stem (text "movs") 0 0x01b00000 ∷
    stem (text "bics") 0 0x01d00000 ∷
    stem (text "mvns") 0 0x01f00000 ∷
    stem (text "b") 1 0x00000000 ∷
    stem (text "bl") 1 0x01000000 ∷
    stem (text "bx") 2 0x00000000 ∷
    stem (text "ldr") 3 0x00100000 ∷
    stem (text "ldrt") 3 0x00300000 ∷
    stem (text "ldrb") 3 0x00500000 ∷
    stem (text "ldrbt") 3 0x00700000 ∷
    stem (text "str") 3 0x00000000 ∷
    stem (text "strt") 3 0x00200000 ∷
    stem (text "strb") 3 0x00400000 ∷
    stem (text "strbt") 3 0x00600000 ∷
    stem (text "ldmib") 4 0x01900000 ∷
    stem (text "ldmia") 4 0x00900000 ∷
    stem (text "ldmdb") 4 0x01100000 ∷
    stem (text "ldmda") 4 0x00100000 ∷
    stem (text "stmib") 4 0x01800000 ∷
    stem (text "stmia") 4 0x00800000 ∷
    stem (text "stmdb") 4 0x01000000 ∷
    stem (text "stmda") 4 0x00000000 ∷
    stem (text "mrs") 5 0x00000000 ∷
    stem (text "msr") 6 0x00000000 ∷
    stem (text "mul") 7 0x00000000 ∷
    stem (text "muls") 7 0x00100000 ∷
    stem (text "mla") 7 0x00200000 ∷
    stem (text "mlas") 7 0x00300000 ∷
    stem (text "umull") 8 0x00000000 ∷
    stem (text "umulls") 8 0x00100000 ∷
    stem (text "umlal") 8 0x00200000 ∷
    stem (text "umlals") 8 0x00300000 ∷
    stem (text "smull") 8 0x00400000 ∷
    stem (text "smulls") 8 0x00500000 ∷
    stem (text "smlal") 8 0x00600000 ∷
    stem (text "smlals") 8 0x00700000 ∷
    stem (text "ldrh") 9 0x00100020 ∷
    stem (text "ldrsb") 9 0x00100040 ∷
    stem (text "ldrsh") 9 0x00100060 ∷
    stem (text "strh") 9 0x00000020 ∷
    stem (text "strsb") 9 0x00000040 ∷
    stem (text "strsh") 9 0x00000060 ∷
    stem (text "swi") 10 0x00000000 ∷
    stem (text "swp") 11 0x00000000 ∷
    stem (text "swpb") 11 0x00400000 ∷
    []

unfoldable pub stem_names : List (List ℕ)
stem_names = map (λ (s : Stem). s.name) stems

-- stem k, and none past the last
abbrev pub stem_at : ℕ → Stem
stem_at k = get_or stems k (stem [] 12 0)

-- what the first word of a line says: its family, its bits and its condition
pub record Head : Type 0 where
  pub family : ℕ
  pub bits : ℕ
  pub condition : ℕ

abbrev pub head : ℕ → ℕ → ℕ → Head
head f b c = record { family = f; bits = b; condition = c }

-- a whole stem; else a word's last two letters name its condition
abbrev pub is_stem : List ℕ → Bool
is_stem t = ltb (place stem_names t) 70

unfoldable pub stem_of : List ℕ → ℕ
stem_of t = cond (is_stem t) (place stem_names t) (place stem_names (take (length t - 2) t))

unfoldable pub cond_of : List ℕ → ℕ
cond_of t = cond (is_stem t) 14 (cond_named (drop (length t - 2) t))

unfoldable pub head_of : List ℕ → Head
head_of t = head (stem_at (stem_of t)).family (stem_at (stem_of t)).bits (cond_of t)
