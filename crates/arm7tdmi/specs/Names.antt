-- Names of registers and conditions. Assumes nothing.
use Rattle.std.specs.Prelude.{ℕ, ◌+◌, ◌*◌, List, [], ◌∷◌, get_or, slice_index_or}
use Rattle.common.specs.Lists.{place}
use Rattle.text.specs.Text.{text}

-- name n of names of two letters each, one behind the other
unfoldable pub letters : List ℕ → ℕ → List ℕ
letters names n = get_or names (2 * n) 0 ∷ get_or names (2 * n + 1) 0 ∷ []

-- document 01: "`reg_string`, with r11 to r15 named fp, ip, sp, lr, pc"
unfoldable pub reg_names : List (List ℕ)
reg_names =
    text "r0" ∷ text "r1" ∷ text "r2" ∷ text "r3" ∷ text "r4" ∷ text "r5" ∷ text "r6" ∷ text "r7" ∷ text "r8" ∷ text "r9" ∷ text "r10" ∷ text "fp" ∷
    text "ip" ∷ text "sp" ∷ text "lr" ∷ text "pc" ∷ []

-- the name of register n; there are sixteen
unfoldable pub reg_string : ℕ → List ℕ
reg_string n = slice_index_or reg_names n []

-- the register that a word names, or 16
unfoldable pub reg_named : List ℕ → ℕ
reg_named t = place reg_names t

-- document 01: "HS prints `cs`, LO prints `cc`, AL nothing"; 15 is refused and has no name
unfoldable pub cond_names : List (List ℕ)
cond_names =
    text "eq" ∷ text "ne" ∷ text "cs" ∷ text "cc" ∷ text "mi" ∷ text "pl" ∷ text "vs" ∷ text "vc" ∷ text "hi" ∷ text "ls" ∷ text "ge" ∷ text "lt" ∷
    text "gt" ∷ text "le" ∷ text "" ∷ []

-- the name of condition n
unfoldable pub cond_text : ℕ → List ℕ
cond_text n = slice_index_or cond_names n []

-- the condition that a word names, or 15
unfoldable pub cond_named : List ℕ → ℕ
cond_named t = place cond_names t
