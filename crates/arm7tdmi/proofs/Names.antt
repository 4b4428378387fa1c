-- Names of registers and conditions: what the code writes, that it is read back, and how long it is. Assumes nothing.
use Rattle.std.proofs.Common.{◌≡◌, ℕ, ◌+◌, ◌-◌, ◌*◌, ◌/◌, ◌%◌, ◌^◌, ◌<◌, ◌≤◌, Bool, true, false, cond, not, ◌&&◌, eqb, ltb, List, [], ◌++◌, map, get_or, sym, refl, ap, ◌∙◌, arith, ne_eqb, eqb-true}
use borrow.Author.Tests.{eqb-false}
use lib.ListN.{get_or-eq_default}
use Rattle.arm7tdmi.specs.Cond.{arm_cond, arm_cond_number}
use Rattle.arm7tdmi.specs.Names.{cond_named, cond_names, cond_text, letters, reg_named, reg_names, reg_string}
use Rattle.common.proofs.Lists.{NoneOf, agreed, none_found, picked}
use Rattle.common.proofs.Tests.{at, at_not, by_test}
use Rattle.common.specs.Lists.{find, first, same}
use Rattle.text.proofs.Packed.{Bytes, find_packed}
use Rattle.text.proofs.Within.{Within, entry, short_entry}
use Rattle.text.proofs.Word.{wordy}
use Rattle.text.specs.Text.{text}
use Rattle.text.specs.Word.{is_word, packed}

-- ---- what the code writes: two bytes of a row of names, and a third for r10
abbrev pub reg_bytes : List ℕ
reg_bytes = text "r0r1r2r3r4r5r6r7r8r9r1fpipsplrpc"

pub reg_none : (n : ℕ) → 16 ≤ n → reg_string n ≡ []
unfolding reg_string reg_names
reg_none n h = get_or-eq_default reg_names [] {n = n} h

pub reg_written : (n : ℕ) → n < 16 → reg_string n ≡ letters reg_bytes n ++ cond (eqb n 10) (text "0") []
unfolding letters reg_string reg_names same
reg_written n h = sym (agreed (λ n. letters reg_bytes n ++ cond (eqb n 10) (text "0") []) reg_string 16 refl n h)

abbrev pub cond_bytes : List ℕ
cond_bytes = text "eqnecsccmiplvsvchilsgeltgtle"

pub cond_none : (n : ℕ) → 14 ≤ n → cond_text n ≡ []
unfolding cond_text cond_names
cond_none n h = by_test (eqb n 14) (λ e. rw (eqb-true n 14 e)) (λ e. let d = eqb-false n 14 e in get_or-eq_default cond_names [] {n = n} (omega arith))

pub cond_letters : (n : ℕ) → n < 14 → cond_text n ≡ letters cond_bytes n
unfolding letters cond_text cond_names same
cond_letters n h = sym (agreed (letters cond_bytes) cond_text 14 refl n h)

-- ---- what is written is read back
pub reg_back : (n : ℕ) → n < 16 → reg_named (reg_string n) ≡ n
unfolding reg_named reg_string reg_names first same
reg_back n h = eqb-true _ _ (at (λ n. eqb (reg_named (reg_string n)) n) 16 refl n h)

pub cond_back : (n : ℕ) → n < 15 → cond_named (cond_text n) ≡ n
unfolding cond_named cond_text cond_names first same
cond_back n h = eqb-true _ _ (at (λ n. eqb (cond_named (cond_text n)) n) 15 refl n h)

-- ---- what the code looks up: the names, packed
pub reg_found : (l : List ℕ) → Bytes l → find (packed l) (map packed reg_names) ≡ reg_named l
unfolding reg_named reg_names
reg_found l h = find_packed reg_names l refl h

pub cond_found : (l : List ℕ) → Bytes l → find (packed l) (map packed cond_names) ≡ cond_named l
unfolding cond_named cond_names
cond_found l h = find_packed cond_names l refl h

-- a number of four bits is that of its condition
pub cond_numbered : (n : ℕ) → n < 16 → arm_cond_number (arm_cond n) ≡ n
unfolding arm_cond
cond_numbered n h = eqb-true _ _ (at (λ n. eqb (arm_cond_number (arm_cond n)) n) 16 refl n h)

-- ---- packed names as the code finds them: `r` and what stands behind it, or another first byte
abbrev codes : List ℕ
codes = map packed reg_names

numbered_parts : (m : ℕ) → ((m * 2 ^ 8 + 0x72) % 2 ^ 8 ≡ 0x72) × ((m * 2 ^ 8 + 0x72) / 2 ^ 8 ≡ m)
numbered_parts m = (omega arith, omega arith)

pub digit_reg : (m : ℕ) → 0x30 ≤ m → m ≤ 0x39 → m - 0x30 ≡ find (m * 2 ^ 8 + 0x72) codes
unfolding reg_names packed first
digit_reg m h g =
    let e : m ≡ m - 0x30 + 0x30 = omega arith in
    let f : m - 0x30 ≡ find ((m - 0x30 + 0x30) * 2 ^ 8 + 0x72) codes = eqb-true _ _ (at (λ d. eqb d (find ((d + 0x30) * 2 ^ 8 + 0x72) codes)) 10 refl (m - 0x30) (omega arith)) in
    f ∙ ap (λ (x : ℕ). find (x * 2 ^ 8 + 0x72) codes) (sym e)

-- m passes a test, and is none of those that stand in the names and do
pub no_number : (p : ℕ → Bool) (m : ℕ) → p m ≡ true → NoneOf (m * 2 ^ 8 + 0x72) (picked (λ x. eqb (x % 2 ^ 8) 0x72 && p (x / 2 ^ 8)) [] codes) → 16 ≡ find (m * 2 ^ 8 + 0x72) codes
unfolding reg_names
no_number p m t h =
    let d = numbered_parts m in
    sym (none_found (λ x. eqb (x % 2 ^ 8) 0x72 && p (x / 2 ^ 8)) (m * 2 ^ 8 + 0x72) codes [] (rw (d.0, d.1) t) h)

pub no_name : (n : ℕ) → (n % 2 ^ 8 ≡ 0x72 → ⊥) → NoneOf n (picked (λ x. not (eqb (x % 2 ^ 8) 0x72)) [] codes) → 16 ≡ find n codes
unfolding reg_names
no_name n f h = sym (none_found (λ x. not (eqb (x % 2 ^ 8) 0x72)) n codes [] (rw (ne_eqb (n % 2 ^ 8) 0x72 f)) h)

-- ---- names are words, and begin with no digit
pub reg_wordy : (n : ℕ) → n < 16 → wordy (reg_string n) ≡ true
unfolding reg_string reg_names is_word
reg_wordy = at (λ n. wordy (reg_string n)) 16 refl

pub reg_letter : (n : ℕ) → n < 16 → ltb (get_or (reg_string n) 0 0) 58 ≡ false
unfolding reg_string reg_names
reg_letter = at_not (λ n. ltb (get_or (reg_string n) 0 0) 58) 16 refl

-- ---- how long they are
pub reg_within : (n : ℕ) → n < 16 → Within 2 3 (reg_string n)
unfolding reg_string reg_names
reg_within n h = entry 2 3 reg_names refl n h

pub cond_within : (n : ℕ) → Within 0 2 (cond_text n)
unfolding cond_text cond_names
cond_within n = short_entry 2 cond_names refl n
