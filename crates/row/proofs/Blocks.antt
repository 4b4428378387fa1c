-- The rows of an input by its line ends; that it may be cut anywhere, and that the start of a row is enough to hold; how long the answers are. Assumes nothing.
use Prim.Native.Nat.{◌*◌, ◌+◌, ◌<◌, ◌≤◌, suc, zero, ℕ}
use borrow.Author.Tests.{leb-false, leb-true, ne_eqb}
use lib.Dec.{eqb, leb}
use lib.ListN.{drop, length, length-append, length-take, take}
use lib.Seq.{append_snoc, take_all, take-append-le}
use mathlib.Core.List.{List, [], ◌++◌, ◌∷◌, append_assoc, append-nil, flatten}
use mathlib.Core.Path.{◌≡◌, ◌∙◌, ap, refl, sym}
use native.Mathlib.Numerals.{add-one}
use native.Mathlib.Omega.{arith}
use Rattle.arm_print.specs.Print.{arm_line}
use Rattle.common.proofs.Tests.{by_test}
use Rattle.arm_print.proofs.Whole.{arm_whole}
use Rattle.thumb_print.proofs.Lengths.{thumb_whole}
use Rattle.row.proofs.Answers.{answer_short, row_length}
use Rattle.row.specs.Block.{Ended, NoEnd, all_answers, answer_line, answers, at_start, blockwise, held_of, is_end, last_answer, unfinished}
use Rattle.row.specs.Row.{address_digits, is_row, row_answer, row_form, row_letters, word_digits}
use Rattle.text.specs.Digits.{value}
use Rattle.text.specs.Text.{text}
use Rattle.text.specs.Wrote.{Wrote}
use Rattle.text.proofs.Wrote.{behind, lies}
use Rattle.std.proofs.lemmas.List.Quantifiers.{position-Some}
use Rattle.text.proofs.Puts.{puts_append}
use Rattle.text.specs.Puts.{puts}
use Rattle.text.specs.declared.put.Writer.{Writer}
use Rattle.std.specs.List.{list_any, position, position_or_len}
use Rattle.std.proofs.Common.{Some, None, false, true≢false, ◌-◌, ltb, ltb-false, eqb-true, get_or, drop-cons, take-append-drop}
use Rattle.thumb_print.specs.Print.{thumb_line}

-- ---- the first row of some bytes of input: it ends, or all of them are of it
pub ends : (b row rest : List ℕ) → list_any is_end row ≡ false → answers b (row ++ (10 ∷ rest)) ≡ answer_line (b ++ row) ++ answers [] rest
unfolding answers
ends b [] rest h = rw append-nil
ends b (x ∷ row) rest h =
    by_test (eqb x 10) (λ e. absurd (true≢false (rw e at h)))
    (λ e. let t : list_any is_end row ≡ false = rw e at h in rw (e, ends (b ++ (x ∷ [])) row rest t, append_snoc b x row))

pub ends_left : (b row rest : List ℕ) → list_any is_end row ≡ false → unfinished b (row ++ (10 ∷ rest)) ≡ unfinished [] rest
unfolding unfinished
ends_left b [] rest h = refl
ends_left b (x ∷ row) rest h =
    by_test (eqb x 10) (λ e. absurd (true≢false (rw e at h)))
    (λ e. let t : list_any is_end row ≡ false = rw e at h in rw e (ends_left (b ++ (x ∷ [])) row rest t))

pub no_end : (b l : List ℕ) → NoEnd l → answers b l ≡ []
unfolding answers
no_end b [] h = refl
no_end b (x ∷ l) h =
    by_test (eqb x 10) (λ e. absurd (true≢false (rw e at h.none)))
    (λ e. let t : list_any is_end l ≡ false = rw e at h.none in rw e (no_end (b ++ (x ∷ [])) l (record { none = t })))

pub no_end_left : (b l : List ℕ) → NoEnd l → unfinished b l ≡ b ++ l
unfolding unfinished
no_end_left b [] h = rw append-nil
no_end_left b (x ∷ l) h =
    by_test (eqb x 10) (λ e. absurd (true≢false (rw e at h.none)))
    (λ e. let t : list_any is_end l ≡ false = rw e at h.none in rw e (no_end_left (b ++ (x ∷ [])) l (record { none = t }) ∙ append_snoc b x l))

-- where it ends
none_before : (l : List ℕ) (e : ℕ) → ((k : ℕ) → k < e → is_end (get_or l k 0) ≡ false) → list_any is_end (take e l) ≡ false
none_before l zero h = refl
none_before [] (suc e) h = refl
none_before (x ∷ l) (suc e) h = rw (h 0 (omega arith)) (none_before l e (λ k g. h (suc k) (omega arith)))

none_at_all : (l : List ℕ) → length l ≤ position_or_len is_end l → list_any is_end l ≡ false
none_at_all [] h = refl
none_at_all (x ∷ l) h =
    by_test (eqb x 10) (λ e. absurd (let s : suc (length l) ≤ 0 = rw e at h in omega arith))
    (λ e. let s : suc (length l) ≤ 1 + position_or_len is_end l = rw e at h in rw e (none_at_all l (omega arith)))

pub ended : (l : List ℕ) (e : ℕ) → position is_end l ≡ Some e → (e < length l) × Ended l (take e l) (drop (e + 1) l)
ended l e h =
    let p = position-Some is_end l e 0 h in
    let d : drop e l ≡ get_or l e 0 ∷ drop (suc e) l = drop-cons l e 0 p.0 in
    let x : get_or l e 0 ≡ 10 = eqb-true (get_or l e 0) 10 p.1 in
    (p.0, record { parts = rw (add-one, ← x, ← d) (sym (take-append-drop e l)); none = none_before l e p.2 })

pub not_ended : (l : List ℕ) → position is_end l ≡ None → NoEnd l
not_ended l h =
    by_test (ltb (position_or_len is_end l) (length l))
    (λ e. let q : Some (position_or_len is_end l) ≡ None = rw e at h in cc)
    (λ e. record { none = none_at_all l (ltb-false (position_or_len is_end l) (length l) e) })

-- ---- a walk over the rows of some bytes of input: what is still to be written
pub rows_on : (w v u : Writer) (input rest row next : List ℕ) → puts w (answers [] input) ≡ puts v (answers [] rest) → Ended rest row next → u ≡ puts v (answer_line row)
    → puts w (answers [] input) ≡ puts u (answers [] next)
rows_on w v u input rest row next h e g = rw (h, e.parts, ends [] row next e.none, puts_append, ← g)

pub rows_left : (rest row next : List ℕ) → Ended rest row next → unfinished [] rest ≡ unfinished [] next
rows_left rest row next e = rw (e.parts, ends_left [] row next e.none)

-- ---- where the input is cut
cut : (b x y : List ℕ) → answers b (x ++ y) ≡ answers b x ++ answers (unfinished b x) y
unfolding answers unfinished
cut b [] y = refl
cut b (c ∷ x) y =
    by_test (eqb c 10) (λ e. rw (e, cut [] x y) (sym (append_assoc (answer_line b) (answers [] x) (answers (unfinished [] x) y))))
    (λ e. rw e (cut (b ++ (c ∷ [])) x y))

cut_left : (b x y : List ℕ) → unfinished b (x ++ y) ≡ unfinished (unfinished b x) y
unfolding unfinished
cut_left b [] y = refl
cut_left b (c ∷ x) y = by_test (eqb c 10) (λ e. rw e (cut_left [] x y)) (λ e. rw e (cut_left (b ++ (c ∷ [])) x y))

-- ---- what is held of a row is enough
long_row : (l : List ℕ) → 20 ≤ length l → row_answer l ≡ text "!0"
unfolding row_answer is_row
long_row l h =
    let a : eqb (length l) 19 ≡ _ = ne_eqb (length l) 19 (λ e. omega arith) in
    let t : eqb (length l) 15 ≡ _ = ne_eqb (length l) 15 (λ e. omega arith) in
    rw (a, t)

-- either nothing is cut off, or what is held and the whole row are both too long
by_length : (l : List ℕ) {C : Type 0} → (held_of l ≡ l → C) → (20 ≤ length (held_of l) → 20 ≤ length l → C) → C
by_length l short long =
    by_test (leb (length l) 20) (λ e. short (take_all 20 l (leb-true (length l) 20 e)))
    (λ e. let h = leb-false (length l) 20 e in long (simp length-take (omega arith)) (omega arith))

pub held_row : (l : List ℕ) → row_answer (held_of l) ≡ row_answer l
held_row l = by_length l (λ e. rw e) (λ g h. long_row (held_of l) g ∙ sym (long_row l h))

-- ---- what is held
pub same_buffer : (w v : Writer) (bs : List ℕ) → v ≡ puts w bs → w.bytes.ghost_name ≡ v.bytes.ghost_name
unfolding puts
same_buffer w v bs e = rw e

pub within : {l : List ℕ} {at : ℕ} {bs l' : List ℕ} {r : ℕ} → Wrote l at bs l' r → at ≤ length l → r ≤ length l
within {l} {at} {bs} w h = let b = (behind w).place in let n = length-take (length l - at) bs in omega arith

-- ---- a block: the first row that ends in it is put together from what was held and its start
pub first_put : (w : Writer) (begun input row next : List ℕ) → Ended input row next → puts w (answers begun input) ≡ puts (puts w (answer_line (held_of (begun ++ row)))) (answers [] next)
first_put w begun input row next e = rw (e.parts, ends begun row next e.none, held_row (begun ++ row), puts_append w (answer_line (begun ++ row)) (answers [] next))

pub first_left : (begun input row next : List ℕ) → Ended input row next → unfinished begun input ≡ unfinished [] next
first_left begun input row next e = rw (e.parts, ends_left begun row next e.none)

long_answers : (b c l : List ℕ) → 20 ≤ length b → 20 ≤ length c → answers b l ≡ answers c l
unfolding answers
long_answers b c [] g h = refl
long_answers b c (x ∷ l) g h =
    by_test (eqb x 10) (λ e. rw (e, long_row b g, long_row c h))
    (λ e. rw e (long_answers (b ++ (x ∷ [])) (c ++ (x ∷ [])) l (simp length-append (omega arith)) (simp length-append (omega arith))))

long_left : (b c l : List ℕ) → 20 ≤ length b → 20 ≤ length c → held_of b ≡ held_of c → held_of (unfinished b l) ≡ held_of (unfinished c l)
unfolding unfinished
long_left b c [] g h s = s
long_left b c (x ∷ l) g h s =
    let t : held_of (b ++ (x ∷ [])) ≡ held_of (c ++ (x ∷ [])) = take-append-le 20 b (x ∷ []) g ∙ s ∙ sym (take-append-le 20 c (x ∷ []) h) in
    by_test (eqb x 10) (λ e. rw e)
    (λ e. rw e (long_left (b ++ (x ∷ [])) (c ++ (x ∷ [])) l (simp length-append (omega arith)) (simp length-append (omega arith)) t))

held_answers : (b l : List ℕ) → answers (held_of b) l ≡ answers b l
held_answers b l = by_length b (λ e. rw e) (λ g h. long_answers (held_of b) b l g h)

held_left : (b l : List ℕ) → held_of (unfinished (held_of b) l) ≡ held_of (unfinished b l)
held_left b l = by_length b (λ e. rw e) (λ g h. long_left (held_of b) b l g h (take_all 20 (held_of b) (simp length-take (omega arith))))

held_last : (b : List ℕ) → last_answer (held_of b) ≡ last_answer b
held_last [] = refl
held_last (x ∷ l) = ap (λ (a : List ℕ). a ++ (10 ∷ [])) (held_row (x ∷ l))

from_held : (b : List ℕ) (bs : List (List ℕ)) → blockwise (held_of b) bs ≡ answers b (flatten bs) ++ last_answer (unfinished b (flatten bs))
unfolding blockwise answers unfinished flatten
from_held b [] = held_last b
from_held b (x ∷ bs) = rw (held_answers b x, held_left b x, from_held (unfinished b x) bs, cut b x (flatten bs), cut_left b x (flatten bs), append_assoc)

-- an input is answered the same in whatever blocks it comes
pub cut_anywhere : (bs : List (List ℕ)) → blockwise [] bs ≡ all_answers (flatten bs)
unfolding all_answers
cut_anywhere bs = from_held [] bs

-- ---- how long the answers are: at most six bytes for each of the input
row_room : (l : List ℕ) → length (row_answer l) < 6 * (length l + 1)
unfolding row_answer
row_room l =
    let form = row_form l in
    let pc = value 16 (address_digits l) in
    let a = arm_line form pc (value 16 (word_digits 8 l)) in
    let t = thumb_line form pc (value 16 (word_digits 4 l)) in
    by_test (is_row (row_letters form).0 8 l)
    (λ e. let n = row_length (row_letters form).0 8 l e in rw e (let s = answer_short a (arm_whole form pc (value 16 (word_digits 8 l))) in omega arith))
    (λ e. by_test (is_row (row_letters form).1 4 l)
    (λ d. let n = row_length (row_letters form).1 4 l d in rw (e, d) (let s = answer_short t (thumb_whole form pc (value 16 (word_digits 4 l))) in omega arith))
    (λ d. rw (e, d) (omega arith)))

pub answers_room : (b l : List ℕ) → length (answers b l) ≤ 6 * (length b + length l)
unfolding answers
answers_room b [] = omega arith
answers_room b (x ∷ l) =
    by_test (eqb x 10) (λ e. let r = row_room b in let ih = answers_room [] l in rw e (simp length-append (omega arith)))
    (λ e. let ih = answers_room (b ++ (x ∷ [])) l in let n = length-append b (x ∷ []) in rw e (omega arith))

-- what was written from the start of an output with room for it stands there
stood : {bs out out' : List ℕ} {r : ℕ} → length bs ≤ length out → Wrote out 0 bs out' r → (r, out') ≡ at_start bs out
stood h w = let k = lies w h in rw (k.0, k.1)

pub block_answered : (begun input : List ℕ) {out out' : List ℕ} {r : ℕ} → length begun ≤ 20 → length input ≤ 65536 → length out ≡ 393336 → Wrote out 0 (answers begun input) out' r
    → (r, out') ≡ at_start (answers begun input) out
block_answered begun input h k o w = let n = answers_room begun input in stood (omega arith) w

-- the answer for a last row stands there
pub last_some : (l : List ℕ) {out out' : List ℕ} {r : ℕ} → (length l ≡ 0 → ⊥) → 6 * (length l + 1) ≤ length out → Wrote out 0 (answer_line l) out' r → (r, out') ≡ at_start (last_answer l) out
last_some [] n h w = absurd (n refl)
last_some (x ∷ l) n h w =
    let room = row_room (x ∷ l) in
    let short = length-append (row_answer (x ∷ l)) (10 ∷ []) in
    stood (omega arith) w
