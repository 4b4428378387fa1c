-- A line as words with what separates them, and one law for all its words; texts regrouped, and a mark read back. Assumes nothing.
use Prim.Native.Nat.{◌<◌, suc, zero, ℕ}
use borrow.Author.Tests.{eqb-false, eqb-true, ne_eqb}
use lib.Dec.{eqb}
use mathlib.Core.Bool.{Bool, ◌&&◌, ◌||◌, false, true, true≢false}
use mathlib.Core.List.{List, [], ◌++◌, ◌∷◌, append_assoc, append-nil}
use mathlib.Core.Path.{◌∙◌, ◌≡◌, ap, refl, sym}
use native.Mathlib.Omega.{arith}
use Rattle.common.proofs.Tests.{and_left, and_right, by_test}
use Rattle.common.specs.Lists.{first}
use Rattle.reading.specs.Parts.{flag}
use Rattle.text.proofs.Word.{after_of, behind_of, gap, gap_all, gap_starts, stops, word_of, wordy, wordy_all, wordy_starts}
use Rattle.text.specs.Word.{has, after, all, behind, from_word, is_word, word}

-- words, each with what stands behind it
pub data Pieces : Type 0 where
  none : Pieces
  last : List ℕ → Pieces
  piece : List ℕ → List ℕ → Pieces → Pieces

abbrev pub spell : Pieces → List ℕ
spell none = []
spell (last w) = w
spell (piece w g ps) = w ++ (g ++ spell ps)

abbrev pub good : Pieces → Bool
good none = true
good (last w) = wordy w
good (piece w g ps) = wordy w && (gap g && good ps)

-- from word j on
abbrev pub from : ℕ → Pieces → Pieces
from zero ps = ps
from (suc j) none = none
from (suc j) (last w) = none
from (suc j) (piece w g ps) = from j ps

-- the first word, and what stands behind it
abbrev pub first_of : Pieces → List ℕ
first_of none = []
first_of (last w) = w
first_of (piece w g ps) = w

abbrev pub rest_of : Pieces → List ℕ
rest_of none = []
rest_of (last w) = []
rest_of (piece w g ps) = g ++ spell ps

good_starts : (ps : Pieces) → good ps ≡ true → stops is_word (spell ps) ≡ true
good_starts none e = refl
good_starts (last w) e = rw append-nil at (wordy_starts w [] e)
good_starts (piece w g ps) e = wordy_starts w (g ++ spell ps) (and_left (wordy w) (gap g && good ps) e)

at_end : (j : ℕ) → from_word j [] ≡ []
unfolding after behind first
at_end zero = refl
at_end (suc j) = at_end j

-- THE LAW of the words
pub from_nth : (j : ℕ) (ps : Pieces) → good ps ≡ true → (from_word j (spell ps) ≡ spell (from j ps)) × (good (from j ps) ≡ true)
from_nth zero ps e = (refl, e)
from_nth (suc j) none e = (at_end (suc j), refl)
from_nth (suc j) (last w) e =
    let a : after w ≡ [] = rw append-nil at (after_of w [] [] (wordy_all w e) refl refl refl) in
    (rw a (at_end j), refl)
from_nth (suc j) (piece w g ps) e =
    let r = and_right (wordy w) (gap g && good ps) e in
    let d = and_right (gap g) (good ps) r in
    let a = and_left (gap g) (good ps) r in
    let ih = from_nth j ps d in
    (rw (after_of w g (spell ps) (wordy_all w (and_left (wordy w) (gap g && good ps) e)) (gap_starts g _ a) (gap_all g a) (good_starts ps d)) ih.0, ih.1)

pub first_word : (ps : Pieces) → good ps ≡ true → word (spell ps) ≡ first_of ps
first_word none e = unfold word first in refl
first_word (last w) e = rw append-nil at (word_of w [] (wordy_all w e) refl)
first_word (piece w g ps) e = word_of w (g ++ spell ps) (wordy_all w (and_left (wordy w) (gap g && good ps) e)) (gap_starts g _ (and_left (gap g) (good ps) (and_right (wordy w) (gap g && good ps) e)))

pub first_rest : (ps : Pieces) → good ps ≡ true → behind (spell ps) ≡ rest_of ps
first_rest none e = unfold behind first in refl
first_rest (last w) e = rw append-nil at (behind_of w [] (wordy_all w e) refl)
first_rest (piece w g ps) e = behind_of w (g ++ spell ps) (wordy_all w (and_left (wordy w) (gap g && good ps) e)) (gap_starts g _ (and_left (gap g) (good ps) (and_right (wordy w) (gap g && good ps) e)))

-- the same of word j
pub word_nth : (j : ℕ) (ps : Pieces) → good ps ≡ true → word (from_word j (spell ps)) ≡ first_of (from j ps)
word_nth j ps e = let f = from_nth j ps e in rw f.0 (first_word (from j ps) f.1)

pub rest_nth : (j : ℕ) (ps : Pieces) → good ps ≡ true → behind (from_word j (spell ps)) ≡ rest_of (from j ps)
rest_nth j ps e = let f = from_nth j ps e in rw f.0 (first_rest (from j ps) f.1)

-- ---- a byte that is of no word stands in the line where it stands between words
abbrev pub gaps_have : ℕ → Pieces → Bool
gaps_have x none = false
gaps_have x (last w) = false
gaps_have x (piece w g ps) = has x g || gaps_have x ps

or_assoc : (a b c : Bool) → ((a || b) || c) ≡ (a || (b || c))
or_assoc true b c = refl
or_assoc false b c = refl

pub has_append : (x : ℕ) (a b : List ℕ) → has x (a ++ b) ≡ (has x a || has x b)
unfolding has
has_append x [] b = refl
has_append x (y ∷ ys) b = rw (has_append x ys b) (sym (or_assoc (eqb y x) (has x ys) (has x b)))

has_all : (x : ℕ) (w : List ℕ) → is_word x ≡ false → all is_word w ≡ true → has x w ≡ false
unfolding has
has_all x [] c e = refl
has_all x (y ∷ ys) c e =
    let d : is_word y ≡ true = and_left (is_word y) (all is_word ys) e in
    let n : eqb y x ≡ false = ne_eqb y x (λ q. true≢false (sym d ∙ ap is_word q ∙ c)) in
    rw n (has_all x ys c (and_right (is_word y) (all is_word ys) e))

pub has_gaps : (x : ℕ) (ps : Pieces) → is_word x ≡ false → good ps ≡ true → has x (spell ps) ≡ gaps_have x ps
unfolding has
has_gaps x none c e = refl
has_gaps x (last w) c e = has_all x w c (wordy_all w e)
has_gaps x (piece w g ps) c e =
    let r = and_right (wordy w) (gap g && good ps) e in
    let ih = has_gaps x ps c (and_right (gap g) (good ps) r) in
    rw (has_append x w (g ++ spell ps), has_append x g (spell ps), has_all x w c (wordy_all w (and_left (wordy w) (gap g && good ps) e)), ih)

-- ---- pieces with something behind the last word
abbrev pub ended : Pieces → List ℕ → Pieces
ended none z = none
ended (last w) z = piece w z none
ended (piece w g ps) z = piece w g (ended ps z)

abbrev pub some : Pieces → Bool
some none = false
some (last w) = true
some (piece w g ps) = some ps

pub ended_spelled : (ps : Pieces) (z : List ℕ) → some ps ≡ true → spell (ended ps z) ≡ spell ps ++ z
ended_spelled none z e = absurd (true≢false (sym e))
ended_spelled (last w) z e = rw append-nil
ended_spelled (piece w g ps) z e = rw (ended_spelled ps z e) (sym (append_assoc w (g ++ spell ps) z ∙ ap (λ (l : List ℕ). w ++ l) (append_assoc g (spell ps) z)))

pub ended_good : (ps : Pieces) (z : List ℕ) → good ps ≡ true → gap z ≡ true → good (ended ps z) ≡ true
ended_good none z e h = refl
ended_good (last w) z e h = rw (e, h)
ended_good (piece w g ps) z e h =
    let r = and_right (wordy w) (gap g && good ps) e in
    rw (and_left (wordy w) (gap g && good ps) e, and_left (gap g) (good ps) r) (ended_good ps z (and_right (gap g) (good ps) r) h)

pub ended_first : (j : ℕ) (ps : Pieces) (z : List ℕ) → first_of (from j (ended ps z)) ≡ first_of (from j ps)
ended_first zero none z = refl
ended_first zero (last w) z = refl
ended_first zero (piece w g ps) z = refl
ended_first (suc j) none z = refl
ended_first (suc zero) (last w) z = refl
ended_first (suc (suc j)) (last w) z = refl
ended_first (suc j) (piece w g ps) z = ended_first j ps z

or_false : (a : Bool) → (a || false) ≡ a
or_false true = refl
or_false false = refl

pub ended_gaps : (x : ℕ) (ps : Pieces) (z : List ℕ) → some ps ≡ true → gaps_have x (ended ps z) ≡ (gaps_have x ps || has x z)
ended_gaps x none z e = absurd (true≢false (sym e))
ended_gaps x (last w) z e = or_false (has x z)
ended_gaps x (piece w g ps) z e = rw (ended_gaps x ps z e) (sym (or_assoc (has x g) (gaps_have x ps) (has x z)))

-- a line that begins with no word, as `LSL` in capitals does: its words follow
pub lead_from : (g : List ℕ) (ps : Pieces) → gap g ≡ true → good ps ≡ true → (word (g ++ spell ps) ≡ []) × (after (g ++ spell ps) ≡ spell ps)
lead_from g ps e h = (word_of [] (g ++ spell ps) refl (gap_starts g (spell ps) e), after_of [] g (spell ps) refl (gap_starts g (spell ps) e) (gap_all g e) (good_starts ps h))

-- ---- a sum of texts, bracketed from the left as lines are written, or from the right as pieces are spelled
abbrev left : List ℕ → List (List ℕ) → List ℕ
left a [] = a
left a (b ∷ ts) = left (a ++ b) ts

abbrev right : List ℕ → List (List ℕ) → List ℕ
right a [] = a
right a (b ∷ ts) = a ++ right b ts

right_more : (a b : List ℕ) (ts : List (List ℕ)) → right (a ++ b) ts ≡ a ++ right b ts
right_more a b [] = refl
right_more a b (c ∷ ts) = append_assoc a b (right c ts)

pub regroup : (a : List ℕ) (ts : List (List ℕ)) → left a ts ≡ right a ts
regroup a [] = refl
regroup a (b ∷ ts) = regroup (a ++ b) ts ∙ right_more a b ts

-- ---- a bit that a mark shows is read back
pub flag_back : (n : ℕ) → n < 2 → flag (eqb n 1) ≡ n
flag_back n h = by_test (eqb n 1) (λ e. rw e (sym (eqb-true n 1 e))) (λ e. let z = eqb-false n 1 e in rw e (omega arith))
