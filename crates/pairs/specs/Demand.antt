-- What the read of a pair and the check of a run are held to. Assumes nothing.
use Rattle.std.specs.Prelude.{◌≡◌, ℕ, ◌^◌, ◌<◌, true, false, List, length}
use Rattle.lines.specs.Answer.{line}
use Rattle.thumb.specs.Pair.{is_pair}
use Rattle.pairs.specs.Print.{pair_line}
use Rattle.pairs.specs.Run.{lacks_at}

-- two halfwords are a pair, and print the line l at p
pub record Prints (p : ℕ) (l : List ℕ) (first second : ℕ) : Type 0 where
  pub first_halfword : first < 2 ^ 16
  pub second_halfword : second < 2 ^ 16
  pub pair : is_pair first second ≡ true
  pub prints : pair_line p first second ≡ line l

-- "A line is readable as a pair exactly if some pair prints it at p, and otherwise gets 4 with both halves 0": of a line l, and what is answered for it
pub record PairDemand (p : ℕ) (l : List ℕ) (number first second : ℕ) : Type 0 where
  pub success : number ≡ 0 → Prints p l first second
  pub found : (a b : ℕ) → Prints p l a b → (number ≡ 0) × (first ≡ a) × (second ≡ b)
  pub none : number ≡ 4 → (a b : ℕ) → Prints p l a b → ⊥
  pub refused : ((a b : ℕ) → Prints p l a b → ⊥) → (number ≡ 4) × (first ≡ 0) × (second ≡ 0)

-- "the index of the earliest half, of either kind, that lacks its partner .., or says that all are paired": of a run, and what is answered for it
pub record RunDemand (run : List ℕ) (number index : ℕ) : Type 0 where
  pub lacking : number ≡ 1 → (index < length run) × (lacks_at run index ≡ true)
  pub earliest : number ≡ 1 → (i : ℕ) → i < index → lacks_at run i ≡ false
  pub found : (i : ℕ) → i < length run → lacks_at run i ≡ true → number ≡ 1
  pub paired : number ≡ 0 → (i : ℕ) → i < length run → lacks_at run i ≡ false
  pub all_paired : ((i : ℕ) → i < length run → lacks_at run i ≡ false) → (number ≡ 0) × (index ≡ 0)
