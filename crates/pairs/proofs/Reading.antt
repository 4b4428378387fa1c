-- Reading a pair back: the halves for the distance that a line shows are the only ones that may print it. Assumes nothing.
use Rattle.std.proofs.Common.{◌≡◌, ℕ, ◌-◌, ◌/◌, ◌%◌, ◌^◌, ◌<◌, ◌≤◌, true, false, cond, List, length, take, drop, ap, ◌∙◌, arith, lt-ltb, Some, None}
use Rattle.common.proofs.Lists.{part_rest}
use Rattle.common.specs.Lists.{same}
use Rattle.lines.specs.Answer.{line}
use Rattle.reading.proofs.Demand.{candidate_reads, none_read}
use Rattle.text.specs.Digits.{value}
use Rattle.pairs.specs.Print.{pair_line, pair_text}
use Rattle.pairs.specs.Candidate.{distance, first_for, second_for}
use Rattle.pairs.specs.Read.{joined, joined_line, pair_answer, read_pair}
use Rattle.pairs.proofs.Halves.{halves_back, pair_for}
use Rattle.pairs.proofs.Printing.{is_printed, pair_length, pair_prints, target_back}

-- two halfwords are the parts of the number that they make
pub parts : (a b : ℕ) → b < 2 ^ 16 → (joined a b / 2 ^ 16 ≡ a) × (joined a b % 2 ^ 16 ≡ b)
parts a b h = (omega arith, omega arith)

module _ (p : ℕ) (l : List ℕ) where
  -- the distance that a line shows
  abbrev pub shown : ℕ
  shown = distance p (value 16 (drop 5 l))

  -- two halfwords that print the line are those for that distance
  pub printed_halves : (a b : ℕ) → a < 2 ^ 16 → b < 2 ^ 16 → pair_line p a b ≡ line l → (first_for shown ≡ a) × (second_for shown ≡ b)
  printed_halves a b ha hb e =
      let i = is_printed p a b l e in
      let t = target_back p a b in
      rw (← i.1, t) (halves_back p a b ha hb i.0)

  abbrev pub candidate : ℕ
  candidate = joined (first_for shown) (second_for shown)

  candidate_line : joined_line p candidate ≡ line (pair_text p (first_for shown) (second_for shown))
  candidate_line =
      let q = parts (first_for shown) (second_for shown) (omega arith) in
      rw (q.0, q.1) (pair_prints p (first_for shown) (second_for shown) (pair_for shown))

  candidate_law : (w : ℕ) → w < 2 ^ 32 → joined_line p w ≡ line l → (candidate ≤ w) × (joined_line p candidate ≡ line l)
  candidate_law w h e =
      let s = printed_halves (w / 2 ^ 16) (w % 2 ^ 16) (omega arith) (omega arith) e in
      let q : candidate ≡ w = rw (s.0, s.1) (omega arith) in
      rw q (omega arith, e)

  pub read_candidate : read_pair p l ≡ cond (same (pair_text p (first_for shown) (second_for shown)) l) candidate (2 ^ 32)
  unfolding read_pair
  read_candidate = candidate_reads (joined_line p) (2 ^ 32) l candidate (omega arith) candidate_law ∙ rw candidate_line

  -- what the code answers: v is the number that it reads, d the distance, f and s the halves for it
  module _ (v d f s : ℕ) (hv : v ≡ value 16 (take (length l - 5) (drop 5 l))) (hd : d ≡ distance p v) (hf : f ≡ first_for d) (hs : s ≡ second_for d) where
    tried : (f ≡ first_for shown) × (s ≡ second_for shown)
    tried = let q : v ≡ value 16 (drop 5 l) = hv ∙ ap (λ (x : List ℕ). value 16 x) (part_rest l 5) in (rw (hf, hd, q), rw (hs, hd, q))

    pub read_some : same (pair_text p f s) l ≡ true → Some (f, s) ≡ pair_answer p l
    unfolding pair_answer
    read_some h =
        let e : same (pair_text p (first_for shown) (second_for shown)) l ≡ true = rw (← tried.0, ← tried.1) h in
        let q = parts (first_for shown) (second_for shown) (omega arith) in
        rw (tried.0, tried.1, read_candidate, e, lt-ltb candidate (2 ^ 32) (omega arith), q.0, q.1)

    pub read_none : same (pair_text p f s) l ≡ false → None ≡ pair_answer p l
    unfolding pair_answer
    read_none h =
        let e : same (pair_text p (first_for shown) (second_for shown)) l ≡ false = rw (← tried.0, ← tried.1) h in
        rw (read_candidate, e)

-- a line of another length
pub wrong_length : (p : ℕ) (l : List ℕ) → (length l ≡ 13 → ⊥) → pair_answer p l ≡ None
unfolding pair_answer read_pair
wrong_length p l h =
    rw (none_read (joined_line p) (2 ^ 32) l
    (λ w g e. let i = is_printed p (w / 2 ^ 16) (w % 2 ^ 16) l e in h (rw i.1 at (pair_length p (w / 2 ^ 16) (w % 2 ^ 16)))))
