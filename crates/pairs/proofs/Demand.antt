-- The read of a pair and the check of a run meet their demands, for all addresses, lines and runs. Assumes nothing.
use Rattle.std.proofs.Common.{◌≡◌, ℕ, ◌/◌, ◌%◌, ◌^◌, ◌<◌, ◌≤◌, true, false, ltb, List, length, sym, refl, ◌∙◌, true≢false, arith, ltb-false, ltb-true}
use Rattle.common.proofs.Lowest.{lowest_at_most, lowest_passes}
use Rattle.common.proofs.Tests.{by_test}
use Rattle.lines.specs.Answer.{line}
use Rattle.reading.proofs.Demand.{none_prints, read_most, read_prints}
use Rattle.pairs.specs.Demand.{PairDemand, Prints, RunDemand}
use Rattle.pairs.specs.Read.{joined, joined_line, pair_answer, read_first, read_number, read_pair, read_second}
use Rattle.pairs.specs.Run.{first_unpaired, lacks_at, pairing_index, pairing_number, unpaired}
use Rattle.pairs.proofs.Printing.{is_printed}
use Rattle.pairs.proofs.Reading.{parts, printed_halves}

module _ (p : ℕ) (l : List ℕ) where
  -- no two pairs print one line at one address
  pub one_pair : {a b c d : ℕ} → Prints p l a b → Prints p l c d → (a ≡ c) × (b ≡ d)
  one_pair {a} {b} {c} {d} e f =
      let s = printed_halves p l a b e.first_halfword e.second_halfword e.prints in
      let t = printed_halves p l c d f.first_halfword f.second_halfword f.prints in
      (sym s.0 ∙ t.0, sym s.1 ∙ t.1)

  -- two halfwords that print the line, as one number
  joined_prints : {a b : ℕ} → Prints p l a b → joined_line p (joined a b) ≡ line l
  joined_prints {a} {b} e = let q = parts a b e.second_halfword in rw (q.0, q.1) e.prints

  abbrev read : ℕ
  read = read_pair p l

  read_is : read < 2 ^ 32 → Prints p l (read / 2 ^ 16) (read % 2 ^ 16)
  unfolding read_pair
  read_is h =
      let e = (read_prints (joined_line p) (2 ^ 32) l read h refl).0 in
      record { first_halfword = omega arith; second_halfword = omega arith; pair = (is_printed p (read / 2 ^ 16) (read % 2 ^ 16) l e).0; prints = e }

  read_none : 2 ^ 32 ≤ read → (a b : ℕ) → Prints p l a b → ⊥
  unfolding read_pair
  read_none h a b e =
      let m = read_most (joined_line p) (2 ^ 32) l in
      let f = e.first_halfword in
      let s = e.second_halfword in
      none_prints (joined_line p) (2 ^ 32) l (omega (arith, m, h)) (joined a b) (omega (arith, f, s)) (joined_prints e)

  some : read < 2 ^ 32 → PairDemand p l 0 (read / 2 ^ 16) (read % 2 ^ 16)
  some h = record {
    success = λ e. read_is h;
    found = λ a b f. (refl, (one_pair (read_is h) f).0, (one_pair (read_is h) f).1);
    none = λ e. absurd (omega arith);
    refused = λ f. absurd (f (read / 2 ^ 16) (read % 2 ^ 16) (read_is h));
  }

  nothing : 2 ^ 32 ≤ read → PairDemand p l 4 0 0
  nothing h = record {
    success = λ e. absurd (omega arith);
    found = λ a b f. absurd (read_none h a b f);
    none = λ e. read_none h;
    refused = λ f. (refl, refl, refl);
  }

  pub pair_demand : PairDemand p l (read_number (pair_answer p l)) (read_first (pair_answer p l)) (read_second (pair_answer p l))
  unfolding pair_answer
  pair_demand = by_test (ltb read (2 ^ 32)) (λ e. rw e (some (ltb-true read (2 ^ 32) e))) (λ e. rw e (nothing (ltb-false read (2 ^ 32) e)))

module _ (run : List ℕ) where
  abbrev earliest : ℕ
  earliest = first_unpaired run

  earlier : (i : ℕ) → i < earliest → lacks_at run i ≡ false
  unfolding first_unpaired
  earlier i h = by_test (lacks_at run i) (λ e. let m = lowest_at_most (lacks_at run) (length run) i e in absurd (omega (arith, m, h))) (λ e. e)

  passes : earliest < length run → lacks_at run earliest ≡ true
  unfolding first_unpaired
  passes h = lowest_passes (lacks_at run) (length run) h

  lacking : earliest < length run → RunDemand run 1 earliest
  lacking h = record {
    lacking = λ e. (h, passes h);
    earliest = λ e. earlier;
    found = λ i g e. refl;
    paired = λ e. absurd (omega arith);
    all_paired = λ f. absurd (true≢false (sym (passes h) ∙ f earliest h));
  }

  paired : length run ≤ earliest → RunDemand run 0 0
  paired h = record {
    lacking = λ e. absurd (omega arith);
    earliest = λ e. absurd (omega arith);
    found = λ i g e. absurd (true≢false (sym e ∙ earlier i (omega arith)));
    paired = λ e i g. earlier i (omega arith);
    all_paired = λ f. (refl, refl);
  }

  pub run_demand : RunDemand run (pairing_number (unpaired run)) (pairing_index (unpaired run))
  unfolding unpaired
  run_demand = by_test (ltb earliest (length run)) (λ e. rw e (lacking (ltb-true earliest (length run) e))) (λ e. rw e (paired (ltb-false earliest (length run) e)))
