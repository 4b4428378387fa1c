-- Laws of halves: a pair's target gives the halves back. Assumes nothing.
use Rattle.std.proofs.Common.{◌≡◌, ℕ, ◌+◌, ◌-◌, ◌*◌, ◌/◌, ◌%◌, ◌^◌, ◌<◌, ◌≤◌, true, false, ltb, arith, ltb-false, ltb-true, eq-eqb, eqb-true}
use Rattle.arm7tdmi.specs.Signed.{extended}
use Rattle.common.proofs.Tests.{and_left, and_right, by_test}
use Rattle.common.specs.Bits.{bit_range}
use Rattle.thumb.specs.Pair.{is_first_half, is_pair, is_second_half, pair_target}
use Rattle.pairs.specs.Candidate.{distance, first_for, second_for}

-- no halfword is a half of either kind
pub not_both : (h : ℕ) → is_first_half h ≡ true → is_second_half h ≡ false
unfolding is_first_half is_second_half
not_both h e = let f = eqb-true (bit_range h 11 16) 30 e in rw f

-- a half is its top bits and its field
first_field : (h : ℕ) → h < 2 ^ 16 → is_first_half h ≡ true → 0xf000 + bit_range h 0 11 ≡ h
unfolding is_first_half
first_field h l e = let f = eqb-true (bit_range h 11 16) 30 e in omega (arith, f)

second_field : (h : ℕ) → h < 2 ^ 16 → is_second_half h ≡ true → 0xf800 + bit_range h 0 11 ≡ h
unfolding is_second_half
second_field h l e = let f = eqb-true (bit_range h 11 16) 31 e in omega (arith, f)

-- the halves for a distance are a pair
pub pair_for : (d : ℕ) → is_pair (first_for d) (second_for d) ≡ true
unfolding is_pair is_first_half is_second_half
pair_for d = rw (eq-eqb (bit_range (first_for d) 11 16) 30 (omega arith), eq-eqb (bit_range (second_for d) 11 16) 31 (omega arith))

-- the distance is the sum of the fields, which gives each of them back
gone : (p e b : ℕ) → e + b * 2 < 2 ^ 32 → distance p ((p + 4 + e + b * 2) % 2 ^ 32) ≡ e + b * 2
gone p e b h = omega arith

ahead : (a b : ℕ) → a < 1024 → b < 2048 → (a * 4096 + b * 2 < 2 ^ 32) × ((a * 4096 + b * 2) / 4096 % 2048 ≡ a) × ((a * 4096 + b * 2) / 2 % 2048 ≡ b)
ahead a b h g = (omega arith, omega arith, omega arith)

back : (a b : ℕ) → 1024 ≤ a → a < 2048 → b < 2048
    → (2 ^ 32 - (2048 - a) * 4096 + b * 2 < 2 ^ 32) × ((2 ^ 32 - (2048 - a) * 4096 + b * 2) / 4096 % 2048 ≡ a) × ((2 ^ 32 - (2048 - a) * 4096 + b * 2) / 2 % 2048 ≡ b)
back a b l h g = (omega arith, omega arith, omega arith)

fields_back : (a b : ℕ) → a < 2048 → b < 2048
    → (extended 11 4096 a + b * 2 < 2 ^ 32) × ((extended 11 4096 a + b * 2) / 4096 % 2048 ≡ a) × ((extended 11 4096 a + b * 2) / 2 % 2048 ≡ b)
unfolding extended
fields_back a b h g =
    by_test (ltb a 1024)
    (λ e. rw e (ahead a b (ltb-true a 1024 e) g))
    (λ e. rw e (back a b (ltb-false a 1024 e) h g))

-- THE LAW: a pair's target gives its halves
pub halves_back : (p first second : ℕ) → first < 2 ^ 16 → second < 2 ^ 16 → is_pair first second ≡ true
    → (first_for (distance p (pair_target p first second)) ≡ first) × (second_for (distance p (pair_target p first second)) ≡ second)
unfolding is_pair pair_target
halves_back p first second f s e =
    let a = bit_range first 0 11 in
    let b = bit_range second 0 11 in
    let x = fields_back a b (omega arith) (omega arith) in
    let d = gone p (extended 11 4096 a) b x.0 in
    let i = first_field first f (and_left (is_first_half first) (is_second_half second) e) in
    let j = second_field second s (and_right (is_first_half first) (is_second_half second) e) in
    (rw (d, x.1) i, rw (d, x.2) j)
