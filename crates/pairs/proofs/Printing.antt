-- Laws of the line of a pair: it has 13 bytes, and what is printed by what the code tests. Assumes nothing.
use Rattle.std.proofs.Common.{◌≡◌, ℕ, ◌<◌, ◌≤◌, true, false, List, length, drop, sym, true≢false, mod-lt, arith, le-ltb, lt-ltb, Ok, Err}
use Rattle.arm7tdmi.specs.declared.Form.TheVariants.{Sheet}
use Rattle.common.proofs.Tests.{by_test}
use Rattle.refusal.specs.declared.Refusal.TheVariants.{NoPair, NoRoom}
use Rattle.lines.proofs.Address.{address_back, sheet_within}
use Rattle.lines.specs.Answer.{line, printed, refused}
use Rattle.reading.proofs.Demand.{line_is}
use Rattle.text.proofs.Within.{Within, ◌&◌, exactly}
use Rattle.text.proofs.Wrote.{lies}
use Rattle.text.specs.Digits.{value}
use Rattle.text.specs.Text.{text}
use Rattle.text.specs.Wrote.{Wrote}
use Rattle.thumb.specs.Pair.{is_pair, pair_target}
use Rattle.pairs.specs.Print.{pair_line, pair_text}

module _ (p first second : ℕ) where
  pair_within : Within 13 13 (pair_text p first second)
  unfolding pair_text
  pair_within = exactly (text "bl\t") & sheet_within (pair_target p first second)

  -- the line has 13 bytes
  pub pair_length : length (pair_text p first second) ≡ 13
  pair_length = let w = pair_within in omega (arith, w.least, w.most)

  -- the digits behind `bl\t0x` write the target
  pub target_back : value 16 (drop 5 (pair_text p first second)) ≡ pair_target p first second
  unfolding pair_text pair_target
  target_back = address_back Sheet (pair_target p first second) (mod-lt _ (omega arith))

  -- a line that is printed is that of a pair, and its text
  pub is_printed : (l : List ℕ) → pair_line p first second ≡ line l → (is_pair first second ≡ true) × (pair_text p first second ≡ l)
  unfolding pair_line
  is_printed l h =
      by_test (is_pair first second)
      (λ e. let g : line (pair_text p first second) ≡ line l = rw e at h in (e, cc))
      (λ e. absurd (true≢false (sym (line_is (refused NoPair) l (rw e at h)))))

  pub pair_prints : is_pair first second ≡ true → pair_line p first second ≡ line (pair_text p first second)
  unfolding pair_line
  pair_prints e = rw e

  -- what is printed into a buffer: refusal 5 before 3, and the line where there is room
  module _ (l : List ℕ) where
    pub print_none : is_pair first second ≡ false → printed (pair_line p first second) l ≡ (Err NoPair, l)
    unfolding pair_line printed
    print_none e = rw e

    pub print_short : is_pair first second ≡ true → length l < 13 → printed (pair_line p first second) l ≡ (Err NoRoom, l)
    unfolding pair_line printed
    print_short e h = rw (e, pair_length, lt-ltb (length l) 13 h)

    pub print_room : {l' : List ℕ} {r : ℕ} → is_pair first second ≡ true → 13 ≤ length l → Wrote l 0 (pair_text p first second) l' r
        → printed (pair_line p first second) l ≡ (Ok r, l')
    unfolding pair_line printed
    print_room e h w =
        let n = pair_length in
        let g = lies w (omega (arith, n)) in
        rw (e, g.0, g.1, le-ltb (length l) (length (pair_text p first second)) (omega (arith, n)))
