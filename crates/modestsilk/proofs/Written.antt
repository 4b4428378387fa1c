-- Laws of values that are written to the start of a lent list, one by one. Assumes nothing.
use Rattle.std.proofs.Common.{◌≡◌, ℕ, ◌+◌, ◌<◌, ◌≤◌, List, [], ◌∷◌, ◌++◌, append_assoc, arith, drop, get_or, length, set, take}
use Rattle.std.proofs.Math.ListN.{drop_of_length-le}
use Rattle.std.proofs.Math.Seq.{set-append_seam}
use Rattle.std.proofs.lemmas.List.{drop_more, length-take-le, take-append-le, take_all}
use Rattle.text.proofs.Wrote.{take_more}
use Rattle.modestsilk.specs.Numbers.{written}

module _ (v l : List ℕ) (i : ℕ) (h : i < length v) where
  so_many : length (take i v) ≡ i
  so_many = length-take-le i v (omega arith)

  one_more : length (take (i + 1) v) ≡ i + 1
  one_more = length-take-le (i + 1) v (omega arith)

  -- the next one, where there is room for it
  pub next_written : i < length l → set (written (take i v) l) i (get_or v i 0) ≡ written (take (i + 1) v) l
  next_written g =
      let x = get_or v i 0 in
      let a : take (length l) (take i v) ≡ take i v = take_all (length l) (take i v) (omega (so_many, g, arith)) in
      let b : take (length l) (take (i + 1) v) ≡ take (i + 1) v = take_all (length l) (take (i + 1) v) (omega (one_more, g, arith)) in
      let s : set (take i v ++ (get_or l i 0 ∷ drop (i + 1) l)) i x ≡ take i v ++ (x ∷ drop (i + 1) l) =
      rw so_many at (set-append_seam (take i v) (get_or l i 0) (drop (i + 1) l) x) in
      rw (a, so_many, drop_more l i 0 g, b, one_more, take_more v i h, append_assoc (take i v) (x ∷ []) (drop (i + 1) l)) s

  -- and where there is none
  pub none_written : length l ≤ i → written (take i v) l ≡ written (take (i + 1) v) l
  none_written g =
      let x = get_or v i 0 in
      let a : drop i l ≡ [] = drop_of_length-le l g in
      let b : drop (i + 1) l ≡ [] = drop_of_length-le l (omega (g, arith)) in
      let s : take (length l) (take (i + 1) v) ≡ take (length l) (take i v) =
      rw (take_more v i h) (take-append-le (length l) (take i v) (x ∷ []) (omega (so_many, g, arith))) in
      rw (so_many, one_more, a, b, s)
