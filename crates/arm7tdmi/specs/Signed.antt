-- Signed fields, and addresses modulo 2 ^ 32. Assumes nothing.
use Rattle.std.specs.Prelude.{ℕ, ◌+◌, ◌-◌, ◌*◌, ◌%◌, ◌^◌, cond, ℤ, pos, neg_ℤ, nat_lt}

-- a field x of w bits, sign-extended, times k: as an integer
abbrev pub signed_times : ℕ → ℕ → ℕ → ℤ
signed_times w k x = cond (nat_lt x (2 ^ (w - 1))) (pos (x * k)) (neg_ℤ (pos ((2 ^ w - x) * k)))

-- and as a number of 32 bits
unfoldable pub extended : ℕ → ℕ → ℕ → ℕ
extended w k x = cond (nat_lt x (2 ^ (w - 1))) (x * k) (2 ^ 32 - (2 ^ w - x) * k)

-- an address so far from another, modulo 2 ^ 32
abbrev pub moved : ℕ → ℕ → ℕ
moved address by = (address + by) % 2 ^ 32
