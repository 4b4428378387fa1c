-- A line where its word stands elsewhere: the same, with its address raised. Assumes nothing.
use Rattle.std.specs.Prelude.{ℕ, ◌-◌, List, ◌++◌, length, take, Option, Some, None}
use Rattle.arm7tdmi.specs.Signed.{moved}
use Rattle.arm7tdmi.specs.declared.Form.TheVariants.{Sheet}
use Rattle.lines.specs.Address.{address}
use Rattle.lines.specs.Answer.{Answer, refused, line}

-- an address raised by d, modulo 2 ^ 32
abbrev pub raised : ℕ → Option ℕ → Option ℕ
raised d None = None
raised d (Some n) = Some (moved n d)

-- a line with n in place of the address that it shows, which is its last ten bytes; all other bytes stay
unfoldable pub with_address : Option ℕ → List ℕ → List ℕ
with_address None bs = bs
with_address (Some n) bs = take (length bs - 10) bs ++ address Sheet n

-- the same of what a print answers: a refusal stays
unfoldable pub showing : Option ℕ → Answer → Answer
showing n (refused r) = refused r
showing n (line bs) = line (with_address n bs)
