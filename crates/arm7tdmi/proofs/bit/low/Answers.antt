-- `arm7tdmi::bit::low` meets its contract. Assumes nothing.
use Rattle.std.proofs.Common.{◌≡◌, ℕ, ◌^◌, ◌%◌, ◌<◌, Option, Some, None, SomeIff, unwrap_or, ltb, ltb-true, sym, ◌∙◌, mod-eq_of_lt, arith, pow_pos, pow_mono}
use borrow.Author.Tests.{ltb-false}
use Rattle.arm7tdmi.proofs.Integers.{pow_out, pow_whole}
use Rattle.common.proofs.Tests.{by_test}
use Rattle.arm7tdmi.proofs.bit.low.Goals as goal

-- within the word's bits the power has room; past them nothing is cut off
rest : (raw n : ℕ) (o : Option ℕ) → raw < 2 ^ 32 → SomeIff o (0 < 2 ^ n % 2 ^ 32) (raw % (2 ^ n % 2 ^ 32)) → unwrap_or o raw ≡ raw % 2 ^ n
rest raw n (Some x) l h =
    by_test (ltb n 32)
    (λ e. h.1 ∙ rw (pow_whole n (ltb-true n 32 e)))
    (λ e. let z = pow_out n (ltb-false n 32 e) in let p = h.0 in absurd (omega arith))
rest raw n None l h =
    by_test (ltb n 32)
    (λ e. let z = pow_whole n (ltb-true n 32 e) in let p = pow_pos n in absurd (h (omega arith)))
    (λ e. let g = ltb-false n 32 e in let p = pow_mono {i = 32} {j = n} (omega arith) in sym (mod-eq_of_lt (omega arith)))

pub returns : goal.returns
returns c = c.unwrap_or.ensures ∙ rest c.args.raw c.args.n _ (omega arith) (rw c.pow2.ensures at c.checked_rem.ensures)
