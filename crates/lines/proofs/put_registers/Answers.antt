-- `lines::put_registers` meets its contract. Assumes nothing.
use Rattle.std.proofs.Common.{◌≡◌, ◌+◌, ◌<◌, ◌≤◌, ◌^◌, ℕ, arith, sym, rules}
use Rattle.common.specs.Bits.{bit_range}
use Rattle.std.proofs.lemmas.Nat.Bits.{bit_at-trailing_zeros}
use Rattle.std.specs.Int.{trailing_zeros, w32}
use Rattle.lines.proofs.Registers.{clear_below, registers_left, registers_next, registers_pass}
use Rattle.lines.specs.Pieces.{registers, set_bits}
use Rattle.text.proofs.Puts.{puts_append, puts_nil, wrote_of}
use Rattle.text.proofs.Wrote.{behind}
use Rattle.text.specs.Wrote.{Behind}
use Rattle.lines.proofs.put_registers.Goals as goal

-- the register that is looked at next is below n, and those that are passed by are not in the list
passed : (raw n i rest : ℕ) → i ≤ n → rest ≡ bit_range raw i n → (rest ≡ 0 → ⊥) → rest < 2 ^ 32
    → let k = i + trailing_zeros w32 rest in (k < n) × (registers raw k ≡ registers raw i)
passed raw n i rest h b some fits =
    let z = bit_at-trailing_zeros w32 rest (omega (some, arith)) fits in
    registers_pass raw i n rest h b (trailing_zeros w32 rest) some (clear_below rest _ z.2)

-- so the position stands directly behind the registers below it when `put_listed` is called
pub before_listed : (c : goal.In-loop-rest) → let a = c.args in
    Behind a.out.now.bytes.now a.out.now.at (registers a.raw (c.loop-rest.i + trailing_zeros w32 c.loop-rest.rest)) c.loop-rest.out.bytes.now c.loop-rest.out.at
before_listed c = rw (passed c.args.raw c.args.n c.loop-rest.i c.loop-rest.rest c.loop-rest.invariant.0 c.loop-rest.invariant.1 c.loop-rest-test.true (search rules)).1 (behind (wrote_of _ _ _ c.loop-rest.invariant.2))

pub loop-rest-init : goal.loop-rest-init
unfolding registers set_bits
loop-rest-init c = (omega arith, c.bit_range-rest.ensures, sym (puts_nil c.args.out.now))

pub overflow_add-k : goal.overflow_add-k
overflow_add-k c = let g = (passed c.args.raw c.args.n c.loop-rest.i c.loop-rest.rest c.loop-rest.invariant.0 c.loop-rest.invariant.1 c.loop-rest-test.true (search rules)).0 in record { fits = omega (arith, c.ranges.n) }

pub overflow_add-i : goal.overflow_add-i
overflow_add-i c = let g = (passed c.args.raw c.args.n c.loop-rest.i c.loop-rest.rest c.loop-rest.invariant.0 c.loop-rest.invariant.1 c.loop-rest-test.true (search rules)).0 in record { fits = omega (arith, c.ranges.n) }

pub loop-rest-smaller : goal.loop-rest-smaller
loop-rest-smaller c = let g = (passed c.args.raw c.args.n c.loop-rest.i c.loop-rest.rest c.loop-rest.invariant.0 c.loop-rest.invariant.1 c.loop-rest-test.true (search rules)).0 in omega arith

pub loop-rest-preserved : goal.loop-rest-preserved
loop-rest-preserved c =
    let raw = c.args.raw in
    let g = passed c.args.raw c.args.n c.loop-rest.i c.loop-rest.rest c.loop-rest.invariant.0 c.loop-rest.invariant.1 c.loop-rest-test.true (search rules) in
    (omega (arith, g.0), c.bit_range-rest-in-loop-rest.ensures, rw (registers_next raw (c.loop-rest.i + trailing_zeros w32 c.loop-rest.rest), g.1, puts_append, ← c.loop-rest.invariant.2) c.put_listed.ensures)

pub returns : goal.returns
returns c =
    let v = c.loop-rest.invariant in
    rw (registers_left c.args.raw c.loop-rest.i c.args.n c.loop-rest.rest v.0 v.1 c.loop-rest-test.false) v.2
