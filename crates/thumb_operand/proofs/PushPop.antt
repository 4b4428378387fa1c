-- The list of push and pop: the registers, and behind them lr or pc. Assumes nothing.
use Rattle.std.proofs.Common.{◌≡◌, ℕ, ◌++◌, append-nil}
use Rattle.common.specs.Bits.{bit}
use Rattle.common.proofs.Tests.{by_test}
use Rattle.lines.specs.Pieces.{registers}
use Rattle.lines.proofs.Registers.{registers_then}
use Rattle.thumb_operand.specs.Operand.{link_name, link_text, push_pop_list}

pub push_pop_list_lem : (raw : ℕ) → registers raw 8 ++ link_text raw ≡ push_pop_list raw
unfolding registers link_text push_pop_list
push_pop_list_lem raw = by_test (bit raw 8) (λ t. rw (t, registers_then raw 8 (link_name raw))) (λ t. rw (t, append-nil, append-nil))
