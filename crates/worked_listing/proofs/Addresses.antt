-- The addresses of the table are answered as the definitions say. Assumes nothing.
use Rattle.std.proofs.Common.{◌≡◌, map, refl}
use Rattle.thumb.specs.Pair.{is_first_half, is_pair, is_second_half}
use Rattle.image.specs.Bytes.{half, word}
use Rattle.image.specs.Refusal.{refusal, wrong_pairs}
use Rattle.image.specs.Stretches.{pairs, pairs_from, set_at}
use Rattle.steps.specs.Steps.{call_pair, span_in, steps, steps_for}
use Rattle.step_offsets.specs.Offsets.{falls, step_offsets}
use Rattle.worked_listing.specs.Addresses.{given_row, table}

pub worked_addresses : map given_row table ≡ table
unfolding half word refusal wrong_pairs pairs pairs_from set_at is_first_half is_pair is_second_half call_pair span_in steps steps_for falls step_offsets
worked_addresses = refl
