-- The worst runs of the table are what the definitions give. Assumes nothing.
use Rattle.std.proofs.Common.{◌≡◌, map, refl}
use Rattle.common.specs.Lists.{same}
use Rattle.arm.specs.Kinds.{arm_rows}
use Rattle.arm_disass.specs.Line as ALine
use Rattle.arm_print.specs.Print as APrint
use Rattle.thumb.specs.Fields as Thumb
use Rattle.thumb.specs.Kinds.{thumb_rows}
use Rattle.thumb.specs.Pair.{is_first_half, is_pair, is_second_half}
use Rattle.thumb_disass.specs.Line as TLine
use Rattle.thumb_print.specs.Print as TPrint
use Rattle.pairs.specs.Print.{pair_line, pair_text}
use Rattle.image.specs.Bytes.{half, word}
use Rattle.image.specs.Refusal.{refusal, wrong_pairs}
use Rattle.image.specs.Stretches.{pairs, pairs_from, set_at}
use Rattle.steps.specs.Steps.{call_pair, span_in, span_line, steps, steps_for}
use Rattle.lines.specs.Pieces.{either, if_set}
use Rattle.worst_run.specs.Worst.{runs, worst_run}
use Rattle.worked_listing.specs.WorstRuns.{given_row, table}

pub worked_worst_runs : map given_row table ≡ table
unfolding same half word refusal wrong_pairs pairs pairs_from set_at is_first_half is_pair is_second_half call_pair span_in span_line steps steps_for arm_rows ALine.line_of ALine.fmt_branch APrint.refusal_of APrint.answer_of APrint.arm_line thumb_rows TLine.line_of TLine.fmt_thumb_high_reg_op_or_bx TLine.fmt_thumb_branch_long_with_link TLine.op5_text Thumb.op_format5 TPrint.thumb_line pair_line pair_text runs worst_run either if_set ALine.fmt_ldr_str
worked_worst_runs = refl
