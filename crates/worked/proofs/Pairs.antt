-- The lines, reads and runs of call pairs are what the definitions give. Assumes nothing.
use Prim.Native.Nat.{◌^◌}
use mathlib.Core.Bool.{cond}
use mathlib.Core.List.{map}
use mathlib.Core.Path.{◌≡◌, ◌∙◌, refl}
use Rattle.arm7tdmi.specs.Signed.{extended}
use Rattle.common.specs.Lists.{first, same}
use Rattle.common.specs.Lowest.{lowest}
use Rattle.lines.specs.Address.{address}
use Rattle.lines.specs.Answer.{printed}
use Rattle.pairs.proofs.Reading.{candidate, read_candidate, shown}
use Rattle.pairs.specs.Print.{pair_line, pair_text}
use Rattle.pairs.specs.Candidate.{first_for, second_for}
use Rattle.pairs.specs.Read.{answer_of, pair_answer}
use Rattle.pairs.specs.Run.{first_unpaired, lacks, unpaired}
use Rattle.text.specs.Digits.{digit_value, digits, hex, prefixed, value_from}
use Rattle.thumb.specs.Pair.{is_first_half, is_pair, is_second_half, pair_target}
use Rattle.worked.proofs.Rows.{rows_alike}
use Rattle.worked.specs.Pairs.{Input, Output, gives, given_row, halves, pair, pair_into, pair_read, run, table}

-- what they give, with the reader's law in place of the search
abbrev by_law : Input → Output
by_law (pair a b p) = gives (pair a b p)
by_law (pair_into a b p l) = gives (pair_into a b p l)
by_law (pair_read l p) = halves (answer_of (cond (same (pair_text p (first_for (shown p l)) (second_for (shown p l))) l) (candidate p l) (2 ^ 32)))
by_law (run hs) = gives (run hs)

law : (i : Input) → gives i ≡ by_law i
unfolding pair_answer
law (pair a b p) = refl
law (pair_into a b p l) = refl
law (pair_read l p) = rw (read_candidate p l)
law (run hs) = refl

computed : map (given_row by_law) table ≡ table
unfolding printed pair_line pair_text is_pair is_first_half is_second_half pair_target extended address prefixed hex digits value_from digit_value first same unpaired first_unpaired lowest lacks
computed = refl

pub worked_pairs : map (given_row gives) table ≡ table
worked_pairs = rows_alike (given_row gives) (given_row by_law) (λ r. rw (law r.input)) table ∙ computed
