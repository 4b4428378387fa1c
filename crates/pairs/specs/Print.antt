-- Print of a call pair: a sheet line. Assumes nothing.
use Rattle.std.specs.Prelude.{ℕ, cond, List, ◌++◌}
use Rattle.text.specs.Text.{text}
use Rattle.arm7tdmi.specs.declared.Form.TheVariants.{Sheet}
use Rattle.thumb.specs.Pair.{is_pair, pair_target}
use Rattle.refusal.specs.declared.Refusal.TheVariants.{NoPair}
use Rattle.lines.specs.Address.{address}
use Rattle.lines.specs.Answer.{Answer, refused, line}

-- "A new sheet print gives, for a pair at address p, `bl\t` and" the target, "spelled as in (i)"
unfoldable pub pair_text : ℕ → ℕ → ℕ → List ℕ
pair_text p first second = text "bl\t" ++ address Sheet (pair_target p first second)

-- "Refusal 5 when printing a pair: the halfwords are not a first and then a second half; it comes before 3"
unfoldable pub pair_line : ℕ → ℕ → ℕ → Answer
pair_line p first second = cond (is_pair first second) (line (pair_text p first second)) (refused NoPair)
