-- `worst_run::window::Window::new` meets its contract. Assumes nothing.
use Rattle.std.proofs.Common.{◌∷◌, List, ap, sym, ◌∙◌, append-nil, replicate, arith}
use Rattle.std.proofs.lemmas.List.Folds.{sum_by-replicate}
use Rattle.worst_run.specs.Worst.{blank}
use Rattle.worst_run.specs.Window.{kept_ring, latest_offset}
use Rattle.worst_run.specs.declared.window.Kept.{Kept}
use Rattle.worst_run.proofs.Bytes.{from_blanks, latest_offset_blank}
use Rattle.worst_run.proofs.Windows.{count, one}
use Rattle.worst_run.proofs.window.Window.new.Goals as goal

pub invariant_of-result : goal.invariant_of-result
invariant_of-result c =
    let blanks = ap (kept_ring 0) (append-nil (replicate 256 1)) ∙ ap (λ (ks : List Kept). blank ∷ ks) (from_blanks 255) in
    (omega arith, sym (ap count blanks ∙ sum_by-replicate one 256 blank), sym (ap latest_offset blanks ∙ latest_offset_blank 256))

pub returns : goal.returns
returns c = ap (kept_ring 0) (append-nil (replicate 256 1)) ∙ ap (λ (ks : List Kept). blank ∷ ks) (from_blanks 255)
