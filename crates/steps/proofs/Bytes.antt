-- The bytes of a call pair. Assumes nothing.
use Rattle.std.proofs.Common.{◌≡◌, ℕ, ◌+◌, ◌≤◌, true, leb, List, leb-true}
use Rattle.common.proofs.Tests.{and_left}
use Rattle.thumb.specs.Pair.{is_pair}
use Rattle.image.specs.Bytes.{half}
use Rattle.steps.specs.Steps.{call_pair}

-- a call pair ends with its stretch, or before
pub pair_inside : (image : List ℕ) (e at : ℕ) → call_pair image e at ≡ true → at + 4 ≤ e
unfolding call_pair
pair_inside image e at t = leb-true (at + 4) e (and_left (leb (at + 4) e) (is_pair (half image at) (half image (at + 2))) t)
