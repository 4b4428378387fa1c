-- A turn of the walk: from the step for one address to that for the next. Assumes nothing.
use Rattle.std.proofs.Common.{◌≡◌, ℕ, ◌+◌, ◌<◌, ◌≤◌, false, List, ◌∷◌, length, map, get_or, slice_get, find, Option, Some, None, add-one, sym, ◌∙◌}
use Rattle.std.proofs.lemmas.List.{get_or-map, length-map}
use Rattle.steps.specs.Steps.{Step, Follow, covers, steps}
use Rattle.step_offsets.specs.Offsets.{steps_past, falls, place_of, step_offset}
use Rattle.step_offsets.proofs.Order.{rising}
use Rattle.step_offsets.proofs.Places.{found_offset, found_on, past_again}

-- address i, whose place is p: the steps that were left to the walk and those that are, and the step that it came to
pub record Turn (image list : List ℕ) (base : ℕ) (addresses : List ℕ) (i p : ℕ) (was now : List Step) (r : Option Step) : Type 0 where
  pub follow : Follow 0 (steps image list base 0) (length image)
  pub sorted : falls 0 (map (place_of base) addresses) ≡ false
  pub within : i < length addresses
  pub place_is : p ≡ place_of base (get_or addresses i 0)
  pub walked : was ≡ steps_past (get_or (0 ∷ map (place_of base) addresses) i 0) (steps image list base 0)
  pub found : r ≡ slice_get (steps_past p was) 0
  pub left : now ≡ steps_past p was

module _ {image list : List ℕ} {base : ℕ} {addresses : List ℕ} {i p : ℕ} {was now : List Step} {r : Option Step} (t : Turn image list base addresses i p was now r) where
  abbrev all : List Step
  all = steps image list base 0

  abbrev places : List ℕ
  places = map (place_of base) addresses

  here : get_or places i 0 ≡ p
  here = get_or-map (place_of base) addresses i 0 0 t.within ∙ sym t.place_is

  -- it is no lower than the place before
  rise : get_or (0 ∷ places) i 0 ≤ p
  rise = rw here at (rising places 0 i 0 t.sorted (rw length-map t.within))

  pub walked_on : now ≡ steps_past (get_or (0 ∷ places) (i + 1) 0) all
  walked_on = rw (add-one, here, t.left, t.walked) (past_again (get_or (0 ∷ places) i 0) p all rise)

  -- the walk comes to the step that a search finds
  comes : r ≡ find (covers p) all
  comes = rw t.walked at t.found ∙ found_on (length image) all t.follow (get_or (0 ∷ places) i 0) p rise

  pub found_within : (s : Step) → r ≡ Some s → s.offset ≤ p
  found_within s e = (found_offset p s all (sym e ∙ comes)).1

  pub found_number : (s : Step) → r ≡ Some s → s.offset ≡ step_offset image list base (get_or addresses i 0)
  found_number s e = rw t.place_is at ((found_offset p s all (sym e ∙ comes)).0)

  pub no_number : r ≡ None → ◌≡◌ {A = ℕ} 0xffffffff (step_offset image list base (get_or addresses i 0))
  no_number e = let n : None ≡ find (covers (place_of base (get_or addresses i 0))) all = rw t.place_is at (sym e ∙ comes) in rw (← n)
