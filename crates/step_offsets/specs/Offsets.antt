-- The offsets of the steps that cover many addresses of an image. Assumes nothing.
use Rattle.std.specs.Prelude.{ℕ, ◌-◌, ◌+◌, ◌^◌, Bool, false, ◌||◌, cond, List, [], ◌∷◌, ◌++◌, length, map, replicate, find, nat_lt, option_map, unwrap_or, Result, Ok, Err, ⊤}
use Rattle.refusal.specs.Refusal.{number}
use Rattle.refusal.specs.declared.Refusal.{Refusal}
use Rattle.refusal.specs.declared.Refusal.TheVariants.{TooManyAddresses, UnsortedAddresses}
use Rattle.arm7tdmi.specs.Signed.{moved}
use Rattle.image.specs.Refusal.{refusal}
use Rattle.steps.specs.Steps.{Step, covers, steps}

-- ---- one address by itself
-- the place of an address: how far it lies behind the base, modulo 2 ^ 32
abbrev pub place_of : ℕ → ℕ → ℕ
place_of base address = moved address (2 ^ 32 - base)

-- what stands for no offset
abbrev pub no_offset : ℕ
no_offset = 0xffffffff

-- the offset of the first of some steps that covers a place
abbrev pub offset_in : List Step → ℕ → ℕ
offset_in ss k = unwrap_or (option_map (λ s. s.offset) (find (covers k) ss)) no_offset

-- so in the listing of an image from its start: the offset of the step that an address lies in, looked for by itself
abbrev pub step_offset : List ℕ → List ℕ → ℕ → ℕ → ℕ
step_offset image list base address = offset_in (steps image list base 0) (place_of base address)

-- ---- many addresses
-- 64 numbers: one for each address, and behind them none
abbrev pub offsets : List ℕ → List ℕ → ℕ → List ℕ → List ℕ
offsets image list base addresses = map (step_offset image list base) addresses ++ replicate (64 - length addresses) no_offset

-- whether some place is below the one before it, the first of them below a number that stands before it
unfoldable pub falls : ℕ → List ℕ → Bool
falls before [] = false
falls before (k ∷ ks) = nat_lt k before || falls k ks

-- a refusal that comes first, or what is answered behind it
abbrev pub offsets_unless : Result ⊤ Refusal → Result (List ℕ) Refusal → Result (List ℕ) Refusal
offsets_unless (Ok done) answer = answer
offsets_unless (Err r) answer = Err r

-- 6 or 7 of image and stretches; 10 for more than 64 addresses; 11 where places fall; or the 64 numbers
unfoldable pub step_offsets : List ℕ → List ℕ → ℕ → List ℕ → Result (List ℕ) Refusal
step_offsets image list base addresses =
    offsets_unless (refusal image list)
    (cond (nat_lt 64 (length addresses)) (Err TooManyAddresses)
    (cond (falls 0 (map (place_of base) addresses)) (Err UnsortedAddresses)
    (Ok (offsets image list base addresses))))

-- an answer as a number and 64 values: 0 and the offsets, or the refusal's number and no offset at all
abbrev pub offsets_numbers : Result (List ℕ) Refusal → ℕ × List ℕ
offsets_numbers (Ok values) = (0, values)
offsets_numbers (Err r) = (number r, replicate 64 no_offset)

-- ---- for the contracts of inner functions
-- the steps from the first on that ends past a place
unfoldable pub steps_past : ℕ → List Step → List Step
steps_past k [] = []
steps_past k (s ∷ ss) = cond (nat_lt k (s.offset + s.bytes)) (s ∷ ss) (steps_past k ss)
