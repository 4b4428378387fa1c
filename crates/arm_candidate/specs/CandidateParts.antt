-- What a candidate is made from: the reader's plan; nothing of the promise rests on it. Assumes nothing.
use Rattle.std.specs.Prelude.{◌≡◌, ℕ, List}
use Rattle.arm7tdmi.specs.declared.Form.{Form}
use Rattle.text.specs.Word.{after}

-- a family's candidate: from the form, the address, the bits and the condition of the line's head, and the line
abbrev pub Candidate : Type 0
Candidate = Form → ℕ → ℕ → ℕ → List ℕ → ℕ

-- the line from its words 1 and 2 on
abbrev pub Taken : List ℕ → List ℕ → List ℕ → Type 0
Taken l one two = (one ≡ after l) × (two ≡ after (after l))
