-- Texts as bytes. Assumes nothing.
use Rattle.std.specs.Prelude.{List, [], ◌∷◌, ℕ}
use Prim.Native.Char.{code}
use Prim.Native.String.{String, [] as empty, ◌∷◌ as ◌then◌}

-- the bytes of an ASCII text
abbrev pub text : String → List ℕ
text empty = []
text (c then s) = code c ∷ text s
