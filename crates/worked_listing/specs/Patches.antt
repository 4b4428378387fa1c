-- Patches of images, as document 02 (vi) and (vii) have them. Assumes nothing.
use Rattle.std.specs.Prelude.{ℕ, List, [], ◌∷◌, ◌++◌, Result, Ok, Err, ⊤}
use Rattle.refusal.specs.declared.Refusal.{Refusal}
use Rattle.refusal.specs.declared.Refusal.TheVariants.{NoWord, WrongPlace, NoFlags}
use Prim.Native.String.{String}
use Rattle.text.specs.Text.{text}
use Rattle.steps.specs.Steps.{Step, steps}
use Rattle.patch.specs.Patch.{patched}
use Rattle.worked_listing.specs.Listings.{half, prints, refuses, stretch, word}

-- an image with the list of its stretches and its base, an offset and a line; what the patch answers, the image then, and its steps from the offset on
pub record Row : Type 0 where
  pub image : List ℕ
  pub list : List ℕ
  pub base : ℕ
  pub offset : ℕ
  pub line : List ℕ
  pub answer : Result ⊤ Refusal
  pub after : List ℕ
  pub shows : List Step

-- the row of what a patch gives, by an answer for image, list, base, offset and line
abbrev pub row_of : Row → Result ⊤ Refusal × List ℕ → Row
row_of r a =
    record {
      image = r.image;
      list = r.list;
      base = r.base;
      offset = r.offset;
      line = r.line;
      answer = a.0;
      after = a.1;
      shows = steps a.1 r.list r.base r.offset;
    }

abbrev pub given_row : Row → Row
given_row r = row_of r (patched r.image r.list r.base r.offset r.line)

abbrev patch : List ℕ → List ℕ → ℕ → ℕ → String → List ℕ → List Step → Row
patch image list base offset s after shows = record { image = image; list = list; base = base; offset = offset; line = text s; answer = Ok tt; after = after; shows = shows }

abbrev refuse : Refusal → List ℕ → List ℕ → ℕ → ℕ → String → List Step → Row
refuse r image list base offset s shows = record { image = image; list = list; base = base; offset = offset; line = text s; answer = Err r; after = image; shows = shows }

abbrev two : List ℕ
two = word 0xEAFFFFFE ++ word 0xEAFFFFFE

abbrev lr : List ℕ
lr = half 0x4770 ++ half 0x4770

abbrev pub table : List Row
table =
    -- a word, and one whose line shows an address: base + offset
    patch two [] 0x100 4 "add\tr1, r2, r3" (word 0xEAFFFFFE ++ word 0xE0821003) (prints 4 4 "add\tr1, r2, r3" ∷ [])
    ∷ patch lr (stretch 0 4) 0x100 2 "b\t0x00000102" (half 0x4770 ++ half 0xE7FE) (prints 2 2 "b\t0x00000102" ∷ [])
    -- the lowest word of its line: B100, 06000010, and F000 for the line of F800
    ∷ patch lr (stretch 0 4) 0 2 "<Undefined>" (half 0x4770 ++ half 0xB100) (prints 2 2 "<Undefined>" ∷ [])
    ∷ patch two [] 0 4 "<Undefined>" (word 0xEAFFFFFE ++ word 0x06000010) (prints 4 4 "<Undefined>" ∷ [])
    ∷ patch (half 0xF000 ++ half 0x4770) (stretch 0 4) 0 2 "bl\t#0x00000000" (half 0xF000 ++ half 0xF000) (prints 2 2 "bl\t#0x00000000" ∷ [])
    -- the line of a test reads as the word with S; the word behind, without S, is as it was
    ∷ patch (word 0xE1000000 ++ word 0xE1000000) [] 0 0 "tst\tr0, r0" (word 0xE1100000 ++ word 0xE1000000) (prints 0 4 "tst\tr0, r0" ∷ refuses 4 4 NoFlags ∷ [])
    ∷ patch two [] 0 4 "cmn\tr0, #0\t; 0x0" (word 0xEAFFFFFE ++ word 0xE3700000) (prints 4 4 "cmn\tr0, #0\t; 0x0" ∷ [])
    -- a pair is made with the neighbour, broken, and refused where a halfword is due
    ∷ patch (half 0x4770 ++ half 0xF800) (stretch 0 4) 0 0 "bl\t#0x00000000" (half 0xF000 ++ half 0xF800) (prints 0 4 "bl\t0x00000004" ∷ [])
    ∷ patch (half 0xF000 ++ half 0xF800) (stretch 0 4) 0 0 "bx\tlr" (half 0x4770 ++ half 0xF800) (prints 0 2 "bx\tlr" ∷ prints 2 2 "bl\t#0x00000000" ∷ [])
    ∷ refuse NoWord lr (stretch 0 4) 0 0 "bl\t0x00000004" (prints 0 2 "bx\tlr" ∷ prints 2 2 "bx\tlr" ∷ [])
    -- a place at a stretch's end belongs to what follows
    ∷ patch (lr ++ word 0xEAFFFFFE) (stretch 0 4) 0 4 "add\tr1, r2, r3" (lr ++ word 0xE0821003) (prints 4 4 "add\tr1, r2, r3" ∷ [])
    -- 8 at the end, and 4 for lines that no halfword prints
    ∷ refuse WrongPlace lr (stretch 0 4) 0 4 "bx\tlr" []
    ∷ refuse NoWord lr (stretch 0 4) 0 2 "bx" (prints 2 2 "bx\tlr" ∷ [])
    ∷ refuse NoWord lr (stretch 0 4) 0 2 "" (prints 2 2 "bx\tlr" ∷ [])
    ∷ []
