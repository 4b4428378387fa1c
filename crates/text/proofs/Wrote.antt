-- Laws of writing: one write after the other, what is kept, and where the bytes stand. Assumes nothing.
use mathlib.Core.Path.{◌≡◌, refl, ap, sym, ◌∙◌}
use mathlib.Core.List.{List, [], ◌∷◌, ◌++◌, append-nil}
use Prim.Native.Nat.{ℕ, suc, ◌+◌, ◌-◌, ◌≤◌, ◌<◌}
use native.Mathlib.Nat.{add-zero, zero-add, add-suc, suc-add}
use native.Mathlib.Numerals.{add-one}
use native.Mathlib.Omega.{arith}
use borrow.Author.Tests.{ltb-true, ltb-false}
use lib.Dec.{ltb}
use lib.ListN.{length, set, take, drop, get_or, length-set, length-take, take-append-drop}
use lib.Seq.{append_snoc, drop-length, drop-set-lt, length-take-le, take_all, take-append_seam, take-nil, take-suc, take-suc-set}
use Rattle.common.proofs.Tests.{by_test}
use Rattle.text.specs.Wrote.{Behind, Place, Wrote, fitting, store, stores}

infixl 60 ◌⨾◌
pub stores_append : (p : Place) (x y : List ℕ) → stores (stores p x) y ≡ stores p (x ++ y)
stores_append p [] y = refl
stores_append p (b ∷ x) y = stores_append (store p b) x y

-- two writes, the second where the first ended, are one
pub ◌⨾◌ : {l : List ℕ} {at : ℕ} {x l₁ : List ℕ} {r₁ : ℕ} {y l₂ : List ℕ} {r₂ : ℕ} → Wrote l at x l₁ r₁ → Wrote l₁ r₁ y l₂ r₂ → Wrote l at (x ++ y) l₂ r₂
◌⨾◌ {l} {at} {x} {l₁} {r₁} {y} p q =
    record { after = q.after ∙ ap (λ (z : Place). stores z y) p.after ∙ stores_append (record { held = l; next = at }) x y }

-- and one write of two texts is two, the second where the first ended
pub cut : {l : List ℕ} {at : ℕ} (x y : List ℕ) {l' : List ℕ} {r : ℕ} → Wrote l at (x ++ y) l' r → (p : Place) × Wrote l at x p.held p.next × Wrote p.held p.next y l' r
cut {l} {at} x y w =
    let p : Place = record { held = l; next = at } in
    (stores p x, record { after = refl }, record { after = w.after ∙ sym (stores_append p x y) })

-- the same bytes said otherwise
pub same_as : {l : List ℕ} {at : ℕ} {x y l' : List ℕ} {r : ℕ} → Wrote l at x l' r → x ≡ y → Wrote l at y l' r
same_as p e = record { after = rw (← e) p.after }

length_store : (p : Place) (b : ℕ) → length (store p b).held ≡ length p.held
length_store p b = by_test (ltb p.next (length p.held)) (λ e. rw e (length-set p.held p.next b)) (λ e. rw e)

length_stores : (p : Place) (bs : List ℕ) → length (stores p bs).held ≡ length p.held
length_stores p [] = refl
length_stores p (b ∷ bs) = length_stores (store p b) bs ∙ length_store p b

-- what was written to is as long as before
pub kept : {l : List ℕ} {at : ℕ} {bs l' : List ℕ} {r : ℕ} → Wrote l at bs l' r → length l' ≡ length l
kept {l} {at} {bs} w = ap (λ (z : Place). length z.held) w.after ∙ length_stores (record { held = l; next = at }) bs

-- a text's first j bytes and one more, for a loop over it
pub take_more : (s : List ℕ) (j : ℕ) → j < length s → take (j + 1) s ≡ take j s ++ (get_or s j 0 ∷ [])
take_more s j h = rw (add-one, take-suc s j 0)

-- ---- where the bytes stand
-- the buffer and the place that `Behind` says
abbrev stand : List ℕ → ℕ → List ℕ → Place
stand l at bs = record { held = take at l ++ fitting l at bs ++ drop (at + length (fitting l at bs)) l; next = at + length (fitting l at bs) }

stores_stand : (l : List ℕ) (at : ℕ) (bs : List ℕ) → stores (record { held = l; next = at }) bs ≡ stand l at bs
stores_stand l at [] = rw (take-nil, add-zero, append-nil, take-append-drop)
stores_stand l at (b ∷ bs) =
    by_test (ltb at (length l))
    (λ e. let h : at < length l = ltb-true at (length l) e in
    let k : length l - at ≡ suc (length l - suc at) = omega arith in
    let n = length (take (length l - suc at) bs) in
    let d : drop (suc at + n) (set l at b) ≡ drop (suc at + n) l = drop-set-lt (suc at + n) l at b (omega arith) in
    rw (e, add-one, stores_stand (set l at b) (suc at) bs, length-set, k, take-suc-set l at b h, append_snoc, d, add-suc, ← suc-add))
    (λ e. let h : length l ≤ at = ltb-false at (length l) e in
    let k : length l - at ≡ 0 = omega arith in
    rw (e, stores_stand l at bs, k))

-- what was written stands as `Behind` says, and what stands so was written
pub behind : {l : List ℕ} {at : ℕ} {bs l' : List ℕ} {r : ℕ} → Wrote l at bs l' r → Behind l at bs l' r
behind {l} {at} {bs} w =
    let e = w.after ∙ stores_stand l at bs in
    let p = ap (λ (z : Place). z.next) e in
    record { place = p; bytes = rw p (ap (λ (z : Place). z.held) e) }

pub wrote : {l : List ℕ} {at : ℕ} {bs l' : List ℕ} {r : ℕ} → Behind l at bs l' r → Wrote l at bs l' r
wrote {l} {at} {bs} b = record { after = rw (b.bytes, b.place, stores_stand l at bs) }

all_fit : (l : List ℕ) (at : ℕ) (bs : List ℕ) → at + length bs ≤ length l → fitting l at bs ≡ bs
all_fit l at bs h = take_all (length l - at) bs (omega arith)

-- with room for all of the bytes, the place is the start plus their number, and they stand there
pub with_room : {l : List ℕ} {at : ℕ} {bs l' : List ℕ} {r : ℕ} → Behind l at bs l' r → at + length bs ≤ length l → (r ≡ at + length bs) × (l' ≡ take at l ++ bs ++ drop r l)
with_room {l} {at} {bs} b h = let f = all_fit l at bs h in (rw f at b.place, rw f at b.bytes)

-- where the buffer ends before them or with the last of them, place and bytes stop there together
pub at_the_end : {l : List ℕ} {at : ℕ} {bs l' : List ℕ} {r : ℕ} → Behind l at bs l' r → at ≤ length l → length l ≤ at + length bs → (r ≡ length l) × (l' ≡ take at l ++ fitting l at bs)
at_the_end {l} {at} {bs} b h k =
    let n : length (fitting l at bs) ≡ length l - at = length-take-le (length l - at) bs (omega arith) in
    let p : _ ≡ length l = b.place ∙ rw n (omega arith) in
    (p, b.bytes ∙ rw (p, drop-length, append-nil))

-- bytes that stand in a buffer are written
pub placed : (l : List ℕ) (at : ℕ) (bs : List ℕ) → at + length bs ≤ length l → Wrote l at bs (take at l ++ bs ++ drop (at + length bs) l) (at + length bs)
placed l at bs h = let f = all_fit l at bs h in wrote (record { place = rw f; bytes = rw f })

-- what was written from the start, with room for it: the bytes, behind them what was there, and the answer is their number
pub lies : {l bs l' : List ℕ} {r : ℕ} → Wrote l 0 bs l' r → length bs ≤ length l → (l' ≡ bs ++ drop (length bs) l) × (r ≡ length bs)
lies {l} {bs} w h =
    let e = with_room (behind w) (omega arith) in
    let p = e.0 ∙ zero-add (length bs) in
    (rw p at e.1, p)

-- what stands before the place behind them: what stood before the bytes, and the bytes, as far as the buffer has room
clip : (p : Place) (bs : List ℕ) → take (stores p bs).next (stores p bs).held ≡ take (length p.held) (take p.next p.held ++ bs)
clip p [] =
    let n : length (take p.next p.held) ≤ length p.held = simp length-take (omega arith) in
    rw (append-nil, take_all (length p.held) (take p.next p.held) n)
clip p (b ∷ bs) =
    let l = p.held in
    let i = p.next in
    let more = clip (store p b) bs in
    by_test (ltb i (length l))
    (λ e. let h : i < length l = ltb-true i (length l) e in
    more ∙ rw (e, length-set, add-one, take-suc-set l i b h, append_snoc))
    (λ e. let h : length l ≤ i = ltb-false i (length l) e in
    more ∙ rw (e, take_all i l h, take-append_seam l bs, take-append_seam l (b ∷ bs)))

pub clipped : {l : List ℕ} {at : ℕ} {bs l' : List ℕ} {r : ℕ} → Wrote l at bs l' r → take r l' ≡ take (length l) (take at l ++ bs)
clipped {l} {at} {bs} w = ap (λ (z : Place). take z.next z.held) w.after ∙ clip (record { held = l; next = at }) bs
