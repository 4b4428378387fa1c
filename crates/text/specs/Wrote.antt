-- What it is to have written bytes into a buffer from a place on. Assumes nothing.
use Rattle.std.specs.Prelude.{◌≡◌, cond, List, [], ◌∷◌, ◌++◌, ℕ, ◌+◌, ◌-◌, ltb, length, set, take, drop}

-- a buffer, and the place of the next byte in it
pub record Place : Type 0 where
  pub held : List ℕ
  pub next : ℕ

-- a byte is stored, and the place moves on; where the buffer is full, nothing happens
abbrev pub store : Place → ℕ → Place
store p b =
    cond (ltb p.next (length p.held))
    (record { held = set p.held p.next b; next = p.next + 1 })
    p

-- some bytes are stored, one after the other
abbrev pub stores : Place → List ℕ → Place
stores p [] = p
stores p (b ∷ bs) = stores (store p b) bs

-- The bytes bs were stored from the place at of a buffer that held l: it then holds l', and r is the place behind them.
pub record Wrote (l : List ℕ) (at : ℕ) (bs l' : List ℕ) (r : ℕ) : Type 0 where
  pub after : ◌≡◌ {A = Place} (record { held = l'; next = r }) (stores (record { held = l; next = at }) bs)

-- those of the bytes bs that a buffer l has room for from the place at on
abbrev pub fitting : List ℕ → ℕ → List ℕ → List ℕ
fitting l at bs = take (length l - at) bs

-- The place r stands directly behind the last of the bytes bs, which were written from the place at on: the buffer held l and holds l'. The place is the start
-- plus the length of what stands there; before the start, and from the place on, stand the buffer's own bytes. Where the buffer ends, place and bytes stop
-- there together.
pub record Behind (l : List ℕ) (at : ℕ) (bs l' : List ℕ) (r : ℕ) : Type 0 where
  pub place : r ≡ at + length (fitting l at bs)
  pub bytes : l' ≡ take at l ++ fitting l at bs ++ drop r l
