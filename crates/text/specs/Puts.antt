-- What a writer holds behind a write. Assumes nothing.
use Rattle.std.specs.Prelude.{List, ℕ}
use Rattle.text.specs.Wrote.{Place, stores}
use Rattle.text.specs.declared.put.Writer.{Writer}

-- the bytes of a writer's buffer, and its place; and the writer of the same buffer with others
abbrev pub place_of : Writer → Place
place_of w = record { held = w.bytes.now; next = w.at }

abbrev pub standing : Writer → Place → Writer
standing w p = record w { bytes = record w.bytes { now = p.held }; at = p.next }

-- the writer w behind a write of some bytes: the same buffer, in which they stand from its place on, and the place behind them (`puts_wrote`)
unfoldable pub puts : Writer → List ℕ → Writer
puts w bs = standing w (stores (place_of w) bs)
