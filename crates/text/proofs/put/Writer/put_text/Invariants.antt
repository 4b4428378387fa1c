-- `text::put::Writer::put_text` meets its contract. Invariant: the bytes that were passed stand written. Assumes nothing.
use Rattle.std.proofs.Common.{◌≡◌, take}
use Rattle.text.specs.Puts.{puts}
use Rattle.text.proofs.put.Writer.put_text.Given as goal

abbrev pub invariant-loop-b : goal.invariant-loop-b
invariant-loop-b l = l.self ≡ puts l.initial.self (take l.b-index l.s)
