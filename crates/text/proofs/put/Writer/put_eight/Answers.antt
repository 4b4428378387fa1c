-- `text::put::Writer::put_eight` meets its contract. Assumes nothing.
use Rattle.text.proofs.Digits.{hex_eight}
use Rattle.text.proofs.put.Writer.put_eight.Goals as goal

pub returns : goal.returns
returns c =
    rw (c.last_digit.ensures, c.last_digit-2.ensures, c.last_digit-3.ensures, c.last_digit-4.ensures, c.last_digit-5.ensures, c.last_digit-6.ensures, c.last_digit-7.ensures, c.last_digit-8.ensures, hex_eight c.args.n) at c.put_text.ensures
