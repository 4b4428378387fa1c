-- `worst_run::window::Window::first` meets its contract. Assumes nothing.
use Rattle.worst_run.proofs.Bytes.{first_is}
use Rattle.worst_run.proofs.window.Window.first.Goals as goal

pub returns : goal.returns
returns c = let w = c.self.inside in rw (← c.self.view_is) (first_is 256 w.oldest w.offset_oldest w.ring c.self.told c.self.invariant.0)
