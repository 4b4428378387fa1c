-- `reading::parts::register_list` calls itself for the rest of the names. The measure is how many names are left. Assumes nothing.
use Rattle.reading.proofs.parts.+register_list.Given as goal

abbrev pub decreases-register_list : goal.decreases-register_list
decreases-register_list l = l.left
