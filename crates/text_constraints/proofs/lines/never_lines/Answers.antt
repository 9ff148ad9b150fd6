-- `text_constraints::lines::never_lines` meets its contract: a legal text has its lines of inputs first, and then its
-- never lines. Assumes nothing.
use Rattle.text_constraints.proofs.TreePlaces.{runs-are}
use Rattle.text_constraints.proofs.lines.never_lines.Goals as goal

pub returns : goal.returns
returns c = λ t is. runs-are is c.run_of-before.ensures c.run_of-nevers.ensures
