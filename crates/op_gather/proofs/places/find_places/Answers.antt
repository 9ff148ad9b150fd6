-- `op_gather::places::find_places` meets its contract: a list of another length is none, and before the walk nothing is
-- marked.
use Rattle.op_gather.proofs.Marks.{places-length}
use Rattle.op_gather.proofs.places.find_places.Goals as goal

pub returns-then-order-m : goal.returns-then-order-m
returns-then-order-m c = places-length _ _ _ c.if-order-m.true
