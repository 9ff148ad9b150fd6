-- `op_gather::places::mark_places` meets its contract: the first t numbers are marked, each at its place, and a number
-- that is not below m or is marked already is not in a list of each once.
use lib.ListN.{length}
use Rattle.op_gather.specs.Places.{PlacesMarked}
use Rattle.op_gather.proofs.places.mark_places.Given as goal

abbrev pub invariant-loop-t : goal.invariant-loop-t
invariant-loop-t l = PlacesMarked (length l.order) l.order l.t l.places
