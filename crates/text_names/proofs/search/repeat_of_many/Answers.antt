-- `text_names::search::repeat_of_many` meets its contract: no name that was entered repeats one before it; the name
-- behind them does, or each is compared.
use Prim.Native.Nat.{◌+◌}
use native.Mathlib.Omega.{arith}
use Rattle.text_names.specs.Index.{hashes}
use Rattle.text_names.proofs.Indexing.{held_new}
use Rattle.text_names.proofs.Searching.{sought-here, sought-all}
use Rattle.text_names.proofs.search.repeat_of_many.Goals as goal

pub enter_while_room-requires : goal.enter_while_room-requires
enter_while_room-requires c = held_new c.args.names.now (hashes + 2048) (omega arith)

pub returns-in_err-i : goal.returns-in_err-i
returns-in_err-i c = rw c.from_residual.ensures (sought-all c.in_err-i.ensures.sought)

pub returns-then-repeats : goal.returns-then-repeats
returns-then-repeats c =
    let tested = c.in_ok-i.ensures.sought in sought-here tested.1 tested.0 c.repeats.ensures c.if-repeats.true
