-- `op_gather::arranged::fill_table` meets its contract: after j turns j words stand.
use Rattle.prelude.specs.Lists.{tab}
use Rattle.prelude.proofs.Filling.{Filling}
use Rattle.op_gather.specs.Arranging.{new_word}
use Rattle.op_gather.proofs.arranged.fill_table.Given as goal

abbrev pub invariant-loop-j : goal.invariant-loop-j
invariant-loop-j l = Filling l.initial.table l.table (tab (new_word l.nodes.inputs l.numbers) l.j) l.j
