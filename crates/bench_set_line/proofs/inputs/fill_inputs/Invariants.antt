-- `bench_set_line::inputs::fill_inputs` meets its contract: one name a turn. Assumes nothing.
use Rattle.prelude.proofs.Tabled.{Tabled}
use Rattle.bench_set_line.specs.Tables.{input_key}
use Rattle.bench_set_line.proofs.inputs.fill_inputs.Given as goal

abbrev pub invariant-loop-i : goal.invariant-loop-i
invariant-loop-i l = Tabled (input_key l.words) l.n l.initial.inputs l.inputs l.i
