-- `op_compare_cells::evaluate::evaluate_cells` meets its contract: with the inputs' words in place, each cell reads
-- only places that have theirs.
use native.Mathlib.Omega.{arith}
use Rattle.op_compare_cells.proofs.Evaluating.{places-there, evaluated-more}
use Rattle.op_compare_cells.proofs.evaluate.evaluate_cells.Goals as goal

pub loop-j-init : goal.loop-j-init
loop-j-init c = (omega arith, c.put_inputs.ensures.ready _)

pub cell_word_at-requires : goal.cell_word_at-requires
cell_word_at-requires c =
    let turn = c in
    let s = turn in
    let few = s.requires.2.few in (
      omega arith,
      places-there s.args.n s.args.base s.args.table.now s.requires.2 turn.loop-j.j
          c.loop-j-test.true,
    )

pub loop-j-preserved : goal.loop-j-preserved
loop-j-preserved c =
    let test = c in
    let turn = test in
    let s = turn in
    let inputs = turn in (
      omega arith,
      evaluated-more s.args.n s.args.base s.args.table.now s.requires.2 turn.loop-j.j
          test.loop-j-test.true
          turn.loop-j.invariant.1 inputs.used_lanes-used.ensures c.cell_word_at.ensures,
    )
