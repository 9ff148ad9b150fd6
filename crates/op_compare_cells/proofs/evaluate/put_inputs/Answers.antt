-- `op_compare_cells::evaluate::put_inputs` meets its contract: the constants first, then input after input.
use mathlib.Core.Path.{◌≡◌}
use native.Mathlib.Omega.{arith}
use Rattle.netlist.specs.Limits.{max_inputs}
use Rattle.op_compare_cells.proofs.Evaluating.{filled_more, inputs_in}
use Rattle.op_compare_cells.proofs.evaluate.put_inputs.Goals as goal

pub loop-i-preserved : goal.loop-i-preserved
loop-i-preserved c =
    let turn = c in
    (omega arith, filled_more turn.loop-i.invariant.1 c.loop-i-test.true c.input_word.ensures)

pub returns : goal.returns
returns c =
    let l = c in
    let s = l in
    let all : l.loop-i.i ≡ max_inputs = omega arith in
    inputs_in s.args.n s.args.base s.requires.1 (rw all at l.loop-i.invariant.1)
