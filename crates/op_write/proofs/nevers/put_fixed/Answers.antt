-- `op_write::nevers::put_fixed` meets its contract: nothing, or the pair, by the input's bit in the mask of the fixed
-- ones.
use native.Mathlib.Omega.{arith}
use Rattle.netlist.specs.Assignments.{bit}
use Rattle.text_pieces.proofs.Appending.{appended-none}
use Rattle.op_write.proofs.NeverLaws.{fixed-none, fixed-some}
use Rattle.op_write.proofs.nevers.put_fixed.Goals as goal

pub returns-then-fixed-i-ne1 : goal.returns-then-fixed-i-ne1
unfolding bit
returns-then-fixed-i-ne1 c =
    let a = c.args in
    rw (fixed-none a.words.now a.fixed a.ones a.i c.if-fixed-i-ne1.true) (appended-none a.text.now a.at)

pub put_pair-requires : goal.put_pair-requires
unfolding bit
put_pair-requires c =
    let start = c in
    let a = start.args in record {
      from_le_written_room = omega (arith, start.requires.i_le_max_inputs);
      short = rw (fixed-some a.words.now a.fixed a.ones a.i c.if-fixed-i-ne1.false) at start.requires.short;
    }

pub returns : goal.returns
unfolding bit
returns c =
    let tested = c in
    let a = tested.args in
    rw (fixed-some a.words.now a.fixed a.ones a.i tested.if-fixed-i-ne1.false)
    c.put_pair.ensures
