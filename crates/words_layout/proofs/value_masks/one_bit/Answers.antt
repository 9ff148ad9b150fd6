-- `words_layout::value_masks::one_bit` meets its contract, in each arm.
use mathlib.Core.Path.{sym}
use native.Mathlib.Omega.{arith}
use Rattle.netlist.specs.Values.{value_of}
use Rattle.netlist.specs.Assignments.{is_one}
use Rattle.words_layout.proofs.Gathered.{other-bit}
use Rattle.words_layout.proofs.value_masks.one_bit.Goals as goal

pub returns-in-1 : goal.returns-in-1
unfolding value_of is_one
returns-in-1 c = rw c.in-1.is

pub returns-in_default : goal.returns-in_default
returns-in_default c = sym (other-bit c.args.v (omega arith))
