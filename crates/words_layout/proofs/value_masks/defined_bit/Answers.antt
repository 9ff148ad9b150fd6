-- `words_layout::value_masks::defined_bit` meets its contract, in each arm.
use mathlib.Core.Path.{sym}
use native.Mathlib.Omega.{arith}
use Rattle.netlist.specs.Values.{value_of, is_defined}
use Rattle.words_layout.proofs.Gathered.{high_bit}
use Rattle.words_layout.proofs.value_masks.defined_bit.Goals as goal

pub returns-in-0 : goal.returns-in-0
unfolding value_of is_defined
returns-in-0 c = rw c.in-0.is

pub returns-in-1 : goal.returns-in-1
unfolding value_of is_defined
returns-in-1 c = rw c.in-1.is

pub returns-in_default : goal.returns-in_default
returns-in_default c = sym (high_bit c.args.v (omega arith))
