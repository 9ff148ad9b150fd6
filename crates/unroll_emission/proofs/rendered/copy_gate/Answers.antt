-- `unroll_emission::rendered::copy_gate` meets its contract: the operand words of gate j are mapped while the table
-- still has its older copy.
use mathlib.Core.Path.{refl}
use Rattle.unroll_emission.proofs.rendered.copy_gate.Goals as goal

pub invariant_of-mapping : goal.invariant_of-mapping
invariant_of-mapping c = record { few = c.requires.1.few; listed = c.requires.1.table }

pub returns : goal.returns
returns c = record {
  out_after = c.write_gate.ensures;
  newest_after = refl;
}
