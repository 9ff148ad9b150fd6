-- `op_read::steps::earlier_repeat` meets its contract.
use Rattle.netlist.specs.declared.Refusal.TheVariants.{DuplicateDeclaration}
use Rattle.op_read.proofs.TestPlaces.{repeat-tells, other-alone, one-alone, one-first, other-first}
use Rattle.op_read.proofs.steps.earlier_repeat.Goals as goal

pub returns-in_default : goal.returns-in_default
returns-in_default c = other-alone DuplicateDeclaration repeat-tells c.in_default.not-Err

pub returns-in_default-other : goal.returns-in_default-other
returns-in_default-other c =
    one-alone DuplicateDeclaration repeat-tells c.in-Err.is c.in_default-other.not-Err

pub returns-then-p-q : goal.returns-then-p-q
returns-then-p-q c =
    let details = c in
    let other = details in
    let one = other in
    one-first DuplicateDeclaration repeat-tells one.in-Err.is other.in-Err-other.is
    details.detail_of-p.ensures details.detail_of-q.ensures c.if-p-q.true

pub returns-else-p-q : goal.returns-else-p-q
returns-else-p-q c =
    let details = c in
    let other = details in
    let one = other in
    other-first DuplicateDeclaration repeat-tells one.in-Err.is other.in-Err-other.is
    details.detail_of-p.ensures details.detail_of-q.ensures c.if-p-q.false
