-- `text_lines::name_offset` meets its contract.
use borrow.Author.Tests.{eq-eqb, ne_eqb}
use Rattle.text_lines.specs.Lines.{name_offset}
use Rattle.text_lines.proofs.name_offset.Goals as goal

pub returns-then-letter-eq105 : goal.returns-then-letter-eq105
unfolding name_offset
returns-then-letter-eq105 c = rw (eq-eqb _ 105 c.if-letter-eq105.true)

pub returns-then-letter-eq103 : goal.returns-then-letter-eq103
unfolding name_offset
returns-then-letter-eq103 c = rw (ne_eqb _ 105 c.if-letter-eq105.false, eq-eqb _ 103 c.if-letter-eq103.true)

pub returns-else-letter-eq103 : goal.returns-else-letter-eq103
unfolding name_offset
returns-else-letter-eq103 c = rw (ne_eqb _ 105 c.if-letter-eq105.false, ne_eqb _ 103 c.if-letter-eq103.false)
