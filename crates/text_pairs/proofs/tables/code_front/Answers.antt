-- `text_pairs::tables::code_front` meets its contract: a name has at most 8 bytes. Assumes nothing.
use native.Mathlib.Omega.{arith}
use borrow.Author.Tests.{eq-eqb, ne_eqb}
use Rattle.text_names.proofs.Packing.{front_length}
use Rattle.text_pairs.specs.PairBytes.{code_front}
use Rattle.text_pairs.proofs.tables.code_front.Goals as goal

pub overflow_add-name_length : goal.overflow_add-name_length
overflow_add-name_length c = omega (arith, front_length 8 c.args.s.now, c.name_length.ensures)

pub returns-then-byte_at-eq49 : goal.returns-then-byte_at-eq49
unfolding code_front
returns-then-byte_at-eq49 c = rw (← c.name_length.ensures, ← c.byte_at.ensures, eq-eqb _ 49 c.if-byte_at-eq49.true)

pub returns-else-byte_at-eq49 : goal.returns-else-byte_at-eq49
unfolding code_front
returns-else-byte_at-eq49 c = rw (← c.name_length.ensures, ← c.byte_at.ensures, ne_eqb _ 49 c.if-byte_at-eq49.false)
