-- `words_block::names::byte_at` meets its contract: two bytes to a word, the lower half first.
use Prim.Native.Nat.{◌+◌, ◌/◌}
use native.Mathlib.Omega.{arith}
use borrow.Author.Rules.{rules}
use borrow.Author.Tests.{eq-eqb, ne_eqb}
use Rattle.words_block.proofs.NameLaws.{byte-is}
use Rattle.words_block.proofs.names.byte_at.Goals as goal

pub overflow_cast-result-else-i-eq0 : goal.overflow_cast-result-else-i-eq0
overflow_cast-result-else-i-eq0 c =
    let known = c in
    omega (
      arith,
      c.word_at-word.ensures,
      known.shared_slice_known-1.given (known.args.at + known.args.i / 2),
    )

pub returns-then-i-eq0 : goal.returns-then-i-eq0
returns-then-i-eq0 c =
    let a = c.args in rw
    (← byte-is a.words.now a.at a.i (search rules), eq-eqb _ 0 c.if-i-eq0.true, c.word_at-word.ensures)

pub returns-else-i-eq0 : goal.returns-else-i-eq0
returns-else-i-eq0 c =
    let a = c.args in rw
    (← byte-is a.words.now a.at a.i (search rules), ne_eqb _ 0 c.if-i-eq0.false, c.word_at-word.ensures)
