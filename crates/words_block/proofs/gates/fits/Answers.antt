-- `words_block::gates::fits` meets its contract: the head word, then the operand words.
use mathlib.Core.Path.{sym, ◌∙◌}
use borrow.Author.Rules.{rules}
use Prim.Native.Nat.{◌/◌, ◌%◌}
use Rattle.theory_encoding.specs.Rules.{gate_rule}
use Rattle.words_block.proofs.GateLaws.{some-operand}
use Rattle.words_block.proofs.gates.fits.Goals as goal

pub slots_fit-requires : goal.slots_fit-requires
slots_fit-requires c =
    let head = c.word_in-head.result in
    let few = some-operand (head % 8) (head / 8) (sym c.has_arity.ensures ∙ c.if-has_arity.true) in
    search rules

pub returns-then-has_arity : goal.returns-then-has_arity
unfolding gate_rule
returns-then-has_arity c =
    let after-word-in = c in
    rw (← after-word-in.word_in-head.ensures, sym c.has_arity.ensures ∙ c.if-has_arity.true)
    c.slots_fit.ensures

pub returns-else-has_arity : goal.returns-else-has_arity
unfolding gate_rule
returns-else-has_arity c = rw (← c.word_in-head.ensures, ← c.has_arity.ensures, c.if-has_arity.false)
