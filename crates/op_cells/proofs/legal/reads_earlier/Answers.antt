-- `op_cells::legal::reads_earlier` meets its contract: each operand word keeps its rule.
use mathlib.Core.Path.{sym, ◌∙◌}
use borrow.Author.Rules.{rules}
use borrow.Author.Tests.{tests}
use Rattle.prelude.proofs.Ranges.{all-of_range}
use Rattle.op_cells.proofs.Earlier.{word_rule, word-told, reads-rule}
use Rattle.op_cells.proofs.legal.reads_earlier.Goals as goal

pub returns : goal.returns
returns c =
    let a = c.args in
    all-of_range (word_rule a.inputs a.cells.now a.j) 4 c.all.ensures.ran (λ x b q k. search (rules, tests, word-told))
    ∙ sym (reads-rule a.inputs a.cells.now a.j)
