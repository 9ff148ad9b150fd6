-- `words_layout::masks::is_within` meets its contract: every input's bits are compared.
use borrow.Author.Rules.{rules}
use borrow.Author.Tests.{tests}
use lib.Dec.{leb}
use Rattle.prelude.proofs.Ranges.{all-of_range}
use Rattle.netlist.specs.Assignments.{bit, is_within}
use Rattle.words_layout.proofs.masks.is_within.Goals as goal

pub returns : goal.returns
unfolding is_within bit
returns c =
    let a = c.args in
    all-of_range (λ i. leb (bit a.ones i) (bit a.fixed i)) a.n c.all.ensures.ran (λ x b q k. search (rules, tests))
