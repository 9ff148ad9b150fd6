-- `op_cells::legal::all_read_earlier` meets its contract: each cell is asked.
use borrow.Author.Rules.{rules}
use borrow.Author.Tests.{tests}
use Rattle.prelude.proofs.Ranges.{all-of_range}
use Rattle.netlist.specs.Cells.{reads_earlier}
use Rattle.op_cells.proofs.legal.all_read_earlier.Goals as goal

pub returns : goal.returns
returns c =
    let a = c.args in
    all-of_range (reads_earlier a.inputs a.cells.now) a.count c.all.ensures.ran (λ x b q k. search (rules, tests))
