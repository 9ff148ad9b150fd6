-- `op_compare_cells::compare_planned` meets its contract: the table is of the cells, and the arrays have room for the
-- largest block and the most cells.
use Rattle.op_compare_cells.proofs.Searching.{table-for, search-ready}
use Rattle.op_compare_cells.proofs.compare_planned.Goals as goal

pub search_settings-requires : goal.search_settings-requires
search_settings-requires c =
    search-ready c.requires (table-for c.inputs_of.ensures c.decode_cells.ensures)
