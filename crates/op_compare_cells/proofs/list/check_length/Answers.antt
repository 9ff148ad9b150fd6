-- `op_compare_cells::list::check_length` meets its contract.
use Rattle.theory_encoding.proofs.Decoded.{decode-output_count}
use Rattle.op_compare_cells.proofs.list.check_length.Goals as goal

pub returns : goal.returns
returns c =
    let asked = c in
    let s = asked in
    rw (decode-output_count s.args.words.now, ← asked.outputs_of.ensures) c.refuse_if.ensures
