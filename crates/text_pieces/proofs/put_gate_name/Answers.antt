-- `text_pieces::put_gate_name` meets its contract: `_`, and then the number.
use native.Mathlib.Omega.{arith}
use Rattle.prelude.specs.Lists.{ascii}
use Rattle.netlist.specs.Writing.{gate_name, decimal}
use Rattle.text_pieces.proofs.DecimalLaws.{short-smaller}
use Rattle.text_pieces.proofs.Appending.{appended_then, short-first, short-rest}
use Rattle.text_pieces.proofs.put_gate_name.Goals as goal

pub put-end-requires : goal.put-end-requires
unfolding gate_name
put-end-requires c =
    let start = c in
    short-first {xs = ascii "_"} (decimal start.args.j) start.requires

pub put_number-requires : goal.put_number-requires
unfolding gate_name
put_number-requires c =
    let start = c in
    let opened = c in
    short-smaller (omega arith) (short-rest (decimal start.args.j) start.requires opened.put-end.ensures)

pub returns : goal.returns
unfolding gate_name
returns c =
    let after-put = c in
    appended_then after-put.put-end.ensures c.put_number.ensures
