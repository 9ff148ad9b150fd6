-- `op_write::lines::put_gate` meets its contract: its five pieces, one after the other.
use native.Mathlib.Omega.{arith}
use Rattle.prelude.specs.Lists.{ascii}
use Rattle.op_write.specs.Lines.{gate_text}
use Rattle.text_pieces.proofs.Appending.{appended_then, short-first, short-rest}
use Rattle.op_write.proofs.lines.put_gate.Goals as goal

pub put_all-opened-requires : goal.put_all-opened-requires
unfolding gate_text
put_all-opened-requires c = search short-first

pub put_gate_name-named-requires : goal.put_gate_name-named-requires
unfolding gate_text
put_gate_name-named-requires c = search (short-first, short-rest)

pub put-spaced-requires : goal.put-spaced-requires
unfolding gate_text
put-spaced-requires c =
    let start = c in
    let opened = c in
    let named = c in
    let a = short-rest _ start.requires.short opened.put_all-opened.ensures in
    short-first {xs = ascii " "} _ (short-rest _ a named.put_gate_name-named.ensures)

pub put_expression-filled-requires : goal.put_expression-filled-requires
unfolding gate_text
put_expression-filled-requires c =
    let start = c in
    let opened = c in
    let named = c in
    let spaced = c in
    let a = short-rest _ start.requires.short opened.put_all-opened.ensures in
    let b = short-rest _ a named.put_gate_name-named.ensures in
    record {
      from_le_written_room = omega arith;
      short = short-first _ (short-rest {xs = ascii " "} _ b spaced.put-spaced.ensures);
    }

pub put_all-requires : goal.put_all-requires
unfolding gate_text
put_all-requires c = search short-rest

pub returns : goal.returns
unfolding gate_text
returns c = search appended_then
