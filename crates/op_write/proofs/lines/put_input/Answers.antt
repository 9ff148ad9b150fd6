-- `op_write::lines::put_input` meets its contract: its three pieces, one after the other.
use native.Mathlib.Omega.{arith}
use Rattle.op_write.specs.Lines.{input_text}
use Rattle.text_pieces.proofs.Appending.{appended_then, short-first, short-rest}
use Rattle.op_write.proofs.lines.put_input.Goals as goal

pub put_all-opened-requires : goal.put_all-opened-requires
unfolding input_text
put_all-opened-requires c = search short-first

pub put_name-named-requires : goal.put_name-named-requires
unfolding input_text
put_name-named-requires c = record {
  from_le_written_room = omega arith;
  short = search (short-first, short-rest);
}

pub put_all-requires : goal.put_all-requires
unfolding input_text
put_all-requires c = search short-rest

pub returns : goal.returns
unfolding input_text
returns c = search appended_then
