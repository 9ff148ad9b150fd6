-- `op_write::lines::put_item` meets its contract: a space, and then the operand.
use Rattle.prelude.specs.Lists.{ascii}
use Rattle.op_write.specs.Lines.{item_text}
use Rattle.text_pieces.proofs.Appending.{appended_then, short-first, short-rest}
use Rattle.op_write.proofs.lines.put_item.Goals as goal

pub put-end-requires : goal.put-end-requires
unfolding item_text
put-end-requires c = short-first {xs = ascii " "} _ c.requires.short

pub put_operand-requires : goal.put_operand-requires
unfolding item_text
put_operand-requires c =
    let start = c in
    short-rest {xs = ascii " "} _ start.requires.short c.put-end.ensures

pub returns : goal.returns
unfolding item_text
returns c = search appended_then
