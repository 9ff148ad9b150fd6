-- `op_write::lines::put_expression` meets its contract: its four pieces, one after the other.
use Prim.Native.Nat.{◌/◌, ◌%◌}
use mathlib.Core.List.{◌++◌}
use mathlib.Core.Path.{◌≡◌}
use native.Mathlib.Omega.{arith}
use Rattle.prelude.specs.Lists.{ascii}
use Rattle.netlist.specs.Kinds.{keyword}
use Rattle.text_pieces.specs.Pieces.{pieces}
use Rattle.op_write.specs.Lines.{item_text, expression_text}
use Rattle.op_write.proofs.ExpressionLaws.{expression-of}
use Rattle.text_pieces.proofs.Appending.{appended_then, short-first, short-rest}
use Rattle.op_write.proofs.lines.put_expression.Goals.{After-word_at-head}
use Rattle.op_write.proofs.lines.put_expression.Goals as goal

-- the four pieces, from the head word that was read
parts : (c : After-word_at-head) → let a = c.args in
    expression_text a.words.now a.from
    ≡ ascii "("
    ++ (keyword (c.word_at-head.result % 8)
    ++ (pieces (item_text a.words.now a.from) (c.word_at-head.result / 8) ++ ascii ")"))
parts c =
    let a = c.args in
    expression-of a.words.now a.from c.word_at-head.result c.word_at-head.ensures

pub put-opened-requires : goal.put-opened-requires
put-opened-requires c =
    let head = c in
    short-first {xs = ascii "("} _ (rw (parts (goal.at.put-opened-requires c).After-word_at-head) at head.requires.short)

pub put_keyword-named-requires : goal.put_keyword-named-requires
put_keyword-named-requires c =
    let opened = c in
    let head = opened in
    let s = rw (parts (goal.at.put_keyword-named-requires c).After-word_at-head) at head.requires.short in
    short-first _ (short-rest _ s opened.put-opened.ensures)

pub put_items-filled-requires : goal.put_items-filled-requires
put_items-filled-requires c =
    let start = c in
    let named = c in
    let opened = c in
    let head = opened in
    let few = head.shared_slice_known-1.given start.args.from in
    let s = rw (parts (goal.at.put_items-filled-requires c).After-word_at-head) at start.requires.short in
    let a = short-rest _ s opened.put-opened.ensures in record {
      from_le_written_room = (start.requires.from_le_written_room, omega (arith, few, head.word_at-head.ensures));
      short = short-first _ (short-rest _ a named.put_keyword-named.ensures);
    }

pub put-requires : goal.put-requires
put-requires c =
    let filled = c in
    let named = c in
    let opened = c in
    let head = opened in
    let s = rw (parts (goal.at.put-requires c).After-word_at-head) at head.requires.short in
    let a = short-rest _ s opened.put-opened.ensures in
    let b = short-rest _ a named.put_keyword-named.ensures in
    short-rest _ b filled.put_items-filled.ensures

pub returns : goal.returns
returns c =
    let closed = c in
    let filled = c in
    let named = c in
    let opened = c in
    rw (parts (goal.at.returns c).After-word_at-head) (appended_then opened.put-opened.ensures
    (appended_then named.put_keyword-named.ensures (appended_then filled.put_items-filled.ensures closed.put.ensures)))
