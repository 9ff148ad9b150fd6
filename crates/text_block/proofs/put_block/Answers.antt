-- `text_block::put_block` meets its contract: the five parts, one after the other.
use Prim.Native.Nat.{◌*◌}
use borrow.Author.Rules.{rules}
use Rattle.netlist.specs.StoredBlock.{nevers_at, gates_at, outputs_at}
use Rattle.text_block.specs.Words.{word_count}
use Rattle.text_block.proofs.BlockParts.{block_written, names-tab, words-tab}
use Rattle.text_block.proofs.put_block.Goals as goal

pub put_counts-requires : goal.put_counts-requires
unfolding word_count outputs_at gates_at nevers_at
put_counts-requires c = search rules

pub put_names-requires : goal.put_names-requires
unfolding word_count outputs_at gates_at nevers_at
put_names-requires c = search rules

pub put_words-requires : goal.put_words-requires
unfolding word_count outputs_at gates_at nevers_at
put_words-requires c = search rules

pub put_words-requires-2 : goal.put_words-requires-2
unfolding word_count outputs_at gates_at nevers_at
put_words-requires-2 c = search rules

pub put_words-requires-3 : goal.put_words-requires-3
unfolding word_count outputs_at gates_at nevers_at
put_words-requires-3 c = search rules

pub returns : goal.returns
returns c =
    let a = c.args in
    let r = c.requires in
    block_written a.c a.names.now a.masks.now a.gates.now a.outputs.now a.block.now _ _ _ _ _
    c.put_counts.ensures (rw (names-tab a.names.now a.c.inputs r.named) at c.put_names.ensures)
    (rw (c.nevers_at.ensures, words-tab a.masks.now (2 * a.c.nevers) r.mask_room) at c.put_words.ensures)
    (rw (c.gates_behind.ensures, words-tab a.gates.now (5 * a.c.gates) r.gate_room) at c.put_words-2.ensures)
    (rw (c.outputs_behind.ensures, words-tab a.outputs.now (5 * a.c.outputs) r.output_room) at c.put_words-3.ensures)
