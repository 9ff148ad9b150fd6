-- `text_block::put_words` meets its contract: the words are copied.
use native.Mathlib.Omega.{arith}
use Rattle.text_block.proofs.BlockParts.{words-put}
use Rattle.text_block.proofs.put_words.Goals as goal

pub returns : goal.returns
returns c =
    let a = c.args in
    words-put a.block.now a.words.now _ a.at _ c.requires (omega arith) c.copy_from_slice.ensures.after
