-- `op_write::nevers::put_never` meets its contract: its three pieces, one after the other.
use mathlib.Core.List.{◌++◌}
use mathlib.Core.Path.{◌≡◌}
use Rattle.prelude.specs.Lists.{ascii}
use Rattle.text_pieces.specs.Pieces.{Short, pieces}
use Rattle.op_write.specs.Lines.{fixed_text, never_text}
use Rattle.op_write.proofs.NeverLaws.{never-of}
use Rattle.text_pieces.proofs.Appending.{appended_then, short-first, short-rest}
use Rattle.op_write.proofs.nevers.put_never.Goals.{After-inputs_of}
use Rattle.op_write.proofs.nevers.put_never.Goals as goal

-- the three pieces, from the words that were read, and that they are short
parts : (c : After-inputs_of)
    → never_text c.args.words.now c.args.from
    ≡ ascii "(never"
    ++ (pieces (fixed_text c.args.words.now c.word_at-fixed.result c.word_at-ones.result) c.inputs_of.result
    ++ ascii ")\n")
parts c =
    never-of c.args.words.now c.args.from c.word_at-fixed.result c.word_at-ones.result c.inputs_of.result
    c.word_at-fixed.ensures c.word_at-ones.ensures c.inputs_of.ensures

short-parts : (c : After-inputs_of)
    → Short (ascii "(never"
    ++ (pieces (fixed_text c.args.words.now c.word_at-fixed.result c.word_at-ones.result) c.inputs_of.result
    ++ ascii ")\n")) c.args.at
short-parts c = rw (parts c) at c.requires.short

pub put_all-opened-requires : goal.put_all-opened-requires
unfolding never_text
put_all-opened-requires c = short-first {xs = ascii "(never"} _ c.requires.short

pub put_pairs-filled-requires : goal.put_pairs-filled-requires
put_pairs-filled-requires c =
    let short = short-parts (goal.at.put_pairs-filled-requires c).After-inputs_of in record {
      n_le_max_inputs = rw c.inputs_of.ensures c.requires.words_bound.0;
      short = short-first _ (short-rest _ short c.put_all-opened.ensures);
    }

pub put_all-requires : goal.put_all-requires
put_all-requires c =
    let short = short-parts (goal.at.put_all-requires c).After-inputs_of in
    short-rest _ (short-rest _ short c.put_all-opened.ensures) c.put_pairs-filled.ensures

pub returns : goal.returns
returns c =
    rw (parts (goal.at.returns c).After-inputs_of)
    (appended_then c.put_all-opened.ensures (appended_then c.put_pairs-filled.ensures c.put_all.ensures))
