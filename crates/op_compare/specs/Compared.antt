-- The words of specs/Words.antt of two blocks as one value. Cited by the contracts of `outputs`. Assumes nothing.
--   output_total, input_total             how many outputs and inputs each of the two has
--   differing_of, differing_below         the lanes at which an output differs, or one of the first outputs
--   differs_in                            the output's bit of one lane
--   DisagreeingIn                         a word with the lanes at which they disagree
use Rattle.std.specs.Prelude.{ℕ, Bool, get_or}
use Rattle.netlist.specs.StoredBlock.{decode}
use Rattle.netlist.specs.Compare.{disagrees}
use Rattle.lanes_dual_rail.specs.Batches.{lanes_of}
use Rattle.lanes_dual_rail.specs.Words.{Tells}
use Rattle.op_compare.specs.declared.outputs.Compared.{Compared}
use Rattle.op_compare.specs.Words.{differing_word, differing_words, differs_at}

abbrev pub output_total : Compared → ℕ
output_total c = get_or c.ours.words.now 2 0

abbrev pub input_total : Compared → ℕ
input_total c = get_or c.ours.words.now 0 0

abbrev pub differing_of : Compared → ℕ → ℕ
differing_of c o =
    differing_word c.ours.words.now c.theirs.words.now (input_total c) c.ours.lanes.now c.theirs.lanes.now o

abbrev pub differing_below : Compared → ℕ → ℕ
differing_below c o =
    differing_words c.ours.words.now c.theirs.words.now (input_total c) c.ours.lanes.now c.theirs.lanes.now o

abbrev pub differs_in : Compared → ℕ → ℕ → Bool
differs_in c lane o =
    differs_at c.ours.words.now c.theirs.words.now (input_total c) c.ours.lanes.now c.theirs.lanes.now lane o

abbrev pub DisagreeingIn : Compared → ℕ → Type 0
DisagreeingIn c word =
    Tells (lanes_of (input_total c)) c.ours.base (disagrees (decode c.ours.words.now) (decode c.theirs.words.now)) word
