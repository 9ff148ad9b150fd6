-- The words of specs/Words.antt of a block and its table as one value. Cited by this crate's contracts and Gather's.
-- Assumes nothing.
--   mapped_by, entry_word_by, entry_by, copy_by, shown_by    a word, an entry's words, a gate's and an output's, mapped
--   CopyRoom                                                 what writing gates asks of the slices
use Rattle.std.specs.Prelude.{ℕ, ◌+◌, ◌*◌, ◌≤◌, List, length}
use Rattle.netlist.specs.StoredBlock.{gate_size}
use Rattle.unroll_emission.specs.declared.entry.Entry.{Entry}
use Rattle.unroll_emission.specs.declared.entry.Mapping.{Mapping}
use Rattle.unroll_emission.specs.Words.{mapped_word, entry_word, entry_words, copy_words, shown_at}

abbrev pub mapped_by : Mapping → ℕ → ℕ
mapped_by m w = mapped_word m.nodes m.table.now w

abbrev pub entry_word_by : Mapping → Entry → ℕ → ℕ
entry_word_by m e i = entry_word m.words.now m.nodes e m.table.now i

abbrev pub entry_by : Mapping → Entry → List ℕ
entry_by m e = entry_words m.words.now m.nodes e m.table.now

abbrev pub copy_by : Mapping → ℕ → List ℕ
copy_by m j = copy_words m.words.now m.nodes j m.table.now

abbrev pub shown_by : Mapping → ℕ → List ℕ
shown_by m o = shown_at m.words.now m.nodes m.table.now o

-- the gates' words are there, and there is room for `total` gates
pub record CopyRoom (m : Mapping) (total : ℕ) (out : List ℕ) : Type 0 where
  pub words : m.nodes.start + gate_size * m.nodes.gates ≤ length m.words.now
  pub room : m.nodes.start + gate_size * total ≤ length out
