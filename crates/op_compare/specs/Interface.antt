-- Names of two blocks, word by word. Cited by this crate's contracts. Assumes nothing.
use Rattle.std.specs.Prelude.{ℕ, ◌+◌, ◌*◌, Bool, List}
use Rattle.prelude.specs.Lists.{all, up_to}
use Rattle.netlist.specs.StoredBlock.{name_size}
use Rattle.words_layout.specs.Names.{same_word_at}

-- names number i of both blocks, which stand `size` words apart, are the same in all their words
abbrev pub same_name_at : List ℕ → ℕ → List ℕ → ℕ → ℕ → ℕ → Bool
same_name_at ws at vs other size i = all (same_word_at ws (at + size * i) vs (other + size * i)) (up_to name_size)
