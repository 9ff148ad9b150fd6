-- Stored names of two blocks, or of one, word by word. Assumes nothing.
use Rattle.std.specs.Prelude.{ℕ, ◌+◌, Bool, List, get_or, eqb}

-- word i of the two names is the same
abbrev pub same_word_at : List ℕ → ℕ → List ℕ → ℕ → ℕ → Bool
same_word_at ws at vs other i = eqb (get_or ws (at + i) 0) (get_or vs (other + i) 0)
