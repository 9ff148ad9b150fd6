-- The tables of a text's declarations, read from its bytes alone: the place of each declared name, its number, and the
-- node that it declares. On the print of a legal tree these are the tree's own (proofs/). Assumes nothing.
use Rattle.std.specs.Prelude.{ℕ, suc, ◌+◌, ◌-◌, ◌≤◌, ◌≡◌, cond, List, length, get_or, drop, ltb}
use Rattle.std.proofs.lemmas.List.Edits.{sets}
use Rattle.prelude.specs.Lists.{tab, placed}
use Rattle.netlist.specs.Limits.{max_text, max_inputs, max_gates, max_outputs}
use Rattle.text_names.specs.Packed.{packed_at}
use Rattle.text_lines.specs.Lines.{line_offset, gates_to, name_offset}

-- the place of the name that the line at `at` declares; and of the name that line i, of those from a place on, declares
unfoldable pub declared_place : List ℕ → ℕ → ℕ
declared_place text at = at + name_offset (get_or (drop at text) 1 0)

unfoldable pub place_at : List ℕ → ℕ → ℕ → ℕ
place_at text from i = declared_place text (line_offset text from i)

-- the name that line i, of those from a place on, declares, as a number
unfoldable pub number_at : List ℕ → ℕ → ℕ → ℕ
number_at text from i = packed_at text (place_at text from i)

-- the node that the text's declaration i makes, of a text of n inputs, when `gates` gates close up to its end
unfoldable pub line_word : ℕ → ℕ → ℕ → ℕ
line_word n i gates = cond (ltb i n) i (n + (gates - 1))

-- the node that line i, of those from a place on, declares, when `first` declarations and no gate stand before
unfoldable pub word_at : List ℕ → ℕ → ℕ → ℕ → ℕ → ℕ
word_at text from n first i = line_word n (first + i) (gates_to text from (suc i))

-- ---- the tables of lines

-- the entries of a table with one for each name that a text may declare
abbrev pub table_size : ℕ
table_size = max_inputs + max_gates + max_outputs

pub record FillReady (text : List ℕ) (from n first lines : ℕ) : Type 0 where
  pub short : length text ≤ max_text
  pub inside : from ≤ length text
  pub few : n ≤ max_inputs
  pub room : first + lines ≤ table_size

-- the places and nodes of the first i lines from a place on stand behind `first` entries
pub record FilledTo (text : List ℕ) (from n first : ℕ) (places words : List ℕ) (i : ℕ) (places' words' : List ℕ) : Type
    0 where
  pub places_are : places' ≡ sets places first (tab (place_at text from) i)
  pub words_are : words' ≡ sets words first (tab (word_at text from n first) i)

-- the tables while they are filled: i lines are done
pub record FillNow (text : List ℕ) (from n first lines : ℕ) (places words : List ℕ) (i at gates : ℕ)
    (places' words' : List ℕ) : Type 0 where
  pub within : i ≤ lines
  pub start : at ≡ line_offset text from i
  pub closed : gates ≡ gates_to text from i
  pub filled : FilledTo text from n first places words i places' words'

-- the numbers of the first i lines' names stand in a table
pub record NamesNow (text : List ℕ) (n : ℕ) (inputs : List ℕ) (i at : ℕ) (inputs' : List ℕ) : Type 0 where
  pub within : i ≤ n
  pub start : at ≡ line_offset text 0 i
  pub filled : inputs' ≡ placed (tab (number_at text 0) i) inputs
