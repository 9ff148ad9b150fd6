-- Bounds that contracts ask of a place or a number so that no sum of it overflows. None is a rule of the format: each
-- is above all that can come.
use Rattle.std.specs.Prelude.{ℕ, ◌^◌}

-- what a word can hold
abbrev pub max_word : ℕ
max_word = 65535

-- the words of inputs and gates are below that of constant 0
abbrev pub node_room : ℕ
node_room = 65534

-- above every place among a block's words
abbrev pub place_room : ℕ
place_room = 8192

-- above every place in a written text where a line begins, and where a piece of a line does
abbrev pub line_room : ℕ
line_room = 600000

abbrev pub written_room : ℕ
written_room = 1000000

-- above every number of settings, and of words of cells
abbrev pub count_room : ℕ
count_room = 2 ^ 32
