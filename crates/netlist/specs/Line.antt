-- SPECIFICATION 7.4: the line of a text that holds a place, by its two ends.
use Rattle.std.specs.Prelude.{ℕ, zero, suc, ◌+◌, ◌-◌, min, cond, List, [], ◌∷◌, length, get_or, take, drop, eqb}

abbrev pub lf : ℕ
lf = 10

-- the place, or the text's end where the place is past it
unfoldable pub clamped : List ℕ → ℕ → ℕ
clamped text place = min place (length text)

-- the start of a line: behind the last LF among the first p bytes
unfoldable pub start_before : List ℕ → ℕ → ℕ
start_before text zero = 0
start_before text (suc p) = cond (eqb (get_or text p 0) lf) (suc p) (start_before text p)

-- how many bytes stand before the first LF; an LF at the place itself ends the line, so it is of that line
unfoldable pub until_lf : List ℕ → ℕ
until_lf [] = 0
until_lf (c ∷ s) = cond (eqb c lf) 0 (suc (until_lf s))

unfoldable pub line_start : List ℕ → ℕ → ℕ
line_start text place = start_before text (clamped text place)

unfoldable pub line_end : List ℕ → ℕ → ℕ
line_end text place = clamped text place + until_lf (drop (clamped text place) text)

unfoldable pub line_length : List ℕ → ℕ → ℕ
line_length text place = line_end text place - line_start text place

unfoldable pub line_at : List ℕ → ℕ → List ℕ
line_at text place = take (line_length text place) (drop (line_start text place) text)
