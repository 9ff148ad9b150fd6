-- A text as lines, read from its bytes alone: where line i of those from a place on starts, how many bytes stand before
-- the name that it declares, and how many gates close up to its end. On the print of a legal tree these are the tree's
-- own numbers (proofs/). Assumes nothing.
use Rattle.std.specs.Prelude.{ℕ, zero, suc, ◌+◌, ◌-◌, ◌<◌, ◌≡◌, cond, List, [], ◌∷◌, get_or, drop, eqb}
use Rattle.text_lines.specs.declared.Line.{Line}

-- how often a number stands in a list
abbrev pub times : ℕ → List ℕ → ℕ
times b [] = 0
times b (x ∷ xs) = cond (eqb x b) 1 0 + times b xs

-- the bytes up to the first LF, that LF counted
abbrev pub length_with_lf : List ℕ → ℕ
length_with_lf [] = 0
length_with_lf (x ∷ xs) = suc (cond (eqb x 10) 0 (length_with_lf xs))

-- no LF stands among the first n bytes from a place on
abbrev pub NoLf : List ℕ → ℕ → ℕ → Type 0
NoLf s at n = (k : ℕ) → k < n → get_or s (at + k) 0 ≡ 10 → ⊥

-- the opening brackets before the first LF
abbrev pub line_opens : List ℕ → ℕ
line_opens [] = 0
line_opens (x ∷ xs) = cond (eqb x 10) 0 (cond (eqb x 40) 1 0 + line_opens xs)

-- where line i of those from a place on starts
unfoldable pub line_offset : List ℕ → ℕ → ℕ → ℕ
line_offset text from zero = from
line_offset text from (suc i) = line_offset text from i + length_with_lf (drop (line_offset text from i) text)

-- how many gates close in the first i lines from a place on: a line has one bracket that is no gate's
unfoldable pub gates_to : List ℕ → ℕ → ℕ → ℕ
gates_to text from zero = 0
gates_to text from (suc i) = gates_to text from i + (line_opens (drop (line_offset text from i) text) - 1)

-- how many bytes stand before the declared name, by the line's letter: "(in ", "(gate " or "(out "
unfoldable pub name_offset : ℕ → ℕ
name_offset letter = cond (eqb letter 105) 4 (cond (eqb letter 103) 6 5)

-- what is told of the line at the front of s: its bytes, the place of its name in it, and its gates
pub record LineOf (s : List ℕ) (r : Line) : Type 0 where
  pub length : r.length ≡ length_with_lf s
  pub name : r.name ≡ name_offset (get_or s 1 0)
  pub gates : r.gates ≡ line_opens s - 1
