-- Line by line through a text: starts stay inside, and each turn of the loops over lines adds one line. Assumes
-- nothing.
use Prim.Native.Nat.{ℕ, zero, suc, ◌+◌, ◌-◌, ◌≤◌}
use mathlib.Core.Path.{◌≡◌}
use mathlib.Core.Bool.{Bool, true, false, cond}
use mathlib.Core.List.{List, [], ◌∷◌, ◌++◌}
use native.Mathlib.Numerals.{add-one}
use native.Mathlib.Omega.{arith}
use lib.ListN.{length, drop, length-drop}
use lib.Dec.{eqb}
use Rattle.text_lines.specs.Lines.{times, length_with_lf, line_opens, line_offset, gates_to, name_offset}
use Rattle.text_lines.proofs.Scanning.{line_length-le, line_opens-le}

pub start-le : (text : List ℕ) (from : ℕ) → from ≤ length text → (i : ℕ) → line_offset text from i ≤ length text
unfolding line_offset
start-le text from l zero = l
start-le text from l (suc i) =
    let h = start-le text from l i in
    let g = line_length-le (drop (line_offset text from i) text) in
    omega (arith, length-drop (line_offset text from i) text)

pub gates_to-le : (text : List ℕ) (from i : ℕ) → gates_to text from i ≤ line_offset text from i
unfolding line_offset gates_to
gates_to-le text from zero = omega arith
gates_to-le text from (suc i) =
    let h = gates_to-le text from i in
    let g = line_opens-le (drop (line_offset text from i) text) in
    omega arith

pub times-append : (b : ℕ) (xs ys : List ℕ) → times b (xs ++ ys) ≡ times b xs + times b ys
times-append b [] ys = omega arith
times-append b (x ∷ xs) ys = omega (arith, times-append b xs ys)

-- the next line's start, and the gates up to it, from those of the line
module _ (text : List ℕ) (from i at : ℕ) (here' : at ≡ line_offset text from i) where
  pub start-more : at + length_with_lf (drop at text) ≡ line_offset text from (i + 1)
  unfolding line_offset
  start-more = rw (here', add-one)

  pub gates-more : (gates : ℕ) → gates ≡ gates_to text from i
      → gates + (line_opens (drop at text) - 1) ≡ gates_to text from (i + 1)
  unfolding gates_to
  gates-more gates e = rw (e, here', add-one)

  -- there are no more gates than bytes
  pub gates-within : from ≤ length text → (gates more : ℕ) → gates ≡ gates_to text from i
      → more ≡ line_opens (drop at text) - 1 → gates + more ≤ length text
  gates-within l gates more e f =
      let h = gates-more gates e in
      let g = gates_to-le text from (i + 1) in
      let s = start-le text from l (i + 1) in
      omega arith

-- what stands before a declared name is at most 6 bytes
pub offset-le : (letter : ℕ) → name_offset letter ≤ 6
unfolding name_offset
offset-le letter = go (eqb letter 105) (eqb letter 103)
  where
    go : (a b : Bool) → cond a 4 (cond b 6 5) ≤ 6
    go true b = omega arith
    go false true = omega arith
    go false false = omega arith
