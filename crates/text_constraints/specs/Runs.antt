-- Lines of a text with the same letter behind their opening bracket. Assumes nothing.
use Rattle.std.specs.Prelude.{ℕ, ◌+◌, ◌≤◌, ◌<◌, ◌≡◌, Bool, true, false, List, [], ◌∷◌, ◌++◌, length, drop, eqb}
use Rattle.prelude.specs.Lists.{all, joined}
use Rattle.netlist.specs.Limits.{max_text}
use Rattle.text_lines.specs.Trees.{is_line}

-- the line's second byte, behind its bracket, is this letter
abbrev pub lettered : ℕ → List ℕ → Bool
lettered letter [] = false
lettered letter (x ∷ []) = false
lettered letter (x ∷ y ∷ s) = eqb y letter

-- lines with this letter stand at this place, and nothing with it behind them
pub record RunAt (letter at : ℕ) (ls : List (List ℕ)) (text : List ℕ) : Type 0 where
  pub lines : all is_line ls ≡ true
  pub letters : all (lettered letter) ls ≡ true
  pub rest : List ℕ
  pub stand : drop at text ≡ joined ls ++ rest
  pub ended : lettered letter rest ≡ false

-- lines with this letter are looked for from a place of the text on
pub record RunReady (text : List ℕ) (from letter : ℕ) : Type 0 where
  pub short : length text ≤ max_text
  pub inside : from ≤ length text
  pub some : 0 < letter

-- what is told of the lines with one letter: the place behind them, and how many they are
pub record Ran (letter from : ℕ) (text : List ℕ) (end count : ℕ) : Type 0 where
  pub inside : end ≤ length text
  pub ends : (ls : List (List ℕ)) → RunAt letter from ls text → end ≡ from + length (joined ls)
  pub counted : (ls : List (List ℕ)) → RunAt letter from ls text → count ≡ length ls
