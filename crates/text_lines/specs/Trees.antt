-- The text of a tree, and its lines but the never lines: those of inputs, and behind never lines those of gates and
-- outputs.
use Rattle.std.specs.Prelude.{ℕ, ◌≡◌, Bool, true, false, cond, List, [], ◌∷◌, ◌++◌, map, eqb}
use Rattle.netlist.specs.Netlist.{Name}
use Rattle.netlist.specs.Syntax.{GateLine, OutputLine, Tree, print_input, print_gate, print_output, is_legal_tree, print}

unfoldable pub input_line_text : Name → List ℕ
input_line_text s = print_input s []

unfoldable pub gate_line_text : GateLine → List ℕ
gate_line_text g = print_gate g []

unfoldable pub output_line_text : OutputLine → List ℕ
output_line_text o = print_output o []

unfoldable pub input_lines : Tree → List (List ℕ)
input_lines t = map input_line_text t.inputs

unfoldable pub lines_behind : Tree → List (List ℕ)
lines_behind t = map gate_line_text t.gates ++ map output_line_text t.outputs

-- the text is this tree's, which is legal
pub record TextOf (t : Tree) (text : List ℕ) : Type 0 where
  pub legal : is_legal_tree t ≡ true
  pub printed : print t ≡ text

-- a list is empty; and a list is one line: an LF stands at its end, and nowhere before
abbrev pub is_empty : List ℕ → Bool
is_empty [] = true
is_empty (x ∷ xs) = false

abbrev pub is_line : List ℕ → Bool
is_line [] = false
is_line (x ∷ xs) = cond (eqb x 10) (is_empty xs) (is_line xs)
