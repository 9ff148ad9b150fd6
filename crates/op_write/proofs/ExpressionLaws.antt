-- The text of a gate's expression, from its first word. Cited by `lines::put_expression`. Assumes nothing.
use Prim.Native.Nat.{ℕ, ◌/◌, ◌%◌}
use mathlib.Core.Path.{◌≡◌, refl}
use mathlib.Core.List.{List, ◌++◌}
use lib.ListN.{get_or}
use Rattle.prelude.specs.Lists.{ascii}
use Rattle.netlist.specs.Kinds.{keyword}
use Rattle.text_pieces.specs.Pieces.{pieces}
use Rattle.op_write.specs.Lines.{item_text, expression_text}

-- the expression of a gate, from its first word
pub expression-of : (ws : List ℕ) (at head : ℕ) → head ≡ get_or ws at 0
    → expression_text ws at ≡ ascii "(" ++ (keyword (head % 8) ++ (pieces (item_text ws at) (head / 8) ++ ascii ")"))
unfolding expression_text
expression-of ws at head e = rw e refl
