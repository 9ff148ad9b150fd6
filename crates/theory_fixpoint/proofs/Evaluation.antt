-- A gate evaluated from a state: it grows with the gates that it reads, and depends on them alone. Cited by the laws on
-- rounds, steps and sweeps.
--   evaluated-mono*     grows with what the gate reads
--   evaluated-agree     depends on that alone
-- Assumes nothing.
use Prim.Native.Nat.{ℕ}
use mathlib.Core.Path.{◌≡◌, sym}
use mathlib.Core.Bool.{true}
use mathlib.Core.List.{List, [], ◌∷◌, map}
use lib.ListN.{get_or}
use Rattle.prelude.specs.Lists.{member, joined}
use Rattle.prelude.proofs.Lists.{member-head, member-rest}
use Rattle.netlist.specs.Values.{Value, undefined, val}
use Rattle.netlist.specs.Netlist.{Operand, input, gate, constant, Gate, Block, gate_of}
use Rattle.netlist.specs.Rounds.{operand_value, evaluated}
use Rattle.netlist.specs.Groups.{gate_operand, read_by, reads}
use Rattle.theory_fixpoint.specs.Order.{Below, BelowEach, none, more, BelowAll}
use Rattle.theory_fixpoint.proofs.Values.{below-refl, below-of-eq, below-antisym}
use Rattle.theory_fixpoint.proofs.Gates.{gate_value-mono}

module _ (x u w : List Value) where
  operands-below : (os : List Operand)
      → ((k : ℕ) → member k (joined (map gate_operand os)) ≡ true → Below (get_or u k undefined) (get_or w k undefined))
      → BelowEach (map (operand_value x u) os) (map (operand_value x w) os)
  unfolding operand_value gate_operand
  operands-below [] h = none
  operands-below (input i ∷ os) h = more (below-refl (get_or x i undefined)) (operands-below os h)
  operands-below (constant c ∷ os) h = more (below-refl (val c)) (operands-below os h)
  operands-below (gate j ∷ os) h =
      more (h j (member-head j (joined (map gate_operand os))))
      (operands-below os (λ k r. h k (member-rest k j (joined (map gate_operand os)) r)))

  -- A gate's value grows with the values of the gates among its operands.
  pub evaluated-mono-of : (g : Gate)
      → ((k : ℕ) → member k (joined (map gate_operand g.operands)) ≡ true
      → Below (get_or u k undefined) (get_or w k undefined))
      → Below (evaluated x u g) (evaluated x w g)
  unfolding evaluated
  evaluated-mono-of g h = gate_value-mono g.kind (operands-below g.operands h)

  -- Gate j's value grows with the values of the gates that it reads.
  pub evaluated-mono : (b : Block) (j : ℕ)
      → ((k : ℕ) → reads b j k ≡ true → Below (get_or u k undefined) (get_or w k undefined))
      → Below (evaluated x u (gate_of b j)) (evaluated x w (gate_of b j))
  unfolding reads read_by
  evaluated-mono b j h = evaluated-mono-of (gate_of b j) h

  -- A gate's value grows with the state.
  pub evaluated-mono-all : (g : Gate) → BelowAll u w → Below (evaluated x u g) (evaluated x w g)
  evaluated-mono-all g h = evaluated-mono-of g (λ k r. h k)

-- Gate j's value depends on the gates that it reads alone.
pub evaluated-agree : (x u w : List Value) (b : Block) (j : ℕ)
    → ((k : ℕ) → reads b j k ≡ true → get_or u k undefined ≡ get_or w k undefined)
    → evaluated x u (gate_of b j) ≡ evaluated x w (gate_of b j)
evaluated-agree x u w b j h =
    below-antisym (evaluated x u (gate_of b j)) (evaluated x w (gate_of b j))
    (evaluated-mono x u w b j (λ k r. below-of-eq (h k r)))
    (evaluated-mono x w u b j (λ k r. below-of-eq (sym (h k r))))
