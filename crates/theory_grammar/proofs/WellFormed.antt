-- What is known of each gate of a well-formed block. Cited by the laws of writing. Assumes nothing.
use Prim.Native.Nat.{ℕ, ◌≤◌, ◌<◌, zero-le}
use mathlib.Core.Path.{◌≡◌, refl}
use mathlib.Core.Bool.{true}
use mathlib.Core.List.{[]}
use mathlib.Core.Logic.{◌⊎◌, inl, inr}
use lib.ListN.{length, get_or-eq_default}
use Rattle.prelude.specs.Lists.{all}
use Rattle.prelude.proofs.Tests.{lt-or-le}
use Rattle.prelude.proofs.Quantifiers.{all-at}
use Rattle.netlist.specs.Kinds.{is_kind, arity_fits, most_operands}
use Rattle.netlist.specs.Netlist.{Gate, Block, gate_count, gate_of}
use Rattle.netlist.specs.StoredBlock.{is_operand, gate_fits}
use Rattle.theory_encoding.proofs.WellFormed.{WellFormed}
use Rattle.theory_grammar.proofs.ListFacts.{and3}
use Rattle.theory_grammar.proofs.CompleteTerms.{arity-bounds}

-- what is known of any gate; past the last one there is one that reads nothing
pub record GateFacts (b : Block) (g : Gate) : Type 0 where
  pub kind_legal : is_kind g.kind ≡ true
  pub few : length g.operands ≤ most_operands g.kind
  pub fit : all (is_operand b) g.operands ≡ true

pub gate-facts : (b : Block) → WellFormed b → (j : ℕ) → GateFacts b (gate_of b j)
unfolding gate_fits is_kind
gate-facts b w j = go (lt-or-le j (gate_count b))
  where
    go : (j < gate_count b) ⊎ (gate_count b ≤ j) → GateFacts b (gate_of b j)
    go (inl l) =
        let g = gate_of b j in
        let f = and3 (is_kind g.kind) (arity_fits g.kind (length g.operands)) (all (is_operand b) g.operands)
        (all-at (gate_fits b) b.gates j (record { kind = 0; operands = [] }) w.gates_fit l) in
        record { kind_legal = f.0; few = (arity-bounds g.kind (length g.operands) f.1).1; fit = f.2 }
    go (inr l) = rw (get_or-eq_default b.gates (record { kind = 0; operands = [] }) l)
        (record { kind_legal = refl; few = zero-le; fit = refl })
