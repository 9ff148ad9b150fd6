-- The operands that a replacement has to do with: those of the new block, the nets that it uses, and what is seen of
-- the group outside it.
--   NewOperand, new-operand, new-node      an operand of the new block is there, and an input that it is is used
--   FreeNet, free-net, free-outside        a net that the new block uses is there, and does not depend on the group
--   Seen, seen-operand, seen-node          a gate of the group that is an operand outside it, or shown, is a port
-- Assumes nothing.
use Prim.Native.Nat.{ℕ, ◌<◌}
use mathlib.Core.Path.{◌≡◌, sym, ◌∙◌}
use mathlib.Core.Bool.{true, false}
use mathlib.Core.List.{[]}
use lib.ListN.{get_or}
use borrow.Author.Tests.{ltb-true}
use Rattle.prelude.specs.Lists.{member}
use Rattle.prelude.proofs.Tests.{not-true-false}
use Rattle.prelude.proofs.Lists.{member-head}
use Rattle.prelude.proofs.Quantifiers.{all-at, any-from}
use Rattle.theory_encoding.proofs.ListFacts.{get_d_map}
use Rattle.netlist.specs.Netlist.{Operand, input, gate, constant, Output, Block, input_count, gate_count, output_count}
use Rattle.netlist.specs.Netlist.{gate_of}
use Rattle.netlist.specs.StoredBlock.{is_node, is_operand}
use Rattle.netlist.specs.Groups.{stay, gate_operand}
use Rattle.theory_replacement.specs.Placing.{is_complete, nodes, Cut, uses_input, DependsOnNone}
use Rattle.theory_replacement.specs.Group.{is_shown}
use Rattle.theory_replacement.specs.Claim.{StandsAt, FitsAt}
use Rattle.theory_replacement.proofs.Rewired.{Among, among_reads, among-uses, node-uses, complete-operand}
use Rattle.theory_replacement.proofs.Rewired.{complete-node}

pub gate-there : (b : Block) (k : ℕ) → is_operand b (gate k) ≡ true → k < gate_count b
unfolding is_operand is_node
gate-there b k h = ltb-true k (gate_count b) h

pub input-there : (b : Block) (i : ℕ) → is_operand b (input i) ≡ true → i < input_count b
unfolding is_operand is_node
input-there b i h = ltb-true i (input_count b) h

-- ---- the new block's operands

pub record NewOperand (new : Block) (o : Operand) : Type 0 where
  pub there : is_operand new o ≡ true
  pub used : (i : ℕ) → o ≡ input i → uses_input new i ≡ true

module _ (new : Block) (complete : is_complete new ≡ true) where
  pub new-operand : (t : ℕ) (o : Operand) → Among o (gate_of new t).operands → NewOperand new o
  new-operand t o a =
      record { there = complete-operand new complete t o a; used = λ i e. among-uses new t i (rw e at a) }

  pub new-node : (p : ℕ) → p < output_count new → NewOperand new (get_or (nodes new) p (constant false))
  new-node p l = record { there = complete-node new complete p l; used = λ i e. node-uses new i p l e }

-- ---- the nets that it uses

pub record FreeNet (b : Block) (cut : Cut) (o : Operand) : Type 0 where
  pub there : is_operand b o ≡ true
  pub free : (k : ℕ) → o ≡ gate k → DependsOnNone b cut.gates k

-- a gate that does not depend on the group is not in it
pub free-outside : (b : Block) (cut : Cut) (k : ℕ) → DependsOnNone b cut.gates k → member k cut.gates ≡ false
free-outside b cut k d = not-true-false (member k cut.gates) (λ m. d k m stay)

pub free-net : (b : Block) (cut : Cut) (own new : Block) → StandsAt b cut own → FitsAt b cut new → (i : ℕ)
    → i < input_count new → uses_input new i ≡ true
    → FreeNet b cut (get_or cut.nets i (constant false))
free-net b cut own new stands fits i l u =
    record {
      there = all-at (is_operand b) cut.nets i (constant false) stands.nets (rw (← fits.inputs) l);
      free = λ k e. fits.independent i k u e;
    }

-- ---- what is seen of the group

pub record Seen (b : Block) (cut : Cut) (o : Operand) : Type 0 where
  pub there : is_operand b o ≡ true
  pub port : (k : ℕ) → o ≡ gate k → member k cut.gates ≡ true → member k cut.ports ≡ true

-- a gate that an output shows is shown
pub shown-node : (b : Block) (p k : ℕ) → p < output_count b → get_or (nodes b) p (constant false) ≡ gate k
    → is_shown b k ≡ true
unfolding is_shown nodes gate_operand
shown-node b p k l e =
    any-from (λ (o : Output). member k (gate_operand o.node)) b.outputs p
    (record { port = []; node = constant false }) l
    (rw (sym (get_d_map (λ (o : Output). o.node) b.outputs p (record { port = []; node = constant false })
    (constant false) l) ∙ e)
    (member-head k []))

module _ (b : Block) (cut : Cut) (own : Block) (whole : is_complete b ≡ true) (stands : StandsAt b cut own) where
  pub seen-operand : (j : ℕ) → member j cut.gates ≡ false → (o : Operand) → Among o (gate_of b j).operands
      → Seen b cut o
  seen-operand j m o a =
      record {
        there = complete-operand b whole j o a;
        port = λ k e. stands.is_read j k m
            (among_reads b j k (rw e at a));
      }

  pub seen-node : (p : ℕ) → p < output_count b → Seen b cut (get_or (nodes b) p (constant false))
  seen-node p l = record { there = complete-node b whole p l; port = λ k e. stands.is_shown k (shown-node b p k l e) }
