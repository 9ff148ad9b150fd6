-- A block that stands in a netlist settles there as it does by itself, under the values that its nets have: the least
-- fixpoint of the whole is, on the block's gates, the least fixpoint of the block with the rest held at its settled
-- values.
--   Stands                      each gate of the block, put in place, is the netlist's gate
--   gates-settled               its gates have there the settled values that they have by themselves
--   operand-settled             and so have its operands
-- Assumes nothing.
use Prim.Native.Nat.{ℕ, zero, suc, ◌<◌}
use mathlib.Core.Path.{◌≡◌, refl, sym, ap, ◌∙◌}
use mathlib.Core.Bool.{true, false}
use mathlib.Core.List.{List}
use lib.ListN.{length, get_or}
use borrow.Author.Tests.{ltb-true}
use Rattle.prelude.specs.Lists.{tab}
use Rattle.prelude.proofs.Tab.{get_d-tab}
use Rattle.theory_encoding.proofs.ListFacts.{get_d_map}
use Rattle.netlist.specs.Values.{Value, undefined, val}
use Rattle.netlist.specs.Netlist.{Operand, input, gate, constant, Block, input_count, gate_count, gate_of}
use Rattle.netlist.specs.StoredBlock.{is_node, is_operand}
use Rattle.netlist.specs.Rounds.{operand_value, evaluated, after_rounds, rounds, settled}
use Rattle.theory_fixpoint.specs.Order.{Below}
use Rattle.theory_fixpoint.proofs.Values.{below-of-undefined, below-of-eq, below-refl, below-trans, below-antisym}
use Rattle.theory_fixpoint.proofs.ListFacts.{get_d-replicate-default}
use Rattle.theory_fixpoint.proofs.Rounds.{get_d-round, evaluated-settled}
use Rattle.theory_fixpoint.proofs.LeastState.{settled-below-all, after_rounds-below-settled}
use Rattle.theory_replacement.specs.Placing.{is_complete, rewired, in_place, net_values}
use Rattle.theory_replacement.proofs.Rewired.{evaluated-up, evaluated-down, complete-operand}

-- block h stands in netlist b, with its inputs at these nets and its gates at these numbers
pub record Stands (b : Block) (nets : List Operand) (number : ℕ → ℕ) (h : Block) : Type 0 where
  pub complete : is_complete h ≡ true
  pub inputs : input_count h ≡ length nets
  pub gates : (t : ℕ) → t < gate_count h → gate_of b (number t) ≡ rewired (in_place nets number) (gate_of h t)

module _ (b : Block) (x : List Value) (nets : List Operand) (number : ℕ → ℕ) (h : Block)
    (s : Stands b nets number h) where
  -- the values at its inputs
  abbrev y : List Value
  y = net_values b x nets

  -- the netlist's settled values at its gates
  abbrev u : List Value
  u = tab (λ t. get_or (settled b x) (number t) undefined) (gate_count h)

  input-same : (i : ℕ) → i < input_count h
      → get_or y i undefined ≡ operand_value x (settled b x) (get_or nets i (constant false))
  unfolding net_values
  input-same i l = get_d_map (operand_value x (settled b x)) nets i (constant false) undefined (rw (← s.inputs) l)

  operand_same : (o : Operand) → is_operand h o ≡ true
      → operand_value y u o ≡ operand_value x (settled b x) (in_place nets number o)
  unfolding operand_value in_place is_operand is_node
  operand_same (input i) l = input-same i (ltb-true i (input_count h) l)
  operand_same (gate t) l =
      get_d-tab (λ t. get_or (settled b x) (number t) undefined) (gate_count h) t undefined (ltb-true t (gate_count h) l)
  operand_same (constant c) l = refl

  -- ---- its own settled values are not above those in place,

  u-above : (t : ℕ) → t < gate_count h → Below (evaluated y u (gate_of h t)) (get_or u t undefined)
  u-above t l =
      below-trans
      (evaluated-up y u x (settled b x) (in_place nets number) (gate_of h t)
      (λ o a. below-of-eq (operand_same o (complete-operand h s.complete t o a))))
      (below-of-eq
      (ap (evaluated x (settled b x)) (sym (s.gates t l)) ∙ evaluated-settled b x (number t)
      ∙ sym (get_d-tab (λ t. get_or (settled b x) (number t) undefined) (gate_count h) t undefined l)))

  own_below : (t : ℕ) → t < gate_count h
      → Below (get_or (settled h y) t undefined) (get_or (settled b x) (number t) undefined)
  own_below t l =
      below-trans (settled-below-all h y u u-above t)
      (below-of-eq (get_d-tab (λ t. get_or (settled b x) (number t) undefined) (gate_count h) t undefined l))

  -- ---- and not below them: no round in place gets above them

  module _ (r : ℕ)
      (before : (t : ℕ) → t < gate_count h
      → Below (get_or (after_rounds b x r) (number t) undefined) (get_or (settled h y) t undefined)) where
    net-below : (o : Operand) → Below (operand_value x (after_rounds b x r) o) (operand_value x (settled b x) o)
    unfolding operand_value
    net-below (input i) = below-refl (get_or x i undefined)
    net-below (gate j) = after_rounds-below-settled b x r j
    net-below (constant c) = below-refl (val c)

    operand_below : (o : Operand) → is_operand h o ≡ true
        → Below (operand_value x (after_rounds b x r) (in_place nets number o)) (operand_value y (settled h y) o)
    unfolding operand_value in_place is_operand is_node
    operand_below (input i) l =
        below-trans (net-below (get_or nets i (constant false)))
        (below-of-eq (sym (input-same i (ltb-true i (input_count h) l))))
    operand_below (gate t) l = before t (ltb-true t (gate_count h) l)
    operand_below (constant c) l = below-refl (val c)

    next-below : (t : ℕ) → t < gate_count h
        → Below (evaluated x (after_rounds b x r) (gate_of b (number t))) (get_or (settled h y) t undefined)
    next-below t l =
        rw (s.gates t l)
        (below-trans
        (evaluated-down y (settled h y) x (after_rounds b x r) (in_place nets number) (gate_of h t)
        (λ o a. operand_below o (complete-operand h s.complete t o a)))
        (below-of-eq (evaluated-settled h y t)))

  rounds-below : (r t : ℕ) → t < gate_count h
      → Below (get_or (after_rounds b x r) (number t) undefined) (get_or (settled h y) t undefined)
  unfolding after_rounds
  rounds-below zero t l =
      below-of-undefined (get_or (settled h y) t undefined) (get_d-replicate-default (gate_count b) (number t) undefined)
  rounds-below (suc r) t l = rw (get_d-round b x (after_rounds b x r) (number t)) (next-below r (rounds-below r) t l)

  -- Each gate of the block has its own settled value in place.
  pub gates-settled : (t : ℕ) → t < gate_count h
      → get_or (settled h y) t undefined ≡ get_or (settled b x) (number t) undefined
  unfolding settled
  gates-settled t l = below-antisym _ _ (own_below t l) (rounds-below (rounds b x) t l)

  -- So has each of its operands.
  pub operand-settled : (o : Operand) → is_operand h o ≡ true
      → operand_value y (settled h y) o ≡ operand_value x (settled b x) (in_place nets number o)
  unfolding operand_value in_place is_operand is_node
  operand-settled (input i) l = input-same i (ltb-true i (input_count h) l)
  operand-settled (gate t) l = gates-settled t (ltb-true t (gate_count h) l)
  operand-settled (constant c) l = refl
