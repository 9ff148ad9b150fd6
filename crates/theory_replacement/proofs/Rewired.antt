-- Gates whose operands are changed one by one, and the operands that a block's gates and outputs have.
--   Among                                  an operand stands in a list of operands
--   evaluated-up, evaluated-down           a gate's value grows with its operands' values, before and after the change
--   among_reads, among-uses, node-uses     what a gate reads, and what a block uses
--   complete-operand, -node, -from         in a complete block these are there, and in no other
-- Assumes nothing.
use Prim.Native.Nat.{ℕ, zero, suc, ◌≤◌, ◌<◌}
use mathlib.Core.Path.{◌≡◌, refl, sym, ap, ◌∙◌}
use mathlib.Core.Logic.{⊎_elim}
use mathlib.Core.Bool.{true, false}
use mathlib.Core.List.{List, [], ◌∷◌, map}
use native.Mathlib.Omega.{arith}
use lib.ListN.{length, get_or, length-map, get_or-eq_default}
use borrow.Author.Tests.{eq-eqb}
use Rattle.prelude.specs.Lists.{all, any, member, joined}
use Rattle.prelude.proofs.Tests.{and_left, and_right, and_intro, or_left, or_right, lt-or-le}
use Rattle.prelude.proofs.Lists.{member-head, member_right}
use Rattle.prelude.proofs.Quantifiers.{all-at, all_from, any-from}
use Rattle.theory_encoding.proofs.ListFacts.{get_d_map}
use Rattle.netlist.specs.Values.{Value}
use Rattle.netlist.specs.Netlist.{Operand, input, gate, constant, Gate, Output, Block, gate_count, output_count, gate_of}
use Rattle.netlist.specs.StoredBlock.{is_operand}
use Rattle.netlist.specs.Rounds.{operand_value, evaluated}
use Rattle.netlist.specs.Groups.{gate_operand, read_by, reads}
use Rattle.theory_fixpoint.specs.Order.{Below, BelowEach, none, more}
use Rattle.theory_fixpoint.proofs.Gates.{gate_value-mono}
use Rattle.theory_replacement.specs.Placing.{is_complete, nodes, rewired, is_input, uses_input}

-- the operand stands at some place of the list
pub record Among (o : Operand) (os : List Operand) : Type 0 where
  pub place : ℕ
  pub there : place < length os
  pub is : get_or os place (constant false) ≡ o

pub among_first : (o : Operand) (os : List Operand) → Among o (o ∷ os)
among_first o os = record { place = 0; there = omega arith; is = refl }

pub among_later : (o p : Operand) (os : List Operand) → Among o os → Among o (p ∷ os)
among_later o p os a = let l = a.there in record { place = suc a.place; there = omega arith; is = a.is }

-- ---- values

module _ (x u y w : List Value) (change : Operand → Operand) where
  values-up : (os : List Operand)
      → ((o : Operand) → Among o os → Below (operand_value x u o) (operand_value y w (change o)))
      → BelowEach (map (operand_value x u) os) (map (operand_value y w) (map change os))
  values-up [] h = none
  values-up (o ∷ os) h = more (h o (among_first o os)) (values-up os (λ p a. h p (among_later p o os a)))

  values-down : (os : List Operand)
      → ((o : Operand) → Among o os → Below (operand_value y w (change o)) (operand_value x u o))
      → BelowEach (map (operand_value y w) (map change os)) (map (operand_value x u) os)
  values-down [] h = none
  values-down (o ∷ os) h = more (h o (among_first o os)) (values-down os (λ p a. h p (among_later p o os a)))

  -- Where each operand's value is below that of what stands for it, so is the gate's value.
  pub evaluated-up : (g : Gate)
      → ((o : Operand) → Among o g.operands → Below (operand_value x u o) (operand_value y w (change o)))
      → Below (evaluated x u g) (evaluated y w (rewired change g))
  unfolding evaluated rewired
  evaluated-up g h = gate_value-mono g.kind (values-up g.operands h)

  -- Where the value of what stands for each operand is below the operand's, the rewired gate's value is below the
  -- gate's.
  pub evaluated-down : (g : Gate)
      → ((o : Operand) → Among o g.operands → Below (operand_value y w (change o)) (operand_value x u o))
      → Below (evaluated y w (rewired change g)) (evaluated x u g)
  unfolding evaluated rewired
  evaluated-down g h = gate_value-mono g.kind (values-down g.operands h)

-- ---- operands of a block

reads_at : (os : List Operand) (i k : ℕ) → i < length os → get_or os i (constant false) ≡ gate k
    → member k (joined (map gate_operand os)) ≡ true
unfolding gate_operand
reads_at [] i k l e = absurd (omega arith)
reads_at (o ∷ os) zero k l e = rw e (member-head k (joined (map gate_operand os)))
reads_at (o ∷ os) (suc i) k l e =
    member_right k (gate_operand o) (joined (map gate_operand os)) (reads_at os i k (omega arith) e)

module _ (b : Block) where
  -- A gate reads the gates among its operands.
  pub among_reads : (j k : ℕ) → Among (gate k) (gate_of b j).operands → reads b j k ≡ true
  unfolding reads read_by
  among_reads j k a = reads_at (gate_of b j).operands a.place k a.there a.is

  -- What stands in a gate, that gate is there.
  pub among_below : (j : ℕ) (o : Operand) → Among o (gate_of b j).operands → j < gate_count b
  among_below j o a = ⊎_elim (λ l. l) (λ l. absurd (past l a.there)) (lt-or-le j (gate_count b))
    where
      past : gate_count b ≤ j → a.place < length (gate_of b j).operands → ⊥
      past l m =
          let e : gate_of b j ≡ record { kind = 0; operands = [] } =
          get_or-eq_default b.gates (record { kind = 0; operands = [] }) {n = j} l in
          let z : length (gate_of b j).operands ≡ 0 = ap (λ (g : Gate). length g.operands) e in
          omega arith

  -- A block uses the inputs among its gates' operands
  pub among-uses : (j i : ℕ) → Among (input i) (gate_of b j).operands → uses_input b i ≡ true
  unfolding uses_input is_input
  among-uses j i a =
      or_left _ _
      (any-from (λ (g : Gate). any (is_input i) g.operands) b.gates j (record { kind = 0; operands = [] })
      (among_below j (input i) a)
      (any-from (is_input i) (gate_of b j).operands a.place (constant false) a.there
      (rw a.is (eq-eqb i i refl))))

  -- A block uses the inputs that its outputs show.
  pub node-uses : (i p : ℕ) → p < output_count b → get_or (nodes b) p (constant false) ≡ input i → uses_input b i ≡ true
  unfolding uses_input is_input nodes
  node-uses i p l e =
      or_right (any (λ (g : Gate). any (is_input i) g.operands) b.gates) _
      (any-from (λ (o : Output). is_input i o.node) b.outputs p (record { port = []; node = constant false }) l
      (rw (sym (get_d_map (λ (o : Output). o.node) b.outputs p (record { port = []; node = constant false })
      (constant false) l) ∙ e)
      (eq-eqb i i refl)))

  pub length-nodes : length (nodes b) ≡ output_count b
  unfolding nodes
  length-nodes = length-map b.outputs (λ (o : Output). o.node)

  module _ (complete : is_complete b ≡ true) where
    -- In a complete block the operands of a gate are there,
    pub complete-operand : (j : ℕ) (o : Operand) → Among o (gate_of b j).operands → is_operand b o ≡ true
    unfolding is_complete
    complete-operand j o a =
        rw (← a.is)
        (all-at (is_operand b) (gate_of b j).operands a.place (constant false)
        (all-at (λ (g : Gate). all (is_operand b) g.operands) b.gates j (record { kind = 0; operands = [] })
        (and_left _ _ complete) (among_below j o a))
        a.there)

    -- In a complete block what the outputs show is there.
    pub complete-node : (p : ℕ) → p < output_count b → is_operand b (get_or (nodes b) p (constant false)) ≡ true
    unfolding is_complete nodes
    complete-node p l =
        rw (get_d_map (λ (o : Output). o.node) b.outputs p (record { port = []; node = constant false })
        (constant false) l)
        (all-at (λ (o : Output). is_operand b o.node) b.outputs p (record { port = []; node = constant false })
        (and_right (all (λ (g : Gate). all (is_operand b) g.operands) b.gates) _ complete) l)

-- A block in which these are there is complete.
pub complete-from : (b : Block) → ((j : ℕ) (o : Operand) → Among o (gate_of b j).operands → is_operand b o ≡ true)
    → ((p : ℕ) → p < output_count b → is_operand b (get_or (nodes b) p (constant false)) ≡ true) → is_complete b ≡ true
unfolding is_complete nodes
complete-from b gates outputs =
    let none : Output = record { port = []; node = constant false } in
    and_intro _ _
    (all_from (λ (g : Gate). all (is_operand b) g.operands) b.gates (record { kind = 0; operands = [] })
    (λ j l. all_from (is_operand b) (gate_of b j).operands (constant false)
    (λ i k. gates j _ (record { place = i; there = k; is = refl }))))
    (all_from (λ (o : Output). is_operand b o.node) b.outputs none
    (λ p l. rw (get_d_map (λ (o : Output). o.node) b.outputs p none (constant false) l) at (outputs p l)))
