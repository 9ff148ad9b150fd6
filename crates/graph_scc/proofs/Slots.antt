-- Gate i of a graph reads gate k exactly where one of its four slots has gate k's place. Cited by whoever walks a
-- graph's slots. Assumes nothing.
--   read-slot    a gate that is read has a slot
--   read-inside  a gate that is read is one of the graph
--   slot_read    a slot's gate is read
use Prim.Native.Nat.{ℕ, ◌+◌, ◌-◌, ◌≤◌, ◌<◌}
use mathlib.Core.Path.{◌≡◌, refl}
use mathlib.Core.Logic.{⊎_elim}
use mathlib.Core.Bool.{Bool, true, false, false≢true, cond}
use mathlib.Core.List.{List, []}
use native.Mathlib.Omega.{arith}
use lib.Dec.{eqb, ltb, leb}
use borrow.Author.Tests.{le-ltb, leb-true, ltb-false}
use Rattle.prelude.specs.Lists.{tab, joined, member}
use Rattle.prelude.proofs.Tests.{lt-or-le, and_right}
use Rattle.prelude.proofs.Tab.{length-tab, get_d-tab, map-tab}
use Rattle.prelude.proofs.Lists.{member-one, member-head}
use Rattle.netlist.specs.Netlist.{input, gate, constant, gate_of}
use Rattle.netlist.specs.Kinds.{signatures, signature_of, fewest_operands, most_operands, is_kind, arity_fits}
use Rattle.netlist.specs.Groups.{gate_operand, read_by, reads}
use Rattle.theory_reach.proofs.ListFacts.{joined-member, member-joined}
use Rattle.theory_encoding.proofs.Gates.{by_kind}
use Rattle.graph_gates.specs.Places.{first_gate, operand_at}
use Rattle.graph_gates.specs.Graph.{slots, count_at, kind_at, place_at, gate_at, gates_in, network, controlling_of}
use Rattle.graph_gates.specs.Graph.{operand_place, Graph}
use Rattle.graph_gates.proofs.Places.{operand_at-gate}

-- a gate has at most four operands
most-four : (k count : ℕ) → is_kind k ≡ true → arity_fits k count ≡ true → count ≤ slots
unfolding arity_fits most_operands fewest_operands signature_of signatures
most-four k count known fits =
    go k known count
    (leb-true count (most_operands k) (and_right (leb (fewest_operands k) count) (leb count (most_operands k)) fits))
  where
    go : (k : ℕ) → is_kind k ≡ true → (count : ℕ) → count ≤ most_operands k → count ≤ slots
    go = by_kind (λ k. (count : ℕ) → count ≤ most_operands k → count ≤ slots)
        (λ c l. omega arith) (λ c l. omega arith) (λ c l. omega arith) (λ c l. omega arith) (λ c l. omega arith)
        (λ c l. omega arith) (λ c l. omega arith)

-- an operand at a place that is a gate
gate-place : (p k : ℕ) → member k (gate_operand (operand_at p)) ≡ true → p ≡ first_gate + k
unfolding gate_operand operand_at
gate-place p k h = go (eqb p 0) (eqb p 1) (ltb p first_gate) refl h
  where
    go : (a b c : Bool) → ltb p first_gate ≡ c
        → member k (gate_operand (cond a (constant false)
        (cond b (constant true) (cond c (input (p - 2)) (gate (p - first_gate)))))) ≡ true
        → p ≡ first_gate + k
    go true b c e h = absurd (false≢true h)
    go false true c e h = absurd (false≢true h)
    go false false true e h = absurd (false≢true h)
    go false false false e h = let l = ltb-false p first_gate e in let q = member-one k (p - first_gate) h in omega arith

module _ {m : ℕ} {graph : List ℕ} (g : Graph m graph) (i : ℕ) (l : i < m) where
  gate-is : gate_of (network m graph) i ≡ gate_at graph i
  unfolding network gates_in
  gate-is = get_d-tab (gate_at graph) m i _ l

  read_is : read_by (network m graph) i
      ≡ joined (tab (λ s. gate_operand (operand_at (place_at graph i s))) (count_at graph i))
  unfolding read_by gate_at
  read_is = rw (gate-is, map-tab gate_operand (λ s. operand_at (place_at graph i s)) (count_at graph i)) refl

  pub read-slot : (k : ℕ) → reads (network m graph) i k ≡ true
      → (s : ℕ) × (s < slots) × (place_at graph i s ≡ first_gate + k)
  unfolding reads
  read-slot k h =
      let f = joined-member k (tab (λ s. gate_operand (operand_at (place_at graph i s))) (count_at graph i))
      (rw read_is at h) in
      let few : f.0 < count_at graph i = rw length-tab at f.1 in
      let four = most-four (kind_at graph i) (count_at graph i) (g.node i l).kind (g.node i l).count in
      (f.0, omega arith, gate-place (place_at graph i f.0) k (rw get_d-tab at f.2))

  pub slot_read : (s k : ℕ) → s < slots → place_at graph i s ≡ first_gate + k → reads (network m graph) i k ≡ true
  unfolding reads operand_place gate_at gate_operand
  slot_read s k sl e = ⊎_elim there (λ past. absurd (gone past)) (lt-or-le s (count_at graph i))
    where
      there : s < count_at graph i → member k (read_by (network m graph) i) ≡ true
      there few =
          rw read_is
          (member-joined k (tab (λ s. gate_operand (operand_at (place_at graph i s))) (count_at graph i)) s
          (rw (
            get_d-tab (λ s. gate_operand (operand_at (place_at graph i s))) (count_at graph i) s [] few,
            e,
            operand_at-gate k,
          ) (member-head k [])))

      gone : count_at graph i ≤ s → ⊥
      gone past =
          let p = (g.node i l).place s sl in
          let q : place_at graph i s ≡ 1 - controlling_of (kind_at graph i) =
          rw (length-tab, le-ltb s (count_at graph i) past) at p in
          omega arith

  pub read-inside : (k : ℕ) → reads (network m graph) i k ≡ true → k < m
  read-inside k h = let s = read-slot k h in omega (arith, (g.node i l).inside s.0 s.1, s.2)
