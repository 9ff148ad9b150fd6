-- A straight block renders to itself: the record itself, so its words and its text too.
--   rendering-itself   the law
-- Assumes nothing.
use Prim.Native.Nat.{ℕ, zero, suc, ◌≤◌, ◌<◌}
use mathlib.Core.Path.{◌≡◌, refl, sym, ap, ◌∙◌}
use mathlib.Core.Logic.{⊎_elim}
use mathlib.Core.Bool.{true, false}
use mathlib.Core.List.{List, [], ◌∷◌, ◌++◌, map}
use native.Mathlib.Nat.{zero-add}
use native.Mathlib.Omega.{arith}
use borrow.Author.Tests.{ltb-true}
use lib.ListN.{get_or, set, take}
use lib.Seq.{take-suc, take-length, get_or-set_same, get_or-set_other}
use Rattle.prelude.specs.Lists.{all, member, joined, up_to}
use Rattle.prelude.proofs.Tests.{and_left, and_right, eq-or-ne}
use Rattle.prelude.proofs.Tab.{length-tab}
use Rattle.prelude.proofs.Lists.{member-head, member-rest}
use Rattle.netlist.specs.Netlist.{Operand, input, gate, constant, Gate, Output, Block, gate_count, gate_of}
use Rattle.netlist.specs.StoredBlock.{is_node, is_well_formed}
use Rattle.netlist.specs.Groups.{gate_operand, read_by, reads}
use Rattle.netlist.specs.Rendering.{is_straight, no_copies, copied_operand, copied, copies, newest_after, last_copies}
use Rattle.netlist.specs.Rendering.{rendering}
use Rattle.theory_encoding.proofs.WellFormed.{well_formed-parts}
use Rattle.theory_reach.proofs.Straight.{straight-reads}
use Rattle.theory_unrolling.proofs.Copies.{length-no_copies, length-newest_after, newest_after-snoc, copies-snoc}
use Rattle.theory_unrolling.proofs.Schedule.{schedule-straight}

-- where gates stand for themselves, the operands are kept,
operands-kept : (newest : List Operand) (os : List Operand)
    → ((k : ℕ) → member k (joined (map gate_operand os)) ≡ true → get_or newest k (constant false) ≡ gate k)
    → map (copied_operand newest) os ≡ os
unfolding copied_operand gate_operand
operands-kept newest [] h = refl
operands-kept newest (input i ∷ os) h = ap (λ (r : List Operand). input i ∷ r) (operands-kept newest os h)
operands-kept newest (constant c ∷ os) h = ap (λ (r : List Operand). constant c ∷ r) (operands-kept newest os h)
operands-kept newest (gate j ∷ os) h =
    rw (h j (member-head j (joined (map gate_operand os))))
    (ap (λ (r : List Operand). gate j ∷ r)
    (operands-kept newest os (λ k m. h k (member-rest k j (joined (map gate_operand os)) m))))

-- a gate whose operands' gates stand for themselves is its own copy
copied-kept : (newest : List Operand) (g : Gate)
    → ((k : ℕ) → member k (joined (map gate_operand g.operands)) ≡ true → get_or newest k (constant false) ≡ gate k)
    → copied newest g ≡ g
unfolding copied
copied-kept newest g h =
    ap (λ (os : List Operand). record { kind = g.kind; operands = os }) (operands-kept newest g.operands h)

module _ (b : Block) where
  -- after gates 0 .. t - 1 each stands for itself
  newest-up_to : (t : ℕ) → t ≤ gate_count b → (j : ℕ) → j < t
      → get_or (newest_after (no_copies b) 0 (up_to t)) j (constant false) ≡ gate j
  newest-up_to zero h j l = absurd (omega arith)
  newest-up_to (suc t) h j l =
      rw (newest_after-snoc (no_copies b) 0 (up_to t) t, length-tab (λ k. k) t, zero-add)
      (⊎_elim same (λ n. other n (newest-up_to t (omega arith) j (omega arith))) (eq-or-ne j t))
    where
      before : List Operand
      before = newest_after (no_copies b) 0 (up_to t)

      same : j ≡ t → get_or (set before t (gate t)) j (constant false) ≡ gate j
      same e = rw e (get_or-set_same before t (gate t) (constant false)
          (rw (length-newest_after (no_copies b) 0 (up_to t), length-no_copies b) h))

      other : (j ≡ t → ⊥) → get_or before j (constant false) ≡ gate j
          → get_or (set before t (gate t)) j (constant false) ≡ gate j
      other n e = get_or-set_other before t j (gate t) (constant false) n ∙ e

  module _ (s : is_straight b ≡ true) where
    -- the copies of gates 0 .. t - 1 are those gates
    copies-up_to : (t : ℕ) → t ≤ gate_count b → copies b (no_copies b) 0 (up_to t) ≡ take t b.gates
    unfolding copies reads read_by
    copies-up_to zero h = refl
    copies-up_to (suc t) h =
        copies-snoc b (no_copies b) 0 (up_to t) t
        ∙ ap (λ (r : List Gate). r ++ (copied (newest_after (no_copies b) 0 (up_to t)) (gate_of b t) ∷ []))
        (copies-up_to t (omega arith))
        ∙ ap (λ (g : Gate). take t b.gates ++ (g ∷ []))
        (copied-kept (newest_after (no_copies b) 0 (up_to t)) (gate_of b t)
        (λ k m. newest-up_to t (omega arith) k (straight-reads b s t k m)))
        ∙ sym (take-suc b.gates t (record { kind = 0; operands = [] }) h)

    gates-kept : (rendering b).gates ≡ b.gates
    unfolding rendering
    gates-kept =
        ap (copies b (no_copies b) 0) (schedule-straight b s) ∙ copies-up_to (gate_count b) (omega arith)
        ∙ take-length b.gates

    node_kept : (o : Operand) → is_node b o ≡ true → copied_operand (last_copies b) o ≡ o
    unfolding copied_operand last_copies is_node
    node_kept (input i) h = refl
    node_kept (constant c) h = refl
    node_kept (gate j) h =
        rw (schedule-straight b s) (newest-up_to (gate_count b) (omega arith) j (ltb-true j (gate_count b) h))

    outputs-kept : (os : List Output) → all (λ o. is_node b o.node) os ≡ true
        → map (λ (o : Output). record { port = o.port; node = copied_operand (last_copies b) o.node }) os ≡ os
    outputs-kept [] h = refl
    outputs-kept (o ∷ os) h =
        rw (
          node_kept o.node (and_left (is_node b o.node) (all (λ o. is_node b o.node) os) h),
          outputs-kept os (and_right (is_node b o.node) (all (λ o. is_node b o.node) os) h),
        )

    -- A straight block whose outputs show nodes that are there renders to itself.
    pub rendering-itself-of : all (λ o. is_node b o.node) b.outputs ≡ true → rendering b ≡ b
    unfolding rendering
    rendering-itself-of h =
        ap (λ (gs : List Gate). record {
          inputs = b.inputs;
          nevers = b.nevers;
          gates = gs;
          outputs = (rendering b).outputs;
        }) gates-kept
        ∙ ap (λ (os : List Output). record {
          inputs = b.inputs;
          nevers = b.nevers;
          gates = b.gates;
          outputs = os;
        }) (outputs-kept b.outputs h)

  -- A straight block renders to itself,
  pub rendering-itself : is_well_formed b ≡ true → is_straight b ≡ true → rendering b ≡ b
  rendering-itself w s = rendering-itself-of s (well_formed-parts b w).nodes_there
