-- The rendering as a block: it is straight, has as many gates as there are copies, the original's inputs and ports, and
-- is well-formed where the original is and there is room. Render's code cites it.
--   rendering-count                                        its gates are the copies
--   rendering-inputs, rendering-nevers, rendering-ports    names and never lines are kept
--   rendering-straight             it is straight
--   last_copies-*, rendering-node   what stands for each gate in the end, and what outputs show
--   rendering-well_formed           it is well-formed
-- Assumes nothing.
use Prim.Native.Nat.{ℕ, ◌+◌, ◌≤◌, ◌<◌}
use mathlib.Core.Path.{◌≡◌, refl, sym, ap, ◌∙◌}
use mathlib.Core.Bool.{true, false, false≢true, ◌&&◌}
use mathlib.Core.List.{List, [], ◌∷◌, map}
use native.Mathlib.Nat.{zero-add, le_trans}
use native.Mathlib.Omega.{arith}
use borrow.Author.Tests.{lt-ltb, ltb-true}
use lib.Dec.{ltb}
use lib.ListN.{length, get_or, take, length-map}
use lib.Seq.{length-take-le}
use Rattle.prelude.specs.Lists.{all}
use Rattle.prelude.proofs.Tests.{and_intro, and_left, and_right}
use Rattle.prelude.proofs.Quantifiers.{all-at, below_all}
use Rattle.netlist.specs.Limits.{max_copies}
use Rattle.netlist.specs.Netlist.{Operand, input, gate, constant, Gate, Output, Block, gate_count, output_count, gate_of}
use Rattle.netlist.specs.Kinds.{is_kind, arity_fits}
use Rattle.netlist.specs.StoredBlock.{is_node, is_operand, gate_fits, is_well_formed}
use Rattle.netlist.specs.Groups.{read_by}
use Rattle.netlist.specs.Passes.{copy_count}
use Rattle.netlist.specs.Rendering.{is_straight, schedule, no_copies, copied_operand, copied, last_copies, rendering}
use Rattle.theory_encoding.proofs.ListFacts.{get_d_map}
use Rattle.theory_encoding.proofs.WellFormed.{well_formed-parts, well_formed-interface}
use Rattle.theory_reach.specs.Inside.{Inside}
use Rattle.theory_reach.proofs.Inside.{well_formed-inside}
use Rattle.theory_reach.proofs.ListFacts.{all-intro}
use Rattle.theory_unrolling.specs.Copies.{IsCopy, AreCopies, newest_at}
use Rattle.theory_unrolling.proofs.Copies.{no_copies-are_copies, length-no_copies, length-newest_after}
use Rattle.theory_unrolling.proofs.Copies.{newest_after-are_copies, newest_after-copied, length-copies, get_d-copies}
use Rattle.theory_unrolling.proofs.Copies.{copied-reads}
use Rattle.theory_unrolling.proofs.Schedule.{length-schedule, member-schedule, schedule-below}

module _ (b : Block) where
  -- The rendering has as many gates as there are copies: the sum of g × passes.
  pub rendering-count : gate_count (rendering b) ≡ copy_count b
  unfolding rendering
  rendering-count = length-copies b (no_copies b) 0 (schedule b) ∙ length-schedule b

  -- The rendering has the original's inputs,
  pub rendering-inputs : (rendering b).inputs ≡ b.inputs
  unfolding rendering
  rendering-inputs = refl

  -- The rendering has the original's never lines.
  pub rendering-nevers : (rendering b).nevers ≡ b.nevers
  unfolding rendering
  rendering-nevers = refl

  -- The rendering has the original's ports, in order.
  pub rendering-ports : map (λ (o : Output). o.port) (rendering b).outputs
      ≡ map (λ (o : Output). o.port) b.outputs
  unfolding rendering
  rendering-ports = go b.outputs
    where
      go : (os : List Output)
          → map (λ (o : Output). o.port)
          (map (λ (o : Output). record { port = o.port; node = copied_operand (last_copies b) o.node }) os)
          ≡ map (λ (o : Output). o.port) os
      go [] = refl
      go (o ∷ os) = ap {B = List (List ℕ)} (λ r. o.port ∷ r) (go os)

  pub length-schedule-is : length (schedule b) ≡ gate_count (rendering b)
  length-schedule-is = length-schedule b ∙ sym rendering-count

  -- Gate j of the rendering is the copy of the gate scheduled at j.
  pub gate_of-rendering : (j : ℕ) → j < gate_count (rendering b)
      → gate_of (rendering b) j ≡ copied (newest_at b j) (gate_of b (get_or (schedule b) j 0))
  unfolding rendering newest_at
  gate_of-rendering j l =
      get_d-copies b (no_copies b) 0 (schedule b) j (record { kind = 0; operands = [] })
      (rw (length-copies b (no_copies b) 0 (schedule b)) at l)

  newest_at-are_copies : (j : ℕ) → j < gate_count (rendering b) → AreCopies j (newest_at b j)
  unfolding newest_at
  newest_at-are_copies j l =
      let e : 0 + length (take j (schedule b)) ≡ j =
      zero-add (length (take j (schedule b))) ∙ length-take-le j (schedule b) (rw length-schedule-is (omega arith)) in
      rw e at (newest_after-are_copies (no_copies b) 0 (take j (schedule b)) (no_copies-are_copies b))

  -- The rendering is straight.
  pub rendering-straight : is_straight (rendering b) ≡ true
  unfolding is_straight read_by
  rendering-straight =
      below_all (λ j. all (λ i. ltb i j) (read_by (rendering b) j)) (gate_count (rendering b))
      (λ j l. all-intro (λ i. ltb i j) (read_by (rendering b) j)
      (λ k m. lt-ltb k j
      (copied-reads j (newest_at b j) (newest_at-are_copies j l) (gate_of b (get_or (schedule b) j 0)) k
      (rw (gate_of-rendering j l) at m))))

  -- ---- the last copies

  pub length-last_copies : length (last_copies b) ≡ gate_count b
  unfolding last_copies
  length-last_copies = length-newest_after (no_copies b) 0 (schedule b) ∙ length-no_copies b

  -- What stands for a gate in the end is constant 0 or a gate of the rendering.
  pub last_copies-are_copies : AreCopies (gate_count (rendering b)) (last_copies b)
  unfolding last_copies
  last_copies-are_copies =
      let e : 0 + length (schedule b) ≡ gate_count (rendering b) = zero-add (length (schedule b)) ∙ length-schedule-is in
      rw e at (newest_after-are_copies (no_copies b) 0 (schedule b) (no_copies-are_copies b))

  -- Every gate has a last copy.
  pub last_copies-gate : Inside b → (j : ℕ) → j < gate_count b
      → (c : ℕ) × (c < gate_count (rendering b)) × (get_or (last_copies b) j (constant false) ≡ gate c)
  unfolding last_copies
  last_copies-gate inside j l =
      let r : (c : ℕ) × (get_or (last_copies b) j (constant false) ≡ gate c) =
      newest_after-copied (no_copies b) 0 (schedule b) j (rw (length-no_copies b) l) (member-schedule b inside j l) in
      (r.0, rw r.1 at (last_copies-are_copies j), r.1)

  -- ---- well-formed

  module _ (t : ℕ) (newest : List Operand) (h : AreCopies t newest) (room : t ≤ gate_count (rendering b)) where
    copy-fits : (o : Operand) → IsCopy t o → is_operand (rendering b) o ≡ true
    unfolding is_operand is_node
    copy-fits (input i) k = absurd k
    copy-fits (gate c) k = lt-ltb c (gate_count (rendering b)) (le_trans k room)
    copy-fits (constant c) k = refl

    operand-fits : (o : Operand) → is_operand b o ≡ true → is_operand (rendering b) (copied_operand newest o) ≡ true
    unfolding copied_operand is_operand is_node rendering
    operand-fits (input i) k = k
    operand-fits (gate j) k = copy-fits (get_or newest j (constant false)) (h j)
    operand-fits (constant c) k = refl

    operands-fit : (os : List Operand) → all (is_operand b) os ≡ true
        → all (is_operand (rendering b)) (map (copied_operand newest) os) ≡ true
    operands-fit [] k = refl
    operands-fit (o ∷ os) k =
        and_intro (is_operand (rendering b) (copied_operand newest o))
        (all (is_operand (rendering b)) (map (copied_operand newest) os))
        (operand-fits o (and_left (is_operand b o) (all (is_operand b) os) k))
        (operands-fit os (and_right (is_operand b o) (all (is_operand b) os) k))

    gate-fits : (g : Gate) → gate_fits b g ≡ true → gate_fits (rendering b) (copied newest g) ≡ true
    unfolding gate_fits copied
    gate-fits g k =
        rw (length-map g.operands (copied_operand newest))
        (and_intro (is_kind g.kind && arity_fits g.kind (length g.operands))
        (all (is_operand (rendering b)) (map (copied_operand newest) g.operands))
        (and_left (is_kind g.kind && arity_fits g.kind (length g.operands)) (all (is_operand b) g.operands) k)
        (operands-fit g.operands
        (and_right (is_kind g.kind && arity_fits g.kind (length g.operands))
        (all (is_operand b) g.operands) k)))

  node-fits : Inside b → (o : Operand) → is_node b o ≡ true
      → is_node (rendering b) (copied_operand (last_copies b) o) ≡ true
  unfolding is_node copied_operand rendering
  node-fits inside (input i) k = k
  node-fits inside (gate j) k =
      let r : (c : ℕ) × (c < gate_count (rendering b)) × (get_or (last_copies b) j (constant false) ≡ gate c) =
      last_copies-gate inside j (ltb-true j (gate_count b) k) in
      rw r.2 (lt-ltb r.0 (gate_count (rendering b)) r.1)
  node-fits inside (constant c) k = absurd (false≢true k)

  pub length-rendering-outputs : output_count (rendering b) ≡ output_count b
  unfolding rendering
  length-rendering-outputs =
      length-map b.outputs (λ (o : Output). record { port = o.port; node = copied_operand (last_copies b) o.node })

  -- Output i of the rendering shows what stands for the node that the original's shows.
  pub rendering-node : (i : ℕ) (d e : Output) → i < output_count b
      → (get_or (rendering b).outputs i d).node ≡ copied_operand (last_copies b) (get_or b.outputs i e).node
  unfolding rendering
  rendering-node i d e l =
      ap (λ (o : Output). o.node)
      (get_d_map (λ (o : Output). record { port = o.port; node = copied_operand (last_copies b) o.node }) b.outputs
      i e d l)

  -- The rendering of a well-formed block is well-formed, if there are not too many copies.
  pub rendering-well_formed : is_well_formed b ≡ true → copy_count b ≤ max_copies → is_well_formed (rendering b) ≡ true
  rendering-well_formed w few =
      well_formed-interface b (rendering b) w rendering-inputs rendering-nevers rendering-ports (rw rendering-count few)
      (λ j l.
      let s : j < length (schedule b) = rw length-schedule-is l in
      rw (gate_of-rendering j l)
      (gate-fits j (newest_at b j) (newest_at-are_copies j l) (omega arith) (gate_of b (get_or (schedule b) j 0))
      (all-at (gate_fits b) b.gates (get_or (schedule b) j 0) (record { kind = 0; operands = [] })
      (well_formed-parts b w).gates_fit (schedule-below b j s))))
      (λ i d l.
      let k : i < output_count b = rw length-rendering-outputs at l in
      rw (rendering-node i d d k)
      (node-fits (well_formed-inside b w) (get_or b.outputs i d).node
      (all-at (λ o. is_node b o.node) b.outputs i d (well_formed-parts b w).nodes_there k)))
