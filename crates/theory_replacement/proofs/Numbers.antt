-- The replaced netlist, gate by gate and output by output.
--   place_found                          a number that is in a list stands at its place
--   outside-member, outside-apart        the gates outside the group
--   gate-outside, gate-new               the gates by their new numbers
--   length-replaced, new_net-at           how many there are; the nets of the boundary
-- Assumes nothing.
use Prim.Native.Nat.{ℕ, ◌+◌, ◌≤◌, ◌<◌}
use mathlib.Core.Path.{◌≡◌, refl, sym, ap, ◌∙◌}
use mathlib.Core.Bool.{Bool, true, false, not}
use mathlib.Core.List.{List, [], map, ◌++◌}
use native.Mathlib.Omega.{arith}
use lib.ListN.{length, get_or, length-map, length-append, get_or-append}
use lib.Seq.{get_or-append-add}
use lib.Dec.{eqb}
use borrow.Author.Tests.{eqb-true, eq-eqb, not-true}
use Rattle.prelude.specs.Lists.{up_to, member, least}
use Rattle.prelude.proofs.Tests.{and_left, and_right, and_intro}
use Rattle.prelude.proofs.Least.{least_at}
use Rattle.prelude.proofs.Quantifiers.{member-at}
use Rattle.theory_reach.proofs.ListFacts.{member-up_to, up_to-below, member-keep, least-at-most}
use Rattle.theory_encoding.proofs.ListFacts.{get_d_map}
use Rattle.netlist.specs.Netlist.{constant, Gate, Output, Block, gate_count, output_count, gate_of}
use Rattle.netlist.specs.Gather.{number_at, place_in, renumbered}
use Rattle.theory_replacement.specs.Placing.{Cut, nodes, rewired}
use Rattle.theory_replacement.specs.Replaced.{outside, new_number, behind_outside, new_nets, new_operand, stand_in}
use Rattle.theory_replacement.specs.Replaced.{replaced}

-- a number that is in the list has a place there, and stands at it
pub place_found : (order : List ℕ) (j : ℕ) → member j order ≡ true
    → (place_in order j < length order) × (number_at order (place_in order j) ≡ j)
unfolding place_in number_at
place_found order j m =
    let (i, l, is) = member-at j order m in
    let stands : ℕ → Bool = λ t. eqb (get_or order t 0) j in
    let first : least stands (length order) ≤ i =
    least-at-most stands (length order) i (eq-eqb (get_or order i 0) j is) in
    (omega arith, eqb-true _ j (least_at stands (length order) (omega arith)))

-- where a test fails, its negation holds
pub false-not : (t : Bool) → t ≡ false → not t ≡ true
false-not true e = sym e
false-not false e = refl

module _ (b : Block) (cut : Cut) where
  -- a gate that is there and not in the group is outside,
  pub outside-member : (j : ℕ) → j < gate_count b → member j cut.gates ≡ false → member j (outside b cut) ≡ true
  unfolding outside
  outside-member j l m =
      member-keep (λ j. not (member j cut.gates)) (up_to (gate_count b)) j
      ∙ and_intro _ _ (member-up_to j (gate_count b) l) (false-not (member j cut.gates) m)

  -- a gate that is listed as outside is a gate and not of the group
  pub outside-apart : (j : ℕ) → member j (outside b cut) ≡ true → (j < gate_count b) × (member j cut.gates ≡ false)
  unfolding outside
  outside-apart j m =
      let h = sym (member-keep (λ j. not (member j cut.gates)) (up_to (gate_count b)) j) ∙ m in (
        up_to-below j (gate_count b) (and_left _ _ h),
        not-true (member j cut.gates)
            (and_right (member j (up_to (gate_count b))) _ h),
      )

  pub new_number-below : (j : ℕ) → j < gate_count b → member j cut.gates ≡ false
      → new_number b cut j < length (outside b cut)
  unfolding new_number
  new_number-below j l m = (place_found (outside b cut) j (outside-member j l m)).0

  pub new_number-back : (j : ℕ) → j < gate_count b → member j cut.gates ≡ false
      → get_or (outside b cut) (new_number b cut j) 0 ≡ j
  unfolding new_number number_at
  new_number-back j l m = (place_found (outside b cut) j (outside-member j l m)).1

  -- a net of the boundary by its new number
  pub new_net-at : (i : ℕ) → i < length cut.nets
      → get_or (new_nets b cut) i (constant false) ≡ renumbered (new_number b cut) (get_or cut.nets i (constant false))
  unfolding new_nets
  new_net-at i l = get_d_map (renumbered (new_number b cut)) cut.nets i (constant false) (constant false) l

  module _ (new : Block) where
    abbrev kept : List Gate
    kept = map (λ j. rewired (stand_in b cut new) (gate_of b j)) (outside b cut)

    abbrev added : List Gate
    added = map (rewired (new_operand b cut)) new.gates

    length-kept : length kept ≡ length (outside b cut)
    length-kept = length-map (outside b cut) (λ j. rewired (stand_in b cut new) (gate_of b j))

    pub length-replaced : gate_count (replaced b cut new) ≡ length (outside b cut) + gate_count new
    unfolding replaced
    length-replaced =
        length-append kept added ∙ rw (length-kept, length-map new.gates (rewired (new_operand b cut))) refl

    -- what stands at the number of a place outside,
    pub gate-kept : (p : ℕ) → p < length (outside b cut)
        → gate_of (replaced b cut new) p ≡ rewired (stand_in b cut new) (gate_of b (get_or (outside b cut) p 0))
    unfolding replaced
    gate-kept p l =
        get_or-append kept added (record { kind = 0; operands = [] }) p (rw length-kept l)
        ∙ get_d_map (λ j. rewired (stand_in b cut new) (gate_of b j)) (outside b cut) p 0
        (record { kind = 0; operands = [] }) l

    -- of a gate outside,
    pub gate-outside : (j : ℕ) → j < gate_count b → member j cut.gates ≡ false
        → gate_of (replaced b cut new) (new_number b cut j) ≡ rewired (stand_in b cut new) (gate_of b j)
    gate-outside j l m =
        gate-kept (new_number b cut j) (new_number-below j l m)
        ∙ ap (λ (k : ℕ). rewired (stand_in b cut new) (gate_of b k)) (new_number-back j l m)

    -- the new block's gates stand behind the outside gates
    pub gate-new : (t : ℕ) → t < gate_count new
        → gate_of (replaced b cut new) (behind_outside b cut t) ≡ rewired (new_operand b cut) (gate_of new t)
    unfolding replaced behind_outside
    gate-new t l =
        ap (λ (n : ℕ). get_or (kept ++ added) (n + t) (record { kind = 0; operands = [] })) (sym length-kept)
        ∙ get_or-append-add kept added t (record { kind = 0; operands = [] })
        ∙ get_d_map (rewired (new_operand b cut)) new.gates t (record { kind = 0; operands = [] })
        (record { kind = 0; operands = [] }) l

-- the outputs of the replaced netlist
pub outputs-replaced : (b : Block) (cut : Cut) (new : Block) → output_count (replaced b cut new) ≡ output_count b
unfolding replaced
outputs-replaced b cut new = length-map b.outputs _

pub node-replaced : (b : Block) (cut : Cut) (new : Block) (p : ℕ) → p < output_count b
    → get_or (nodes (replaced b cut new)) p (constant false) ≡ stand_in b cut new (get_or (nodes b) p (constant false))
unfolding nodes replaced
node-replaced b cut new p l =
    let none : Output = record { port = []; node = constant false } in
    let change : Output → Output = λ o. record { port = o.port; node = stand_in b cut new o.node } in
    get_d_map (λ (o : Output). o.node) (map change b.outputs) p none (constant false)
    (rw (length-map b.outputs change) l)
    ∙ ap (λ (o : Output). o.node) (get_d_map change b.outputs p none none l)
    ∙ ap (stand_in b cut new) (sym (get_d_map (λ (o : Output). o.node) b.outputs p none (constant false) l))
