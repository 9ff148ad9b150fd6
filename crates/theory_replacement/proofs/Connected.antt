-- The boundary of a strongly connected group does not depend on the group: a net of it that did would be in the group.
--   boundary-apart, boundary-read   a gate of the boundary is outside the group, and a gate of the group reads it
--   connected-free                  so it depends on no gate of a strongly connected group
-- Assumes nothing.
use Prim.Native.Nat.{ℕ, ◌≤◌, ◌<◌}
use mathlib.Core.Path.{◌≡◌, refl, ◌∙◌}
use mathlib.Core.Logic.{⊎_elim}
use mathlib.Core.Bool.{Bool, true, false, cond}
use mathlib.Core.List.{List, [], ◌∷◌}
use native.Mathlib.Omega.{arith}
use lib.ListN.{length, get_or, get_or-eq_default}
use borrow.Author.Tests.{ltb-true, not-true}
use Rattle.prelude.specs.Lists.{all, any, keep, member}
use Rattle.prelude.proofs.Tests.{lt-or-le, not-both, and_left, and_right, and_intro}
use Rattle.prelude.proofs.Lists.{member-head, member-rest}
use Rattle.prelude.proofs.Quantifiers.{all-at, all_from, all_append, any_at, any-from, member-from, member-at}
use Rattle.netlist.specs.Netlist.{Operand, input, gate, constant, Block, gate_count, gate_of}
use Rattle.netlist.specs.StoredBlock.{is_node, is_operand}
use Rattle.netlist.specs.Groups.{reads, reaches, same_group, group_of}
use Rattle.theory_reach.proofs.Reach.{path-reaches, reaches-trans, reaches-reads}
use Rattle.theory_reach.proofs.SameGroup.{group_of-member, group_of-same, group_of-below}
use Rattle.theory_replacement.specs.Placing.{is_complete, DependsOnNone}
use Rattle.theory_replacement.specs.Group.{is_outside_net, operands_of, boundary}
use Rattle.theory_replacement.proofs.Rewired.{Among, among_reads}
use Rattle.theory_replacement.proofs.Own.{all_keep, all_first, boundary-there}

-- what is kept passes
keep-passes : (test : Operand → Bool) (os : List Operand) → all test (keep test os) ≡ true
keep-passes test [] = refl
keep-passes test (o ∷ os) = go (test o) refl (keep-passes test os)
  where
    go : (u : Bool) → test o ≡ u → all test (keep test os) ≡ true
        → all test (cond u (o ∷ keep test os) (keep test os)) ≡ true
    go true e r = and_intro (test o) _ e r
    go false e r = r

module _ (b : Block) (group : List ℕ) where
  -- the gate among the operands, if it is one, is read by a gate of the group
  read_inside : Operand → Bool
  read_inside (input i) = true
  read_inside (gate k) = any (λ g. reads b g k) group
  read_inside (constant c) = true

  operands-read : (js : List ℕ) → ((j : ℕ) → member j js ≡ true → member j group ≡ true)
      → all read_inside (operands_of b js) ≡ true
  unfolding operands_of read_inside
  operands-read [] h = refl
  operands-read (j ∷ js) h =
      all_append read_inside (gate_of b j).operands (operands_of b js)
      ∙ and_intro _ _
      (all_from read_inside (gate_of b j).operands (constant false)
      (λ i l. each (get_or (gate_of b j).operands i (constant false)) (record { place = i; there = l; is = refl })))
      (operands-read js (λ i m. h i (member-rest i j js m)))
    where
      each : (o : Operand) → Among o (gate_of b j).operands → read_inside o ≡ true
      each (input i) a = refl
      each (gate k) a =
          let (t, l, is) = member-at j group (h j (member-head j js)) in
          any-from (λ g. reads b g k) group t 0 l (rw is (among_reads b j k a))
      each (constant c) a = refl

  -- a gate of the boundary is outside the group,
  pub boundary-apart : (i k : ℕ) → i < length (boundary b group) → get_or (boundary b group) i (constant false) ≡ gate k
      → member k group ≡ false
  unfolding boundary is_outside_net
  boundary-apart i k l e =
      not-true (member k group)
      (rw e at
      (all-at (is_outside_net group) (boundary b group) i (constant false)
      (all_first (is_outside_net group) _ (keep-passes (is_outside_net group) (operands_of b group))) l))

  -- a gate of the group reads each net of its boundary
  pub boundary-read : (i k : ℕ) → i < length (boundary b group) → get_or (boundary b group) i (constant false) ≡ gate k
      → (g : ℕ) × (member g group ≡ true) × (reads b g k ≡ true)
  unfolding boundary read_inside
  boundary-read i k l e =
      let h : read_inside (gate k) ≡ true =
      rw e at
      (all-at read_inside (boundary b group) i (constant false)
      (all_first read_inside _
      (all_keep (is_outside_net group) read_inside (operands_of b group) (operands-read group (λ j m. m)))) l) in
      let (t, m, r) = any_at (λ g. reads b g k) group 0 h in
      (get_or group t 0, member-from _ group t m refl, r)

  pub boundary-gate : is_complete b ≡ true → (i k : ℕ) → i < length (boundary b group)
      → get_or (boundary b group) i (constant false) ≡ gate k → k < gate_count b
  unfolding is_operand is_node
  boundary-gate whole i k l e =
      let h : is_operand b (gate k) ≡ true =
      rw e at (all-at (is_operand b) (boundary b group) i (constant false) (boundary-there b group whole) l) in
      ltb-true k (gate_count b) h

-- a net that is a gate is there: past the end there is none
pub net-there : (nets : List Operand) (i k : ℕ) → get_or nets i (constant false) ≡ gate k → i < length nets
net-there nets i k e = ⊎_elim (λ l. l) (λ l. absurd (past l)) (lt-or-le i (length nets))
  where
    past : length nets ≤ i → ⊥
    past l =
        let d : get_or nets i (constant false) ≡ constant false = get_or-eq_default nets (constant false) {n = i} l in
        let z : ◌≡◌ {A = ℕ} 0 1 = cc in omega arith

-- No net of a strongly connected group's boundary depends on the group.
pub connected-free : (b : Block) (j : ℕ) → is_complete b ≡ true → (i k : ℕ)
    → get_or (boundary b (group_of b j)) i (constant false) ≡ gate k → DependsOnNone b (group_of b j) k
unfolding same_group
connected-free b j whole i k e n m path =
    let l : i < length (boundary b (group_of b j)) = net-there (boundary b (group_of b j)) i k e in
    let (g, in_group, r) = boundary-read b (group_of b j) i k l e in
    let there : k < gate_count b = boundary-gate b (group_of b j) whole i k l e in
    let to_g : reaches b j g ≡ true = and_left _ _ (group_of-same b j g in_group) in
    let to_k : reaches b j k ≡ true = reaches-reads b j g k to_g r there in
    let to_n : reaches b k n ≡ true = path-reaches b k n (group_of-below b j n m) path in
    let back : reaches b n j ≡ true = and_right (reaches b j n) _ (group_of-same b j n m) in
    not-both (group_of-member b j k (and_intro (reaches b j k) _ to_k (reaches-trans b k n j to_n back)))
    (boundary-apart b (group_of b j) i k l e)
