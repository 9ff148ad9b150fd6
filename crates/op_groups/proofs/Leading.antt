-- Leaders: each is its group's lowest gate, and when a group that a gate leads may be next. Assumes nothing.
use mathlib.Core.Path.{◌≡◌, refl, sym, ap, ◌∙◌}
use mathlib.Core.Logic.{inl, inr, ⊎_elim}
use mathlib.Core.Bool.{true, false, not}
use mathlib.Core.List.{List}
use Prim.Native.Nat.{ℕ, ◌≤◌, ◌<◌}
use native.Mathlib.Omega.{arith}
use lib.ListN.{get_or}
use lib.Dec.{eqb}
use borrow.Author.Tests.{eqb-true, eq-eqb, not-false}
use Rattle.prelude.specs.Lists.{up_to, member}
use Rattle.prelude.proofs.Tests.{bool_cases, same_test, and_left, not-both, not-true-false}
use Rattle.netlist.specs.Netlist.{gate_count}
use Rattle.netlist.specs.Groups.{reads, same_group, group_of, may_be_next}
use Rattle.theory_reach.specs.Inside.{Inside}
use Rattle.theory_reach.proofs.Reach.{reads-below}
use Rattle.theory_reach.proofs.ListFacts.{member-keep, member-up_to, up_to-below}
use Rattle.theory_reach.proofs.SameGroup.{group_of-member, group_of-same, group_of-below}
use Rattle.theory_reach.proofs.Next.{ready-reads, ready-intro, may_be_next-intro, may_be_next-ready}
use Rattle.graph_gates.specs.Graph.{network}
use Rattle.graph_gates.proofs.Network.{network-count}
use Rattle.graph_scc.proofs.Slots.{read-inside}
use Rattle.graph_scc.proofs.Leader.{leaders-same, leader-le, leader-same}
use Rattle.op_groups.specs.Numbering.{unnumbered, numbered_gates, NumberReady}

-- the numbered gates are those that are not unnumbered
pub done-member : (m : ℕ) (numbers : List ℕ) (k : ℕ) → k < m
    → member k (numbered_gates m numbers) ≡ not (unnumbered numbers k)
unfolding numbered_gates
done-member m numbers k l = rw (member-keep (λ j. not (unnumbered numbers j)) (up_to m) k, member-up_to k m l) refl

pub done_below : (m : ℕ) (numbers : List ℕ) (k : ℕ) → member k (numbered_gates m numbers) ≡ true → k < m
unfolding numbered_gates
done_below m numbers k h =
    up_to-below k m (and_left (member k (up_to m)) (not (unnumbered numbers k))
    (sym (member-keep (λ j. not (unnumbered numbers j)) (up_to m) k) ∙ h))

-- ---- leaders

module _ {m : ℕ} {graph : List ℕ} {leaders : List ℕ} (r : NumberReady m graph leaders) where
  pub in_block : {j : ℕ} → j < m → j < gate_count (network m graph)
  in_block {j} l = rw (network-count m graph) l

  pub from_block : {j : ℕ} → j < gate_count (network m graph) → j < m
  from_block {j} l = rw (network-count m graph) at l

  -- what a gate reads is there
  pub inside : Inside (network m graph)
  inside i k h = in_block (read-inside r.legal i (from_block (reads-below (network m graph) i k h)) k h)

  pub lead-same : (i j : ℕ) → i < m → j < m
      → eqb (get_or leaders i 0) (get_or leaders j 0) ≡ same_group (network m graph) i j
  lead-same i j il jl =
      rw (r.leads.each i il, r.leads.each j jl) (leaders-same (network m graph) i j (in_block il) (in_block jl))

  pub lead-le : (j : ℕ) → j < m → get_or leaders j 0 ≤ j
  lead-le j l = rw (r.leads.each j l) (leader-le (network m graph) j (in_block l))

  pub lead-group : (j : ℕ) → j < m → same_group (network m graph) j (get_or leaders j 0) ≡ true
  lead-group j l = rw (r.leads.each j l) (leader-same (network m graph) j (in_block l))

  -- a leader leads itself
  pub lead-self : (j : ℕ) → j < m → get_or leaders (get_or leaders j 0) 0 ≡ get_or leaders j 0
  lead-self j l =
      let le : get_or leaders j 0 ≤ j = lead-le j l in
      sym (eqb-true (get_or leaders j 0) (get_or leaders (get_or leaders j 0) 0)
      (lead-same j (get_or leaders j 0) l (omega arith) ∙ lead-group j l))

  -- a leader is its group's lowest gate
  pub lowest : (leader : ℕ) → leader < m → (i : ℕ) → i < leader → get_or leaders i 0 ≡ leader → ⊥
  lowest leader l i il e = let le : get_or leaders i 0 ≤ i = lead-le i (omega arith) in omega arith

  -- ---- whether gate j's group may be next, where j leads it

  module _ (numbers : List ℕ) (j : ℕ) (l : j < m) (leads : get_or leaders j 0 ≡ j) where
    abbrev done : List ℕ
    done = numbered_gates m numbers

    -- the gates that j leads are those of its group
    led : (i : ℕ) → i < m → eqb (get_or leaders i 0) j ≡ member i (group_of (network m graph) j)
    led i il =
        let both : eqb (get_or leaders j 0) (get_or leaders i 0) ≡ same_group (network m graph) j i = lead-same j i l il in
        same_test (eqb (get_or leaders i 0) j) (member i (group_of (network m graph) j))
        (λ e. group_of-member (network m graph) j i
        (sym both ∙ eq-eqb (get_or leaders j 0) (get_or leaders i 0) (leads ∙ sym (eqb-true (get_or leaders i 0) j e))))
        (λ e. eq-eqb (get_or leaders i 0) j (sym
        (eqb-true (get_or leaders j 0) (get_or leaders i 0) (both ∙ group_of-same (network m graph) j i e)) ∙ leads))

    -- a gate of the group reads a gate without a number outside it
    pub waits : (i k : ℕ) → i < m → get_or leaders i 0 ≡ j → reads (network m graph) i k ≡ true
        → unnumbered numbers k ≡ true → (get_or leaders k 0 ≡ j → ⊥)
        → may_be_next (network m graph) done j ≡ false
    waits i k il e read u apart =
        let kl : k < m = from_block (inside i k read) in
        not-true-false (may_be_next (network m graph) done j) (λ t.
        ⊎_elim
        (λ g. apart (eqb-true (get_or leaders k 0) j (led k kl ∙ g)))
        (λ d. not-both d (done-member m numbers k kl ∙ ap not u))
        (ready-reads (network m graph) done (group_of (network m graph) j) (may_be_next-ready (network m graph) done j t) i
        k
        (sym (led i il) ∙ eq-eqb (get_or leaders i 0) j e) read))

    -- none does
    pub free : unnumbered numbers j ≡ true
        → ((i k : ℕ) → i < m → get_or leaders i 0 ≡ j → reads (network m graph) i k ≡ true → unnumbered numbers k ≡ true
        → get_or leaders k 0 ≡ j)
        → may_be_next (network m graph) done j ≡ true
    free u none =
        may_be_next-intro (network m graph) done j (done-member m numbers j l ∙ ap not u)
        (ready-intro (network m graph) done (group_of (network m graph) j) (λ i k im read.
        let kl : k < m = from_block (inside i k read) in
        let il : i < m = from_block (group_of-below (network m graph) j i im) in
        ⊎_elim inr
        (λ d. inl (sym (led k kl)
        ∙ eq-eqb (get_or leaders k 0) j
        (none i k il (eqb-true (get_or leaders i 0) j (led i il ∙ im)) read
        (not-false (unnumbered numbers k) (sym (done-member m numbers k kl) ∙ d)))))
        (bool_cases (member k done))))
