-- The numbering loop follows the definition's rule (SPECIFICATION 5). Cited by `number_groups`. Assumes nothing.
use mathlib.Core.Path.{◌≡◌, refl, sym, ap, ◌∙◌}
use mathlib.Core.Logic.{⊎_elim}
use mathlib.Core.Bool.{Bool, true, false, cond, not, and-false, not-not}
use mathlib.Core.List.{List, []}
use Prim.Native.Nat.{ℕ, ◌≤◌, ◌<◌}
use native.Mathlib.Nat.{le_antisymm}
use native.Mathlib.Omega.{arith}
use lib.ListN.{length, get_or, take, length-take}
use lib.Seq.{get_or-take}
use lib.Dec.{eqb, ltb}
use borrow.Author.Tests.{eq-eqb, ne_eqb, ltb-true, lt-ltb}
use Rattle.prelude.specs.Lists.{joined, member, least}
use Rattle.prelude.proofs.Tests.{and_intro, same_test, not-both, lt-or-le, not-true-false}
use Rattle.prelude.proofs.Least.{least-le, least-below, least-is}
use Rattle.netlist.specs.Netlist.{Block, gate_count}
use Rattle.netlist.specs.Groups.{same_group, may_be_next, groups, group_number}
use Rattle.theory_reach.specs.Inside.{Inside}
use Rattle.theory_reach.specs.Numbering.{next_gate}
use Rattle.theory_reach.proofs.ListFacts.{member-joined, joined-member}
use Rattle.theory_reach.proofs.SameGroup.{same_group-sym, group_of-equal}
use Rattle.theory_reach.proofs.Next.{may_be_next-intro, may_be_next-left, may_be_next-ready, may_be_next-same}
use Rattle.theory_reach.proofs.Order.{length-groups, groups-numbered, next_gate-passes}
use Rattle.theory_reach.proofs.GroupNumber.{group_number-is, group_number-below, group_number-member}
use Rattle.graph_gates.specs.Graph.{network}
use Rattle.graph_gates.proofs.Network.{network-count}
use Rattle.op_groups.specs.Numbering.{no_number, unnumbered, numbered_gates, leads_next, number_up_to, NumberReady}
use Rattle.op_groups.specs.Numbering.{NumberedUpTo}
use Rattle.op_groups.proofs.Leading.{done-member, done_below, in_block, from_block, inside, lead-le, lead-group}

module _ (b : Block) (inside : Inside b) where
  -- the gates of the first g groups are those with a number below g
  numbered_below : (g j : ℕ) → j < gate_count b → member j (joined (take g (groups b))) ≡ ltb (group_number b j) g
  numbered_below g j l = same_test (member j (joined (take g (groups b)))) (ltb (group_number b j) g) forth back
    where
      forth : member j (joined (take g (groups b))) ≡ true → ltb (group_number b j) g ≡ true
      forth h =
          let r : (h : ℕ) × (h < length (take g (groups b))) × (member j (get_or (take g (groups b)) h []) ≡ true) =
          joined-member j (take g (groups b)) h in
          let lt : r.0 < g = omega (arith, r.1, rw (length-take g (groups b)) at r.1) in
          let m : member j (get_or (groups b) r.0 []) ≡ true = rw (get_or-take g (groups b) r.0 [] lt) at r.2 in
          lt-ltb (group_number b j) g (rw (group_number-is b j r.0 m) lt)

      back : ltb (group_number b j) g ≡ true → member j (joined (take g (groups b))) ≡ true
      back h =
          let lt : group_number b j < g = ltb-true (group_number b j) g h in
          member-joined j (take g (groups b)) (group_number b j)
          (rw (get_or-take g (groups b) (group_number b j) [] lt) (group_number-member b inside j l))

  -- the state of the numbers tells which gates are done
  open_is : (g : ℕ) (numbers : List ℕ) → gate_count b ≤ 1024
      → ((j : ℕ) → j < gate_count b → get_or numbers j 0 ≡ number_up_to b g j) → (j : ℕ) → j < gate_count b
      → unnumbered numbers j ≡ not (member j (joined (take g (groups b))))
  unfolding unnumbered number_up_to
  open_is g numbers few are j l = rw (are j l, numbered_below g j l) (go (ltb (group_number b j) g) refl)
    where
      small : group_number b j < 1024
      small = omega (arith, group_number-below b inside j l, length-groups b)

      go : (t : Bool) → ltb (group_number b j) g ≡ t → eqb (cond t (group_number b j) no_number) no_number ≡ not t
      go true e = ne_eqb (group_number b j) no_number (λ e. omega (arith, small))
      go false e = refl

-- what is known of the numbers when the first g groups have theirs
pub record State (m : ℕ) (graph : List ℕ) (g : ℕ) (leaders numbers : List ℕ) : Type 0 where
  pub prepared : NumberReady m graph leaders
  pub numbers_are : NumberedUpTo m graph g numbers

module _ {m : ℕ} {graph : List ℕ} {g : ℕ} {leaders numbers : List ℕ} (s : State m graph g leaders numbers) where
  abbrev b : Block
  b = network m graph

  abbrev done : List ℕ
  done = joined (take g (groups (network m graph)))

  left : (j : ℕ) → j < m → unnumbered numbers j ≡ not (member j done)
  left j l =
      open_is b (inside s.prepared) g numbers (rw (network-count m graph) s.prepared.legal.few)
      (λ k kl. s.numbers_are.each k (from_block s.prepared kl)) j (in_block s.prepared l)

  -- the gates with a number are those of the first g groups
  same-done : (k : ℕ) → member k (numbered_gates m numbers) ≡ member k done
  same-done k =
      ⊎_elim (λ l. done-member m numbers k l ∙ ap not (left k l) ∙ not-not (member k done))
      (λ ge. none ge ∙ sym (outside-done ge)) (lt-or-le k m)
    where
      none : m ≤ k → member k (numbered_gates m numbers) ≡ false
      none ge =
          not-true-false (member k (numbered_gates m numbers))
          (λ t. let lt : k < m = done_below m numbers k t in omega arith)

      outside-done : m ≤ k → member k done ≡ false
      outside-done ge =
          not-true-false (member k done) (λ t. let lt : k < m = from_block s.prepared
          ((groups-numbered b g).below k t) in omega arith)

  next-same : may_be_next b (numbered_gates m numbers) ≡ may_be_next b done
  next-same = may_be_next-same b (numbered_gates m numbers) done same-done

  -- the lowest gate of the next group leads it
  pub next-leads : (j : ℕ) → j < m → j ≡ next_gate b done → get_or leaders j 0 ≡ j
  next-leads j l e = ⊎_elim lower (λ ge. le_antisymm (lead-le s.prepared j l) ge) (lt-or-le (get_or leaders j 0) j)
    where
      may : may_be_next b done j ≡ true
      may = rw e (next_gate-passes b done (rw (← e) (in_block s.prepared l)))

      group : same_group b j (get_or leaders j 0) ≡ true
      group = lead-group s.prepared j l

      lower : get_or leaders j 0 < j → get_or leaders j 0 ≡ j
      lower lt =
          let new : member (get_or leaders j 0) done ≡ false = not-true-false (member (get_or leaders j 0) done)
          (λ t. not-both ((groups-numbered b g).whole (get_or leaders j 0) j t
          (same_group-sym b j (get_or leaders j 0) group)) (may_be_next-left b done j may)) in
          let also : may_be_next b done (get_or leaders j 0) ≡ true = may_be_next-intro b done (get_or leaders j 0) new
          (rw (← group_of-equal b j (get_or leaders j 0) group) (may_be_next-ready b done j may)) in
          not-both also (least-below (may_be_next b done) (gate_count b) (get_or leaders j 0) (rw (← e) lt))

  -- the loop's search finds the definition's next gate
  pub next-found : least (leads_next b m numbers leaders) m ≡ next_gate b done
  unfolding leads_next
  next-found =
      least-is (leads_next b m numbers leaders) m (next_gate b done)
      (omega (arith, least-le (may_be_next b done) (gate_count b), network-count m graph))
      (λ i il. rw (next-same, least-below (may_be_next b done) (gate_count b) i il) (and-false (eqb (get_or leaders i 0) i)))
      (λ l. and_intro (eqb (get_or leaders (next_gate b done) 0) (next_gate b done))
      (may_be_next b (numbered_gates m numbers) (next_gate b done))
      (eq-eqb (get_or leaders (next_gate b done) 0) (next_gate b done) (next-leads (next_gate b done) l refl))
      (rw next-same (next_gate-passes b done (in_block s.prepared l))))
