-- The numbers before, during and after the numbering loop. Cited by `number_groups`. Assumes nothing.
use mathlib.Core.Path.{◌≡◌, refl, sym, ◌∙◌}
use mathlib.Core.Logic.{⊎_elim}
use mathlib.Core.Bool.{Bool, true, false, cond}
use mathlib.Core.List.{List, []}
use Prim.Native.Nat.{ℕ, ◌+◌, ◌≤◌, ◌<◌}
use native.Mathlib.Nat.{le_antisymm}
use native.Mathlib.Numerals.{add-one}
use native.Mathlib.Omega.{arith}
use lib.ListN.{length, get_or, take}
use lib.Seq.{take_all}
use lib.Dec.{eqb, ltb}
use borrow.Author.Tests.{eq-eqb, lt-ltb, le-ltb}
use Rattle.prelude.specs.Lists.{joined, member, least}
use Rattle.prelude.proofs.Tests.{not-both, lt-or-le}
use Rattle.op_groups.specs.Links.{Linked}
use Rattle.netlist.specs.Limits.{max_gates}
use Rattle.netlist.specs.Netlist.{Block, gate_count}
use Rattle.netlist.specs.Groups.{same_group, group_of, groups, group_number}
use Rattle.theory_reach.specs.Inside.{Inside}
use Rattle.theory_reach.specs.Numbering.{next_gate}
use Rattle.theory_reach.proofs.SameGroup.{member-group_of, same_group-sym}
use Rattle.theory_reach.proofs.Next.{may_be_next-left}
use Rattle.theory_reach.proofs.Order.{length-groups, groups-all, next_gate-passes}
use Rattle.theory_reach.proofs.GroupNumber.{group_number-is, group_number-below, group_number-member, group_number-same}
use Rattle.theory_reach.proofs.Build.{groups-at}
use Rattle.graph_gates.specs.Graph.{network}
use Rattle.graph_gates.proofs.Network.{network-count}
use Rattle.op_groups.specs.Numbering.{no_number, unnumbered, leads_next, number_up_to, NumberReady, NumberedUpTo}
use Rattle.op_groups.specs.Numbering.{NumbersOf}
use Rattle.op_groups.specs.Waiting.{NextsAre}
use Rattle.op_groups.proofs.Leading.{in_block, inside, lead-le, lead-same}
use Rattle.op_groups.proofs.Order.{State, next-leads, next-found}

-- no group has a number yet
pub numbers-none : {m : ℕ} {graph numbers : List ℕ} → length numbers ≡ max_gates
    → ((j : ℕ) → j < m → get_or numbers j 0 ≡ no_number)
    → NumberedUpTo m graph 0 numbers
unfolding number_up_to
numbers-none {m} {graph} room none =
    record { room = room; each = λ j l. none j l ∙ rw (le-ltb (group_number (network m graph) j) 0 (omega arith)) refl }

pub bare-all : {m : ℕ} (numbers : List ℕ) → ((j : ℕ) → j < m → get_or numbers j 0 ≡ no_number) → (j : ℕ) → j < m
    → unnumbered numbers j ≡ true
unfolding unnumbered
bare-all numbers none j l = eq-eqb (get_or numbers j 0) no_number (none j l)

pub nexts-are : {m : ℕ} {graph leaders firsts nexts : List ℕ} → NumberReady m graph leaders
    → Linked leaders m m 0 firsts nexts → NextsAre leaders m nexts
nexts-are r s j l = s.next_is j (omega arith) l (omega (arith, lead-le r j l))

module _ (b : Block) (inside : Inside b) where
  -- there is a next gate only while groups are left, and always then
  next-within : (g : ℕ) → next_gate b (joined (take g (groups b))) < gate_count b → g < length (groups b)
  next-within g h =
      ⊎_elim (λ l. l)
      (λ ge. not-both (all_done ge)
      (may_be_next-left b (joined (take g (groups b))) (next_gate b (joined (take g (groups b))))
      (next_gate-passes b (joined (take g (groups b))) h)))
      (lt-or-le g (length (groups b)))
    where
      all_done : length (groups b) ≤ g → member (next_gate b (joined (take g (groups b)))) (joined (take g (groups b)))
          ≡ true
      all_done ge =
          rw (take_all g (groups b) ge) (groups-all b inside (next_gate b (joined (groups b)))
          (rw (take_all g (groups b) ge) at h))

  none-next : (g : ℕ) → g ≤ length (groups b) → gate_count b ≤ next_gate b (joined (take g (groups b)))
      → g ≡ length (groups b)
  none-next g le h =
      ⊎_elim (λ l. absurd (omega (arith, (groups-at b g l).0))) (λ ge. le_antisymm le ge)
      (lt-or-le g (length (groups b)))

  -- one group more has its number
  number_more : (g i j : ℕ) → next_gate b (joined (take g (groups b))) ≡ j → i < gate_count b → j < gate_count b
      → cond (same_group b i j) g (number_up_to b g i) ≡ number_up_to b (g + 1) i
  unfolding number_up_to
  number_more g i j is il jl = go (same_group b i j) refl
    where
      lt : g < length (groups b)
      lt = next-within g (rw is jl)

      group : get_or (groups b) g [] ≡ group_of b j
      group = rw is at (groups-at b g lt).1

      go : (t : Bool) → same_group b i j ≡ t
          → cond t g (cond (ltb (group_number b i) g) (group_number b i) no_number) ≡ cond (ltb (group_number b i) (g + 1))
          (group_number b i) no_number
      go true e =
          let m : member i (get_or (groups b) g []) ≡ true = rw (group, member-group_of b j i) (same_group-sym b i j e) in
          let is-g : group_number b i ≡ g = group_number-is b i g m in
          rw (is-g, lt-ltb g (g + 1) (omega arith)) refl
      go false e =
          let ne : group_number b i ≡ g → ⊥ = λ q. not-both
          (same_group-sym b j i (sym (member-group_of b j i) ∙ rw (← group, ← q) (group_number-member b inside i il))) e in
          ⊎_elim (λ l. rw (lt-ltb (group_number b i) g l, lt-ltb (group_number b i) (g + 1) (omega arith)) refl)
          (λ l. rw (le-ltb (group_number b i) g l, le-ltb (group_number b i) (g + 1) (omega arith)) refl)
          (lt-or-le (group_number b i) g)

-- a turn of the loop: gate j leads the next group
module _ {m : ℕ} {graph leaders : List ℕ} (r : NumberReady m graph leaders) (g : ℕ) {numbers : List ℕ}
    (is : NumberedUpTo m graph g numbers) (j : ℕ)
    (found : j ≡ least (leads_next (network m graph) m numbers leaders) m) where
  now : State m graph g leaders numbers
  now = record { prepared = r; numbers_are = is }

  next : j ≡ next_gate (network m graph) (joined (take g (groups (network m graph))))
  next = found ∙ next-found now

  -- there is none: all groups have their numbers
  pub turn_last : g ≤ length (groups (network m graph)) → m ≤ j → g ≡ length (groups (network m graph))
  turn_last le h = none-next (network m graph) (inside r) g le (rw (← next, network-count m graph) h)

  module _ (l : j < m) where
    pub turn-within : g + 1 ≤ length (groups (network m graph))
    turn-within = rw add-one (next-within (network m graph) (inside r) g (rw (← next) (in_block r l)))

    -- the gates that j leads have no number
    pub turn-bare : unnumbered numbers j ≡ true → (i : ℕ) → i < m → get_or leaders i 0 ≡ j → unnumbered numbers i ≡ true
    unfolding unnumbered number_up_to
    turn-bare u i il e =
        let same : same_group (network m graph) i j ≡ true =
        sym (lead-same r i j il l) ∙ eq-eqb (get_or leaders i 0) (get_or leaders j 0) (e ∙ sym (next-leads now j l next)) in
        rw (is.each i il, group_number-same (network m graph) (inside r) i j same) (rw (is.each j l) at u)

    -- the gates that j leads are those of the next group
    pub turn-numbers : {numbers' : List ℕ} → length numbers' ≡ max_gates
        → ((i : ℕ) → i < m → get_or numbers' i 0 ≡ cond (eqb (get_or leaders i 0) j) g (get_or numbers i 0))
        → NumberedUpTo m graph (g + 1) numbers'
    turn-numbers {numbers'} room each = record { room = room; each = numbered }
      where
        numbered : (i : ℕ) → i < m → get_or numbers' i 0 ≡ number_up_to (network m graph) (g + 1) i
        numbered i il =
            let led : eqb (get_or leaders i 0) j ≡ same_group (network m graph) i j =
            rw (next-leads now j l next) at (lead-same r i j il l) in
            each i il ∙ rw (led, is.each i il)
            (number_more (network m graph) (inside r) g i j (sym next) (in_block r il) (in_block r l))

-- the loop's end
pub numbers-end : {m : ℕ} {graph leaders numbers : List ℕ} {g : ℕ} → NumberReady m graph leaders
    → NumberedUpTo m graph g numbers
    → g ≡ length (groups (network m graph)) → NumbersOf (network m graph) m numbers g
unfolding number_up_to
numbers-end {m} {graph} {g = g} r is end =
    record {
      each = λ j l. is.each j l
          ∙ rw (lt-ltb (group_number (network m graph) j) g
          (rw end (group_number-below (network m graph) (inside r) j (in_block r l)))) refl;
      count_is = end;
    }

pub end-late : {m : ℕ} {graph leaders : List ℕ} {g : ℕ} → NumberReady m graph leaders
    → g ≤ length (groups (network m graph)) → m ≤ g
    → g ≡ length (groups (network m graph))
end-late {m} {graph} r le h =
    let t : length (groups (network m graph)) ≤ gate_count (network m graph) = length-groups (network m graph) in
    omega (arith, network-count m graph)
