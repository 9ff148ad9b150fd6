-- The number of a gate's group: the place of the one group that holds it. Groups and the agreement cite it.
--   group_number-is, group_number-member       a gate's number is the place of the group that holds it
--   group_number-same, same-group_number       two gates have one number exactly when they share a group
--   group_number-reads, group_number-path      a gate reads, and reaches, no higher number
--   get_d-group_numbers                        the list of all numbers
-- Assumes nothing.
use Prim.Native.Nat.{ℕ, ◌≤◌, ◌<◌}
use mathlib.Core.Path.{◌≡◌, sym, ap, ◌∙◌}
use mathlib.Core.Bool.{Bool, true}
use mathlib.Core.List.{[]}
use native.Mathlib.Omega.{arith}
use lib.ListN.{length, get_or}
use Rattle.prelude.specs.Lists.{member, least}
use Rattle.prelude.proofs.Least.{least_at}
use Rattle.prelude.proofs.Tab.{get_d-tab}
use Rattle.netlist.specs.Netlist.{Block, gate_count}
use Rattle.netlist.specs.Groups.{reads, OperandPath, stay, step, same_group, group_of, groups, group_number, group_numbers}
use Rattle.theory_reach.specs.Inside.{Inside}
use Rattle.theory_reach.proofs.ListFacts.{entry-below, least-at-most}
use Rattle.theory_reach.proofs.Reach.{reads-below}
use Rattle.theory_reach.proofs.SameGroup.{group_of-same, group_of-member, same_group-sym, same_group-below}
use Rattle.theory_reach.proofs.Order.{groups-some, groups-one, groups-group, groups-read-back}

module _ (b : Block) where
  -- the group that holds gate j is the one of its number
  pub group_number-is : (j g : ℕ) → member j (get_or (groups b) g []) ≡ true → group_number b j ≡ g
  unfolding group_number
  group_number-is j g m =
      let p : ℕ → Bool = λ h. member j (get_or (groups b) h []) in
      let a = least-at-most p (length (groups b)) g m in
      let l = entry-below j (groups b) g m in
      groups-one b j (least p (length (groups b))) g (least_at p (length (groups b)) (omega arith)) m

  -- group numbers are below the number of groups
  pub group_number-below : Inside b → (j : ℕ) → j < gate_count b → group_number b j < length (groups b)
  group_number-below inside j h =
      let w = groups-some b inside j h in
      rw (group_number-is j w.0 w.2) w.1

  -- the group of that number holds the gate
  pub group_number-member : Inside b → (j : ℕ) → j < gate_count b → member j (get_or (groups b) (group_number b j) []) ≡ true
  group_number-member inside j h =
      let w = groups-some b inside j h in
      rw (group_number-is j w.0 w.2) w.2

  -- the group at a gate's number is the gate's group
  pub group_number-group : Inside b → (j : ℕ) → j < gate_count b → get_or (groups b) (group_number b j) [] ≡ group_of b j
  group_number-group inside j h = groups-group b j (group_number b j) (group_number-member inside j h)

  -- gates of one group have one number,
  pub group_number-same : Inside b → (i j : ℕ) → same_group b i j ≡ true → group_number b i ≡ group_number b j
  group_number-same inside i j h =
      let e = group_number-group inside i (same_group-below b j i (same_group-sym b i j h)) in
      sym (group_number-is j (group_number b i) (rw e (group_of-member b i j h)))

  -- gates with one number are in one group
  pub same-group_number : Inside b → (i j : ℕ) → i < gate_count b → j < gate_count b → group_number b i ≡ group_number b j
      → same_group b i j ≡ true
  same-group_number inside i j hi hj e =
      group_of-same b i j
      (rw (ap (λ (g : ℕ). get_or (groups b) g []) (sym e)
      ∙ group_number-group inside i hi) at (group_number-member inside j hj))

  -- a gate reads gates of its own and of earlier groups
  pub group_number-reads : Inside b → (i k : ℕ) → reads b i k ≡ true → group_number b k ≤ group_number b i
  group_number-reads inside i k r =
      let w = groups-read-back b (group_number b i) i k (group_number-member inside i (reads-below b i k r)) r in
      let e = group_number-is k w.0 w.2 in
      let l = w.1 in
      omega arith

  -- a gate reaches only gates whose number is not higher
  pub group_number-path : Inside b → {i k : ℕ} → OperandPath b i k → group_number b k ≤ group_number b i
  group_number-path inside stay = omega arith
  group_number-path inside (step {i} {j} {k} r p) =
      let u = group_number-reads inside i j r in
      let v = group_number-path inside p in
      omega arith

  -- the j-th is gate j's
  pub get_d-group_numbers : (j d : ℕ) → j < gate_count b → get_or (group_numbers b) j d ≡ group_number b j
  unfolding group_numbers
  get_d-group_numbers j d h = get_d-tab (group_number b) (gate_count b) j d h
