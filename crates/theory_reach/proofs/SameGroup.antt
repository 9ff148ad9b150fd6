-- Being in one group is an equivalence, and `group_of` lists a gate's class in ascending order.
-- The order of the groups and Render's schedule cite it.
--   same_group-refl, -sym, -trans     an equivalence
--   member-group_of, group_of-member   a group holds exactly the gates of the class
--   group_of-ascending, group_of-once, group_of-equal   it is ascending, and the same for each of its gates
-- Assumes nothing.
use Prim.Native.Nat.{ℕ, ◌<◌}
use mathlib.Core.Path.{◌≡◌, sym, ap, ◌∙◌, fun_ext}
use mathlib.Core.Bool.{Bool, true}
use Rattle.prelude.specs.Lists.{keep, up_to, member}
use Rattle.prelude.proofs.Tests.{and_intro, and_left, and_right, same_test}
use Rattle.netlist.specs.Netlist.{Block, gate_count}
use Rattle.netlist.specs.Groups.{reaches, same_group, group_of}
use Rattle.theory_reach.specs.Orders.{Once, Ascending}
use Rattle.theory_reach.proofs.ListFacts.{member-up_to, member-keep, keep-ascending, ascending-once}
use Rattle.theory_reach.proofs.Reach.{reaches-refl, reaches-trans, reaches-below}

module _ (b : Block) where
  -- an equivalence on the gates that are there
  pub same_group-refl : (i : ℕ) → i < gate_count b → same_group b i i ≡ true
  unfolding same_group
  same_group-refl i h = and_intro _ _ (reaches-refl b i h) (reaches-refl b i h)

  pub same_group-sym : (i j : ℕ) → same_group b i j ≡ true → same_group b j i ≡ true
  unfolding same_group
  same_group-sym i j h = and_intro _ _ (and_right (reaches b i j) _ h) (and_left _ _ h)

  pub same_group-trans : (i j k : ℕ) → same_group b i j ≡ true → same_group b j k ≡ true → same_group b i k ≡ true
  unfolding same_group
  same_group-trans i j k h g =
      and_intro _ _
      (reaches-trans b i j k (and_left _ _ h) (and_left _ _ g))
      (reaches-trans b k j i (and_right (reaches b j k) _ g) (and_right (reaches b i j) _ h))

  -- only gates that are there are in a group
  pub same_group-below : (i j : ℕ) → same_group b i j ≡ true → j < gate_count b
  unfolding same_group
  same_group-below i j h = reaches-below b i j (and_left _ _ h)

  -- the group of gate j holds exactly the gates in one group with it
  pub member-group_of : (j k : ℕ) → member k (group_of b j) ≡ same_group b j k
  unfolding group_of
  member-group_of j k =
      member-keep (same_group b j) (up_to (gate_count b)) k
      ∙ same_test _ _
      (and_right (member k (up_to (gate_count b))) _)
      (λ e. and_intro _ _ (member-up_to k _ (same_group-below j k e)) e)

  -- gates in one group with j are in its group, and those in its group are in one group with it
  pub group_of-member : (j k : ℕ) → same_group b j k ≡ true → member k (group_of b j) ≡ true
  group_of-member j k h = member-group_of j k ∙ h

  pub group_of-same : (j k : ℕ) → member k (group_of b j) ≡ true → same_group b j k ≡ true
  group_of-same j k h = sym (member-group_of j k) ∙ h

  -- only gates that are there
  pub group_of-below : (j k : ℕ) → member k (group_of b j) ≡ true → k < gate_count b
  group_of-below j k h = same_group-below j k (group_of-same j k h)

  -- a gate is in its own group
  pub group_of-self : (j : ℕ) → j < gate_count b → member j (group_of b j) ≡ true
  group_of-self j h = group_of-member j j (same_group-refl j h)

  -- a group's gates stand in ascending order,
  pub group_of-ascending : (j : ℕ) → Ascending (group_of b j)
  unfolding group_of
  group_of-ascending j = keep-ascending (same_group b j) (gate_count b)

  -- each once
  pub group_of-once : (j : ℕ) → Once (group_of b j)
  group_of-once j = ascending-once (group_of b j) (group_of-ascending j)

  -- gates in one group have one group
  pub group_of-equal : (i j : ℕ) → same_group b i j ≡ true → group_of b i ≡ group_of b j
  unfolding group_of
  group_of-equal i j h =
      ap (λ (p : ℕ → Bool). keep p (up_to (gate_count b)))
      (fun_ext λ k. same_test _ _ (same_group-trans j i k (same_group-sym i j h)) (same_group-trans i j k h))
