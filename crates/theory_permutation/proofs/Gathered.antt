-- Gather and Scatter (SPECIFICATION 7.17, 7.18): the laws of arranged gates, for the order by groups and for any list
-- that is each number once.
--   out, back, by-group                                  a permutation of the gates, both ways, and the list by groups
--   gathered-permutation                                 the list by groups is a permutation
--   gathered-back, scattered-out                         each undoes the other, every part of the block
--   gathered-well_formed                                  what is made is a block
--   gathered-settled, gathered-rounds, scattered-settled the settled values move with their gates
--   gathered-outputs                                     the outputs show the same under every setting
--   gathered-same_group                                   the groups are the same sets
--   ordered-gathered                                     a block whose list is 0, 1, 2, .. stays as it is
--   straight-order, straight-gathered                    and a straight block's list is that
-- Assumes nothing.
use Prim.Native.Nat.{ℕ, ◌+◌, ◌*◌, ◌<◌}
use native.Mathlib.Nat.{one-mul}
use native.Mathlib.Omega.{arith}
use mathlib.Core.Path.{◌≡◌, refl, sym, ap, ◌∙◌}
use mathlib.Core.Bool.{true}
use mathlib.Core.List.{List, [], ◌∷◌}
use lib.ListN.{length, get_or}
use Rattle.prelude.specs.Lists.{tab, joined, up_to}
use Rattle.prelude.proofs.Tab.{get_d-tab, tab-ext}
use Rattle.prelude.proofs.Tests.{and_intro}
use Rattle.prelude.proofs.Quantifiers.{below_all}
use Rattle.theory_encoding.proofs.ListFacts.{joined-tab}
use Rattle.netlist.specs.Values.{Value, undefined}
use Rattle.netlist.specs.Netlist.{Block, gate_count}
use Rattle.netlist.specs.StoredBlock.{is_well_formed}
use Rattle.netlist.specs.Rounds.{rounds, settled, outputs_under}
use Rattle.netlist.specs.Groups.{groups, same_group}
use Rattle.netlist.specs.Rendering.{is_straight}
use Rattle.netlist.specs.Gather.{arranged, number_at, place_in, gathered_order, gathered, is_permutation, inverse}
use Rattle.netlist.specs.Gather.{scattered}
use Rattle.theory_reach.proofs.Inside.{well_formed-inside}
use Rattle.theory_reach.proofs.Order.{groups-all, length-joined-groups}
use Rattle.theory_reach.proofs.Straight.{straight-groups}
use Rattle.theory_permutation.specs.Renumbering.{Renumbers}
use Rattle.theory_permutation.proofs.Permutation.{place-renumbers, inverse-at, inverse-renumbers}
use Rattle.theory_permutation.proofs.Arranged.{arranged-count, arranged-back, arranged-itself}
use Rattle.theory_permutation.proofs.Arranged.{arranged-well_formed}
use Rattle.theory_permutation.proofs.Values.{settled_at, rounds-kept, outputs-kept}
use Rattle.theory_permutation.proofs.Groups.{same_group-kept}
use borrow.Author.Tests.{eq-eqb}
use lib.Dec.{eqb}

-- lists of one number each, one after the other
joined-ones : (m : ℕ) → joined (tab (λ j. j ∷ []) m) ≡ up_to m
joined-ones m =
    ap joined
    (tab-ext (λ j. j ∷ []) (λ j. tab (λ i. 1 * j + i) 1) m
    (λ j l. let e : j ≡ 1 * j + 0 = omega arith in ap (λ (k : ℕ). k ∷ []) e))
    ∙ joined-tab (λ k. k) 1 m
    ∙ ap up_to (one-mul m)

module _ (b : Block) (fits : is_well_formed b ≡ true) where
  -- ---- any list that is each gate number once

  module _ (order : List ℕ) (h : is_permutation (gate_count b) order ≡ true) where
    pub out : Renumbers (gate_count b) order (place_in order)
    out = place-renumbers (gate_count b) order h

    pub back : Renumbers (gate_count b) (inverse order) (number_at order)
    back = inverse-renumbers (gate_count b) order h

    -- back after out is the block,
    pub permuted-back : scattered order (arranged order (place_in order) b) ≡ b
    unfolding scattered
    permuted-back =
        arranged-back b fits order (place_in order) out (inverse order) (number_at order) back.length_is
        (inverse-at (gate_count b) order h) out.old_of_new

    -- gathering by the list what was scattered by it gives the block back
    pub scattered-out : arranged order (place_in order) (scattered order b) ≡ b
    unfolding scattered
    scattered-out =
        arranged-back b fits (inverse order) (number_at order) back order (place_in order) out.length_is (λ j l. refl)
        out.new_of_old

    -- gate t's settled value moves to number t of the list
    pub scattered-settled : (x : List Value) (t : ℕ) → t < gate_count b
        → get_or (settled (scattered order b) x) (number_at order t) undefined ≡ get_or (settled b x) t undefined
    unfolding scattered
    scattered-settled x t l =
        settled_at b fits (inverse order) (number_at order) back x (number_at order t) (out.old_below t l)
        ∙ ap (λ (i : ℕ). get_or (settled b x) i undefined) (back.old_of_new t l)

  -- ---- out, by groups

  -- the list is each gate number once
  pub gathered-permutation : is_permutation (gate_count b) (gathered_order b) ≡ true
  unfolding is_permutation gathered_order
  gathered-permutation =
      and_intro (eqb (length (joined (groups b))) (gate_count b)) _
      (eq-eqb (length (joined (groups b))) (gate_count b) (length-joined-groups b (well_formed-inside b fits)))
      (below_all _ (gate_count b) (groups-all b (well_formed-inside b fits)))

  pub by-group : Renumbers (gate_count b) (gathered_order b) (place_in (gathered_order b))
  by-group = out (gathered_order b) gathered-permutation

  pub gathered-well_formed : is_well_formed (gathered b) ≡ true
  unfolding gathered
  gathered-well_formed = arranged-well_formed b fits (gathered_order b) (place_in (gathered_order b)) by-group

  pub gathered-count : gate_count (gathered b) ≡ gate_count b
  unfolding gathered
  gathered-count = arranged-count (gathered_order b) (place_in (gathered_order b)) b ∙ by-group.length_is

  -- back after out is the block
  pub gathered-back : scattered (gathered_order b) (gathered b) ≡ b
  unfolding gathered
  gathered-back = permuted-back (gathered_order b) gathered-permutation

  -- the settled values move with their gates, under every setting of 0, 1 and undefined, and come after as many rounds
  pub gathered-settled : (x : List Value) (t : ℕ) → t < gate_count b
      → get_or (settled (gathered b) x) t undefined ≡ get_or (settled b x) (number_at (gathered_order b) t) undefined
  unfolding gathered
  gathered-settled = settled_at b fits (gathered_order b) (place_in (gathered_order b)) by-group

  pub gathered-rounds : (x : List Value) → rounds (gathered b) x ≡ rounds b x
  unfolding gathered
  gathered-rounds = rounds-kept b fits (gathered_order b) (place_in (gathered_order b)) by-group

  -- the outputs show the same under every setting
  pub gathered-outputs : (s : ℕ) → outputs_under (gathered b) s ≡ outputs_under b s
  unfolding gathered
  gathered-outputs = outputs-kept b fits (gathered_order b) (place_in (gathered_order b)) by-group

  -- the groups are the same sets
  pub gathered-same_group : (t u : ℕ) → t < gate_count b → u < gate_count b
      → same_group (gathered b) t u ≡ same_group b (number_at (gathered_order b) t) (number_at (gathered_order b) u)
  unfolding gathered
  gathered-same_group =
      same_group-kept b (well_formed-inside b fits) (gathered_order b) (place_in (gathered_order b)) by-group

  -- ---- gates that are in order

  -- where the list is 0, 1, 2, .. the block stays as it is
  module _ (listed : gathered_order b ≡ up_to (gate_count b)) where
    kept : (t : ℕ) → t < gate_count b → number_at (gathered_order b) t ≡ t
    unfolding number_at
    kept t l = rw listed (get_d-tab (λ k. k) (gate_count b) t 0 l)

    pub ordered-gathered : gathered b ≡ b
    unfolding gathered
    ordered-gathered =
        arranged-itself b fits (gathered_order b) (place_in (gathered_order b)) by-group.length_is kept
        (λ j l. ap (place_in (gathered_order b)) (sym (kept j l)) ∙ by-group.new_of_old j l)

  -- as that of a straight one is
  pub straight-order : is_straight b ≡ true → gathered_order b ≡ up_to (gate_count b)
  unfolding gathered_order
  straight-order straight = ap joined (straight-groups b straight) ∙ joined-ones (gate_count b)

  pub straight-gathered : is_straight b ≡ true → gathered b ≡ b
  straight-gathered straight = ordered-gathered (straight-order straight)
