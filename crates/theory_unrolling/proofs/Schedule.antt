-- The order of copying: over the first groups and one more, its length, and the gates in it. Render's code, the number
-- of copies and the agreement cite it.
--   length-passes, member-passes   the passes over one group; over a lone gate there is one (passes-lone)
--   schedule_of-*                   over the first groups, and one more
--   schedule-is, length-schedule, member-schedule, schedule-below   the whole order
--   schedule-straight              a straight block's
-- Assumes nothing.
use Prim.Native.Nat.{ℕ, zero, suc, ◌<◌}
use mathlib.Core.Path.{◌≡◌, refl, sym, ap, ◌∙◌}
use mathlib.Core.Logic.{⊎_elim}
use mathlib.Core.Bool.{true, false≢true}
use mathlib.Core.List.{List, [], ◌∷◌, ◌++◌, map, map-append, map-id}
use native.Mathlib.Nat.{mul_comm}
use lib.ListN.{length, get_or, take, length-append}
use lib.Seq.{take-suc, take-length}
use Rattle.prelude.specs.Lists.{joined, member, sum, tab, up_to}
use Rattle.prelude.proofs.Quantifiers.{member-from}
use Rattle.prelude.proofs.Lists.{joined_snoc, member-cases, member-left, member_right}
use Rattle.netlist.specs.Netlist.{Block, gate_count}
use Rattle.netlist.specs.Groups.{groups}
use Rattle.netlist.specs.Passes.{pass_count, copy_count}
use Rattle.netlist.specs.Rendering.{is_straight, passes, schedule}
use Rattle.theory_fixpoint.proofs.ListFacts.{member-repeated as repeated-member}
use Rattle.theory_reach.specs.Inside.{Inside}
use Rattle.theory_reach.proofs.Order.{groups-all, groups-all-numbered}
use Rattle.theory_reach.proofs.ListFacts.{map_same}
use Rattle.theory_reach.proofs.Straight.{groups-single, straight-loopless, straight-groups}
use Rattle.theory_unrolling.specs.Copies.{schedule_of, group_at}
use Rattle.theory_unrolling.proofs.ListFacts.{length-repeated, member-repeated-from}
use Rattle.theory_unrolling.proofs.PassCount.{pass_count-some, pass_count-one}
use Rattle.theory_unrolling.proofs.CopyCount.{copies_of}

-- ---- any groups

module _ (b : Block) where
  -- The passes over a group are as many steps as there are copies of its gates.
  pub length-passes : (group : List ℕ) → length (passes b group) ≡ copies_of b group
  unfolding passes
  length-passes group = length-repeated (pass_count b group) group ∙ mul_comm (pass_count b group) (length group)

  -- Every gate of the group is copied: there is at least one pass.
  pub member-passes : (group : List ℕ) (j : ℕ) → member j group ≡ true → member j (passes b group) ≡ true
  unfolding passes
  member-passes group j m = member-repeated-from j (pass_count b group) group (pass_count-some b group) m

  -- No other is.
  pub passes-member : (group : List ℕ) (j : ℕ) → member j (passes b group) ≡ true → member j group ≡ true
  unfolding passes
  passes-member group j m = repeated-member j (pass_count b group) group m

  -- One group more comes last.
  pub schedule_of-snoc : (gs : List (List ℕ)) (group : List ℕ)
      → schedule_of b (gs ++ (group ∷ [])) ≡ schedule_of b gs ++ passes b group
  unfolding schedule_of
  schedule_of-snoc gs group =
      ap joined (map-append (passes b) gs (group ∷ [])) ∙ joined_snoc (map (passes b) gs) (passes b group)

  -- The schedule is as long as there are copies of the groups' gates.
  pub length-schedule_of : (gs : List (List ℕ)) → length (schedule_of b gs) ≡ sum (map (copies_of b) gs)
  unfolding schedule_of
  length-schedule_of [] = refl
  length-schedule_of (g ∷ gs) =
      length-append (passes b g) (joined (map (passes b) gs)) ∙ rw (length-passes g, length-schedule_of gs)

  -- Every gate of the groups is copied.
  pub member-schedule_of : (gs : List (List ℕ)) (j : ℕ) → member j (joined gs) ≡ true → member j (schedule_of b gs) ≡ true
  unfolding schedule_of
  member-schedule_of [] j m = absurd (false≢true m)
  member-schedule_of (g ∷ gs) j m =
      ⊎_elim
      (λ e. member-left j (passes b g) (joined (map (passes b) gs)) (member-passes g j e))
      (λ e. member_right j (passes b g) (joined (map (passes b) gs)) (member-schedule_of gs j e))
      (member-cases j g (joined gs) m)

  -- No other is.
  pub schedule_of-member : (gs : List (List ℕ)) (j : ℕ) → member j (schedule_of b gs) ≡ true → member j (joined gs) ≡ true
  unfolding schedule_of
  schedule_of-member [] j m = absurd (false≢true m)
  schedule_of-member (g ∷ gs) j m =
      ⊎_elim (λ e. member-left j g (joined gs) (passes-member g j e))
      (λ e. member_right j g (joined gs) (schedule_of-member gs j e))
      (member-cases j (passes b g) (joined (map (passes b) gs)) m)

-- groups of one gate one after the other
joined-ones : (t : ℕ) → joined (tab (λ j. j ∷ []) t) ≡ up_to t
joined-ones zero = refl
joined-ones (suc t) = joined_snoc (tab (λ j. j ∷ []) t) (t ∷ []) ∙ ap (λ (l : List ℕ). l ++ (t ∷ [])) (joined-ones t)

-- ---- the block's groups

module _ (b : Block) where
  pub schedule-is : schedule b ≡ schedule_of b (groups b)
  unfolding schedule schedule_of
  schedule-is = refl

  -- The schedule is as long as there are copies.
  pub length-schedule : length (schedule b) ≡ copy_count b
  unfolding copy_count
  length-schedule = ap length schedule-is ∙ length-schedule_of b (groups b)

  -- After the first t groups comes group t.
  pub schedule_of-take : (t : ℕ) → t < length (groups b)
      → schedule_of b (take (suc t) (groups b)) ≡ schedule_of b (take t (groups b)) ++ passes b (group_at b t)
  schedule_of-take t h =
      ap (schedule_of b) (take-suc (groups b) t [] h) ∙ schedule_of-snoc b (take t (groups b)) (group_at b t)

  -- With all groups it is the schedule.
  pub schedule_of-all : schedule_of b (take (length (groups b)) (groups b)) ≡ schedule b
  schedule_of-all = ap (schedule_of b) (take-length (groups b)) ∙ sym schedule-is

  -- Every gate is copied.
  pub member-schedule : Inside b → (j : ℕ) → j < gate_count b → member j (schedule b) ≡ true
  member-schedule inside j l = rw schedule-is (member-schedule_of b (groups b) j (groups-all b inside j l))

  -- Only gates that are there are copied.
  pub schedule-below : (i : ℕ) → i < length (schedule b) → get_or (schedule b) i 0 < gate_count b
  unfolding schedule schedule_of
  schedule-below i l =
      (groups-all-numbered b).below (get_or (schedule b) i 0)
      (schedule_of-member b (groups b) (get_or (schedule b) i 0)
      (member-from (get_or (schedule b) i 0) (schedule b) i l refl))

  -- A lone gate is copied once.
  pub passes-lone : (t : ℕ) → t < length (groups b) → length (group_at b t) ≡ 1 → passes b (group_at b t) ≡ group_at b t
  unfolding passes
  passes-lone t l e = rw (pass_count-one b t l e) refl

  -- A straight block's schedule is 0, 1, 2, ..
  pub schedule-straight : is_straight b ≡ true → schedule b ≡ up_to (gate_count b)
  unfolding schedule
  schedule-straight s =
      ap joined
      (map_same (passes b) (λ g. g) (groups b) []
      (λ t l. passes-lone t l (ap length (groups-single b (straight-loopless b s) t l).2)))
      ∙ ap joined (map-id (groups b)) ∙ ap joined (straight-groups b s) ∙ joined-ones (gate_count b)
