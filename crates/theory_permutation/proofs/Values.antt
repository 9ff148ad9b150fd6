-- Values in a block with its gates in another order: they move with their gates, round by round, so the same settings
-- are settled, with the same outputs.
--   after_rounds-moved, rounds-kept   the state after any number of rounds, and how many rounds change something
--   settled-moved, settled_at        the settled values
--   outputs-kept, settled-kept                                  what outputs show, and which settings are settled
--   sound-kept, cover-kept, settled_settings-kept, lowest-kept   so Verdict and Cover answer the same
-- Assumes nothing.
use Prim.Native.Nat.{ℕ, zero, suc, ◌<◌}
use mathlib.Core.Path.{◌≡◌, refl, sym, ap, ap₂, ◌∙◌, fun_ext}
use mathlib.Core.Bool.{Bool, true, false, not, ◌&&◌, ◌||◌}
use mathlib.Core.List.{List, [], map, map-map}
use lib.ListN.{length, get_or, replicate, length-map, length-replicate}
use lib.Seq.{ext_get_or}
use borrow.Author.Tests.{ltb-true}
use Rattle.prelude.specs.Lists.{all, up_to, keep, count_below, least}
use Rattle.prelude.proofs.Tests.{same_test}
use Rattle.prelude.proofs.Quantifiers.{all-at}
use Rattle.netlist.specs.Values.{Value, undefined, is_defined}
use Rattle.netlist.specs.Assignments.{Assignment, agrees, fixes}
use Rattle.netlist.specs.Netlist.{Operand, input, gate, constant, Gate, Block, input_count, gate_count, gate_of}
use Rattle.netlist.specs.StoredBlock.{is_node, is_operand, gate_fits, is_well_formed}
use Rattle.netlist.specs.Kinds.{gate_value}
use Rattle.netlist.specs.Rounds.{operand_value, evaluated, round, after_rounds, is_stable, rounds, settled, setting_of}
use Rattle.netlist.specs.Rounds.{setting_count, settled_under, output_value, outputs_under, is_settled, is_excluded}
use Rattle.netlist.specs.Rounds.{is_counted, is_sound_at, settled_settings, lowest_unsettled}
use Rattle.netlist.specs.Cover.{is_sound_under, is_minimal, cover, without, assignments}
use Rattle.netlist.specs.Gather.{renumbered, renumbered_gate, renumbered_output, arranged, number_at}
use Rattle.theory_encoding.proofs.ListFacts.{get_d_map}
use Rattle.theory_encoding.proofs.Gates.{fits-operands}
use Rattle.theory_encoding.proofs.Nodes.{is_node-is_operand}
use Rattle.theory_encoding.proofs.Readers.{well_formed-gate, well_formed-output}
use Rattle.theory_reach.proofs.ListFacts.{map_same}
use Rattle.theory_fixpoint.proofs.ListFacts.{get_d-replicate-default}
use Rattle.theory_fixpoint.proofs.Rounds.{length-round, length-after_rounds, get_d-round, stable-eq, eq-stable}
use Rattle.theory_permutation.specs.Renumbering.{Renumbers}
use Rattle.theory_permutation.proofs.Arranged.{arranged-count, arranged-gate}

-- the value of each gate at its new place
unfoldable pub moved : List ℕ → List Value → List Value
moved order state = map (λ j. get_or state j undefined) order

pub length_moved : (order : List ℕ) (state : List Value) → length (moved order state) ≡ length order
unfolding moved
length_moved order state = length-map order (λ j. get_or state j undefined)

pub get_d_moved : (order : List ℕ) (state : List Value) (t : ℕ) → t < length order
    → get_or (moved order state) t undefined ≡ get_or state (number_at order t) undefined
unfolding moved number_at
get_d_moved order state t l = get_d_map (λ j. get_or state j undefined) order t 0 undefined l

module _ (b : Block) (fits : is_well_formed b ≡ true) (order : List ℕ) (number : ℕ → ℕ)
    (r : Renumbers (gate_count b) order number) where
  abbrev c : Block
  c = arranged order number b

  count_kept : gate_count c ≡ gate_count b
  count_kept = arranged-count order number b ∙ r.length_is

  -- ---- one gate

  module _ (x state : List Value) where
    operand-moved : (o : Operand) → is_operand b o ≡ true
        → operand_value x (moved order state) (renumbered number o) ≡ operand_value x state o
    unfolding operand_value renumbered is_operand is_node
    operand-moved (input i) h = refl
    operand-moved (gate j) h =
        let l : j < gate_count b = ltb-true j (gate_count b) h in
        get_d_moved order state (number j) (rw r.length_is (r.new_below j l))
        ∙ ap (λ (i : ℕ). get_or state i undefined) (r.old_of_new j l)
    operand-moved (constant v) h = refl

    evaluated-moved : (a : Gate) → gate_fits b a ≡ true
        → evaluated x (moved order state) (renumbered_gate number a) ≡ evaluated x state a
    unfolding evaluated renumbered_gate
    evaluated-moved a h =
        ap (gate_value a.kind)
        (map-map (operand_value x (moved order state)) (renumbered number) a.operands
        ∙ map_same _ (operand_value x state) a.operands (constant false)
        (λ i l. operand-moved (get_or a.operands i (constant false))
        (all-at (is_operand b) a.operands i (constant false) (fits-operands b a h) l)))

    -- a round of the moved values is the moved round
    round-moved : round c x (moved order state) ≡ moved order (round b x state)
    round-moved =
        ext_get_or undefined (round c x (moved order state)) (moved order (round b x state))
        (length-round c x (moved order state) ∙ arranged-count order number b
        ∙ sym (length_moved order (round b x state)))
        (λ t l. each t (rw (length-round c x (moved order state), arranged-count order number b) at l))
      where
        each : (t : ℕ) → t < length order
            → get_or (round c x (moved order state)) t undefined ≡ get_or (moved order (round b x state)) t undefined
        each t l =
            get_d-round c x (moved order state) t
            ∙ ap (evaluated x (moved order state)) (arranged-gate order number b t l)
            ∙ evaluated-moved (gate_of b (number_at order t))
            (well_formed-gate b fits (number_at order t) (r.old_below t (rw (← r.length_is) l)))
            ∙ sym (get_d_moved order (round b x state) t l ∙ get_d-round b x state (number_at order t))

  -- ---- rounds

  module _ (x : List Value) where
    start-moved : replicate (gate_count c) undefined ≡ moved order (replicate (gate_count b) undefined)
    start-moved =
        ext_get_or undefined (replicate (gate_count c) undefined) (moved order (replicate (gate_count b) undefined))
        (length-replicate (gate_count c) undefined ∙ arranged-count order number b
        ∙ sym (length_moved order (replicate (gate_count b) undefined)))
        (λ t l.
        get_d-replicate-default (gate_count c) t undefined
        ∙ sym
        (get_d_moved order (replicate (gate_count b) undefined) t
        (rw (length-replicate (gate_count c) undefined, arranged-count order number b) at l)
        ∙ get_d-replicate-default (gate_count b) (number_at order t) undefined))

    pub after_rounds-moved : (k : ℕ) → after_rounds c x k ≡ moved order (after_rounds b x k)
    unfolding after_rounds
    after_rounds-moved zero = start-moved
    after_rounds-moved (suc k) = rw (after_rounds-moved k) (round-moved x (after_rounds b x k))

    -- what is moved can be moved back
    moved_same : (u w : List Value) → length u ≡ gate_count b → length w ≡ gate_count b
        → moved order u ≡ moved order w → u ≡ w
    moved_same u w eu ew e = ext_get_or undefined u w (eu ∙ sym ew) (λ j l. at j (rw eu at l))
      where
        back : (v : List Value) (j : ℕ) → j < gate_count b
            → get_or (moved order v) (number j) undefined ≡ get_or v j undefined
        back v j l = get_d_moved order v (number j) (rw r.length_is (r.new_below j l))
            ∙ ap (λ (i : ℕ). get_or v i undefined) (r.old_of_new j l)

        at : (j : ℕ) → j < gate_count b → get_or u j undefined ≡ get_or w j undefined
        at j l = sym (back u j l) ∙ ap (λ (v : List Value). get_or v (number j) undefined) e ∙ back w j l

    stable-kept : (k : ℕ) → is_stable c x k ≡ is_stable b x k
    stable-kept k =
        same_test (is_stable c x k) (is_stable b x k)
        (λ h. eq-stable b x k
        (moved_same (after_rounds b x (suc k)) (after_rounds b x k) (length-after_rounds b x (suc k))
        (length-after_rounds b x k)
        (sym (after_rounds-moved (suc k)) ∙ stable-eq c x k h ∙ after_rounds-moved k)))
        (λ h. eq-stable c x k
        (after_rounds-moved (suc k) ∙ ap (moved order) (stable-eq b x k h) ∙ sym (after_rounds-moved k)))

    -- as many rounds change something,
    pub rounds-kept : rounds c x ≡ rounds b x
    unfolding rounds
    rounds-kept = ap₂ (λ (p : ℕ → Bool) (n : ℕ). least p n) (fun_ext stable-kept) count_kept

    -- the settled values of the renumbered block are the moved ones
    pub settled-moved : settled c x ≡ moved order (settled b x)
    unfolding settled
    settled-moved = ap (after_rounds c x) rounds-kept ∙ after_rounds-moved (rounds b x)

    pub settled_at : (t : ℕ) → t < gate_count b
        → get_or (settled c x) t undefined ≡ get_or (settled b x) (number_at order t) undefined
    settled_at t l = rw settled-moved (get_d_moved order (settled b x) t (rw r.length_is l))

  -- ---- settings

  outputs-moved : (x state : List Value)
      → map (output_value x (moved order state)) c.outputs ≡ map (output_value x state) b.outputs
  unfolding arranged output_value renumbered_output
  outputs-moved x state =
      map-map (output_value x (moved order state)) (renumbered_output number) b.outputs
      ∙ map_same _ (output_value x state) b.outputs (record { port = []; node = constant false })
      (λ o l. operand-moved x state (get_or b.outputs o (record { port = []; node = constant false })).node
      (is_node-is_operand b _ (well_formed-output b fits o (record { port = []; node = constant false }) l)))

  -- the outputs show the same under every setting
  pub outputs-kept : (s : ℕ) → outputs_under c s ≡ outputs_under b s
  unfolding outputs_under settled_under arranged
  outputs-kept s =
      ap (λ (state : List Value). map (output_value (setting_of (input_count b) s) state) c.outputs)
      (settled-moved (setting_of (input_count b) s))
      ∙ outputs-moved (setting_of (input_count b) s) (settled b (setting_of (input_count b) s))

  pub is_settled-kept : (s : ℕ) → is_settled c s ≡ is_settled b s
  unfolding is_settled
  is_settled-kept s = ap (all is_defined) (outputs-kept s)

  excluded-kept : (s : ℕ) → is_excluded c s ≡ is_excluded b s
  unfolding is_excluded arranged
  excluded-kept s = refl

  sound-kept : is_sound_at c ≡ is_sound_at b
  unfolding is_sound_at
  sound-kept = fun_ext λ s. ap₂ ◌||◌ (excluded-kept s) (is_settled-kept s)

  counted-kept : is_counted c ≡ is_counted b
  unfolding is_counted
  counted-kept = fun_ext λ s. ap₂ (λ (u v : Bool). not u && v) (excluded-kept s) (is_settled-kept s)

  -- ---- Verdict and Cover

  settings-kept : setting_count c ≡ setting_count b
  unfolding setting_count arranged
  settings-kept = refl

  pub settled_settings-kept : settled_settings c ≡ settled_settings b
  unfolding settled_settings
  settled_settings-kept = ap₂ count_below counted-kept settings-kept

  pub lowest_unsettled-kept : lowest_unsettled c ≡ lowest_unsettled b
  unfolding lowest_unsettled
  lowest_unsettled-kept = ap₂ (λ (p : ℕ → Bool) (n : ℕ). least (λ s. not (p s)) n) sound-kept settings-kept

  under-kept : is_sound_under c ≡ is_sound_under b
  unfolding is_sound_under arranged setting_count
  under-kept = ap {B = Assignment → Bool}
      (λ p a. all (λ s. not (agrees (input_count b) a s) || p s) (up_to (setting_count b))) sound-kept

  pub cover-kept : cover c ≡ cover b
  unfolding cover is_minimal arranged
  cover-kept =
      ap (λ (p : Assignment → Bool). keep
      (λ a. p a && all (λ i. not (fixes a i) || not (p (without a i))) (up_to (input_count b)))
      (assignments (input_count b)))
      under-kept
