-- The outputs of a decided batch, lane by lane.
--   output-there, outputs-there     outputs can be read
--   output-operand, output-is       an output's node
--   output-proper, output-lane      an output's pair
--   undefined-tells                 where it is undefined
--   unsettled-tells                 where one of them is
--   any-first                       one test less
--   undefined-some, undefined-unsettled   a setting is not settled where an output is undefined
-- Assumes nothing.
use mathlib.Core.Path.{◌≡◌, refl, sym, ap, ◌∙◌}
use mathlib.Core.Logic.{⊎_elim}
use mathlib.Core.Bool.{Bool, true, false, not, ◌||◌}
use mathlib.Core.List.{List, [], ◌∷◌, map}
use Prim.Native.Nat.{ℕ, zero, suc, ◌+◌, ◌*◌, ◌^◌, ◌≤◌, ◌<◌, max}
use native.Mathlib.Omega.{arith}
use lib.Bits.{bit_or, differ, or_lt, xor_lt}
use lib.Dec.{eqb}
use lib.ListN.{length, get_or, length-map, get_or-map}
use lib.Pow.{ones_lt}
use Rattle.prelude.specs.Lists.{all, any, up_to}
use Rattle.prelude.proofs.Elements.{get_d-defaults}
use Rattle.prelude.proofs.Quantifiers.{all-at, all_from, any_append, any_below, below-any}
use Rattle.prelude.proofs.Tests.{bool_cases, lt-or-le, not-both, not-true-false}
use Rattle.netlist.specs.Values.{Value, undefined, is_defined}
use Rattle.netlist.specs.Assignments.{bit}
use Rattle.netlist.specs.Netlist.{Operand, constant, Output, input_count, gate_count}
use Rattle.netlist.specs.Limits.{max_inputs}
use Rattle.netlist.specs.StoredBlock.{name_size, output_size, nevers_at, gates_at, outputs_at, operand_of, output_at, decode}
use Rattle.netlist.specs.StoredBlock.{is_malformed}
use Rattle.netlist.specs.Rounds.{setting_of, settled, settled_under, operand_value, output_value, outputs_under, is_settled}
use Rattle.theory_encoding.proofs.Decoded.{decode-input_count, decode-gate_count, decode-output_count, decode-output}
use Rattle.theory_encoding.proofs.Readers.{whole_parts, whole-node}
use Rattle.graph_gates.specs.Places.{first_gate, place_of}
use Rattle.graph_gates.proofs.Places.{place-input, place-gate, operand_at-word}
use Rattle.lanes_dual_rail.specs.declared.Pair.{Pair}
use Rattle.lanes_dual_rail.specs.Pairs.{marked_lanes, lane, Proper, full}
use Rattle.lanes_dual_rail.specs.Batches.{lanes_of}
use Rattle.lanes_dual_rail.specs.PairRounds.{operand_pair}
use Rattle.lanes_dual_rail.specs.LaneWords.{inputs_in, gates_in, Filled}
use Rattle.lanes_dual_rail.proofs.BitLaws.{bit-low, bit-or, bit-xor, bit-full}
use Rattle.lanes_dual_rail.proofs.RoundLaws.{operand_pair-proper, operand_pair-lane}
use Rattle.lanes_dual_rail.proofs.LaneWordLaws.{place-operand}
use Rattle.lanes_batch.specs.Layered.{start_inputs}
use Rattle.lanes_batch.proofs.Inputs.{operand_value-inputs, start_inputs-lane}
use Rattle.lanes_dual_rail.specs.Words.{has_lane, Tells}
use Rattle.lanes_settings.specs.Lanes.{OutputThere, OutputsThere, Judged, is_undefined_at, is_unsettled, output_pair}
use Rattle.lanes_settings.specs.Lanes.{undefined_in, undefined_word, unsettled_word}
use Rattle.lanes_dual_rail.proofs.WordLaws.{tells_as, tells_none, tells-or}

-- the two bits of a lane in use, at which neither is set exactly where the value is undefined
neither : (z o : ℕ) → z < 2 → o < 2 → eqb (differ 1 (max z o)) 1 ≡ not (is_defined (marked_lanes z o))
unfolding marked_lanes is_defined
neither zero zero h l = refl
neither zero (suc zero) h l = refl
neither zero (suc (suc o)) h l = absurd (omega arith)
neither (suc zero) zero h l = refl
neither (suc zero) (suc zero) h l = refl
neither (suc zero) (suc (suc o)) h l = absurd (omega arith)
neither (suc (suc z)) o h l = absurd (omega arith)

module _ {lanes : ℕ} {p : Pair} (proper : Proper lanes p) where
  undefined_in-within : undefined_in (full lanes) p < 2 ^ lanes
  unfolding undefined_in full
  undefined_in-within =
      xor_lt lanes (full lanes) (bit_or p.zeros p.ones) (ones_lt lanes)
      (or_lt lanes p.zeros p.ones proper.zeros_within proper.ones_within)

  undefined_in-lane : (s : ℕ) → s < lanes → has_lane (undefined_in (full lanes) p) s ≡ not (is_defined (lane s p))
  unfolding undefined_in has_lane lane
  undefined_in-lane s l =
      rw (bit-xor (full lanes) (bit_or p.zeros p.ones) s, bit-full lanes s l, bit-or p.zeros p.ones s)
      (neither (bit p.zeros s) (bit p.ones s) (bit-low p.zeros s) (bit-low p.ones s))

-- one test less
pub any-first : (p : ℕ → Bool) (k : ℕ) → any p (up_to (suc k)) ≡ any p (up_to k) || p k
any-first p k = any_append p (up_to k) (k ∷ []) ∙ go (any p (up_to k)) (p k)
  where
    go : (a c : Bool) → a || (c || false) ≡ a || c
    go a true = refl
    go a false = refl

-- some element fails exactly where not all pass
any-not-all : {A : Type 0} (p : A → Bool) (xs : List A) (d : A)
    → any (λ i. not (p (get_or xs i d))) (up_to (length xs)) ≡ not (all p xs)
any-not-all p xs d = ⊎_elim yes-all not-all (bool_cases (all p xs))
  where
    yes-all : all p xs ≡ true → any (λ i. not (p (get_or xs i d))) (up_to (length xs)) ≡ not (all p xs)
    yes-all h =
        rw h
        (not-true-false (any (λ i. not (p (get_or xs i d))) (up_to (length xs)))
        (λ t. let f = any_below (λ i. not (p (get_or xs i d))) (length xs) t in not-both f.2
        (rw (all-at p xs f.0 d h f.1))))

    not-all : all p xs ≡ false → any (λ i. not (p (get_or xs i d))) (up_to (length xs)) ≡ not (all p xs)
    not-all h =
        rw h
        (⊎_elim (λ t. t)
        (λ e. not-both (all_from p xs d (λ i l. not-false-true (p (get_or xs i d)) (not-any i l e))) h)
        (bool_cases (any (λ i. not (p (get_or xs i d))) (up_to (length xs)))))
      where
        not-false-true : (a : Bool) → not a ≡ false → a ≡ true
        not-false-true true e = refl
        not-false-true false e = sym e

        not-any : (i : ℕ) → i < length xs → any (λ i. not (p (get_or xs i d))) (up_to (length xs)) ≡ false
            → not (p (get_or xs i d)) ≡ false
        not-any i l e =
            not-true-false (not (p (get_or xs i d)))
            (λ t. not-both (below-any (λ i. not (p (get_or xs i d))) (length xs) i l t) e)

-- an output's word
word : List ℕ → ℕ → ℕ → ℕ
word ws at o = get_or ws (at + output_size * o + name_size) 0

few-inputs : (ws : List ℕ) → is_malformed ws ≡ false → {n : ℕ} → n ≡ get_or ws 0 0 → n ≤ max_inputs
few-inputs ws whole inputs = rw inputs (whole_parts ws whole).few_inputs

-- an output of whole words can be read
module _ (ws : List ℕ) (whole : is_malformed ws ≡ false) {n : ℕ} (inputs : n ≡ get_or ws 0 0) {at : ℕ}
    (first : at ≡ outputs_at (get_or ws 0 0) (get_or ws 3 0) (get_or ws 1 0)) where
  few : n ≤ max_inputs
  few = few-inputs ws whole inputs

  node-inside : (o : ℕ) → o < get_or ws 2 0 → word ws at o < n + get_or ws 1 0
  unfolding word
  node-inside o l = rw (first, inputs) (whole-node ws whole o l)

  place-there : (o : ℕ) → o < get_or ws 2 0 → place_of (operand_of n (word ws at o)) < first_gate + get_or ws 1 0
  place-there o l =
      let h = node-inside o l in
      let most = (whole_parts ws whole).few_gates in
      ⊎_elim (λ k. rw (place-input n (word ws at o) k) (omega (arith, few)))
      (λ k. rw (place-gate n (word ws at o) k (omega (arith, few))) (omega arith))
      (lt-or-le (word ws at o) n)

  pub output-there : (o : ℕ) → o < get_or ws 2 0 → OutputThere ws at n o
  unfolding word outputs_at gates_at nevers_at
  output-there o l =
      let parts = whole_parts ws whole in
      record {
        near = rw first (omega (arith, parts.few_inputs, parts.few_gates, parts.few_nevers));
        few = omega (arith, parts.few_outputs);
        few_inputs = few;
        inside = omega (arith, place-there o l, parts.few_gates);
      }

  pub outputs-there : OutputsThere ws at n (get_or ws 2 0)
  outputs-there = record { many = omega (arith, (whole_parts ws whole).few_outputs); each = output-there }

  -- an output's pair is that of its node, whatever the inputs of the lanes are
  pub output-operand : {used : ℕ} {w : List ℕ} → Filled used w → (o : ℕ) → o < get_or ws 2 0 → output_pair ws at n w o
      ≡ operand_pair used (inputs_in w) (gates_in (gate_count (decode ws)) w)
      (operand_of n (get_or ws (at + output_size * o + name_size) 0))
  unfolding output_pair word
  output-operand {used} {w} filled o l =
      let inside = node-inside o l in
      place-operand filled (gate_count (decode ws)) _ (rw (decode-gate_count ws) (place-there o l))
      ∙ ap (operand_pair used (inputs_in w) (gates_in (gate_count (decode ws)) w))
      (operand_at-word n (get_or ws (at + output_size * o + name_size) 0) few
      (omega (arith, few, (whole_parts ws whole).few_gates)))

  -- the words of output o
  pub output-is : (o : ℕ) (d : Output) → o < get_or ws 2 0
      → output_at n ws (at + output_size * o) ≡ get_or (decode ws).outputs o d
  output-is o d l = rw (first, inputs) (sym (decode-output ws o d l))

module _ {ws : List ℕ} {n base : ℕ} {w : List ℕ} (j : Judged ws n base w) {at : ℕ}
    (first : at ≡ outputs_at (get_or ws 0 0) (get_or ws 3 0) (get_or ws 1 0)) where
  pair_is : (o : ℕ) → o < get_or ws 2 0 → output_pair ws at n w o
      ≡ operand_pair (full (lanes_of n)) (inputs_in w) (gates_in (gate_count (decode ws)) w)
      (operand_of n (get_or ws (at + output_size * o + name_size) 0))
  pair_is o l = output-operand ws j.whole j.inputs first j.settled.filled o l

  pub output-proper : (o : ℕ) → o < get_or ws 2 0 → Proper (lanes_of n) (output_pair ws at n w o)
  output-proper o l =
      rw (pair_is o l)
      (operand_pair-proper j.settled.inputs_proper j.settled.gates_proper
      (operand_of n (get_or ws (at + output_size * o + name_size) 0)))

  as_many : (s : ℕ) → length (outputs_under (decode ws) s) ≡ get_or ws 2 0
  unfolding outputs_under
  as_many s = length-map (decode ws).outputs _ ∙ decode-output_count ws

  -- at each lane the pair holds what the output shows under that setting
  pub output-lane : (o : ℕ) → o < get_or ws 2 0 → (s : ℕ) → s < lanes_of n
      → lane s (output_pair ws at n w o) ≡ get_or (outputs_under (decode ws) (base + s)) o undefined
  unfolding outputs_under output_value output_at settled_under
  output-lane o there s l =
      let word = get_or ws (at + output_size * o + name_size) 0 in
      let b = decode ws in
      let many : n ≡ input_count b = j.inputs ∙ sym (decode-input_count ws) in
      let d : Output = record { port = []; node = constant false } in
      let shows : Output → Value = output_value (setting_of (input_count b) (base + s)) (settled_under b (base + s)) in
      let values : lane s (output_pair ws at n w o)
      ≡ operand_value (setting_of n (base + s)) (settled_under b (base + s)) (operand_of n word) =
      ap (lane s) (pair_is o there)
      ∙ operand_pair-lane j.settled.inputs_proper j.settled.gates_proper s l (operand_of n word)
      ∙ rw (j.settled.settled_lanes s l, j.settled.inputs)
      (ap (λ (f : Operand → Value). f (operand_of n word))
      (operand_value-inputs (map (lane s) (start_inputs n base)) (setting_of n (base + s))
      (start_inputs-lane n base j.few_inputs j.aligned s l) (settled b (setting_of n (base + s))))
      ∙ rw many refl) in
      let inside : o < length (map shows b.outputs) = rw (as_many (base + s)) there in
      let shown : shows (output_at n ws (at + output_size * o)) ≡ get_or (map shows b.outputs) o undefined =
      ap shows (output-is ws j.whole j.inputs first o d there)
      ∙ sym (get_d-defaults (map shows b.outputs) o undefined (shows d) inside
      ∙ get_or-map shows b.outputs o d) in
      values ∙ ap (λ (k : ℕ). operand_value (setting_of k (base + s)) (settled_under b (base + s)) (operand_of n word)) many
      ∙ shown

  pub undefined-tells : (o : ℕ) → o < get_or ws 2 0
      → Tells (lanes_of n) base (is_undefined_at (decode ws) o) (undefined_word ws at n w o)
  unfolding undefined_word is_undefined_at
  undefined-tells o there =
      record {
        within = undefined_in-within (output-proper o there);
        each =
            λ s l. undefined_in-lane (output-proper o there) s l
            ∙ ap (λ (v : Value). not (is_defined v)) (output-lane o there s l);
      }

-- one of the first outputs is undefined
unsettled_by : List ℕ → ℕ → ℕ → Bool
unsettled_by ws k s = any (λ o. is_undefined_at (decode ws) o s) (up_to k)

unsettled-all : (ws : List ℕ) (s : ℕ) → unsettled_by ws (get_or ws 2 0) s ≡ is_unsettled (decode ws) s
unfolding unsettled_by is_unsettled is_settled is_undefined_at outputs_under
unsettled-all ws s =
    let b = decode ws in
    let shows : Output → Value = output_value (setting_of (input_count b) s) (settled_under b s) in
    let many : length (map shows b.outputs) ≡ get_or ws 2 0 = length-map b.outputs shows ∙ decode-output_count ws in
    rw many at (any-not-all is_defined (map shows b.outputs) undefined)

-- a setting is not settled exactly where an output is undefined
pub undefined-some : (ws : List ℕ) (s : ℕ) → is_unsettled (decode ws) s ≡ true
    → (o : ℕ) × (o < get_or ws 2 0) × (is_undefined_at (decode ws) o s ≡ true)
unfolding unsettled_by
undefined-some ws s h = any_below (λ o. is_undefined_at (decode ws) o s) (get_or ws 2 0) (unsettled-all ws s ∙ h)

pub undefined-unsettled : (ws : List ℕ) (s o : ℕ) → o < get_or ws 2 0 → is_undefined_at (decode ws) o s ≡ true
    → is_unsettled (decode ws) s ≡ true
unfolding unsettled_by
undefined-unsettled ws s o l h =
    sym (unsettled-all ws s) ∙ below-any (λ o. is_undefined_at (decode ws) o s) (get_or ws 2 0) o l h

module _ {ws : List ℕ} {n base : ℕ} {w : List ℕ} (j : Judged ws n base w) {at : ℕ}
    (first : at ≡ outputs_at (get_or ws 0 0) (get_or ws 3 0) (get_or ws 1 0)) where
  unsettled-first : (k : ℕ) → k ≤ get_or ws 2 0 → Tells (lanes_of n) base (unsettled_by ws k) (unsettled_word ws at n w k)
  unfolding unsettled_word unsettled_by
  unsettled-first zero l = tells_as (λ s. refl) tells_none
  unsettled-first (suc k) l =
      tells_as (λ s. sym (any-first (λ o. is_undefined_at (decode ws) o s) k))
      (tells-or (unsettled-first k (omega arith)) (undefined-tells j first k (omega arith)))

  pub unsettled-tells : Tells (lanes_of n) base (is_unsettled (decode ws)) (unsettled_word ws at n w (get_or ws 2 0))
  unsettled-tells = tells_as (unsettled-all ws) (unsettled-first (get_or ws 2 0) (omega arith))
