-- The first pairs of a batch: the two constants on words of 0, and the inputs one after the other.
--   constants-started             the two constants
--   inputs-none, inputs-more      the inputs' pairs
--   padded-at, padded-proper      the pairs of all inputs, those past the block's own too
--   inputs-filled, inputs-padded, inputs-gates, lanes-started   all of it
-- Assumes nothing.
use mathlib.Core.Path.{◌≡◌, refl, sym, ap, ◌∙◌}
use mathlib.Core.Logic.{⊎_elim}
use mathlib.Core.Bool.{cond}
use mathlib.Core.List.{List}
use Prim.Native.Nat.{ℕ, ◌+◌, ◌*◌, ◌≤◌, ◌<◌}
use native.Mathlib.Omega.{arith}
use borrow.Author.Tests.{lt-ltb, le-ltb}
use lib.Dec.{ltb}
use lib.ListN.{length, get_or, replicate, length-replicate}
use lib.ListN.{get_or-eq_default}
use lib.Seq.{ext_get_or}
use Rattle.prelude.specs.Lists.{tab}
use Rattle.prelude.proofs.Tab.{length-tab, get_d-tab, tab-ext}
use Rattle.prelude.proofs.Tests.{lt-or-le, eq-or-ne}
use Rattle.netlist.specs.Limits.{max_inputs, max_gates}
use Rattle.theory_fixpoint.proofs.ListFacts.{get_d-replicate-default}
use Rattle.graph_gates.specs.Places.{first_input, first_gate}
use Rattle.lanes_dual_rail.specs.declared.Pair.{Pair}
use Rattle.lanes_dual_rail.specs.Pairs.{Proper, full, no_lanes, always}
use Rattle.lanes_dual_rail.specs.PairRounds.{AllProper}
use Rattle.lanes_dual_rail.specs.Batches.{lanes_of, input_pair}
use Rattle.lanes_dual_rail.specs.LaneWords.{lane_size, pair_at, put_pair, inputs_in, gates_in, Filled}
use Rattle.lanes_dual_rail.proofs.LaneLaws.{nothing-proper}
use Rattle.lanes_dual_rail.proofs.LaneWordLaws.{put-length, put_same, put_other}
use Rattle.lanes_batch.specs.Layered.{Cleared, ConstantsStarted, InputsPut, padded, start_inputs, LanesStarted}

module _ {m : ℕ} (n : ℕ) {used : ℕ} {w a b c : List ℕ} (few_gates : m ≤ max_gates) (long : length w ≡ lane_size)
    (in_use : used ≡ full (lanes_of n))
    (cleared : Cleared (2 * (first_gate + m)) w a) (zero : b ≡ put_pair a 0 (record { zeros = used; ones = 0 }))
    (one : c ≡ put_pair b 1 (record { zeros = 0; ones = used })) where
  lengths : (length a ≡ lane_size) × (length b ≡ lane_size) × (length c ≡ lane_size)
  lengths =
      let la : length a ≡ lane_size = cleared.long ∙ long in
      let lb : length b ≡ lane_size = ap length zero ∙ put-length a 0 (record { zeros = used; ones = 0 }) ∙ la in
      (la, lb, ap length one ∙ put-length b 1 (record { zeros = 0; ones = used }) ∙ lb)

  none : (p : ℕ) → p < first_gate + m → pair_at a p ≡ no_lanes
  unfolding pair_at no_lanes
  none p l = rw (cleared.none (2 * p) (omega arith), cleared.none (2 * p + 1) (omega arith)) refl

  pub constants-started : ConstantsStarted m n c
  unfolding always
  constants-started =
      record {
        filled = record {
          long = lengths.2;
          zero =
              rw one (put_other b 1 (record { zeros = 0; ones = used }) 0 (omega arith)
              ∙ rw zero (put_same a 0 (record { zeros = used; ones = 0 }) (omega (arith, lengths)) ∙ rw in_use refl));
          one = rw one (put_same b 1 (record { zeros = 0; ones = used }) (omega (arith, lengths)) ∙ rw in_use refl);
        };
        blank = λ p l h.
            rw one
            (put_other b 1 (record { zeros = 0; ones = used }) p (omega arith)
            ∙ rw zero (put_other a 0 (record { zeros = used; ones = 0 }) p (omega arith) ∙ none p h));
      }

pub inputs-none : (pair : ℕ → Pair) (w : List ℕ) → InputsPut pair 0 w w
inputs-none pair w =
    record {
      long = refl;
      put = λ i l. absurd (omega arith);
      before = λ p l. refl;
      behind = λ p l. refl;
    }

pub inputs-more : {pair : ℕ → Pair} {k : ℕ} {w mid after : List ℕ} {q : Pair} → InputsPut pair k w mid
    → length w ≡ lane_size → k < max_inputs
    → q ≡ pair k → after ≡ put_pair mid (first_input + k) q → InputsPut pair (k + 1) w after
inputs-more {pair} {k} {w} {mid} {after} {q} s long few is e =
    record {
      long = rw e (put-length mid (first_input + k) q ∙ s.long);
      put = λ i l. ⊎_elim (same i) (other i l) (eq-or-ne i k);
      before = λ p l. rw e (put_other mid (first_input + k) q p (omega arith) ∙ s.before p l);
      behind = λ p l. rw e (put_other mid (first_input + k) q p (omega arith) ∙ s.behind p (omega arith));
    }
  where
    same : (i : ℕ) → i ≡ k → pair_at after (first_input + i) ≡ pair i
    same i f = rw (f, e) (put_same mid (first_input + k) q (omega (arith, s.long)) ∙ is)

    other : (i : ℕ) → i < k + 1 → (i ≡ k → ⊥) → pair_at after (first_input + i) ≡ pair i
    other i l d = rw e (put_other mid (first_input + k) q (first_input + i) (omega arith) ∙ s.put i (omega arith))

-- what stands in the pairs of all inputs, and that they are proper
pub padded-at : (n : ℕ) (pair : ℕ → Pair) → n ≤ max_inputs → (i : ℕ)
    → get_or (padded n pair) i no_lanes ≡ cond (ltb i n) (pair i) no_lanes
unfolding padded
padded-at n pair few i = ⊎_elim (get_d-tab f max_inputs i no_lanes) past (lt-or-le i max_inputs)
  where
    f : ℕ → Pair
    f = λ i. cond (ltb i n) (pair i) no_lanes

    past : max_inputs ≤ i → get_or (tab f max_inputs) i no_lanes ≡ cond (ltb i n) (pair i) no_lanes
    past h =
        let long : length (tab f max_inputs) ≤ i = rw (length-tab f max_inputs) h in
        get_or-eq_default (tab f max_inputs) no_lanes long ∙ rw (le-ltb i n (omega arith)) refl

pub padded-proper : {lanes : ℕ} (n : ℕ) (pair : ℕ → Pair) → n ≤ max_inputs → ((i : ℕ) → i < n → Proper lanes (pair i))
    → AllProper lanes (padded n pair)
padded-proper {lanes} n pair few each =
    record {
      each = λ i. rw (padded-at n pair few i)
          (⊎_elim (λ l. rw (lt-ltb i n l) (each i l)) (λ h. rw (le-ltb i n h) (nothing-proper lanes)) (lt-or-le i n));
    }

module _ {m n k : ℕ} {pair : ℕ → Pair} {c d : List ℕ} (few_gates : m ≤ max_gates) (few : k ≤ max_inputs)
    (started : ConstantsStarted m n c)
    (inputs : InputsPut pair k c d) where
  pub inputs-filled : Filled (full (lanes_of n)) d
  inputs-filled =
      record {
        long = inputs.long ∙ started.filled.long;
        zero = inputs.before 0 (omega arith) ∙ started.filled.zero;
        one = inputs.before 1 (omega arith) ∙ started.filled.one;
      }

  pub inputs-padded : inputs_in d ≡ padded k pair
  unfolding padded inputs_in
  inputs-padded =
      tab-ext (λ i. pair_at d (first_input + i)) (λ i. cond (ltb i k) (pair i) no_lanes) max_inputs
      (λ i l. ⊎_elim (λ h. rw (lt-ltb i k h) (inputs.put i h))
      (λ h. rw (le-ltb i k h) (inputs.behind (first_input + i) (omega arith) ∙ started.blank (first_input + i)
      (omega arith) (omega arith))) (lt-or-le i k))

  pub inputs-gates : gates_in m d ≡ replicate m no_lanes
  unfolding gates_in
  inputs-gates =
      ext_get_or no_lanes (tab (λ j. pair_at d (first_gate + j)) m) (replicate m no_lanes)
      (length-tab (λ j. pair_at d (first_gate + j)) m ∙ sym (length-replicate m no_lanes))
      (λ j h. let l : j < m = rw (length-tab (λ j. pair_at d (first_gate + j)) m) at h in
      get_d-tab (λ j. pair_at d (first_gate + j)) m j no_lanes l ∙ inputs.behind (first_gate + j) (omega arith)
      ∙ started.blank (first_gate + j) (omega arith) (omega arith) ∙ sym (get_d-replicate-default m j no_lanes))

pub lanes-started : {m n base : ℕ} {c d : List ℕ} → m ≤ max_gates → n ≤ max_inputs → ConstantsStarted m n c
    → InputsPut (input_pair n base) n c d
    → LanesStarted m n base d
unfolding start_inputs
lanes-started few_gates few started inputs =
    record {
      filled = inputs-filled few_gates few started inputs;
      inputs = inputs-padded few_gates few started inputs;
      gates = inputs-gates few_gates few started inputs;
    }
