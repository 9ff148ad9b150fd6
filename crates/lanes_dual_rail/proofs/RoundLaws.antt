-- Rounds on pairs are rounds at every lane: the two representations agree for every gate, setting and round.
--   operand_pair-lane, -proper      an operand
--   evaluated_pair-lane, -proper    a gate
--   pair_round-lane, -proper        a round
--   after_pair_rounds-lane, -proper  so many rounds
-- Assumes nothing.
use mathlib.Core.Path.{◌≡◌, refl, sym, ap, ◌∙◌}
use mathlib.Core.List.{List, [], ◌∷◌, map}
use Prim.Native.Nat.{ℕ, zero, suc, ◌≤◌, ◌<◌, zero-le, suc-le-suc}
use native.Mathlib.Omega.{arith}
use borrow.Author.Tests.{leb-true}
use lib.Dec.{leb}
use lib.ListN.{length, get_or, length-map, get_or-map}
use Rattle.prelude.proofs.Tests.{and_left, and_right}
use Rattle.prelude.proofs.Lists.{map-replicate}
use Rattle.netlist.specs.Values.{undefined}
use Rattle.netlist.specs.Kinds.{fewest_operands, most_operands, arity_fits, gate_value}
use Rattle.netlist.specs.Netlist.{Operand, input, gate, constant, Gate, Block, gate_count, gate_of}
use Rattle.netlist.specs.Rounds.{operand_value, evaluated, round, after_rounds}
use Rattle.words_layout.proofs.KindLaws.{not-counts, kind-last}
use Rattle.theory_fixpoint.proofs.ListFacts.{get_d-replicate-default}
use Rattle.lanes_dual_rail.specs.declared.Pair.{Pair}
use Rattle.lanes_dual_rail.specs.Pairs.{lane, Proper, full, no_lanes}
use Rattle.lanes_dual_rail.specs.PairRounds.{operand_pair, evaluated_pair, pair_round, after_pair_rounds, LegalGate}
use Rattle.lanes_dual_rail.specs.PairRounds.{AllProper}
use Rattle.lanes_dual_rail.proofs.LaneLaws.{nothing-lane, always-lane, nothing-proper, always-proper}
use Rattle.lanes_dual_rail.proofs.LaneLaws.{pair_of-lane, pair_of-proper}

-- the value at a lane of a pair of a list
pub get_d-lane : (s : ℕ) (ps : List Pair) (i : ℕ) → get_or (map (lane s) ps) i undefined ≡ lane s (get_or ps i no_lanes)
get_d-lane s ps i = rw (nothing-lane s) at (get_or-map (lane s) ps i no_lanes)

-- a list of the values of a function at members of a list
proper-map : {A : Type 0} {lanes : ℕ} (f : A → Pair) → ((a : A) → Proper lanes (f a)) → (xs : List A)
    → AllProper lanes (map f xs)
proper-map {A} {lanes} f h xs = record { each = go xs }
  where
    go : (xs : List A) (i : ℕ) → Proper lanes (get_or (map f xs) i no_lanes)
    go [] i = nothing-proper lanes
    go (x ∷ xs) zero = h x
    go (x ∷ xs) (suc i) = go xs i

-- `not` has one operand
one-operand : (g : Gate) → LegalGate g → g.kind ≡ 0 → length g.operands ≡ 1
unfolding arity_fits
one-operand g legal e =
    let few = leb (fewest_operands g.kind) (length g.operands) in
    let most = leb (length g.operands) (most_operands g.kind) in
    let lo : 1 ≤ length g.operands = rw (e, not-counts.0) at
    (leb-true (fewest_operands g.kind) (length g.operands) (and_left few most legal.count)) in
    let hi : length g.operands ≤ 1 = rw (e, not-counts.1) at
    (leb-true (length g.operands) (most_operands g.kind) (and_right few most legal.count)) in
    omega arith

module _ {lanes : ℕ} {x state : List Pair} (inputs_proper : AllProper lanes x) (state_proper : AllProper lanes state)
  where
    pub operand_pair-proper : (o : Operand) → Proper lanes (operand_pair (full lanes) x state o)
    unfolding operand_pair
    operand_pair-proper (input i) = inputs_proper.each i
    operand_pair-proper (gate j) = state_proper.each j
    operand_pair-proper (constant b) = always-proper lanes b

    pub evaluated_pair-proper : (g : Gate) → Proper lanes (evaluated_pair (full lanes) x state g)
    unfolding evaluated_pair
    evaluated_pair-proper g =
        pair_of-proper g.kind (map (operand_pair (full lanes) x state) g.operands)
        (proper-map (operand_pair (full lanes) x state) operand_pair-proper g.operands)

    module _ (s : ℕ) (l : s < lanes) where
      pub operand_pair-lane : (o : Operand)
          → lane s (operand_pair (full lanes) x state o) ≡ operand_value (map (lane s) x) (map (lane s) state) o
      unfolding operand_pair operand_value
      operand_pair-lane (input i) = sym (get_d-lane s x i)
      operand_pair-lane (gate j) = sym (get_d-lane s state j)
      operand_pair-lane (constant b) = always-lane lanes s b l

      operands-lane : (os : List Operand)
          → map (lane s) (map (operand_pair (full lanes) x state) os)
          ≡ map (operand_value (map (lane s) x) (map (lane s) state)) os
      operands-lane [] = refl
      operands-lane (o ∷ os) = rw (operand_pair-lane o, operands-lane os)

      pub evaluated_pair-lane : (g : Gate) → LegalGate g
          → lane s (evaluated_pair (full lanes) x state g) ≡ evaluated (map (lane s) x) (map (lane s) state) g
      unfolding evaluated_pair evaluated
      evaluated_pair-lane g legal =
          pair_of-lane g.kind s (map (operand_pair (full lanes) x state) g.operands) l
          (proper-map (operand_pair (full lanes) x state) operand_pair-proper g.operands)
          (kind-last g.kind legal.kind)
          (λ e. length-map g.operands (operand_pair (full lanes) x state) ∙ one-operand g legal e)
          ∙ ap (gate_value g.kind) (operands-lane g.operands)

-- every gate of the block is legal
abbrev pub LegalGates : Block → Type 0
LegalGates b = (j : ℕ) → j < gate_count b → LegalGate (gate_of b j)

module _ (b : Block) {lanes : ℕ} {x : List Pair} (inputs_proper : AllProper lanes x) where
  pub pair_round-proper : {state : List Pair} → AllProper lanes state
      → AllProper lanes (pair_round b (full lanes) x state)
  unfolding pair_round
  pair_round-proper {state} h =
      proper-map (evaluated_pair (full lanes) x state) (evaluated_pair-proper inputs_proper h) b.gates

  pub after_pair_rounds-proper : (r : ℕ) → AllProper lanes (after_pair_rounds b (full lanes) x r)
  unfolding after_pair_rounds
  after_pair_rounds-proper zero =
      record {
        each = λ k. rw (get_d-replicate-default (gate_count b) k no_lanes) (nothing-proper lanes);
      }
  after_pair_rounds-proper (suc r) = pair_round-proper (after_pair_rounds-proper r)

  module _ (legal : LegalGates b) (s : ℕ) (l : s < lanes) where
    pub pair_round-lane : {state : List Pair} → AllProper lanes state
        → map (lane s) (pair_round b (full lanes) x state) ≡ round b (map (lane s) x) (map (lane s) state)
    unfolding pair_round round
    pair_round-lane {state} h = go b.gates legal
      where
        go : (gs : List Gate) → ((j : ℕ) → j < length gs → LegalGate (get_or gs j (record { kind = 0; operands = [] })))
            → map (lane s) (map (evaluated_pair (full lanes) x state) gs)
            ≡ map (evaluated (map (lane s) x) (map (lane s) state)) gs
        go [] k = refl
        go (g ∷ gs) k =
            rw (
              evaluated_pair-lane inputs_proper h s l g (k 0 (suc-le-suc zero-le)),
              go gs
                  (λ j m. k (suc j) (suc-le-suc m)),
            )

    -- Paper 10: after every number of rounds the gates' pairs hold, at every lane, the values that the rounds on values
    -- give.
    pub after_pair_rounds-lane : (r : ℕ)
        → map (lane s) (after_pair_rounds b (full lanes) x r) ≡ after_rounds b (map (lane s) x) r
    unfolding after_pair_rounds after_rounds
    after_pair_rounds-lane zero = map-replicate (lane s) (gate_count b) no_lanes ∙ rw (nothing-lane s)
    after_pair_rounds-lane (suc r) =
        pair_round-lane (after_pair_rounds-proper r) ∙ ap (round b (map (lane s) x)) (after_pair_rounds-lane r)
