-- The settled values are the least state: below every state that is above its own round, on any set of gates that reads
-- only itself. Cited by the laws on steps and sweeps, and for the agreement of a rendering.
--   after_rounds-below, settled-below*   the settled values are below such a state
--   after_rounds-below-settled           and every round is below them
--   fixed-settled-on                    a state at rest below them is them, on a closed set
-- Assumes nothing.
use Prim.Native.Nat.{ℕ, zero, suc, ◌≤◌, ◌<◌}
use mathlib.Core.Path.{◌≡◌}
use mathlib.Core.Logic.{◌⊎◌, inl, inr}
use mathlib.Core.List.{List}
use lib.ListN.{get_or}
use Rattle.prelude.proofs.Tests.{lt-or-le}
use Rattle.netlist.specs.Values.{Value, undefined}
use Rattle.netlist.specs.Netlist.{Block, gate_count, gate_of}
use Rattle.netlist.specs.Rounds.{evaluated, after_rounds, rounds, settled}
use Rattle.theory_fixpoint.specs.Order.{Below, BelowOn, BelowAll, ClosedOrder}
use Rattle.theory_fixpoint.proofs.Values.{below-of-eq, below-of-undefined, below-trans, below-antisym}
use Rattle.theory_fixpoint.proofs.Evaluation.{evaluated-mono}
use Rattle.theory_fixpoint.proofs.States.{start-below}
use Rattle.theory_fixpoint.proofs.Rounds.{get_d-round, evaluated-outside, evaluated-settled}

module _ (b : Block) (x : List Value) where
  module _ (S : ℕ → Type 0) (w : List Value) (closed : ClosedOrder b S)
      (above : (j : ℕ) → S j → j < gate_count b → Below (evaluated x w (gate_of b j)) (get_or w j undefined)) where
    -- A state above its own round on a closed set is there above every round's state.
    pub after_rounds-below : (r : ℕ) → BelowOn S (after_rounds b x r) w
    unfolding after_rounds
    after_rounds-below zero j s = start-below (gate_count b) w j
    after_rounds-below (suc r) j s =
        rw (get_d-round b x (after_rounds b x r) j) (go (lt-or-le j (gate_count b)) (after_rounds-below r))
      where
        go : (j < gate_count b) ⊎ (gate_count b ≤ j) → BelowOn S (after_rounds b x r) w
            → Below (evaluated x (after_rounds b x r) (gate_of b j)) (get_or w j undefined)
        go (inl l) h =
            below-trans (evaluated-mono x (after_rounds b x r) w b j (λ k q. h k (closed j k s l q))) (above j s l)
        go (inr l) h = below-of-undefined (get_or w j undefined) (evaluated-outside b x (after_rounds b x r) j l)

    -- A state above its own round on a closed set is there above the settled values.
    pub settled-below : BelowOn S (settled b x) w
    unfolding settled
    settled-below = after_rounds-below (rounds b x)

  -- A state fixed on a closed set is there above the settled values.
  pub settled-below-fixed : (S : ℕ → Type 0) (w : List Value) → ClosedOrder b S
      → ((j : ℕ) → S j → j < gate_count b → evaluated x w (gate_of b j) ≡ get_or w j undefined) → BelowOn S (settled b x) w
  settled-below-fixed S w closed fixed = settled-below S w closed (λ j s l. below-of-eq (fixed j s l))

  -- The whole block: a state above its own round is above the settled values.
  pub settled-below-all : (w : List Value)
      → ((j : ℕ) → j < gate_count b → Below (evaluated x w (gate_of b j)) (get_or w j undefined))
      → BelowAll (settled b x) w
  settled-below-all w above j = settled-below (λ _. Unit) w (λ i k s l q. tt) (λ i s l. above i l) j tt

  -- Every round's state is below the settled values.
  pub after_rounds-below-settled : (r : ℕ) → BelowAll (after_rounds b x r) (settled b x)
  after_rounds-below-settled r j =
      after_rounds-below (λ _. Unit) (settled b x) (λ i k s l q. tt)
      (λ i s l. below-of-eq (evaluated-settled b x i)) r j tt

  -- A state below the settled values and fixed on a closed set is settled there.
  pub fixed-settled-on : (S : ℕ → Type 0) (v : List Value) → ClosedOrder b S → BelowOn S v (settled b x)
      → ((j : ℕ) → S j → j < gate_count b → evaluated x v (gate_of b j) ≡ get_or v j undefined)
      → (j : ℕ) → S j → get_or v j undefined ≡ get_or (settled b x) j undefined
  fixed-settled-on S v closed below fixed j s =
      below-antisym (get_or v j undefined) (get_or (settled b x) j undefined) (below j s)
      (settled-below-fixed S v closed fixed j s)
