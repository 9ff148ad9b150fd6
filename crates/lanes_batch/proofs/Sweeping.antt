-- Sweeps over pairs of words: one gate, a gate more, and that a sweep stays on the way.
--   swept_none, swept-one, swept-then   no gate, one gate, a gate more
--   swept-underway                      a sweep stays on the way
--   lane-defined                        a lane that is 0 or 1
-- Assumes nothing.
use mathlib.Core.Path.{◌≡◌, refl, sym, ap, ◌∙◌}
use mathlib.Core.Logic.{⊎_elim}
use mathlib.Core.Bool.{Bool, true, false, ◌||◌, false≢true}
use mathlib.Core.List.{List, [], ◌∷◌, ◌++◌, map}
use Prim.Native.Nat.{ℕ, zero, suc, ◌+◌, ◌-◌, ◌*◌, ◌^◌, ◌≤◌, ◌<◌, max}
use native.Mathlib.Nat.{not-suc-le-zero, le_of_suc-le-suc, le_refl}
use native.Mathlib.Omega.{arith}
use lib.Bits.{bit_or}
use lib.ListN.{length, get_or, set, length-set}
use Rattle.prelude.proofs.Tests.{or-neither, or_cases, eq-or-ne}
use Rattle.prelude.proofs.Lists.{map-set}
use Rattle.netlist.specs.Values.{val}
use Rattle.netlist.specs.Assignments.{bit}
use Rattle.netlist.specs.Netlist.{Block, gate_count, gate_of}
use Rattle.netlist.specs.Rounds.{evaluated}
use Rattle.netlist.specs.Steps.{step_at, run}
use Rattle.theory_fixpoint.proofs.AnyOrder.{run-append, run-below-settled}
use Rattle.theory_fixpoint.proofs.InPlace.{run-rising}
use Rattle.theory_fixpoint.proofs.ListFacts.{AfterSet, new, old, after-set}
use Rattle.lanes_dual_rail.specs.declared.Pair.{Pair}
use Rattle.lanes_dual_rail.specs.Pairs.{marked_lanes, lane, Proper, full, no_lanes}
use Rattle.lanes_dual_rail.specs.PairRounds.{evaluated_pair, LegalGate, AllProper}
use Rattle.lanes_dual_rail.proofs.BitLaws.{bit-low, bit-or, bit-full}
use Rattle.lanes_dual_rail.proofs.LaneLaws.{below-words}
use Rattle.lanes_dual_rail.proofs.RoundLaws.{get_d-lane, evaluated_pair-lane, evaluated_pair-proper}
use Rattle.lanes_batch.specs.Batch.{Underway, Swept, room}

-- ---- how far the words are from their greatest

unfoldable rest : ℕ → Pair → ℕ
rest lanes p = 2 * 2 ^ lanes - (p.zeros + p.ones)

room-set : (lanes : ℕ) (ps : List Pair) (j : ℕ) (q : Pair) → j < length ps
    → room lanes (set ps j q) + rest lanes (get_or ps j no_lanes) ≡ room lanes ps + rest lanes q
unfolding room rest
room-set lanes [] j q l = absurd (not-suc-le-zero l)
room-set lanes (p ∷ ps) zero q l = omega arith
room-set lanes (p ∷ ps) (suc j) q l = omega (arith, room-set lanes ps j q (le_of_suc-le-suc l))

set_same : (ps : List Pair) (j : ℕ) → set ps j (get_or ps j no_lanes) ≡ ps
set_same [] j = refl
set_same (p ∷ ps) zero = refl
set_same (p ∷ ps) (suc j) = rw (set_same ps j)

pub set-proper : {lanes : ℕ} {ps : List Pair} {q : Pair} (j : ℕ) → AllProper lanes ps → Proper lanes q
    → AllProper lanes (set ps j q)
set-proper {lanes} {ps} {q} j h k = record { each = λ i. go i (after-set ps j i q no_lanes) }
  where
    go : (i : ℕ) → AfterSet ps j i q no_lanes → Proper lanes (get_or (set ps j q) i no_lanes)
    go i (new e l f) = rw f k
    go i (old d f) = rw f (h.each i)

-- the two bits of a lane, of which one is set
bit-defined : (z o : ℕ) → z < 2 → o < 2 → max z o ≡ 1 → (c : Bool) × (marked_lanes z o ≡ val c)
unfolding marked_lanes
bit-defined zero zero h l e = absurd (omega arith)
bit-defined zero (suc zero) h l e = (true, refl)
bit-defined zero (suc (suc o)) h l e = absurd (omega arith)
bit-defined (suc zero) zero h l e = (false, refl)
bit-defined (suc zero) (suc o) h l e = (false, refl)
bit-defined (suc (suc z)) o h l e = absurd (omega arith)

pub lane-defined : (lanes : ℕ) (p : Pair) → bit_or p.zeros p.ones ≡ full lanes → (s : ℕ) → s < lanes
    → (c : Bool) × (lane s p ≡ val c)
unfolding lane
lane-defined lanes p e s l =
    bit-defined (bit p.zeros s) (bit p.ones s) (bit-low p.zeros s) (bit-low p.ones s)
    (sym (bit-or p.zeros p.ones s) ∙ ap (λ (w : ℕ). bit w s) e ∙ bit-full lanes s l)

module _ {b : Block} {lanes : ℕ} {x : List Pair} where
  -- no gate
  pub swept_none : (state : List Pair) → Underway b lanes x state → Swept b lanes x [] state state false
  unfolding run
  swept_none state u =
      record {
        proper = u.proper;
        long = refl;
        lanewise = λ s l. refl;
        still = λ e. refl;
        less = λ e. absurd (false≢true e);
        most = le_refl (room lanes state);
      }

  -- one gate; whether its pair changed
  pub swept-one : {state : List Pair} {p : Pair} {changed : Bool} (j : ℕ) → Underway b lanes x state → j < gate_count b
      → LegalGate (gate_of b j)
      → p ≡ evaluated_pair (full lanes) x state (gate_of b j)
      → (changed ≡ false → p ≡ get_or state j no_lanes)
      → (changed ≡ true → p.zeros ≡ (get_or state j no_lanes).zeros → p.ones ≡ (get_or state j no_lanes).ones → ⊥)
      → Swept b lanes x (j ∷ []) state (set state j p) changed
  unfolding run step_at rest
  swept-one {state} {p} {changed} j u l legal e same other =
      record {
        proper = set-proper j u.proper is_proper;
        long = length-set state j p;
        lanewise = λ s h. map-set (lane s) state j p ∙ ap (set (map (lane s) state) j) (value s h);
        still = λ f. ap (set state j) (same f) ∙ set_same state j;
        less = λ f. omega (arith, strict f, sum, is_proper.zeros_within, is_proper.ones_within);
        most = omega (arith, grown, sum, is_proper.zeros_within, is_proper.ones_within);
      }
    where
      is_proper : Proper lanes p
      is_proper = rw e (evaluated_pair-proper u.inputs_proper u.proper (gate_of b j))

      value : (s : ℕ) → s < lanes → lane s p ≡ evaluated (map (lane s) x) (map (lane s) state) (gate_of b j)
      value s h = rw e (evaluated_pair-lane u.inputs_proper u.proper s h (gate_of b j) legal)

      grown : ((get_or state j no_lanes).zeros ≤ p.zeros) × ((get_or state j no_lanes).ones ≤ p.ones)
      grown =
          below-words (u.proper.each j) is_proper
          (λ s h. rw (value s h, ← get_d-lane s state j) (u.rising s h j))

      sum : room lanes (set state j p) + rest lanes (get_or state j no_lanes) ≡ room lanes state + rest lanes p
      sum = room-set lanes state j p (rw u.long l)

      strict : changed ≡ true → (get_or state j no_lanes).zeros + (get_or state j no_lanes).ones < p.zeros + p.ones
      strict f =
          ⊎_elim
          (λ ez. ⊎_elim (λ eo. absurd (other f ez eo)) (λ no. omega (arith, grown, no))
          (eq-or-ne p.ones (get_or state j no_lanes).ones))
          (λ nz. omega (arith, grown, nz)) (eq-or-ne p.zeros (get_or state j no_lanes).zeros)

  -- a sweep stays on the way
  pub swept-underway : {js : List ℕ} {state after : List Pair} {changed : Bool} → Underway b lanes x state
      → Swept b lanes x js state after changed
      → Underway b lanes x after
  swept-underway {js} {state} u s =
      record {
        inputs_proper = u.inputs_proper;
        proper = s.proper;
        long = s.long ∙ u.long;
        rising = λ i l. rw (s.lanewise i l) (run-rising b (map (lane i) x) js (map (lane i) state) (u.rising i l));
        below =
            λ i l. rw (s.lanewise i l) (run-below-settled b (map (lane i) x) js (map (lane i) state) (u.below i l));
      }

  -- a further gate
  pub swept-then : {js : List ℕ} {state mid after : List Pair} {r s : Bool} (k : ℕ) → Swept b lanes x js state mid r
      → Swept b lanes x (k ∷ []) mid after s
      → Swept b lanes x (js ++ (k ∷ [])) state after (s || r)
  swept-then {js} {state} {mid} {after} {r} {s} k f g =
      record {
        proper = g.proper;
        long = g.long ∙ f.long;
        lanewise = λ i l.
            g.lanewise i l
            ∙ ap (run b (map (lane i) x) (k ∷ [])) (f.lanewise i l)
            ∙ sym (run-append b (map (lane i) x) js (k ∷ []) (map (lane i) state));
        still = λ e. g.still (or-neither s r e).0 ∙ f.still (or-neither s r e).1;
        less =
            λ e. ⊎_elim (λ h. omega (arith, g.less h, f.most)) (λ h. omega (arith, f.less h, g.most))
            (or_cases s r e);
        most = omega (arith, g.most, f.most);
      }
