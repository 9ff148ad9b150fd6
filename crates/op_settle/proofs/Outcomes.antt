-- Settle's outcome, as a chain of conditions, and what it leaves in the caller's slice. Assumes nothing.
use mathlib.Core.Path.{◌≡◌, refl, ap, ◌∙◌}
use mathlib.Core.List.{List, map}
use Prim.Native.Nat.{ℕ, ◌+◌}
use lib.ListN.{get_or, length-map}
use lib.Dec.{ltb}
use Rattle.netlist.specs.declared.Refusal.TheVariants.{MalformedBlock, BadSetting, NoRoom}
use Rattle.prelude.specs.Lists.{tab, placed}
use Rattle.netlist.specs.Values.{Value, code, value_of}
use Rattle.netlist.specs.Netlist.{Block}
use Rattle.netlist.specs.StoredBlock.{decode, is_malformed}
use Rattle.netlist.specs.Rounds.{rounds, settled}
use Rattle.std.specs.declared.result.Result.TheVariants.{Ok}
use Rattle.netlist.specs.Answers.{Outcome, done, refuse_if, in_room}
use Rattle.netlist.specs.Operations.{is_bad_setting, settle_block, settle}
use Rattle.words_refusals.specs.Tests.{Test, test_of}
use Rattle.words_refusals.proofs.Promised.{passed, keeps-room}
use Rattle.theory_encoding.proofs.Decoded.{decode-gate_count}
use Rattle.theory_fixpoint.proofs.Rounds.{length-settled}
use Rattle.graph_gates.specs.Places.{first_gate}
use Rattle.graph_gates.specs.Graph.{Decoded}
use Rattle.graph_simulation.specs.State.{state_in}
use Rattle.graph_simulation.specs.Rounded.{Starting, SettledIn}
use Rattle.graph_simulation.proofs.Rounds.{settled-of, rounds-of, state-codes}
use Rattle.op_settle.specs.Settled.{Settled}

module _ (ws setting : List ℕ) (room : ℕ) where
  abbrev x : List Value
  x = map value_of setting

  abbrev b : Block
  b = decode ws

  -- what is left of Settle's conditions behind the block's rules
  abbrev pub setting_on : Outcome
  setting_on = refuse_if (is_bad_setting b setting) BadSetting (settle_block b x)

  pub settle-chain : settle ws setting room ≡ in_room room (refuse_if (is_malformed ws) MalformedBlock setting_on)
  unfolding settle
  settle-chain = refl

  -- the last one, where g is the number of gates
  pub settle-room : {g : ℕ} → g ≡ get_or ws 1 0
      → in_room room (settle_block b x) ≡ refuse_if (ltb room g) NoRoom (done (map code (settled b x)) (rounds b x) 0)
  unfolding settle_block in_room
  settle-room m = rw (length-map (settled b x) code, length-settled b x, decode-gate_count ws, m) refl

  -- the outcome when the first tests have passed, from what each of them says
  module _ {w : Test} (words : w ≡ test_of (is_malformed ws) MalformedBlock) (whole : w ≡ Ok tt) where
    pub words-passed : settle ws setting room ≡ in_room room setting_on
    words-passed = passed (in_room room) (keeps-room room) _ _ MalformedBlock settle-chain words whole

    pub setting-passed : {s : Test} {g : ℕ} → s ≡ test_of (is_bad_setting b setting) BadSetting → s ≡ Ok tt
        → g ≡ get_or ws 1 0
        → settle ws setting room ≡ refuse_if (ltb room g) NoRoom (done (map code (settled b x)) (rounds b x) 0)
    setting-passed e f m = passed (in_room room) (keeps-room room) _ _ BadSetting words-passed e f ∙ settle-room m

-- from the array of values to the caller's slice
pub settled-bytes : {ws graph start values out' : List ℕ} (setting out : List ℕ) {count : ℕ}
    → Decoded (decode ws) (get_or ws 1 0) graph
    → Starting (map value_of setting) start → (m : ℕ) → m ≡ get_or ws 1 0 → SettledIn m graph start values count
    → out' ≡ placed (tab (λ j. get_or values (first_gate + j) 0) m) out → Settled ws setting out out' count
settled-bytes {ws} {graph} {start} {values} setting out {count} d s m e r o =
    let c : SettledIn (get_or ws 1 0) graph start values count = rw e at r in
    let found : state_in m values ≡ settled (decode ws) (map value_of setting) = rw e (c.state ∙ settled-of d s) in
    record {
      values = o ∙ ap (λ (codes : List ℕ). placed codes out) (state-codes m r.coded ∙ ap (map code) found);
      reported = c.reported ∙ rounds-of d s;
    }
