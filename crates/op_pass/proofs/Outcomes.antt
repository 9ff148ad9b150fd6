-- Pass's outcome, as a chain of conditions, and that its values are Settle's. Assumes nothing.
use mathlib.Core.Path.{◌≡◌, refl, sym, ◌∙◌}
use mathlib.Core.Bool.{Bool, true, false, not}
use mathlib.Core.List.{List, map}
use Prim.Native.Nat.{ℕ}
use native.Mathlib.Omega.{arith}
use lib.ListN.{length, get_or, length-map}
use lib.Dec.{ltb}
use Rattle.netlist.specs.declared.Refusal.TheVariants.{MalformedBlock, BadSetting, NotStraight, NoRoom}
use Rattle.netlist.specs.Values.{Value, code, value_of}
use Rattle.netlist.specs.Netlist.{Block, gate_count}
use Rattle.netlist.specs.StoredBlock.{decode, is_malformed}
use Rattle.netlist.specs.Rounds.{rounds, settled}
use Rattle.netlist.specs.Rendering.{is_straight, sweep}
use Rattle.std.specs.declared.result.Result.TheVariants.{Ok}
use Rattle.netlist.specs.Answers.{Answer}
use Rattle.netlist.specs.Answers.{refusal_number, number_of, Outcome, done, refuse_if, in_room, answer_of, left_in, Promise}
use Rattle.netlist.specs.Operations.{is_bad_setting, settle_block, settle, pass_block, pass}
use Rattle.words_refusals.specs.Tests.{Test, test_of}
use Rattle.words_refusals.proofs.Promised.{passed, keeps-room}
use Rattle.theory_encoding.proofs.Decoded.{decode-gate_count}
use Rattle.theory_fixpoint.proofs.Sweep.{length-sweep, sweep-settled}
use Rattle.op_pass.specs.Swept.{sweep_codes}
use Rattle.op_pass.specs.Passed.{PassPromise}

module _ (ws setting : List ℕ) (room : ℕ) where
  abbrev x : List Value
  x = map value_of setting

  abbrev b : Block
  b = decode ws

  -- what is left of Pass's conditions behind each: behind the block's form, the setting; behind its rules, both
  abbrev pub setting_on : Outcome
  setting_on = refuse_if (is_bad_setting b setting) BadSetting (pass_block b x)

  abbrev pub straight_on : Outcome
  straight_on = refuse_if (not (is_straight b)) NotStraight setting_on

  pub pass-chain : pass ws setting room ≡ in_room room (refuse_if (is_malformed ws) MalformedBlock straight_on)
  unfolding pass
  pass-chain = refl

  -- the last one, where g is the number of gates
  pub pass-room : {g : ℕ} → g ≡ get_or ws 1 0
      → in_room room (pass_block b x) ≡ refuse_if (ltb room g) NoRoom (done (sweep_codes ws setting) (get_or ws 1 0) 0)
  unfolding pass_block in_room sweep_codes
  pass-room m = rw (length-map (sweep b x) code, length-sweep b x, decode-gate_count ws, m) refl

  -- the outcome when the first tests have passed, from what each of them says
  module _ {w : Test} (words : w ≡ test_of (is_malformed ws) MalformedBlock) (whole : w ≡ Ok tt) where
    pub words-passed : pass ws setting room ≡ in_room room straight_on
    words-passed = passed (in_room room) (keeps-room room) _ _ MalformedBlock pass-chain words whole

    module _ {s : Test} (told : s ≡ test_of (not (is_straight b)) NotStraight) (straight : s ≡ Ok tt) where
      pub straight-passed : pass ws setting room ≡ in_room room setting_on
      straight-passed = passed (in_room room) (keeps-room room) _ _ NotStraight words-passed told straight

      pub setting-passed : {t : Test} {g : ℕ} → t ≡ test_of (is_bad_setting b setting) BadSetting → t ≡ Ok tt
          → g ≡ get_or ws 1 0
          → pass ws setting room ≡ refuse_if (ltb room g) NoRoom (done (sweep_codes ws setting) (get_or ws 1 0) 0)
      setting-passed e f m = passed (in_room room) (keeps-room room) _ _ BadSetting straight-passed e f ∙ pass-room m

-- ---- Pass and Settle

-- what is left in the slice does not depend on the count
same_left : (room : ℕ) (entry result : List ℕ) (t s : Bool) (a b : ℕ)
    → left_in (in_room room (refuse_if t MalformedBlock (refuse_if s BadSetting (done result a 0)))) entry
    ≡ left_in (in_room room (refuse_if t MalformedBlock (refuse_if s BadSetting (done result b 0)))) entry
unfolding refuse_if in_room left_in
same_left room entry result true s a b = refl
same_left room entry result false true a b = refl
same_left room entry result false false a b = go (ltb room (length result))
  where
    go : (r : Bool) → left_in (refuse_if r NoRoom (done result a 0)) entry
        ≡ left_in (refuse_if r NoRoom (done result b 0)) entry
    go true = refl
    go false = refl

-- of a straight block both leave the same in the slice, for every setting and room
pub pass-settle : (ws setting : List ℕ) (room : ℕ) (entry : List ℕ) → is_straight (decode ws) ≡ true
    → left_in (pass ws setting room) entry ≡ left_in (settle ws setting room) entry
unfolding pass settle pass_block settle_block refuse_if
pass-settle ws setting room entry h =
    let b = decode ws in
    let x = map value_of setting in
    rw (h, sweep-settled b x h) (same_left room entry (map code (settled b x)) (is_malformed ws) (is_bad_setting b setting)
    (gate_count b) (rounds b x))

-- Pass answers 0 for straight blocks only
straight-of : (room : ℕ) (torn straight : Bool) (next : Outcome)
    → number_of (answer_of (in_room room (refuse_if torn MalformedBlock (refuse_if (not straight) NotStraight next)))) ≡ 0
    → straight ≡ true
unfolding refuse_if in_room answer_of number_of refusal_number
straight-of room true straight next e = absurd (omega arith)
straight-of room false true next e = refl
straight-of room false false next e = absurd (omega arith)

-- the promise of Pass says that its values are Settle's
pub pass-promise : {ws setting entry exit : List ℕ} {r : Answer} → Promise (pass ws setting (length entry)) entry r exit
    → PassPromise ws setting entry r exit
unfolding pass
pass-promise {ws} {setting} {entry} p =
    record {
      promise = p;
      settles =
          λ z. p.leaves ∙ pass-settle ws setting (length entry) entry
          (straight-of (length entry) (is_malformed ws) _ _ (sym p.told.number ∙ z));
    }
