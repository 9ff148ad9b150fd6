-- Passes counted for one group and the settings of one batch.
--   batch-inputs, batch-few        the inputs of a batch
--   ready-passes                   a group put aside, cleared, and with so many passes made
--   sofar-small                    the passes are few
--   Passing, passing-first, -more, -done   further passes while a gate lacks its settled value
--   put_back                       the settled pairs, put aside and back
-- Assumes nothing.
use mathlib.Core.Path.{◌≡◌, refl, sym, ◌∙◌}
use mathlib.Core.Logic.{inr}
use mathlib.Core.Bool.{Bool, true, false}
use mathlib.Core.List.{List, []}
use Prim.Native.Nat.{ℕ, ◌+◌, ◌-◌, ◌*◌, ◌≤◌, ◌<◌}
use native.Mathlib.Nat.{mul-le-mul_right, one-mul, mul-suc}
use native.Mathlib.Numerals.{add-one}
use native.Mathlib.Omega.{arith}
use lib.ListN.{length, get_or}
use Rattle.prelude.specs.Lists.{member, repeated}
use Rattle.prelude.proofs.Tests.{not-both, not-true-false}
use Rattle.netlist.specs.Limits.{max_inputs, max_copies}
use Rattle.netlist.specs.Netlist.{Block, input_count, gate_count}
use Rattle.netlist.specs.StoredBlock.{decode}
use Rattle.netlist.specs.Passes.{are_enough}
use Rattle.theory_fixpoint.proofs.ListFacts.{member-repeated}
use Rattle.theory_encoding.proofs.Readers.{whole_parts}
use Rattle.theory_encoding.proofs.Decoded.{decode-input_count}
use Rattle.theory_unrolling.proofs.PassCount.{enough-at}
use Rattle.lanes_dual_rail.specs.LaneWords.{pair_at}
use Rattle.lanes_batch.specs.Layered.{GatesEvaluated, LanesSettled}
use Rattle.unroll_depth.specs.declared.passes.Turn.{Turn}
use Rattle.unroll_depth.specs.declared.passes.Counted.{Counted}
use Rattle.unroll_depth.specs.Pairs.{group_of, Apart, Put, Lacks}
use Rattle.unroll_depth.specs.Passes.{Ran, Stepped, Least, Passed, Kept, GroupBatch, SoFar, PassReady}
use Rattle.unroll_depth.specs.Passes.{MorePasses}
use Rattle.unroll_depth.proofs.GroupLaws.{
  group-there,
  group-long,
  evaluated-stepped,
  ran-stepped,
  kept_put,
  cleared-passed,
  passed-run,
  passed-more,
  agree-settled,
  restored,
}

times_more : (a p : ℕ) → a * (p + 1) ≡ a * p + a
times_more a p = rw add-one (mul-suc a p)

-- a group of some gates has no more passes than copies
times-some : (a p : ℕ) → 0 < a → p ≤ a * p
times-some a p h = rw (one-mul p) at (mul-le-mul_right {m = 1} {n = a} p h)

pub sofar-small : {b : Block} {group : List ℕ} {c : Counted} → 0 < length group → SoFar b group c
    → c.passes ≤ max_copies + max_copies
sofar-small {b} {group} {c} h s = omega (arith, times-some (length group) c.passes h, s.copies, s.most)

-- one pass more than what is not enough
least_more : (b : Block) (group : List ℕ) (p : ℕ) → are_enough b group p ≡ false → Least b group (p + 1)
least_more b group p h = let e : p + 1 - 1 ≡ p = omega arith in record { some = omega arith; fewer = inr (rw e h) }

-- after p passes in all, from p₀ on
pub record Passing (ws members : List ℕ) (turn : Turn) (p₀ total₀ : ℕ) (w₀ w : List ℕ) (p total : ℕ) : Type 0 where
  pub more : p₀ ≤ p
  pub total_is : total + length (group_of members turn) * p₀ ≡ total₀ + length (group_of members turn) * p
  pub so_far : SoFar (decode ws) (group_of members turn) (record { passes = p; total = total })
  pub passed : Passed (decode ws) (get_or ws 0 0) turn.base (group_of members turn) p w
  pub outside : (q : ℕ) → Apart (group_of members turn) q → pair_at w q ≡ pair_at w₀ q

module _ {ws graph members : List ℕ} {turn : Turn} (g : GroupBatch ws graph members turn) where
  abbrev b : Block
  b = decode ws

  abbrev n : ℕ
  n = get_or ws 0 0

  abbrev group : List ℕ
  group = group_of members turn

  pub batch-inputs : get_or ws 0 0 ≡ input_count (decode ws)
  batch-inputs = sym (decode-input_count ws)

  pub batch-few : get_or ws 0 0 ≤ max_inputs
  batch-few = (whole_parts ws g.whole).few_inputs

  pub size-some : 0 < length (group_of members turn)
  size-some = let s = g.some in rw (group-long g) (omega arith)

  -- passes over the group, and one
  repeated-there : (p j : ℕ) → member j (repeated p group) ≡ true → j < gate_count b
  repeated-there p j m = group-there g j (member-repeated j p group m)

  ran-passes : (p : ℕ) {w after : List ℕ} → Passed b n turn.base group 0 w → Ran graph (repeated p group) w after
      → Stepped b n (repeated p group) w after
  ran-passes p c r = ran-stepped g.decoded (repeated-there p) c.held r

  one-pass : {p : ℕ} {w after : List ℕ} {changed : Bool} → Passed b n turn.base group p w
      → GatesEvaluated graph w group after changed
      → Stepped b n group w after
  one-pass c e = evaluated-stepped g.decoded (group-there g) c.held e

  -- a group put aside, cleared, and with so many passes made
  pub ready-passes : {c : Counted} {w kept₀ kept cleared after : List ℕ} → SoFar b group c
      → LanesSettled b n turn.base w → Put group w kept₀ kept
      → Put group [] w cleared → Ran graph (repeated c.passes group) cleared after
      → PassReady ws graph members turn c after kept
  ready-passes {c} so_far settled saved clear ran =
      let first = cleared-passed settled batch-inputs clear in
      record {
        batch = g;
        so_far = so_far;
        passed = passed-run batch-inputs batch-few g.aligned c.passes first (ran-passes c.passes first ran);
        kept = kept_put settled batch-inputs (group-there g) saved;
      }

  -- the settled pairs put aside, passes made, and the settled pairs put back
  pub put_back : {c r : Counted} {w kept₀ kept cleared ran more back : List ℕ} → LanesSettled b n turn.base w
      → Put group w kept₀ kept
      → Put group [] w cleared → Ran graph (repeated c.passes group) cleared ran
      → MorePasses b n turn.base group c ran more r
      → Put group kept more back → back ≡ w
  put_back {c} settled saved clear ran more put =
      let first = cleared-passed settled batch-inputs clear in
      let s = ran-passes c.passes first ran in
      restored saved (more.long ∙ s.held.filled.long ∙ sym settled.filled.long)
      (λ p a. more.outside p a ∙ s.outside p (λ j m. a j (member-repeated j c.passes group m))
      ∙ clear.outside p a) put

  pub passing-first : {c : Counted} {w kept : List ℕ} → PassReady ws graph members turn c w kept
      → Passing ws members turn c.passes c.total w w c.passes c.total
  passing-first r =
      record { more = omega arith; total_is = refl; so_far = r.so_far; passed = r.passed; outside = λ q a. refl }

  module _ {kept : List ℕ} (k : Kept b n turn.base group kept) where
    -- a gate lacks its settled value under a setting that may come
    lacks-enough : {p : ℕ} {w : List ℕ} → Passed b n turn.base group p w → Lacks b n turn.base group w kept true
        → are_enough b group p ≡ false
    lacks-enough {p} c l =
        let w = l.some refl in
        not-true-false (are_enough b group p)
        (λ h. not-both (enough-at b group p h (turn.base + w.0) (omega (arith, g.settings, w.1)) w.2)
        (sym (agree-settled (group-there g) c k w.0 w.1) ∙ w.3))

    module _ {p₀ total₀ : ℕ} {w₀ w : List ℕ} {p total : ℕ} (i : Passing ws members turn p₀ total₀ w₀ w p total) where
      pub passing-more : {after : List ℕ} {changed : Bool} {size : ℕ} → size ≡ turn.end - turn.from
          → total ≤ max_copies
          → Lacks b n turn.base group w kept true → GatesEvaluated graph w group after changed
          → Passing ws members turn p₀ total₀ w₀ after (p + 1) (total + size)
      passing-more {size = size} is few lacks e =
          let more = times_more (length group) p in
          let s = one-pass i.passed e in
          let long : size ≡ length group = is ∙ sym (group-long g) in
          record {
            more = omega (arith, i.more);
            total_is = omega (arith, i.total_is, more);
            so_far =
                record {
                  least = least_more b group p (lacks-enough i.passed lacks);
                  copies = omega (arith, i.so_far.copies, more);
                  most = omega (arith, few, g.positions.within, g.decoded.legal.few);
                };
            passed = passed-more batch-inputs batch-few g.aligned i.passed s;
            outside = λ q a. s.outside q a ∙ i.outside q a;
          }

      pub passing-done : Passed b n turn.base group p₀ w₀
          → (total ≤ max_copies → Lacks b n turn.base group w kept false)
          → MorePasses b n turn.base group (record { passes = p₀; total = total₀ }) w₀ w
          (record { passes = p; total = total })
      passing-done first done =
          record {
            counted =
                record {
                  more = i.more;
                  total_is = i.total_is;
                  so_far = i.so_far;
                  enough =
                      λ few s l e. sym (agree-settled (group-there g) i.passed k s l) ∙ (done few).none refl s l e;
                };
            long = i.passed.held.filled.long ∙ sym first.held.filled.long;
            outside = i.outside;
          }
