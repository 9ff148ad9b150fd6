-- `lanes_settings::lowest::unsettled_batch` meets its contract: every batch passed is settled where it may come, and
-- the one at which the loops are left is not.
use mathlib.Core.Path.{◌≡◌, refl, ap, ◌∙◌}
use mathlib.Core.Bool.{true}
use Prim.Native.Nat.{ℕ, ◌+◌, ◌^◌, ◌≤◌, ◌<◌}
use native.Mathlib.Omega.{arith}
use lib.ListN.{get_or}
use Rattle.netlist.specs.StoredBlock.{decode}
use Rattle.netlist.specs.Rounds.{is_sound_at}
use Rattle.theory_encoding.proofs.Readers.{whole_parts}
use Rattle.lanes_dual_rail.specs.Batches.{lanes_of}
use Rattle.lanes_settings.proofs.OutputLaws.{output-there}
use Rattle.lanes_settings.proofs.Batching.{Place, place-first, place-next, lanes_of-some, passed-sound}
use Rattle.lanes_settings.proofs.Batching.{found-unsound, batch-more}
use Rattle.lanes_settings.proofs.lowest.unsettled_batch.Goals.{After-judge_batch, At-batches, In-batches, Start}
use Rattle.lanes_settings.proofs.lowest.unsettled_batch.Goals as goal

few : (s : Start) → get_or s.args.block.words.now 0 0 ≤ 12
few s = (whole_parts s.args.block.words.now s.args.block.planned.whole).few_inputs

many : (l : At-batches)
    → l.lane_count-batch.result ≡ lanes_of (get_or l.args.block.words.now 0 0)
many l = l.lane_count-batch.ensures ∙ ap lanes_of l.inputs_of-n.ensures

next : (d : After-judge_batch) → Place (get_or d.args.block.words.now 0 0) (d.batches.base + d.lane_count-batch.result)
next d =
    place-next (d.lane_count-batch.ensures ∙ ap lanes_of d.inputs_of-n.ensures)
    (d.setting_count-count.ensures ∙ ap (λ (k : ℕ). 2 ^ k) d.inputs_of-n.ensures) d.batches.invariant.place
    d.batches-test.true

pub batches-init : goal.batches-init
batches-init c =
    record { place = place-first (get_or c.args.block.words.now 0 0); sound = λ k l. absurd (omega arith) }

pub undefined_lanes-requires : goal.undefined_lanes-requires
undefined_lanes-requires c =
    output-there c.args.block.words.now c.args.block.planned.whole c.inputs_of-n.ensures c.outputs_at-at.ensures c.loop-o.o
    (omega (arith, c.outputs_of-outputs.ensures, c.loop-o-test.true))

pub batches-smaller : goal.batches-smaller
batches-smaller c = omega (arith, c.lane_count-batch.ensures, lanes_of-some c.inputs_of-n.result, c.batches-test.true)

pub batches-preserved : goal.batches-preserved
batches-preserved c =
    let words = c.args.block.words.now in
    let all : (s : ℕ) → s < lanes_of (get_or words 0 0) → is_sound_at (decode words) (c.batches.base + s) ≡ true =
    passed-sound c.judge_batch.ensures c.outputs_at-at.ensures c.coming_lanes-coming.ensures
    (λ o l. rw (← c.inputs_of-n.ensures) (c.loop-o.invariant o (omega (arith, c.outputs_of-outputs.ensures)))) in
    record {
      place = next (goal.at.batches-preserved c).After-judge_batch;
      sound =
          batch-more (λ i. is_sound_at (decode words) i ≡ true) (many (goal.at.batches-preserved c).At-batches)
          c.batches.invariant.sound all;
    }

pub returns-then-coming-undefined_lanes-ne0 : goal.returns-then-coming-undefined_lanes-ne0
returns-then-coming-undefined_lanes-ne0 c =
    let j = c.judge_batch.ensures in
    let passed = c.batches.invariant in
    record {
      within = passed.place.within;
      before = passed.sound;
      whole = passed.place.whole;
      judged = λ i. j;
      some = λ i.
          found-unsound j c.outputs_at-at.ensures c.coming_lanes-coming.ensures c.loop-o.o
          (omega (arith, c.outputs_of-outputs.ensures, c.loop-o-test.true))
          (λ z. c.if-coming-undefined_lanes-ne0.true (rw (c.undefined_lanes.ensures, c.inputs_of-n.ensures) z));
      long = j.settled.filled.long;
    }

pub setting_count-count-requires : goal.setting_count-count-requires
setting_count-count-requires c = rw c.inputs_of-n.ensures (few (goal.at.setting_count-count-requires c).Start)
