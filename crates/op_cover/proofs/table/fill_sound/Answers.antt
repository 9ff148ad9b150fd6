-- `op_cover::table::fill_sound` meets its contract: after a batch the first bytes are flags up to its end.
use mathlib.Core.Path.{◌≡◌, refl, ap, ◌∙◌}
use mathlib.Core.Bool.{false}
use mathlib.Core.List.{List}
use Prim.Native.Nat.{ℕ, ◌+◌, ◌^◌, ◌≤◌, ◌<◌}
use native.Mathlib.Omega.{arith}
use lib.ListN.{length, get_or}
use Rattle.netlist.specs.StoredBlock.{decode, is_malformed}
use Rattle.theory_encoding.proofs.Readers.{whole_parts}
use Rattle.lanes_dual_rail.specs.Batches.{lanes_of}
use Rattle.lanes_dual_rail.proofs.InputLaws.{lanes_of-most}
use Rattle.lanes_settings.proofs.Counting.{few-settings}
use Rattle.lanes_settings.proofs.Batching.{Place, place-first, place-next, lanes_of-some}
use Rattle.op_cover.proofs.Flags.{flagged-placed}
use Rattle.op_cover.proofs.table.fill_sound.Goals.{After-judge_batch}
use Rattle.op_cover.proofs.table.fill_sound.Goals as goal

few : (ws : List ℕ) → is_malformed ws ≡ false → get_or ws 0 0 ≤ 12
few ws whole = (whole_parts ws whole).few_inputs

-- the settings and the lanes of a block, by the word that has its number of inputs
all-settings : {count n w : ℕ} → count ≡ 2 ^ n → n ≡ w → count ≡ 2 ^ w
all-settings count n = count ∙ ap (λ (k : ℕ). 2 ^ k) n

many : {batch n w : ℕ} → batch ≡ lanes_of n → n ≡ w → batch ≡ lanes_of w
many batch n = batch ∙ ap lanes_of n

-- this batch is one of the block's
inside : {base count n w : ℕ} → count ≡ 2 ^ n → n ≡ w → base < count → base < 2 ^ w
inside count n l = omega (arith, all-settings count n, l)

-- it ends where there are bytes for it
room : (d : After-judge_batch)
    → (d.loop-base.base + lanes_of (get_or d.args.block.words.now 0 0) ≤ length d.args.sound.now)
    × (d.loop-base.base < 4294967296)
room d =
    let h = inside d.setting_count-count.ensures d.inputs_of-n.ensures d.loop-base-test.true in
    let most = few-settings (get_or d.args.block.words.now 0 0) (few _ d.args.block.planned.whole) in
    (omega (arith, d.loop-base.invariant.place.whole h, d.requires), omega (arith, h, most))

next : (d : After-judge_batch) → Place (get_or d.args.block.words.now 0 0) (d.loop-base.base + d.lane_count-batch.result)
next d =
    place-next (many d.lane_count-batch.ensures d.inputs_of-n.ensures)
    (all-settings d.setting_count-count.ensures d.inputs_of-n.ensures) d.loop-base.invariant.place d.loop-base-test.true

pub loop-base-init : goal.loop-base-init
loop-base-init c = record { place = place-first (get_or c.args.block.words.now 0 0); flags = refl; same = refl }

pub write_flags-requires : goal.write_flags-requires
write_flags-requires c =
    let r = room (goal.at.write_flags-requires c).After-judge_batch in
    let e = many c.lane_count-batch.ensures c.inputs_of-n.ensures in
    let most = lanes_of-most (get_or c.args.block.words.now 0 0) in
    (omega (arith, e, most), r.1, omega (arith, e, r.0, c.loop-base.invariant.same))

pub loop-base-smaller : goal.loop-base-smaller
loop-base-smaller c =
    omega (arith, c.lane_count-batch.ensures, lanes_of-some c.inputs_of-n.result, c.loop-base-test.true)

pub loop-base-preserved : goal.loop-base-preserved
loop-base-preserved c =
    let d = (goal.at.loop-base-preserved c).After-judge_batch in
    let e = many c.lane_count-batch.ensures c.inputs_of-n.ensures in
    record {
      place = next d;
      flags =
          c.write_flags.ensures
          ∙ flagged-placed (decode c.args.block.words.now) c.args.sound.now e c.sound_lanes.ensures (room d).0
          c.loop-base.invariant.flags;
      same = c.write_flags.auto.flags ∙ c.loop-base.invariant.same;
    }

pub setting_count-count-requires : goal.setting_count-count-requires
setting_count-count-requires c = rw c.inputs_of-n.ensures (few _ c.args.block.planned.whole)
