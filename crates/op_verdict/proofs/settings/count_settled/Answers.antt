-- `op_verdict::settings::count_settled` meets its contract: `settled` counts the settled settings of the batches
-- passed.
use mathlib.Core.Path.{◌≡◌, refl, sym, ap, ◌∙◌}
use Prim.Native.Nat.{ℕ, ◌+◌, ◌^◌, ◌≤◌, ◌<◌}
use native.Mathlib.Omega.{arith}
use lib.ListN.{get_or}
use Rattle.prelude.specs.Lists.{count_below}
use Rattle.netlist.specs.StoredBlock.{decode}
use Rattle.netlist.specs.Rounds.{is_counted}
use Rattle.theory_encoding.proofs.Decoded.{decode-input_count}
use Rattle.theory_encoding.proofs.Readers.{whole_parts}
use Rattle.lanes_dual_rail.specs.Batches.{lanes_of}
use Rattle.lanes_settings.proofs.Counting.{setting-count, few-settings}
use Rattle.lanes_settings.proofs.Batching.{Place, place-first, place-next, lanes_of-some}
use Rattle.op_verdict.proofs.Counts.{count-le, count-end, count-batch, reached}
use Rattle.op_verdict.proofs.settings.count_settled.Goals.{After-count_batch-settled, At-loop-base, Start}
use Rattle.op_verdict.proofs.settings.count_settled.Goals as goal

few : (s : Start) → get_or s.args.block.words.now 0 0 ≤ 12
few s = (whole_parts s.args.block.words.now s.args.block.planned.whole).few_inputs

-- how many settings there are, and how many a batch has
all-settings : (l : At-loop-base)
    → l.setting_count-count.result ≡ 2 ^ get_or l.args.block.words.now 0 0
all-settings l = l.setting_count-count.ensures ∙ ap (λ (k : ℕ). 2 ^ k) l.inputs_of-n.ensures

many : (l : At-loop-base)
    → l.lane_count-batch.result ≡ lanes_of (get_or l.args.block.words.now 0 0)
many l = l.lane_count-batch.ensures ∙ ap lanes_of l.inputs_of-n.ensures

-- one batch more, and all of it
counted : (f : After-count_batch-settled) → let b = decode f.args.block.words.now in
    f.loop-base.settled + f.count_batch-settled.result
    ≡ count_below (is_counted b) (f.loop-base.base + f.lane_count-batch.result)
counted f =
    count-batch (decode f.args.block.words.now) f.loop-base.base
    (f.lane_count-batch.ensures ∙ ap lanes_of f.inputs_of-n.ensures)
    f.loop-base.invariant.count f.count_batch-settled.ensures.count

next : (f : After-count_batch-settled)
    → Place (get_or f.args.block.words.now 0 0) (f.loop-base.base + f.lane_count-batch.result)
next f =
    place-next (f.lane_count-batch.ensures ∙ ap lanes_of f.inputs_of-n.ensures)
    (f.setting_count-count.ensures ∙ ap (λ (k : ℕ). 2 ^ k) f.inputs_of-n.ensures) f.loop-base.invariant.place
    f.loop-base-test.true

pub loop-base-init : goal.loop-base-init
loop-base-init c =
    record { place = place-first (get_or c.args.block.words.now 0 0); count = refl; kept = λ h. refl }

pub count_batch-settled-requires : goal.count_batch-settled-requires
count_batch-settled-requires c =
    let inv = c.loop-base.invariant in
    let inside : c.loop-base.base < 2 ^ get_or c.args.block.words.now 0 0 =
    omega (arith, all-settings (goal.at.count_batch-settled-requires c).At-loop-base, c.loop-base-test.true) in
    reached c.requires inv.place (few (goal.at.count_batch-settled-requires c).Start) inside inv.kept

pub overflow_add-settled : goal.overflow_add-settled
overflow_add-settled c =
    let words = c.args.block.words.now in
    let end = c.loop-base.base + c.lane_count-batch.result in
    let done = (goal.at.overflow_add-settled c).After-count_batch-settled in
    let small = few-settings (get_or words 0 0) (few (goal.at.overflow_add-settled c).Start) in
    omega (arith, counted done, count-le (decode words) end, (next done).within, small)

pub loop-base-smaller : goal.loop-base-smaller
loop-base-smaller c =
    omega (arith, c.lane_count-batch.ensures, lanes_of-some c.inputs_of-n.result, c.loop-base-test.true)

pub loop-base-preserved : goal.loop-base-preserved
loop-base-preserved c =
    let e = c.count_batch-settled.ensures in
    let lanes = many (goal.at.loop-base-preserved c).At-loop-base in
    record {
      place = next (goal.at.loop-base-preserved c).After-count_batch-settled;
      count = counted (goal.at.loop-base-preserved c).After-count_batch-settled;
      kept = λ below. e.kept (omega (arith, below, lanes)) ∙ c.loop-base.invariant.kept (omega (arith, below));
    }

pub returns : goal.returns
returns c =
    let words = c.args.block.words.now in
    let count = c.setting_count-count.result in
    let is_all = all-settings (goal.at.returns c).At-loop-base in
    let all : c.loop-base.base ≡ count =
    omega (arith, c.loop-base.invariant.place.within, is_all, c.loop-base-test.false) in
    let settings = setting-count (decode words) (get_or words 0 0) count (sym (decode-input_count words)) is_all in
    c.loop-base.invariant.count ∙ count-end (decode words) c.loop-base.base count settings all

pub setting_count-count-requires : goal.setting_count-count-requires
setting_count-count-requires c = rw c.inputs_of-n.ensures (few (goal.at.setting_count-count-requires c).Start)
