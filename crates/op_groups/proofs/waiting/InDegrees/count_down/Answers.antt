-- `op_groups::waiting::InDegrees::count_down` meets its contract: the list goes down over all slots that read the gate.
use Prim.Native.Nat.{suc, ◌+◌, ◌-◌}
use mathlib.Core.Path.{◌≡◌}
use native.Mathlib.Omega.{arith}
use Rattle.op_groups.proofs.Counted.{waiting-as, open-end, counting-down-first}
use Rattle.op_groups.proofs.Counted.{counting-down-reads, counting-down-next, counting-down-down}
use Rattle.op_groups.proofs.waiting.InDegrees.count_down.Goals as goal

pub loop-at-init : goal.loop-at-init
loop-at-init c =
    let s = c.requires in
    record {
      counting = counting-down-first s.linked s.below s.prepared.legal.few;
      waiting = s.waiting;
    }

pub count_down_slot-requires : goal.count_down_slot-requires
count_down_slot-requires c =
    let s = c.requires in
    let l = c.loop-at in
    let up : l.at ≡ suc (l.at - 1) = omega arith in
    let next : l.at ≡ l.at - 1 + 1 = omega arith in
    record {
      prepared = s.prepared;
      slot = omega (arith, l.invariant.counting.within, up);
      reads = counting-down-reads s.linked s.below s.prepared.legal.few (rw up at l.invariant.counting);
      below = s.below;
      numbered = s.numbered;
      waiting = rw (← next) l.invariant.waiting;
    }

pub loop-at-preserved : goal.loop-at-preserved
loop-at-preserved c =
    let s = c.requires in
    let l = c.loop-at in
    let up : l.at ≡ suc (l.at - 1) = omega arith in
    let few = s.prepared.legal.few in
    record {
      counting = counting-down-next s.linked s.below few (rw up at l.invariant.counting);
      waiting =
          counting-down-down s.linked s.below few (rw up at l.invariant.counting) s.numbered
          c.count_down_slot.ensures;
    }

pub returns : goal.returns
returns c =
    let a = c.args in
    let end : c.loop-at.at ≡ 0 = omega arith in
    waiting-as c.loop-at.invariant.waiting
    (λ e el. rw end (open-end a.groups.graph.words.now a.groups.leaders.now a.numbers.now a.k c.requires.numbered e))
