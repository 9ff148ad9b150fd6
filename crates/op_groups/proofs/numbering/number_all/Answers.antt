-- `op_groups::numbering::number_all` meets its contract: each turn gives the next group its number.
use mathlib.Core.Path.{◌≡◌, sym, ◌∙◌}
use native.Mathlib.Omega.{arith}
use Rattle.op_groups.proofs.Counted.{lowest-in, lowest-gate, lowest-next, none-next}
use Rattle.op_groups.proofs.Turns.{turn_last, turn-within, turn-bare, turn-numbers, numbers-end, end-late}
use Rattle.op_groups.proofs.numbering.number_all.Goals as goal

pub returns-in-None : goal.returns-in-None
returns-in-None c =
    let l = c.loop-g in
    let r = c.requires.linked.prepared in
    numbers-end r l.invariant.numbered
    (turn_last r l.g l.invariant.numbered c.args.groups.graph.gates
    (none-next r l.invariant.waiting c.in-None.ensures) l.invariant.within (omega arith))

pub number_group-requires : goal.number_group-requires
number_group-requires c =
    let l = c.loop-g in
    let r = c.requires.linked.prepared in
    let w = l.invariant.waiting in
    let some = c.in-Some.ensures in
    let gate = lowest-gate r w some.0 some.1 in
    let chosen = lowest-in r w some.0 some.1 in
    record {
      linked = c.requires.linked;
      below = gate;
      number_fits = omega (arith, r.legal.few);
      bare =
          turn-bare r l.g l.invariant.numbered c.in-Some.leader (lowest-next r w some.0 some.1) gate
          (w.sound c.in-Some.leader chosen).bare;
      chosen = chosen;
      waiting = w;
    }

pub loop-g-preserved : goal.loop-g-preserved
loop-g-preserved c =
    let l = c.loop-g in
    let r = c.requires.linked.prepared in
    let some = c.in-Some.ensures in
    let next = lowest-next r l.invariant.waiting some.0 some.1 in
    let gate = lowest-gate r l.invariant.waiting some.0 some.1 in
    let n = c.number_group.ensures in
    record {
      within = turn-within r l.g l.invariant.numbered c.in-Some.leader next gate;
      numbered = turn-numbers r l.g l.invariant.numbered c.in-Some.leader next gate n.room n.each;
      waiting = n.waiting;
    }

pub returns : goal.returns
returns c =
    let l = c.loop-g in
    let r = c.requires.linked.prepared in
    let end : l.g ≡ c.args.groups.graph.gates = omega arith in
    let n = numbers-end r l.invariant.numbered (end-late r l.invariant.within (omega arith)) in
    record { each = n.each; count_is = sym end ∙ n.count_is }
