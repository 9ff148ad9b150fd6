-- `unroll_depth::pairs::Group::lacks` meets its contract.
use lib.ListN.{get_or}
use Rattle.netlist.specs.StoredBlock.{decode}
use Rattle.lanes_dual_rail.specs.Batches.{lanes_of}
use Rattle.lanes_dual_rail.specs.Words.{Tells}
use Rattle.unroll_depth.specs.Pairs.{differ_at}
use Rattle.unroll_depth.specs.Group.{gates_listed}
use Rattle.unroll_depth.proofs.PairLaws.{lacks-none, lacks-told}
use Rattle.unroll_depth.proofs.pairs.Group.lacks.Goals.{After-differing_lanes-differing}
use Rattle.unroll_depth.proofs.pairs.Group.lacks.Goals as goal

told : (d : After-differing_lanes-differing) → let a = d.args in
    Tells (lanes_of (get_or a.words.now 0 0)) 0
    (differ_at (gates_listed a.self.now) a.lanes.now a.kept.now) d.differing_lanes-differing.result
told d =
    let lanes = lanes_of (get_or d.args.words.now 0 0) in
    d.differing_lanes-differing.ensures.tells lanes d.requires.proper_at.0 d.requires.proper_at.1

pub returns-then-differing-eq0 : goal.returns-then-differing-eq0
returns-then-differing-eq0 c =
    let a = c.args in
    let marked = told (goal.at.returns-then-differing-eq0 c).After-differing_lanes-differing in
    lacks-none (decode a.words.now) (get_or a.words.now 0 0) a.self.now.turn.base (gates_listed a.self.now)
    a.lanes.now a.kept.now marked c.if-differing-eq0.true

pub returns : goal.returns
returns c =
    let a = c.args in
    let marked = told (goal.at.returns c).After-differing_lanes-differing in
    lacks-told (decode a.words.now) (get_or a.words.now 0 0) a.self.now.turn.base (gates_listed a.self.now)
    a.lanes.now a.kept.now marked c.coming_lanes.ensures
