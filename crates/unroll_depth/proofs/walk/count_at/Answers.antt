-- `unroll_depth::walk::count_at` meets its contract: as many passes as gates are enough, and a group that has fewer is
-- counted.
use mathlib.Core.Path.{refl}
use mathlib.Core.List.{List}
use Prim.Native.Nat.{ℕ, ◌+◌, ◌≤◌}
use native.Mathlib.Omega.{arith}
use lib.ListN.{length, get_or}
use Rattle.netlist.specs.Limits.{max_gates}
use Rattle.netlist.specs.StoredBlock.{decode}
use Rattle.netlist.specs.Groups.{groups}
use Rattle.theory_reach.proofs.Order.{groups-not-empty}
use Rattle.theory_unrolling.specs.Copies.{group_at}
use Rattle.unroll_depth.specs.declared.walk.At.{At}
use Rattle.unroll_depth.specs.declared.passes.Turn.{Turn}
use Rattle.unroll_depth.specs.declared.passes.Counted.{Counted}
use Rattle.unroll_depth.specs.Passes.{GroupCounted, GroupReady}
use Rattle.unroll_depth.proofs.PassLaws.{sofar-small}
use Rattle.unroll_depth.proofs.CountLaws.{group-size, starts-few, turn-group, group-ready, counting-known}
use Rattle.unroll_depth.proofs.CountLaws.{counting-next, rest-none, rest-one}
use Rattle.unroll_depth.proofs.walk.count_at.Goals.{After-count_group-counted, Start}
use Rattle.unroll_depth.proofs.walk.count_at.Goals as goal

-- the group's turn, and its passes so far
abbrev turn : List ℕ → At → Turn
turn starts at = record { from = get_or starts at.group 0; end = get_or starts (at.group + 1) 0; base = at.base }

abbrev so_far : List ℕ → At → Counted
so_far passes at = record { passes = get_or passes at.group 0; total = at.total }

-- the group can be counted, and its numbers fit
ready : (s : Start) → let a = s.args in
    GroupReady a.words.now a.graph.now a.members.now (turn a.starts.now a.at) (so_far a.passes.now a.at) a.lanes.now
ready s =
    let p = s.requires in
    group-ready p.held p.listing s.args.at.group p.there (turn s.args.starts.now s.args.at) refl refl refl p.counting refl
    p.fits

few : (s : Start)
    → (get_or s.args.starts.now s.args.at.group 0 ≤ max_gates)
    × (get_or s.args.starts.now (s.args.at.group + 1) 0 ≤ max_gates)
few s = starts-few s.requires.listing s.args.at.group s.requires.there

counted : (c : After-count_group-counted) → let a = c.args in let b = decode a.words.now in
    GroupCounted b (get_or a.words.now 0 0) a.at.base (group_at b a.at.group) (so_far a.passes.now a.at)
    c.count_group-counted.result
counted c =
    let a = c.args in
    let p = c.requires in
    let same = turn-group p.held p.listing a.at.group p.there (turn a.starts.now a.at) refl refl refl in
    rw same at c.count_group-counted.ensures.counted

pub returns-then-end-from : goal.returns-then-end-from
returns-then-end-from c =
    let s = c in
    let a = s.args in
    let b = decode a.words.now in
    let size = group-size s.requires.listing a.at.group s.requires.there in
    let all : length (group_at b a.at.group) ≤ get_or a.passes.now a.at.group 0 =
    omega (arith, size, c.if-end-from.true) in
    record {
      counting = counting-known s.requires.counting s.requires.there all;
      same = rest-none (length (groups b)) a.passes.now;
      lanes = refl;
      room = omega arith;
    }

pub overflow_cast-passes : goal.overflow_cast-passes
overflow_cast-passes c =
    let d = c in
    let s = d in
    omega (
      arith,
      sofar-small (groups-not-empty (decode s.args.words.now) s.args.at.group s.requires.there)
          (counted (goal.at.overflow_cast-passes c).After-count_group-counted).so_far,
    )

pub returns : goal.returns
returns c =
    let d = c in
    let s = d in
    let p = s.requires in
    let few : length (groups (decode s.args.words.now)) ≤ length s.args.passes.now =
    omega (arith, p.listing.few_groups) in
    record {
      counting = counting-next p.counting p.there few p.fits (counted (goal.at.returns c).After-count_group-counted);
      same =
          rest-one (length (groups (decode s.args.words.now))) s.args.passes.now s.args.at.group _
          p.there;
      lanes = d.count_group-counted.ensures.kept.0;
      room = omega arith;
    }

pub count_group-counted-requires : goal.count_group-counted-requires
count_group-counted-requires c = ready (goal.at.count_group-counted-requires c).Start
