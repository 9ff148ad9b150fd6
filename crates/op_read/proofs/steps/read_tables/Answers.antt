-- `op_read::steps::read_tables` meets its contract: the tables, 4 as the lesser of two places, 5 in never lines, and
-- then the rest.
use native.Mathlib.Omega.{arith}
use Prim.Native.Nat.{◌+◌}
use Rattle.netlist.specs.Limits.{max_inputs, max_gates}
use Rattle.theory_fixpoint.proofs.ListFacts.{get_d-replicate-default}
use Rattle.text_names.specs.Index.{hashes}
use Rattle.op_read.proofs.Stages.{room_for, index-ready, twice, outsider, terms-ready}
use Rattle.op_read.proofs.steps.read_tables.Goals as goal

pub declare-requires : goal.declare-requires
declare-requires c = room_for c.requires _ _ _ (omega arith) (omega arith) (omega arith)

pub duplicate-requires : goal.duplicate-requires
duplicate-requires c =
    let f = c in
    let d = f.declare.ensures in
    index-ready f.requires _ _ _ (omega (arith, d.name_size)) (omega (arith, d.place_size)) (omega arith)
    (λ j. get_d-replicate-default (hashes + max_inputs + max_gates + 1) j 0)

pub returns-in_err-earlier_repeat : goal.returns-in_err-earlier_repeat
returns-in_err-earlier_repeat c =
    let e = c in
    let r = e in
    let f = r in
    let s = f in
    twice s.requires f.declare.ensures r.duplicate.ensures e.earlier_repeat.ensures s.args.block.now
    c.in_err-earlier_repeat.was c.from_residual.ensures.1

pub returns-in_err-told : goal.returns-in_err-told
returns-in_err-told c =
    let once = c in
    let e = once in
    let r = e in
    let f = r in
    let s = f in
    outsider s.requires f.declare.ensures r.duplicate.ensures e.earlier_repeat.ensures
    once.in_ok-earlier_repeat.was s.args.block.now c.in_err-told.was c.from_residual-in_err-told.ensures.1

pub read_terms-requires : goal.read_terms-requires
read_terms-requires c =
    let lent = c in
    let inside = lent in
    let once = inside in
    let e = once in
    let r = e in
    let f = r in
    terms-ready f.requires f.declare.ensures r.duplicate.ensures e.earlier_repeat.ensures
    once.in_ok-earlier_repeat.was inside.in_ok-told.was
