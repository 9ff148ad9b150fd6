-- `bench_session::netlist_part::netlist_byte` meets its contract: one byte is one turn of the run. Assumes nothing.
use Rattle.bench_session.proofs.NetlistSteps.{turn-opens, turn-keeps, turn-too-long, not-both}
use Rattle.prelude.proofs.Tests.{and_intro}
use Rattle.netlist.specs.Line.{lf}
use lib.Dec.{eqb}
use native.Mathlib.Omega.{arith}
use mathlib.Core.Logic.{inl, inr}
use Rattle.bench_session.proofs.netlist_part.netlist_byte.Goals.{else-fresh-via-then-fresh+else-byte-eq10}
use Rattle.bench_session.proofs.netlist_part.netlist_byte.Goals.{else-fresh-via-else-fresh}
use Rattle.bench_session.proofs.netlist_part.netlist_byte.Goals as goal

pub returns-then-byte-eq10 : goal.returns-then-byte-eq10
returns-then-byte-eq10 c =
    let x = c.args in
    λ line. turn-opens x.held x.fresh x.byte x.text.now x.words.now x.graph.now x.fanout.now
    line x.out.now
    (and_intro x.fresh (eqb x.byte lf) c.if-fresh.true c.if-byte-eq10.true-raw) (c.open.ensures line)

pub returns-then-held-lt-MAX_TEXT : goal.returns-then-held-lt-MAX_TEXT
returns-then-held-lt-MAX_TEXT c =
    let x = c.args in
    λ line. turn-keeps x.held x.fresh x.byte x.text.now _ _ _ line _
    (not-both x.fresh (eqb x.byte lf)
    (elim c.else-fresh.branch [
      | else-fresh-via-then-fresh+else-byte-eq10 w ↦ inl w.if-byte-eq10.false-raw
      | else-fresh-via-else-fresh w ↦ inr w.if-fresh.false
    ]))
    c.if-held-lt-MAX_TEXT.true c.requires.1 c.requires.4

pub returns : goal.returns
returns c =
    let x = c.args in
    λ line. turn-too-long x.held x.fresh x.byte x.text.now _ _ _ line _
    (not-both x.fresh (eqb x.byte lf) (elim c.else-fresh.branch [
      | else-fresh-via-then-fresh+else-byte-eq10 w ↦ inl w.if-byte-eq10.false-raw
      | else-fresh-via-else-fresh w ↦ inr w.if-fresh.false
    ]))
    c.if-held-lt-MAX_TEXT.false (omega arith)
    c.tell-written.ensures
