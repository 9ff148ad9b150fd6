-- `unroll_emission::rendered::copy_gates` meets its contract: after t turns t copies stand, and the table has the
-- newest of each gate.
use mathlib.Core.Path.{◌≡◌, refl, ◌∙◌}
use native.Mathlib.Omega.{arith}
use Rattle.unroll_emission.specs.Words.{table_after}
use Rattle.unroll_emission.proofs.Words.{table-next, copies-next}
use Rattle.unroll_emission.proofs.rendered.copy_gates.Goals as goal

pub loop-t-init : goal.loop-t-init
unfolding table_after
loop-t-init c = record { copies = refl; newest_is = refl; out_length = refl; newest_length = refl }

pub loop-t-preserved : goal.loop-t-preserved
loop-t-preserved c =
    let a = c.args in
    let l = c.loop-t in
    let g = c.copy_gate in
    record {
      copies =
          copies-next a.words.now a.nodes a.order.now a.newest.now a.out.now l.newest l.out _
          l.t l.invariant.copies l.invariant.newest_is g.ensures.out_after;
      newest_is =
          table-next a.nodes.inputs a.order.now a.newest.now l.t l.newest _ l.invariant.newest_is
          g.ensures.newest_after;
      out_length = g.auto.out ∙ l.invariant.out_length;
      newest_length = g.auto.newest ∙ l.invariant.newest_length;
    }

pub returns : goal.returns
returns c =
    let all : c.loop-t.t ≡ c.args.total = omega arith in
    rw (← all) record {
      out_after = c.loop-t.invariant.copies;
      newest_after = c.loop-t.invariant.newest_is;
    }
