-- `lanes_settings::outputs::any_lanes` meets its contract: after o turns it has the lanes of the first o outputs.
use mathlib.Core.Path.{◌≡◌, sym, ap, ◌∙◌}
use native.Mathlib.Numerals.{add-one}
use native.Mathlib.Omega.{arith}
use Rattle.lanes_settings.proofs.outputs.any_lanes.Goals as goal

pub loop-o-init : goal.loop-o-init
loop-o-init g c = (omega arith, λ below zero step. sym zero)

pub loop-o-preserved : goal.loop-o-preserved
loop-o-preserved g c = (
  omega arith,
  λ below none step. rw (add-one c.loop-o.o, c.loop-o.invariant.1 below none step) (sym (step _ _ c.word-marked.ensures)),
)

pub returns : goal.returns
returns g c =
    λ below none step. let end : c.loop-o.o ≡ c.args.count = omega arith in c.loop-o.invariant.1 below none step ∙ ap below end
