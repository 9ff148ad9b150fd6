-- `graph_gates::put_node` meets its contract: each slot's place fits a word, and at the end there are four.
use mathlib.Core.Path.{◌≡◌, ◌∙◌}
use Prim.Native.Nat.{◌-◌}
use native.Mathlib.Omega.{arith}
use Rattle.prelude.proofs.Stores.{sets-next}
use Rattle.graph_gates.specs.Graph.{slots}
use Rattle.graph_gates.proofs.Decoding.{place-small, node-put}
use Rattle.graph_gates.proofs.put_node.Goals as goal

pub overflow_cast-graph-in-loop-i : goal.overflow_cast-graph-in-loop-i
overflow_cast-graph-in-loop-i c =
    omega (
      arith,
      c.slot_place.ensures,
      place-small c.requires.0 c.args.j c.requires.1 (1 - c.rule_of-rule.result.controlling) c.loop-i.i (omega arith),
    )

pub loop-i-preserved : goal.loop-i-preserved
loop-i-preserved c = sets-next _ _ _ _ _ _ c.loop-i.invariant c.slot_place.ensures

pub returns : goal.returns
returns c =
    let all : c.loop-i.i ≡ slots = omega arith in
    rw all at c.loop-i.invariant
    ∙ node-put c.args.words.now c.args.graph.now c.args.nodes c.args.j c.word_in-head.result _ _ c.word_in-head.ensures
    c.rule_of-rule.ensures.0 c.rule_of-rule.ensures.1
