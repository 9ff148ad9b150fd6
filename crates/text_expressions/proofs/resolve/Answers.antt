-- `text_expressions::resolve` meets its contract: the two walks start where the lines of the tree stand, and together
-- they have used its names in order.
use native.Mathlib.Omega.{arith}
use mathlib.Core.Path.{◌≡◌, sym, ◌∙◌}
use lib.ListN.{length}
use Rattle.std.proofs.lemmas.Grind.{merely}
use Rattle.text_expressions.proofs.WholeText.{nodes-few, numbers-length, values_length, outputs_text}
use Rattle.text_expressions.proofs.WholeText.{end-inside, outputs-end}
use Rattle.text_expressions.proofs.WholeText.{gates-here, outputs-here, gates-done}
use Rattle.text_expressions.proofs.Answers.{known-done, undeclared-done, unknown-short}
use Rattle.text_expressions.proofs.resolve.Goals.{After-gate_lines-walked}
use Rattle.text_expressions.proofs.resolve.Goals as goal

-- where the output lines begin
outputs-left : (c : After-gate_lines-walked)
    → c.gate_lines-walked.result.left ≡ length (outputs_text c.requires.resolve_ready.here)
outputs-left c =
    (gates-done c.requires.resolve_ready.here c.args.gates.now c.gate_lines-walked.new.gates c.gate_lines-walked.result
    c.gate_lines-walked.ensures).left

pub slice_bounds-symbols-end : goal.slice_bounds-symbols-end
slice_bounds-symbols-end c = numbers-length c.requires.resolve_ready.here

pub slice_bounds-symbols-end-2 : goal.slice_bounds-symbols-end-2
slice_bounds-symbols-end-2 c = values_length c.requires.resolve_ready.here

pub invariant_of-symbols : goal.invariant_of-symbols
invariant_of-symbols c =
    let w = c.requires.resolve_ready.here in record {
      sized = sym (values_length w) ∙ numbers-length w;
      indexed = merely c.requires.nodes_indexed;
    }

pub gate_lines-walked-requires : goal.gate_lines-walked-requires
gate_lines-walked-requires c =
    let r = c.requires.resolve_ready in
    record { lines_here = gates-here r.here c.args.gates.now r.gate_room }

pub overflow_sub-length : goal.overflow_sub-length
overflow_sub-length c =
    let left = outputs-left (goal.at.overflow_sub-length c).After-gate_lines-walked in
    omega (arith, left, (outputs-end c.requires.resolve_ready.here).within)

pub output_lines-last-requires : goal.output_lines-last-requires
output_lines-last-requires c =
    let r = c.requires.resolve_ready in
    let left = outputs-left (goal.at.output_lines-last-requires c).After-gate_lines-walked in
    record {
      by_index = (
        c.args.c.inputs,
        outputs-here r.here c.gate_lines-walked.result.left c.args.outputs.now left r.output_room,
      );
    }

pub returns-in-None : goal.returns-in-None
returns-in-None c =
    let r = c.requires.resolve_ready in
    record {
      done = λ t w. known-done w c.gate_lines-walked.ensures (c.output_lines-last.ensures c.args.c.inputs) c.in-None.is
          r.gate_room r.output_room;
    }

pub overflow_sub-result : goal.overflow_sub-result
overflow_sub-result c =
    unknown-short c.requires.resolve_ready.here c.gate_lines-walked.ensures (c.output_lines-last.ensures c.args.c.inputs)
    c.in-Some.is

pub returns-in-Some : goal.returns-in-Some
returns-in-Some c =
    let r = c.requires.resolve_ready in
    record {
      done = λ t w. undeclared-done w c.gate_lines-walked.ensures (c.output_lines-last.ensures c.args.c.inputs)
          c.in-Some.is r.gate_room r.output_room;
    }

pub overflow_add-nodes : goal.overflow_add-nodes
overflow_add-nodes c = omega (arith, nodes-few c.requires.resolve_ready.here)

pub slice_bounds-gate_lines-count : goal.slice_bounds-gate_lines-count
slice_bounds-gate_lines-count c = omega (arith, end-inside c.requires.resolve_ready.here)

pub slice_bounds-gate_lines-start : goal.slice_bounds-gate_lines-start
slice_bounds-gate_lines-start c = omega (arith, end-inside c.requires.resolve_ready.here)
