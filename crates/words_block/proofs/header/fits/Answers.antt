-- `words_block::header::fits` meets its contract: each way out is the first part of the rule that fails, or the last
-- part.
use native.Mathlib.Omega.{arith}
use borrow.Author.Tests.{le-leb, lt-leb}
use Rattle.netlist.specs.Limits.{max_inputs, max_nevers, max_gates, max_outputs}
use Rattle.netlist.specs.StoredBlock.{inputs_at, nevers_at, gates_at, outputs_at}
use Rattle.theory_encoding.specs.Rules.{header_rule}
use Rattle.words_block.proofs.header.fits.Goals as goal

pub returns-then-length-lt-INPUTS_AT : goal.returns-then-length-lt-INPUTS_AT
unfolding header_rule
returns-then-length-lt-INPUTS_AT c = rw (lt-leb inputs_at _ c.if-length-lt-INPUTS_AT.true)

pub returns-then-n-gt-MAX_INPUTS : goal.returns-then-n-gt-MAX_INPUTS
unfolding header_rule
returns-then-n-gt-MAX_INPUTS c =
    let after-inputs-of = c in
    rw (
      le-leb inputs_at _ c.if-length-lt-INPUTS_AT.false,
      ← after-inputs-of.inputs_of-n.ensures,
      lt-leb _ max_inputs c.if-n-gt-MAX_INPUTS.true,
    )

pub returns-then-m-gt-MAX_GATES : goal.returns-then-m-gt-MAX_GATES
unfolding header_rule
returns-then-m-gt-MAX_GATES c =
    let after-inputs-of = c in
    let after-gates-of = c in
    rw (
      le-leb inputs_at _ c.if-length-lt-INPUTS_AT.false,
      ← after-inputs-of.inputs_of-n.ensures,
      ← after-gates-of.gates_of-m.ensures,
      le-leb _ max_inputs c.if-n-gt-MAX_INPUTS.false,
      lt-leb _ max_gates c.if-m-gt-MAX_GATES.true,
    )

pub returns-then-k-gt-MAX_OUTPUTS : goal.returns-then-k-gt-MAX_OUTPUTS
unfolding header_rule
returns-then-k-gt-MAX_OUTPUTS c =
    let after-inputs-of = c in
    let after-gates-of = c in
    let after-outputs-of = c in
    rw (
      le-leb inputs_at _ c.if-length-lt-INPUTS_AT.false,
      ← after-inputs-of.inputs_of-n.ensures,
      ← after-gates-of.gates_of-m.ensures,
      ← after-outputs-of.outputs_of-k.ensures,
      le-leb _ max_inputs c.if-n-gt-MAX_INPUTS.false,
      le-leb _ max_gates c.if-m-gt-MAX_GATES.false,
      lt-leb _ max_outputs c.if-k-gt-MAX_OUTPUTS.true,
    )

pub returns-then-l-gt-MAX_NEVERS : goal.returns-then-l-gt-MAX_NEVERS
unfolding header_rule
returns-then-l-gt-MAX_NEVERS c =
    let else1 = c in
    let after-inputs-of = c in
    let after-gates-of = c in
    let after-outputs-of = c in
    let after-nevers-of = c in
    rw (
      le-leb inputs_at _ else1.if-length-lt-INPUTS_AT.false,
      ← after-inputs-of.inputs_of-n.ensures,
      ← after-gates-of.gates_of-m.ensures,
      ← after-outputs-of.outputs_of-k.ensures,
      ← after-nevers-of.nevers_of-l.ensures,
      le-leb _ max_inputs c.if-n-gt-MAX_INPUTS.false,
      le-leb _ max_gates c.if-m-gt-MAX_GATES.false,
      le-leb _ max_outputs c.if-k-gt-MAX_OUTPUTS.false,
      lt-leb _ max_nevers c.if-l-gt-MAX_NEVERS.true,
    )

pub overflow_add-result : goal.overflow_add-result
unfolding nevers_at gates_at outputs_at
overflow_add-result c = omega arith

pub returns : goal.returns
unfolding header_rule
returns c =
    let else1 = c in
    let after-inputs-of = c in
    let after-gates-of = c in
    let after-outputs-of = c in
    let after-nevers-of = c in
    let else2 = c in
    rw (
      le-leb inputs_at _ else1.if-length-lt-INPUTS_AT.false,
      ← after-inputs-of.inputs_of-n.ensures,
      ← after-gates-of.gates_of-m.ensures,
      ← after-outputs-of.outputs_of-k.ensures,
      ← after-nevers-of.nevers_of-l.ensures,
      le-leb _ max_inputs else2.if-n-gt-MAX_INPUTS.false,
      le-leb _ max_gates c.if-m-gt-MAX_GATES.false,
      le-leb _ max_outputs c.if-k-gt-MAX_OUTPUTS.false,
      le-leb _ max_nevers c.if-l-gt-MAX_NEVERS.false,
      ← c.outputs_behind.ensures,
    )
