-- `op_sheet::turns::answer_lane` meets its contract: 7, or the outputs under the settled values.
use mathlib.Core.Path.{◌∙◌}
use native.Mathlib.Omega.{arith}
use Rattle.theory_encoding.proofs.Readers.{whole_parts}
use Rattle.op_sheet.proofs.RecordLaws.{bad-as, record-refused, shown-record}
use Rattle.op_sheet.proofs.turns.answer_lane.Goals as goal

pub are_masks-requires : goal.are_masks-requires
are_masks-requires c =
    let s = c in
    omega (arith, c.inputs_of.ensures, (whole_parts s.args.block.now.words.now s.args.block.now.well_formed).few_inputs)

pub returns-then-not-are_masks : goal.returns-then-not-are_masks
returns-then-not-are_masks c =
    let tested = c in
    let n = tested in
    let a = n.args in
    c.refuse.ensures
    ∙ record-refused a.block.now.words.now a.fixed a.ones
    (bad-as a.block.now.words.now a.fixed a.ones n.inputs_of.ensures tested.are_masks.ensures
    c.if-not-are_masks.true-raw)

pub returns : goal.returns
returns c =
    let kept = c in
    let tested = kept in
    let n = tested in
    let s = n in
    let a = s.args in
    c.show_lane.ensures
    ∙ shown-record a.block.now.words.now a.fixed a.ones a.s
    (bad-as a.block.now.words.now a.fixed a.ones n.inputs_of.ensures tested.are_masks.ensures
    kept.if-not-are_masks.false-raw) s.requires.shows
