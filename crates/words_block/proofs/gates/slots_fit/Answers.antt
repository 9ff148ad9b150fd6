-- `words_block::gates::slots_fit` meets its contract: in each arm the words below the count are tested as operands and
-- the others for 0 (`slots`).
use mathlib.Core.Path.{◌∙◌}
use native.Mathlib.Omega.{arith}
use Rattle.words_block.proofs.SlotLaws.{used, unused, slots}
use Rattle.words_block.proofs.gates.slots_fit.Goals as goal

pub returns-in-1 : goal.returns-in-1
returns-in-1 c =
    let first = c in
    let a = first.args in
    let below = used a.words.now a.nodes a.at a.count in
    let behind = unused a.words.now a.nodes a.at a.count in
    slots a.words.now a.nodes a.at a.count (first.is_operand_word-first.ensures ∙ below 0 (omega arith))
    (behind 1 (omega arith)) (behind 2 (omega arith)) (behind 3 (omega arith))

pub returns-in-2 : goal.returns-in-2
returns-in-2 c =
    let arm = c in
    let first = c in
    let a = first.args in
    let below = used a.words.now a.nodes a.at a.count in
    let behind = unused a.words.now a.nodes a.at a.count in
    slots a.words.now a.nodes a.at a.count (first.is_operand_word-first.ensures ∙ below 0 (omega arith))
    (c.is_operand_word.ensures ∙ below 1 (omega arith)) (behind 2 (omega arith)) (behind 3 (omega arith))

pub returns-in-3 : goal.returns-in-3
returns-in-3 c =
    let arm = c in
    let first = c in
    let a = first.args in
    let below = used a.words.now a.nodes a.at a.count in
    let behind = unused a.words.now a.nodes a.at a.count in
    slots a.words.now a.nodes a.at a.count (first.is_operand_word-first.ensures ∙ below 0 (omega arith))
    (c.is_operand_word-in-3.ensures ∙ below 1 (omega arith))
    (c.is_operand_word-in-3-2.ensures ∙ below 2 (omega arith)) (behind 3 (omega arith))

pub returns-in_default : goal.returns-in_default
returns-in_default c =
    let arm = c in
    let first = c in
    let a = first.args in
    let below = used a.words.now a.nodes a.at a.count in
    slots a.words.now a.nodes a.at a.count (first.is_operand_word-first.ensures ∙ below 0 (omega arith))
    (c.is_operand_word-in_default.ensures ∙ below 1 (omega arith))
    (c.is_operand_word-in_default-2.ensures ∙ below 2 (omega arith))
    (c.is_operand_word-in_default-3.ensures ∙ below 3 (omega arith))
