-- `op_cells::value::Known::operand_bit` meets its contract: one law for each thing that a word can be.
use mathlib.Core.Path.{sym, ◌∙◌}
use native.Mathlib.Omega.{arith}
use Rattle.op_cells.proofs.Running.{input-bit, zero_bit, one_bit, cell-bit}
use Rattle.op_cells.proofs.value.Known.operand_bit.Goals as goal

pub returns-then-word-self : goal.returns-then-word-self
returns-then-word-self c =
    let k = c.args.self.now in
    c.byte_at.ensures ∙ sym (input-bit k.inputs k.setting.now k.found.now c.args.word (omega arith))

pub returns-in-65534 : goal.returns-in-65534
returns-in-65534 c =
    let k = c.args.self.now in
    sym (zero_bit k.inputs k.setting.now k.found.now c.args.word (omega arith) c.in-65534.is)

pub returns-in-65535 : goal.returns-in-65535
returns-in-65535 c =
    let k = c.args.self.now in
    sym (one_bit k.inputs k.setting.now k.found.now c.args.word (omega arith) c.in-65535.is)

pub returns-in_default : goal.returns-in_default
returns-in_default c =
    let k = c.args.self.now in
    c.byte_at-in_default.ensures
    ∙ sym (cell-bit k.inputs k.setting.now k.found.now c.args.word (omega arith) (omega arith) (omega arith))
