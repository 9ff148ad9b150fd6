-- `op_cells::value::Known::cell_value` meets its contract: the four bits are the digits of the place in the truth word
-- (`cell-value-is`).
use mathlib.Core.Path.{◌≡◌}
use mathlib.Core.List.{List}
use Prim.Native.Nat.{ℕ, ◌≤◌}
use native.Mathlib.Omega.{arith}
use Rattle.netlist.specs.Netlist.{Operand}
use Rattle.netlist.specs.Cells.{operand_bit}
use Rattle.op_cells.specs.Runs.{ReadsBits}
use Rattle.op_cells.proofs.Agree.{operand-most}
use Rattle.op_cells.proofs.Running.{cell-value-is}
use Rattle.op_cells.proofs.value.Known.cell_value.Goals.{After-bit_at-d}
use Rattle.op_cells.proofs.value.Known.cell_value.Goals as goal

few : {r : ℕ} (setting found : List ℕ) (o : Operand) → ReadsBits setting found → r ≡ operand_bit setting found o → r ≤ 1
few setting found o h e = rw e (operand-most setting found h.of_setting h.of_found o)

-- the four bits are at most 1
bits : (c : After-bit_at-d) →
    (c.bit_at-a.result ≤ 1)
    × (c.bit_at-b.result ≤ 1)
    × (c.bit_at-c.result ≤ 1)
    × (c.bit_at-d.result ≤ 1)
bits c =
    let p = c.args.self.now.bits in (
      few _ _ _ p c.bit_at-a.ensures,
      few _ _ _ p c.bit_at-b.ensures,
      few _ _ _ p c.bit_at-c.ensures,
      few _ _ _ p c.bit_at-d.ensures,
    )

pub overflow_mul-place : goal.overflow_mul-place
overflow_mul-place c = let few = bits (goal.at.overflow_mul-place c).After-bit_at-d in omega arith

pub overflow_add-place : goal.overflow_add-place
overflow_add-place c = let few = bits (goal.at.overflow_add-place c).After-bit_at-d in omega arith

pub overflow_mul-place-2 : goal.overflow_mul-place-2
overflow_mul-place-2 c = let few = bits (goal.at.overflow_mul-place-2 c).After-bit_at-d in omega arith

pub overflow_add-place-2 : goal.overflow_add-place-2
overflow_add-place-2 c = let few = bits (goal.at.overflow_add-place-2 c).After-bit_at-d in omega arith

pub overflow_mul-place-3 : goal.overflow_mul-place-3
overflow_mul-place-3 c = let few = bits (goal.at.overflow_mul-place-3 c).After-bit_at-d in omega arith

pub overflow_add-place-3 : goal.overflow_add-place-3
overflow_add-place-3 c = let few = bits (goal.at.overflow_add-place-3 c).After-bit_at-d in omega arith

pub overflow_shr-result : goal.overflow_shr-result
overflow_shr-result c = let few = bits (goal.at.overflow_shr-result c).After-bit_at-d in omega arith

pub returns : goal.returns
returns c =
    let a = c.args in
    let k = a.self.now in
    cell-value-is k.inputs a.cells.now a.at k.setting.now k.found.now
    c.bit_at-a.ensures
    c.bit_at-b.ensures c.bit_at-c.ensures c.bit_at-d.ensures c.word_at-truth.ensures
