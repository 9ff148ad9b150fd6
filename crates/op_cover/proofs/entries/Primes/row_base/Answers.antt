-- `entries::Primes::row_base` meets its contract: twice the weight of a mask is less than 3^n.
use Prim.Native.Nat.{◌+◌, ◌*◌, ◌^◌, ◌≤◌}
use mathlib.Core.Path.{◌≡◌}
use native.Mathlib.Omega.{arith}
use lib.ListN.{get_or}
use Rattle.netlist.specs.Limits.{max_inputs}
use Rattle.theory_cover.specs.Tables.{weight_of}
use Rattle.op_cover.proofs.Bounds.{three-fits}
use Rattle.op_cover.proofs.Rows.{row_fits}
use Rattle.op_cover.proofs.entries.Primes.row_base.Goals.{Start}
use Rattle.op_cover.proofs.entries.Primes.row_base.Goals as goal

fits : (c : Start) → let primes = c.args.self.now in let n = primes.inputs in
    (2 * weight_of n c.args.fixed + 1 ≤ 3 ^ n) × (3 ^ n ≤ 3 ^ max_inputs)
    × (get_or primes.weights.now c.args.fixed 0 ≡ weight_of n c.args.fixed)
fits c =
    let primes = c.args.self.now in
    let n = primes.inputs in (
      row_fits n c.args.fixed,
      three-fits {i = n} {n = n} (omega arith) primes.weighed.few,
      primes.weighed.right c.args.fixed c.requires,
    )

pub overflow_sub-result : goal.overflow_sub-result
overflow_sub-result c = omega (arith, fits (goal.at.overflow_sub-result c).Start, c.args.self.now.sized)

pub overflow_sub-result-2 : goal.overflow_sub-result-2
overflow_sub-result-2 c = omega (arith, fits (goal.at.overflow_sub-result-2 c).Start, c.args.self.now.sized)

pub returns : goal.returns
returns c = omega (arith, fits (goal.at.returns c).Start, c.args.self.now.sized)
