-- `entries::Primes::write_entries` meets its contract: the count tells whether there is room.
use Prim.Native.Nat.{◌*◌, ◌^◌, ◌≤◌}
use native.Mathlib.Omega.{arith}
use lib.ListN.{length}
use Rattle.netlist.specs.Limits.{max_inputs}
use Rattle.theory_cover.specs.Entries.{entries_by}
use Rattle.op_cover.proofs.Bounds.{pairs-fit}
use Rattle.op_cover.proofs.Listing.{entries-few}
use Rattle.op_cover.proofs.entries.Primes.write_entries.Goals as goal

pub overflow_mul-total : goal.overflow_mul-total
overflow_mul-total c =
    let primes = c.args.self.now in
    let n = primes.inputs in
    let f : length (entries_by primes.marks.now n) ≤ 2 ^ n * 2 ^ n = entries-few primes.marks.now n in
    let g : 2 ^ n * 2 ^ n ≤ 2 ^ (2 * max_inputs) = pairs-fit primes.weighed.few in
    omega (arith, c.requires)
