-- `entries::Primes::is_left` meets its contract: the sum is the assignment's number (`number_is`).
use Prim.Native.Nat.{◌+◌, ◌^◌, ◌≤◌, ◌<◌}
use native.Mathlib.Omega.{arith}
use lib.ListN.{get_or}
use Rattle.netlist.specs.Limits.{max_inputs}
use Rattle.op_cover.proofs.Rows.{number-below, left_is}
use Rattle.op_cover.proofs.entries.Primes.is_left.Goals.{Start}
use Rattle.op_cover.proofs.entries.Primes.is_left.Goals as goal

small : (c : Start)
    → (c.args.first.base + get_or c.args.self.now.weights.now c.args.ones 0 < 3 ^ c.args.self.now.inputs)
    × (3 ^ c.args.self.now.inputs ≤ 3 ^ max_inputs)
small c = number-below c.requires.0 c.requires.1 c.requires.2

pub bounds-self-first : goal.bounds-self-first
bounds-self-first c = let s = c in omega (arith, small (goal.at.bounds-self-first c).Start, s.requires.0.room)

pub returns : goal.returns
returns c = search left_is
