-- `entries::Primes::list_entries` meets its contract: each turn lists a row; where all entries are counted, their words are
-- there.
use Prim.Native.Nat.{◌-◌, ◌*◌, ◌^◌, ◌≤◌}
use Rattle.theory_cover.specs.Entries.{EntriesReached, Words}
use Rattle.op_cover.proofs.entries.Primes.list_entries.Given as goal

abbrev pub invariant-loop-count : goal.invariant-loop-count
invariant-loop-count l =
    let marks = l.self.marks.now in
    let n = l.self.inputs in
    (l.fixed ≤ 2 ^ n) × EntriesReached marks n (l.fixed * 2 ^ n) l.count
    × Words marks l.initial.out l.out n (l.fixed * 2 ^ n)

abbrev pub decreases-loop-count : goal.decreases-loop-count
decreases-loop-count l = 2 ^ l.self.inputs - l.fixed
