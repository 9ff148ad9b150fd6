-- `entries::Primes::list_row` meets its contract: the words of the entries among the pairs passed stand in front (`Words`), and
-- there is room for the next, since there is room for all.
use Prim.Native.Nat.{ℕ, ◌+◌, ◌-◌, ◌*◌, ◌^◌, ◌≤◌}
use mathlib.Core.Path.{◌≡◌}
use mathlib.Core.List.{List}
use lib.ListN.{length}
use Rattle.theory_cover.specs.Entries.{EntriesReached, Words}
use Rattle.op_cover.proofs.entries.Primes.list_row.Given as goal

abbrev pub invariant-loop-ones : goal.invariant-loop-ones
invariant-loop-ones l =
    let marks = l.self.marks.now in
    let n = l.self.inputs in
    record {
      within : l.ones ≤ 2 ^ n;
      ends : l.end ≡ 2 ^ n;
      reached : EntriesReached marks n (l.first.fixed * 2 ^ n + l.ones) l.count;
      same_length : length l.out ≡ length l.initial.out;
      words :
          (front : List ℕ) → Words marks front l.initial.out n (l.first.fixed * 2 ^ n)
          → Words marks front l.out n (l.first.fixed * 2 ^ n + l.ones);
    }

abbrev pub decreases-loop-ones : goal.decreases-loop-ones
decreases-loop-ones l = 2 ^ l.self.inputs - l.ones
