-- `text_pairs::numbers::pair_place` meets its contract: one pair is passed a turn. Assumes nothing.
use Prim.Native.Nat.{◌≤◌}
use mathlib.Core.Path.{◌≡◌}
use Rattle.text_pairs.specs.PairBytes.{pair_place}
use Rattle.text_pairs.proofs.numbers.pair_place.Given as goal

abbrev pub invariant-loop-k : goal.invariant-loop-k
invariant-loop-k l = (l.k ≤ l.i) × (l.place ≡ pair_place l.s l.at l.k)
