-- `text_pairs::told::fill_at_names` meets its contract: one pair a turn. Assumes nothing.
use Rattle.std.proofs.Common.{◌≡◌, ℕ}
use Rattle.prelude.specs.Lists.{tab, placed}
use Rattle.text_pairs.specs.PairBytes.{pair_place}
use Rattle.text_pairs.proofs.told.fill_at_names.Given as goal

abbrev pub invariant-loop-i : goal.invariant-loop-i
invariant-loop-i g l =
    (l.place ≡ pair_place l.s l.at l.i)
    × ((f : ℕ → _) → ((i : ℕ) (v : _) → goal.F-post g l.entry (pair_place l.s l.at i) v → v ≡ f i)
    → l.table ≡ placed (tab f l.i) l.initial.table)
