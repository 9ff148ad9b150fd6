-- `text_names::pack::fill_at_places` meets its contract: one place a turn.
use Rattle.std.proofs.Common.{◌≡◌, ℕ, get_or}
use Rattle.prelude.specs.Lists.{tab, placed}
use Rattle.text_names.proofs.pack.fill_at_places.Given as goal

abbrev pub invariant-loop-i : goal.invariant-loop-i
invariant-loop-i g l =
    (f : ℕ → _) → ((place : ℕ) (v : _) → goal.F-post g l.entry place v → v ≡ f place)
    → l.table ≡ placed (tab (λ i. f (get_or l.places i 0)) l.i) l.initial.table
