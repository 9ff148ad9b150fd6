-- `text_pairs::told::fill_given` meets its contract: one input a turn. Assumes nothing.
use Rattle.std.proofs.Common.{List, ℕ, length}
use Rattle.prelude.proofs.Tabled.{Tabled}
use Rattle.text_pairs.specs.PairBytes.{input_code}
use Rattle.text_pairs.specs.Tables.{Gives}
use Rattle.text_pairs.proofs.told.fill_given.Given as goal

abbrev pub invariant-loop-j : goal.invariant-loop-j
invariant-loop-j g l =
    (codes : List ℕ) → Gives (goal.F-post g l.code) (length l.names) codes
    → Tabled (input_code l.names codes (length l.names) l.inputs) (length l.inputs) l.initial.setting l.setting l.j
