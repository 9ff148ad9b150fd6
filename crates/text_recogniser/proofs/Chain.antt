-- A chain of readers along one text: each reads what the one before has left. Where a reader is another one and then a
-- third, it is the third behind the other, and it is stuck where the other is; the proofs of the lines are such steps.
-- Assumes nothing.
use mathlib.Core.Path.{◌≡◌, sym, ap, ◌∙◌}
use mathlib.Core.List.{List}
use Prim.Native.Nat.{ℕ}
use Rattle.std.specs.Prelude.{Ok, Err}
use Rattle.netlist.specs.Parse.{Reader, expect, bind}
use Rattle.text_recogniser.specs.Readers.{scan_of, last_ones, word_reader}
use Rattle.text_recogniser.proofs.Shortens.{Shortens, shortens-word}
use Rattle.text_recogniser.proofs.Continues.{Continues, continues-word, continues-skip, then-read, then-refused}

-- `whole` is `first` and then `next`
pub record Then {A B C : Type 0} (whole : Reader B) (first : Reader A) (next : Reader C) : Type 0 where
  pub goes : Continues whole first (λ t. scan_of (next t))
  pub shorter : Shortens first

pub word-then : {B : Type 0} (w : List ℕ) (next : Reader B) → Then (expect w next) (word_reader w) next
word-then w next = record { goes = continues-word w next; shorter = shortens-word w }

pub skip-then : {A B : Type 0} {R : Reader A} → Shortens R → (next : Reader B) → Then (bind R (λ _. next)) R next
skip-then {A} {B} {R} h next = record { goes = continues-skip R next; shorter = h }

module _ {A B C : Type 0} {whole : Reader B} {first : Reader A} {next : Reader C} (t : Then whole first next)
    (s : List ℕ) {n : ℕ} where
  pub goes-on : {rest : List ℕ} → Ok n ≡ scan_of (first s) → rest ≡ last_ones n s
      → scan_of (whole s) ≡ scan_of (next rest)
  goes-on e f =
      t.goes.goes_on s ∙ then-read (λ u. scan_of (next u)) t.shorter s e ∙ ap (λ u. scan_of (next u)) (sym f)

  pub breaks-off : Err n ≡ scan_of (first s) → scan_of (whole s) ≡ Err n
  breaks-off e = t.goes.goes_on s ∙ then-refused (first s) _ e
