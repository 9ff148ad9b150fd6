-- Set lines: one law for each way through the code that reads them. Assumes nothing.
use mathlib.Core.Path.{◌≡◌, refl, sym, ap, ◌∙◌}
use mathlib.Core.List.{List, [], ◌∷◌}
use Prim.Native.Nat.{ℕ, suc, ◌-◌}
use native.Mathlib.Nat.{le_refl}
use native.Mathlib.Omega.{arith}
use lib.ListN.{length}
use Rattle.std.specs.Prelude.{Result, Ok, Err}
use Rattle.prelude.specs.Lists.{ascii}
use Rattle.netlist.specs.Parse.{Parsed, Reader, got, stuck, expect, nothing_behind, bind, pairs_reader}
use Rattle.netlist.specs.Syntax.{Pair}
use Rattle.netlist.specs.SetLine.{set_line_reader}
use Rattle.netlist.specs.declared.Refusal.TheVariants.{SyntaxError}
use Rattle.words_refusals.specs.Tests.{test_at}
use Rattle.text_recogniser.specs.Readers.{scan_of, last_ones, bad_of, word_reader}
use Rattle.text_recogniser.proofs.ListFacts.{length_last}
use Rattle.text_recogniser.proofs.Shortens.{Leaves, tail-refl, Shortens, shortens-expect, shortens-bind, shortens-word}
use Rattle.text_recogniser.proofs.Continues.{continues-bind, continues-word, continues-same, left-short}
use Rattle.text_recogniser.proofs.Chain.{Then, word-then, goes-on}
use Rattle.text_recogniser.proofs.PairSteps.{shortens-pairs}
use Rattle.bench_set_line.specs.Line.{first_bad_in_set_line}

-- the LF that ends a set line
unfoldable pub line_last : Reader ℕ
line_last = expect (ascii "\n") (nothing_behind 0)

pub last_word : Then line_last (word_reader (ascii "\n")) (nothing_behind {A = ℕ} 0)
unfolding line_last
last_word = word-then (ascii "\n") (nothing_behind 0)

nothing-scan : {A B : Type 0} (a : A) (b : B) (t : List ℕ) → scan_of (nothing_behind a t) ≡ scan_of (nothing_behind b t)
nothing-scan a b [] = refl
nothing-scan a b (c ∷ t) = refl

nothing_left : (t : List ℕ) (n : ℕ) → length t ≡ n → n ≡ 0 → scan_of {A = ℕ} (nothing_behind 0 t) ≡ Ok 0
nothing_left [] n e z = refl
nothing_left (c ∷ t) n e z = absurd (omega arith)

something-left : (t : List ℕ) (n : ℕ) → length t ≡ n → (n ≡ 0 → ⊥) → scan_of {A = ℕ} (nothing_behind 0 t) ≡ Err n
something-left [] n e z = absurd (z (sym e))
something-left (c ∷ t) n e z = ap Err e

-- behind the LF: nothing is left, or something
module _ (s : List ℕ) {n : ℕ} (e : Ok n ≡ scan_of (word_reader (ascii "\n") s)) where
  rest-length : length (last_ones n s) ≡ n
  rest-length = length_last n s (left-short (shortens-word (ascii "\n")) s e)

  pub line-over : n ≡ 0 → scan_of (line_last s) ≡ Ok 0
  line-over z = goes-on last_word s e refl ∙ nothing_left (last_ones n s) n rest-length z

  pub line-goes-on : (n ≡ 0 → ⊥) → scan_of (line_last s) ≡ Err n
  line-goes-on z = goes-on last_word s e refl ∙ something-left (last_ones n s) n rest-length z

module _ (most : ℕ) where
  -- behind `(set`
  unfoldable pub set_pairs : Reader (List Pair)
  set_pairs = bind (pairs_reader most 0) (λ ps. expect (ascii "\n") (nothing_behind ps))

  pub set_word : Then (set_line_reader most) (word_reader (ascii "(set")) set_pairs
  unfolding set_line_reader set_pairs
  set_word = word-then (ascii "(set") (bind (pairs_reader most 0) (λ ps. expect (ascii "\n") (nothing_behind ps)))

  pub set-pairs : Then set_pairs (pairs_reader most 0) line_last
  unfolding set_pairs line_last
  set-pairs = record {
    goes = continues-bind (pairs_reader most 0) _ _ (λ ps t.
        (continues-same (continues-word (ascii "\n") (nothing_behind ps)) (nothing-scan ps 0)).goes_on t
        ∙ sym (last_word.goes.goes_on t));
    shorter = shortens-pairs most 0;
  }

  pub line-passed : (line : List ℕ) {r : Result ℕ ℕ} {n : ℕ} → r ≡ scan_of (set_line_reader most line) → r ≡ Ok n
      → Ok tt ≡ test_at (first_bad_in_set_line most line) SyntaxError
  unfolding first_bad_in_set_line test_at
  line-passed line {r} {n} e g = go (set_line_reader most line) (sym g ∙ e)
    where
      go : (p : Parsed (List Pair)) → Ok n ≡ scan_of p → Ok tt ≡ test_at (bad_of line p) SyntaxError
      go (got ps rest) h = refl
      go (stuck left) h = let z : ◌≡◌ {A = ℕ} 0 1 = cc in absurd (omega arith)

  pub line-failed : (line : List ℕ) {r : Result ℕ ℕ} {n : ℕ} → r ≡ scan_of (set_line_reader most line) → r ≡ Err n
      → Err (SyntaxError (length line - n)) ≡ test_at (first_bad_in_set_line most line) SyntaxError
  unfolding first_bad_in_set_line test_at
  line-failed line {r} {n} e g = go (set_line_reader most line) (sym g ∙ e)
    where
      go : (p : Parsed (List Pair)) → Err n ≡ scan_of p
          → Err (SyntaxError (length line - n)) ≡ test_at (bad_of line p) SyntaxError
      go (got ps rest) h = let z : ◌≡◌ {A = ℕ} 0 1 = cc in absurd (omega arith)
      go (stuck left) h = let f : n ≡ left = cc in rw f

shortens-nothing : {A : Type 0} (a : A) → Shortens (nothing_behind a)
shortens-nothing {A} a = record { leaves = go }
  where
    go : (s : List ℕ) → Leaves s (nothing_behind a s)
    go [] = tail-refl []
    go (c ∷ s) = le_refl (suc (length s))

pub shortens-set-line : (most : ℕ) → Shortens (set_line_reader most)
unfolding set_line_reader
shortens-set-line most =
    shortens-expect (ascii "(set") (shortens-bind (shortens-pairs most 0)
    (λ ps. shortens-expect (ascii "\n") (shortens-nothing ps)))
