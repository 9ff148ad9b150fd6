-- The reader of set lines is their grammar. Assumes nothing.
--   set_line-sound, set_line-complete: what is read is a legal line's pairs, and the print of legal pairs is read back
--   set_line-legal, legal-set_line: a line is legal exactly when it is read
--   set_line-refused: where it is not read, the place is that of the first bad byte
--   set_line-bad: it is refused at no other place
use Prim.Native.Nat.{ℕ, ◌-◌}
use mathlib.Core.Path.{◌≡◌, refl, ap, ◌∙◌}
use mathlib.Core.Bool.{true, and-eq-true_iff, false≢true}
use mathlib.Core.List.{List, [], ◌∷◌, ◌++◌}
use native.Mathlib.Omega.{arith}
use lib.ListN.{length}
use lib.Dec.{leb}
use borrow.Author.Tests.{le-leb, leb-true}
use Rattle.prelude.specs.Lists.{ascii, all}
use Rattle.netlist.specs.Syntax.{Pair, is_legal_pair}
use Rattle.netlist.specs.Parse.{Parsed, got, stuck, nothing_behind, pairs_reader}
use Rattle.netlist.specs.SetLine.{print_set_line, is_legal_set_line, LegalLine, FirstBadInLine, set_line_reader}
use Rattle.theory_grammar.proofs.Equations.{expect-back, bind-got}
use Rattle.theory_grammar.proofs.Readings.{Gives, gives-got, gives-stuck, gives-expect, gives-bind}
use Rattle.theory_grammar.proofs.Pairs.{PairsRead, pairs_reader-sound, pairs_reader-back}
use Rattle.theory_grammar.proofs.Refusals.{accepted, Good, good-expect, good-end}
use Rattle.theory_grammar.proofs.FirstBad.{refused-first-bad, first-bad-refused-at}
use Rattle.theory_grammar.proofs.RefusedText.{pairs_reader-good}

set_line_reader-good : (n : ℕ) → Good (set_line_reader n)
unfolding set_line_reader
set_line_reader-good n =
    good-expect (ascii "(set") _ ((pairs_reader-good n 0).good _ λ ps. good-expect (ascii "\n") _ (good-end ps))

-- ---- the statements to cite

-- What is read is a legal line's tree, and nothing is left.
pub record SetLineRead (n : ℕ) (line : List ℕ) (ps : List Pair) (rest : List ℕ) : Type 0 where
  pub ended : rest ≡ []
  pub legal : is_legal_set_line n ps ≡ true
  pub printed : print_set_line ps ≡ line

module _ (n : ℕ) where
  set_line_reader-gives : (line : List ℕ) → Gives (SetLineRead n line) (set_line_reader n line)
  unfolding set_line_reader print_set_line is_legal_set_line
  set_line_reader-gives line =
      gives-expect (ascii "(set") _ line λ t e. gives-bind (pairs_reader n 0) _ t (pairs_reader-sound n 0 (omega arith) t)
      λ ps u f. gives-expect (ascii "\n") _ u (end t ps u e f)
    where
      end : (t : List ℕ) (ps : List Pair) (u : List ℕ) → ascii "(set" ++ t ≡ line → PairsRead n 0 t ps u
          → (v : List ℕ) → ascii "\n" ++ v ≡ u → Gives (SetLineRead n line) (nothing_behind ps v)
      end t ps u e f [] g =
          gives-got ps [] (record { ended = refl; legal = rw (le-leb (length ps) n f.few) f.legal; printed = cc })
      end t ps u e f (c ∷ v) g = gives-stuck _

  -- Soundness.
  pub set_line-sound : (line : List ℕ) (ps : List Pair) (rest : List ℕ) → set_line_reader n line ≡ got ps rest
      → SetLineRead n line ps rest
  set_line-sound line ps rest e = (set_line_reader-gives line).holds ps rest e

  -- Completeness: the print of a legal tree is read, and gives that tree back.
  pub set_line-complete : (ps : List Pair) → is_legal_set_line n ps ≡ true → set_line_reader n (print_set_line ps) ≡ got ps []
  unfolding set_line_reader print_set_line is_legal_set_line
  set_line-complete ps h =
      let f = (and-eq-true_iff (leb (length ps) n) (all is_legal_pair ps)).0 h in
      expect-back (ascii "(set") _ _
      ∙ bind-got (pairs_reader n 0) _ _ ps _
      (pairs_reader-back ps n 0 (ascii "\n") f.1 (omega arith) (leb-true (length ps) n f.0))
      ∙ expect-back (ascii "\n") _ _

  -- A line that is read is legal, and a legal line is read.
  pub set_line-legal : (line : List ℕ) (ps : List Pair) (rest : List ℕ) → set_line_reader n line ≡ got ps rest
      → LegalLine n line
  set_line-legal line ps rest e = let f = set_line-sound line ps rest e in record {
    tree = ps;
    legal = f.legal;
    printed = f.printed;
  }

  pub legal-set_line : (line : List ℕ) (l : LegalLine n line) → set_line_reader n line ≡ got l.tree []
  legal-set_line line l = rw l.printed at (set_line-complete l.tree l.legal)

  accepted-set_line : (line : List ℕ) → accepted (set_line_reader n line) ≡ true → LegalLine n line
  accepted-set_line line h = go (set_line_reader n line) refl h
    where
      go : (p : Parsed (List Pair)) → set_line_reader n line ≡ p → accepted p ≡ true → LegalLine n line
      go (got ps rest) e h = set_line-legal line ps rest e
      go (stuck m) e h = absurd (false≢true h)

  -- A line that is not read is refused at its first bad byte.
  pub set_line-refused : (line : List ℕ) (left : ℕ) → set_line_reader n line ≡ stuck left
      → FirstBadInLine n line (length line - left)
  set_line-refused =
      refused-first-bad (is_legal_set_line n) print_set_line (set_line_reader n) (set_line_reader-good n) accepted-set_line
      (λ line l. ap accepted (legal-set_line line l))

  -- A line with a first bad byte is refused there, so there is one such place.
  pub set_line-bad : (line : List ℕ) (d : ℕ) → FirstBadInLine n line d → set_line_reader n line ≡ stuck (length line - d)
  set_line-bad =
      first-bad-refused-at (is_legal_set_line n) print_set_line (set_line_reader n) (set_line_reader-good n) accepted-set_line
      (λ line l. ap accepted (legal-set_line line l))
