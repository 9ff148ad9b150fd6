-- One never line in a text: it is a line, its pairs stand behind its word, and tables have room for them. Assumes
-- nothing.
--   never-line: an LF stands at its end alone
--   line-size: the bytes up to the LF are its own
--   pairs-here, opens-behind: where its pairs stand, and their brackets
--   line-inside, pairs-few: the place of its pairs, and room for their table
use Prim.Native.Nat.{ℕ, suc, ◌+◌, ◌*◌, ◌≤◌}
use mathlib.Core.Path.{◌≡◌, refl, sym, ◌∙◌}
use mathlib.Core.Bool.{Bool, true, false}
use mathlib.Core.List.{List, [], ◌∷◌, ◌++◌}
use native.Mathlib.Omega.{arith}
use lib.ListN.{length, drop, length-drop}
use lib.Seq.{drop-drop}
use lib.Dec.{leb}
use Rattle.prelude.specs.Lists.{ascii, all}
use Rattle.prelude.proofs.Tests.{and_left, and_right}
use Rattle.netlist.specs.Limits.{max_text}
use Rattle.netlist.specs.Values.{val}
use Rattle.netlist.specs.Names.{is_name_start, is_node_name}
use Rattle.netlist.specs.Syntax.{Pair, value_text, pair_text, print_pair, is_legal_pair, is_legal_never, print_lines}
use Rattle.netlist.specs.Syntax.{print_never}
use Rattle.theory_grammar.proofs.Places.{print_never-split}
use Rattle.text_lines.specs.Lines.{length_with_lf, line_opens}
use Rattle.text_lines.specs.Trees.{is_line}
use Rattle.text_lines.proofs.JoinedLines.{line-append, one_line}
use Rattle.text_lines.proofs.TreeLines.{times-name}
use Rattle.text_names.specs.Index.{max_pairs}
use Rattle.text_pairs.specs.Tables.{PairsAt}
use Rattle.text_pairs.proofs.PairPlaces.{pairs-length}
use Rattle.text_constraints.specs.Places.{NeverAt}

-- ---- an LF stands at its end alone

value_line : (v : Bool) (rest : List ℕ) → is_line (value_text (val v) ++ rest) ≡ is_line rest
unfolding value_text
value_line true rest = refl
value_line false rest = refl

pair_line : (p : Pair) → is_legal_pair p ≡ true → (rest : List ℕ) → is_line (print_pair p rest) ≡ is_line rest
unfolding print_pair pair_text is_legal_pair is_node_name
pair_line p legal rest =
    line-append p.name _ (times-name 10 (omega arith) is_name_start p.name legal) ∙ value_line p.value
    (ascii ")" ++ rest)

pairs-line : (ps : List Pair) → all is_legal_pair ps ≡ true → (rest : List ℕ)
    → is_line (print_lines print_pair ps rest) ≡ is_line rest
unfolding print_lines
pairs-line [] legal rest = refl
pairs-line (p ∷ ps) legal rest =
    pair_line p (and_left (is_legal_pair p) (all is_legal_pair ps) legal) (print_lines print_pair ps rest)
    ∙ pairs-line ps (and_right (is_legal_pair p) (all is_legal_pair ps) legal) rest

pairs-legal : (ps : List Pair) → is_legal_never ps ≡ true → all is_legal_pair ps ≡ true
unfolding is_legal_never
pairs-legal ps h = and_right (leb 1 (length ps)) (all is_legal_pair ps) h

pub never-line : (ps : List Pair) → is_legal_never ps ≡ true → is_line (print_never ps []) ≡ true
unfolding print_never
never-line ps h = pairs-line ps (pairs-legal ps h) (ascii ")\n" ++ [])

-- ---- where it stands

module _ {at : ℕ} {ps : List Pair} {text : List ℕ} (is : NeverAt at ps text) where
  pub line-size : length_with_lf (drop at text) ≡ length (print_never ps [])
  line-size = rw (is.stand, print_never-split ps is.rest)
      (one_line (print_never ps []) is.rest (never-line ps is.legal)).size

  -- behind the word stand the pairs
  pub pairs-here : PairsAt (at + 6) ps text
  unfolding print_never
  pairs-here = record {
    legal = pairs-legal ps is.legal;
    rest = is.rest;
    stand = sym (drop-drop 6 at text) ∙ rw is.stand;
  }

  -- the line has one bracket besides theirs
  pub opens-behind : line_opens (drop at text) ≡ suc (line_opens (drop (at + 6) text))
  unfolding print_never
  opens-behind = rw (← drop-drop 6 at text, is.stand) (omega arith)

  -- and they have at least 6 bytes each
  behind-word : 8 + 6 * length ps + length is.rest ≤ length (drop at text)
  unfolding print_never
  behind-word = rw is.stand (omega (arith, pairs-length ps (pairs-legal ps is.legal) (ascii ")\n" ++ is.rest)))

  pub line-inside : at + 8 ≤ length text
  line-inside = omega (arith, length-drop at text, behind-word)

-- no line has more pairs than a table
pub pairs-few : {ps : List Pair} {s : List ℕ} → NeverAt 0 ps s → length s ≤ max_text → length ps ≤ max_pairs
pairs-few is short = omega (arith, behind-word is)
