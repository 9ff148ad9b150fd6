-- Never lines at a place of a text, and what they say. Assumes nothing.
use Rattle.std.specs.Prelude.{ℕ, ◌≡◌, true, List, map, length, drop}
use Rattle.prelude.specs.Lists.{all, joined, placed}
use Rattle.netlist.specs.declared.Refusal.TheVariants.{DuplicateDeclaration, UndeclaredName}
use Rattle.words_refusals.specs.Tests.{test_at}
use Rattle.netlist.specs.Netlist.{Name}
use Rattle.netlist.specs.StoredBlock.{never_words}
use Rattle.netlist.specs.Syntax.{Pair, Tree, is_legal_never, print_lines, print_never}
use Rattle.netlist.specs.Reading.{Mention, mentions, never_mentions, never_lines_at, gate_lines_at, assignment_of}
use Rattle.netlist.specs.Reading.{first_repeat_in, first_outside, excluded_names}
use Rattle.text_constraints.specs.declared.NeverLines.{NeverLines}
use Rattle.text_constraints.specs.declared.NeverTold.{NeverTold}

-- where the never lines of a tree's text stand
unfoldable pub never_lines : Tree → NeverLines
never_lines t =
    record { inputs = length t.inputs; at = never_lines_at t; count = length t.nevers; end = gate_lines_at t }

-- a legal never line stands at this place
pub record NeverAt (at : ℕ) (ps : List Pair) (text : List ℕ) : Type 0 where
  pub legal : is_legal_never ps ≡ true
  pub rest : List ℕ
  pub stand : drop at text ≡ print_never ps rest

-- so many legal never lines stand one behind the other, the first at this place
pub record NeversAt (at count : ℕ) (ns : List (List Pair)) (text : List ℕ) : Type 0 where
  pub counted : count ≡ length ns
  pub legal : all is_legal_never ns ≡ true
  pub rest : List ℕ
  pub stand : drop at text ≡ print_lines print_never ns rest

-- the names in these never lines, with their places
abbrev pub lines_mentions : List (List Pair) → ℕ → List Mention
lines_mentions ns at = mentions print_never never_mentions ns at

-- the words of these never lines in a block with these inputs
abbrev pub lines_words : List Name → List (List Pair) → List ℕ
lines_words inputs ns = joined (map never_words (map (assignment_of inputs) ns))

-- what reading the never lines tells: refusals 4 and 5 among them, and their words in the beginning of a slice
pub record Told (t : Tree) (masks masks' : List ℕ) (r : NeverTold) : Type 0 where
  pub repeats : r.repeat ≡ test_at (first_repeat_in t.nevers (never_lines_at t)) DuplicateDeclaration
  pub outsides : r.outside ≡ test_at (first_outside t.inputs (excluded_names t)) UndeclaredName
  pub words : masks' ≡ placed (lines_words t.inputs t.nevers) masks
