-- What the functions of src/ need, and what they leave: a text in form, and tables that have room for the pairs of any
-- of its lines. Assumes nothing.
use Rattle.std.specs.Prelude.{ℕ, ◌*◌, ◌≤◌, ◌≡◌, List, [], map, length}
use Rattle.std.proofs.lemmas.List.Edits.{sets}
use Rattle.netlist.specs.declared.Refusal.TheVariants.{DuplicateDeclaration, UndeclaredName}
use Rattle.words_refusals.specs.Tests.{test_at}
use Rattle.netlist.specs.Limits.{max_text, max_inputs, max_nevers}
use Rattle.netlist.specs.Netlist.{Name}
use Rattle.netlist.specs.StoredBlock.{never_size}
use Rattle.netlist.specs.Syntax.{Pair, Tree}
use Rattle.netlist.specs.Reading.{never_mentions, first_repeat, first_repeat_in, first_outside, given_value}
use Rattle.words_layout.specs.Masks.{masks_of}
use Rattle.text_names.specs.Index.{max_pairs}
use Rattle.text_lines.specs.Trees.{TextOf}
use Rattle.text_pairs.specs.Tables.{InputsAre}
use Rattle.text_constraints.specs.declared.NeverLines.{NeverLines}
use Rattle.text_constraints.specs.declared.NeverTold.{NeverTold}
use Rattle.text_constraints.specs.declared.LineTold.{LineTold}
use Rattle.text_constraints.specs.Places.{never_lines, NeverAt, NeversAt, lines_mentions, lines_words}

-- the text is in form and within the limits
pub record NeversReady (text : List ℕ) (lines : NeverLines) : Type 0 where
  pub short : length text ≤ max_text
  pub tree : Tree
  pub is : TextOf tree text
  pub stand : lines ≡ never_lines tree
  pub few_inputs : lines.inputs ≤ max_inputs
  pub few_lines : lines.count ≤ max_nevers

-- the text, and room for the words of its lines
pub record NeversRoom (text : List ℕ) (lines : NeverLines) (masks : List ℕ) : Type 0 where
  pub ready : NeversReady text lines
  pub room : length masks ≡ never_size * max_nevers

-- a table that begins with the numbers of inputs' names
pub record InputsReady (n : ℕ) (inputs : List ℕ) : Type 0 where
  pub known : List Name
  pub are : InputsAre known n inputs
  pub few : n ≤ max_inputs

-- ---- a line, at the front of the rest of a text from a place on

pub record LineReady (s : List ℕ) (at : ℕ) (inputs : List ℕ) (n : ℕ) (names : List ℕ) : Type 0 where
  pub pairs : List Pair
  pub is : NeverAt 0 pairs s
  pub short : length s ≤ max_text
  pub near : at ≤ max_text
  pub inputs_ready : InputsReady n inputs
  pub name_room : length names ≡ max_pairs

-- what reading one never line tells: refusals 4 and 5 in it, and its two masks
pub record LineSays (ps : List Pair) (known : List Name) (at : ℕ) (r : LineTold) : Type 0 where
  pub repeats : r.repeat ≡ test_at (first_repeat [] (never_mentions ps at)) DuplicateDeclaration
  pub outsides : r.outside ≡ test_at (first_outside known (never_mentions ps at)) UndeclaredName
  pub defined : r.defined ≡ (masks_of (map (given_value ps) known)).defined
  pub ones : r.ones ≡ (masks_of (map (given_value ps) known)).ones

pub record LineRead (s : List ℕ) (at : ℕ) (inputs : List ℕ) (n : ℕ) (names : List ℕ) (r : LineTold) : Type 0 where
  pub name_room : length names ≡ max_pairs
  pub says : (ps : List Pair) (known : List Name) → NeverAt 0 ps s → InputsAre known n inputs → LineSays ps known at r

-- ---- so many lines from a place on

pub record LinesReady (text : List ℕ) (from count : ℕ) (inputs : List ℕ) (n : ℕ) (names masks : List ℕ) : Type 0 where
  pub lines : List (List Pair)
  pub is : NeversAt from count lines text
  pub short : length text ≤ max_text
  pub few : count ≤ max_nevers
  pub inputs_ready : InputsReady n inputs
  pub name_room : length names ≡ max_pairs
  pub mask_room : length masks ≡ never_size * max_nevers

pub record LinesSay (ns : List (List Pair)) (known : List Name) (from : ℕ) (masks masks' : List ℕ) (r : NeverTold)
    : Type 0 where
  pub repeats : r.repeat ≡ test_at (first_repeat_in ns from) DuplicateDeclaration
  pub outsides : r.outside ≡ test_at (first_outside known (lines_mentions ns from)) UndeclaredName
  pub words : masks' ≡ sets masks 0 (lines_words known ns)

pub record LinesRead (text : List ℕ) (from count : ℕ) (inputs : List ℕ) (n : ℕ) (masks masks' : List ℕ) (r : NeverTold)
    : Type 0 where
  pub say : (ns : List (List Pair)) (known : List Name) → NeversAt from count ns text → InputsAre known n inputs
      → LinesSay ns known from masks masks' r
