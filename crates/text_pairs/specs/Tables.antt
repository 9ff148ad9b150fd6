-- What the tables of pairs and of a block's inputs hold, and what the functions of src/ need of them. Assumes nothing.
use Rattle.std.specs.Prelude.{ℕ, ◌≤◌, ◌<◌, ◌≡◌, Bool, true, List, ◌++◌, map, length, get_or, take, drop, leb}
use Rattle.prelude.specs.Lists.{ascii, all}
use Rattle.netlist.specs.Limits.{max_text}
use Rattle.netlist.specs.Values.{code, val}
use Rattle.netlist.specs.Netlist.{Name}
use Rattle.netlist.specs.Names.{is_name_byte}
use Rattle.netlist.specs.Syntax.{Pair, is_legal_pair, print_pair, print_lines}
use Rattle.netlist.specs.Reading.{Mention, mentions, pair_mention}
use Rattle.text_lines.specs.Lines.{line_opens}
use Rattle.text_names.specs.Packed.{packed}
use Rattle.text_names.specs.Index.{max_pairs}
use Rattle.text_names.specs.Search.{index_of}

-- legal pairs stand at this place of a text, up to the end of their line
pub record PairsAt (at : ℕ) (ps : List Pair) (text : List ℕ) : Type 0 where
  pub legal : all is_legal_pair ps ≡ true
  pub rest : List ℕ
  pub stand : drop at text ≡ print_lines print_pair ps (ascii ")\n" ++ rest)

-- the names of pairs with their places, when the first pair's space is at a place
abbrev pub pair_mentions : List Pair → ℕ → List Mention
pair_mentions ps at = mentions print_pair pair_mention ps at

-- room for the tables of a line's pairs
pub record PairRoom (text : List ℕ) (at : ℕ) (names places codes : List ℕ) : Type 0 where
  pub inside : at ≤ length text
  pub near : at ≤ max_text
  pub few : line_opens (drop at text) ≤ max_text
  pub name_room : line_opens (drop at text) ≤ length names
  pub place_room : line_opens (drop at text) ≤ length places
  pub code_room : line_opens (drop at text) ≤ length codes

-- ---- the tables: names as numbers, their places in the text, and the values' codes

pub record NamesAre (ps : List Pair) (names : List ℕ) : Type 0 where
  pub numbers : take (length ps) names ≡ map (λ (p : Pair). packed p.name) ps

pub record PlacesAre (ps : List Pair) (at : ℕ) (places : List ℕ) : Type 0 where
  pub stand : take (length ps) places ≡ map (λ (d : Mention). d.place) (pair_mentions ps at)

pub record CodesAre (ps : List Pair) (codes : List ℕ) : Type 0 where
  pub values : take (length ps) codes ≡ map (λ (p : Pair). code (val p.value)) ps

pub record PairsTabled (ps : List Pair) (at count : ℕ) (names places codes : List ℕ) : Type 0 where
  pub counted : count ≡ length ps
  pub names_are : NamesAre ps names
  pub places_are : PlacesAre ps at places
  pub codes_are : CodesAre ps codes

-- ---- the inputs of a block

-- name i of a table is none of the first n of another
unfoldable pub is_outside : List ℕ → List ℕ → ℕ → ℕ → Bool
is_outside names inputs n i = leb n (index_of inputs n (get_or names i 0))

pub record InputsAre (known : List Name) (n : ℕ) (inputs : List ℕ) : Type 0 where
  pub counted : length known ≡ n
  pub bytes : all (all is_name_byte) known ≡ true
  pub numbers : take n inputs ≡ map packed known

-- a table for the numbers of so many pairs, whose first space is at a place
pub record NumberRoom (at count : ℕ) (names : List ℕ) : Type 0 where
  pub near : at ≤ max_text
  pub few : count ≤ max_pairs
  pub room : length names ≡ max_pairs

-- the numbers of a line's pairs, whose first space is at a place, of a line that starts at place `base` of its text
pub record NumbersReady (at base : ℕ) (names : List ℕ) : Type 0 where
  pub near : at ≤ max_text
  pub few : length names ≤ max_pairs
  pub start : base ≤ max_text

-- what is told of each of the first n pairs is this table's entry
abbrev pub Gives : (ℕ → ℕ → Type 0) → ℕ → List ℕ → Type 0
Gives told n table = (i v : ℕ) → i < n → told i v → v ≡ get_or table i 0
