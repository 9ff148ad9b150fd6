-- What the tables of a set line's pairs and of a block's inputs hold, and what the functions of src/ need of them.
-- Assumes nothing.
use Rattle.std.specs.Prelude.{ℕ, ◌+◌, ◌*◌, ◌≤◌, ◌≡◌, true, false, List, [], length, get_or}
use Rattle.prelude.specs.Lists.{ascii, all}
use Rattle.netlist.specs.Limits.{max_name, max_inputs}
use Rattle.netlist.specs.declared.Refusal.TheVariants.{DuplicateDeclaration, UndeclaredName}
use Rattle.netlist.specs.Netlist.{Block}
use Rattle.netlist.specs.Reading.{first_repeat, first_outside}
use Rattle.netlist.specs.Bench.{given_names, given_values}
use Rattle.netlist.specs.StoredBlock.{name_size, inputs_at, bytes_at, decode, is_malformed}
use Rattle.netlist.specs.Syntax.{Pair, is_legal_pair}
use Rattle.netlist.specs.SetLine.{print_set_line, is_legal_set_line}
use Rattle.words_refusals.specs.Tests.{Test}
use Rattle.std.specs.declared.result.Result.TheVariants.{Ok, Err}
use Rattle.words_refusals.specs.Tests.{test_at}
use Rattle.graph_simulation.specs.Rounded.{Starting}
use Rattle.text_names.specs.Packed.{packed, name_front}
use Rattle.text_pairs.specs.Tables.{PairsTabled, InputsAre}
use Rattle.bench_set_line.specs.declared.LineTables.{LineTables}

-- the place of the first pair's space, behind the word
abbrev pub pairs_at : ℕ
pairs_at = length (ascii "(set")

-- the line is that of these pairs, which are legal for n inputs
pub record SetLineOf (n : ℕ) (ps : List Pair) (line : List ℕ) : Type 0 where
  pub legal : is_legal_set_line n ps ≡ true
  pub printed : print_set_line ps ≡ line

-- ---- the inputs of a block

-- the number of input i's name
unfoldable pub input_key : List ℕ → ℕ → ℕ
input_key ws i = packed (name_front max_name (bytes_at ws (inputs_at + name_size * i)))

-- ---- a line in form, and its tables

-- a block that is not torn, and a line of these pairs for its inputs
pub record LineFor (ws : List ℕ) (ps : List Pair) (line : List ℕ) : Type 0 where
  pub whole : is_malformed ws ≡ false
  pub is : SetLineOf (get_or ws 0 0) ps line

pub record InForm (ws line : List ℕ) : Type 0 where
  pub pairs : List Pair
  pub for : LineFor ws pairs line

-- the tables are those of these pairs and of the block's inputs
pub record TablesFor (ws : List ℕ) (ps : List Pair) (t : LineTables) : Type 0 where
  pub whole : is_malformed ws ≡ false
  pub few : t.count ≤ max_inputs
  pub legal : all is_legal_pair ps ≡ true
  pub tabled : PairsTabled ps pairs_at t.count t.names t.places t.codes
  pub inputs_are : InputsAre (decode ws).inputs (get_or ws 0 0) t.inputs

-- ---- what reading a line comes to

-- the first of two tests that fails, or that both pass
unfoldable pub then_test : Test → Test → Test
then_test (Ok u) t = t
then_test (Err why) t = Err why

-- refusals 4 and 5 of a set line's pairs, 4 before 5
unfoldable pub pairs_test : Block → List Pair → Test
pairs_test b ps =
    then_test (test_at (first_repeat [] (given_names ps)) DuplicateDeclaration)
    (test_at (first_outside b.inputs (given_names ps)) UndeclaredName)

-- what reading a set line gives: the test's answer, and where it passes the values that the line gives the inputs
pub record LineRead (ws : List ℕ) (ps : List Pair) (r : Test) (values : List ℕ) : Type 0 where
  pub told : r ≡ pairs_test (decode ws) ps
  pub given : r ≡ Ok tt → Starting (given_values (decode ws) ps) values
