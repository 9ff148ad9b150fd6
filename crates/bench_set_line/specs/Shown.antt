-- The show line as the words of the block give it, from the values of what stands at each place. proofs/ShowLaws.antt
-- shows that it is the definition's. Assumes nothing.
use Rattle.std.specs.Prelude.{ℕ, ◌+◌, ◌*◌, ◌<◌, ◌≡◌, false, List, [], ◌++◌, get_or}
use Rattle.prelude.specs.Lists.{ascii}
use Rattle.netlist.specs.Values.{value_of}
use Rattle.netlist.specs.StoredBlock.{name_size, output_size, outputs_at, name_at, operand_of, is_malformed}
use Rattle.netlist.specs.GateTable.{gate_table}
use Rattle.netlist.specs.Syntax.{pair_text}
use Rattle.graph_gates.specs.Places.{place_of}
use Rattle.graph_simulation.specs.Rounded.{PreparedFor}
use Rattle.text_pieces.specs.Pieces.{pieces}

-- a block that is not malformed, with the table, its graph and its fan-out
pub record BlockReady (ws table graph fanout : List ℕ) : Type 0 where
  pub whole : is_malformed ws ≡ false
  pub tabled : table ≡ gate_table
  pub prepared : PreparedFor ws graph fanout

-- output o of a block that is not malformed, whose outputs' words start at `from`
pub record PortOf (ws : List ℕ) (from o : ℕ) : Type 0 where
  pub whole : is_malformed ws ≡ false
  pub start : from ≡ outputs_at (get_or ws 0 0) (get_or ws 3 0) (get_or ws 1 0)
  pub below : o < get_or ws 2 0

-- the first k outputs of a block that is not malformed, whose outputs' words start at `from`
pub record PortsOf (ws : List ℕ) (from k : ℕ) : Type 0 where
  pub whole : is_malformed ws ≡ false
  pub start : from ≡ outputs_at (get_or ws 0 0) (get_or ws 3 0) (get_or ws 1 0)
  pub many : k ≡ get_or ws 2 0

-- the piece of the show line for output o, of those whose words start at `from`
unfoldable pub port_piece : List ℕ → ℕ → List ℕ → ℕ → List ℕ
port_piece ws from values o =
    pair_text (name_at ws (from + output_size * o))
    (value_of (get_or values (place_of (operand_of (get_or ws 0 0) (get_or ws (from + output_size * o + name_size) 0))) 0)) []

unfoldable pub show_text : List ℕ → List ℕ → List ℕ
show_text ws values =
    ascii "(show" ++ (pieces (port_piece ws (outputs_at (get_or ws 0 0) (get_or ws 3 0) (get_or ws 1 0)) values) (get_or ws 2 0)
    ++ ascii ")\n")
