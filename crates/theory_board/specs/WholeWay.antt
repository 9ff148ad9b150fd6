-- The whole way to the lookup-cell board (SPECIFICATION 7.16), as one statement: a block is rendered, its rendering is
-- made into cells, the cells are run, and the outputs show what the original's show. `whole-way` in proofs/Driven.antt
-- shows it of every block that Render renders.
use Rattle.std.specs.Prelude.{ℕ, ◌≤◌, ◌<◌, ◌≡◌, true, false, List, map}
use Rattle.netlist.specs.Values.{code}
use Rattle.netlist.specs.Netlist.{Output, input_count}
use Rattle.netlist.specs.StoredBlock.{decode}
use Rattle.netlist.specs.Rounds.{setting_of, setting_count, is_excluded, outputs_under}
use Rattle.netlist.specs.Answers.{done}
use Rattle.netlist.specs.Cells.{cell_count, are_legal_cells, operand_bit, cell_values, run_cells}
use Rattle.op_render.specs.Promise.{port_of}

-- the bytes of setting number s for n inputs: bit i of s for input i
unfoldable pub bytes_of_setting : ℕ → ℕ → List ℕ
bytes_of_setting n s = map code (setting_of n s)

-- what an output shows: a byte of the setting or of a run's values, by its node
unfoldable pub shown_byte : List ℕ → List ℕ → Output → ℕ
shown_byte setting values o = operand_bit setting values o.node

-- Under setting number s of the block of `ws`: a run of the cells is done, and its values, read through the output
-- nodes of the block of `out`, are the values of the settled original's outputs, output by output.
pub record ShowsAt (ws out cells : List ℕ) (s : ℕ) : Type 0 where
  pub runs : (room : ℕ) → cell_count cells ≤ room → let n = input_count (decode ws) in
      run_cells n cells (bytes_of_setting n s) room ≡ done (cell_values n cells (bytes_of_setting n s)) (cell_count cells) 0
  pub outputs : let n = input_count (decode ws) in
      map (shown_byte (bytes_of_setting n s) (cell_values n cells (bytes_of_setting n s))) (decode out).outputs
      ≡ map code (outputs_under (decode ws) s)

-- The original's words `ws`, its rendering's words `out`, and the `cells` made of these: the inputs and the ports are
-- the original's, a run takes the cells, and every setting that isn't excluded shows the original's outputs.
pub record Drives (ws out cells : List ℕ) : Type 0 where
  pub same_inputs : (decode out).inputs ≡ (decode ws).inputs
  pub same_ports : map port_of (decode out).outputs ≡ map port_of (decode ws).outputs
  pub legal : are_legal_cells (input_count (decode ws)) cells ≡ true
  pub shows : (s : ℕ) → s < setting_count (decode ws) → is_excluded (decode ws) s ≡ false → ShowsAt ws out cells s
