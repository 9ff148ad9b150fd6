-- `text_symbols::table::declare` meets its contract: the lines of inputs are filled in first, then those behind never
-- lines, by the laws on what the loops fill in.
use mathlib.Core.Path.{◌≡◌, ◌∙◌}
use Rattle.text_symbols.proofs.FillSteps.{filled-sizes}
use Rattle.text_symbols.proofs.TreeTable.{names-sized, tables-are}
use Rattle.text_symbols.proofs.table.declare.Goals.{After-fill_names}
use Rattle.text_symbols.proofs.table.declare.Goals as goal
use native.Mathlib.Omega.{arith}
use Prim.Native.Nat.{◌+◌}
use Rattle.prelude.specs.Lists.{tab, placed}
use Rattle.text_names.specs.Packed.{packed_through}
use Rattle.text_names.proofs.Packing.{through-cut}

-- the numbers of the names are those at the places cut to their count
numbers : (c : After-fill_names) → let a = c.args in let places = c.fill_lines-2.new.places in
    c.fill_names.new.names ≡ placed (tab (packed_through a.text.now places) (a.c.inputs + (a.c.named + a.c.outputs))) a.names.now
numbers c =
    let a = c.args in
    let r = c.requires in
    rw (through-cut a.text.now c.fill_lines-2.new.places (a.c.inputs + (a.c.named + a.c.outputs))
    (omega (arith, r.room, r.place_room, (filled-sizes c.fill_lines.ensures).0, (filled-sizes c.fill_lines-2.ensures).0)))
    at c.fill_names.ensures

pub returns : goal.returns
returns c =
    let second = c in
    let first = c in
    let s = c in
    let a = s.args in
    let one = filled-sizes first.fill_lines.ensures in
    let two = filled-sizes second.fill_lines-2.ensures in
    record {
      name_size = names-sized a.c _ _ a.names.now s.requires.room s.requires.number_room (numbers (goal.at.returns c).After-fill_names);
      place_size = two.0 ∙ one.0;
      node_size = two.1 ∙ one.1;
      tables =
          λ t p e f.
          tables-are p a.c a.end _ _ _ _ _ a.names.now a.places.now a.words.now e f s.requires
          first.fill_lines.ensures second.fill_lines-2.ensures (numbers (goal.at.returns c).After-fill_names);
    }
