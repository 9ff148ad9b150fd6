-- Within the limits the tables have room for a text's declarations, and the index for its nodes. Assumes nothing.
use Prim.Native.Nat.{ℕ, ◌+◌, ◌≤◌}
use mathlib.Core.Path.{◌≡◌, ap}
use mathlib.Core.Bool.{false}
use mathlib.Core.List.{List}
use native.Mathlib.Omega.{arith}
use lib.ListN.{length, take, length-take}
use Rattle.netlist.specs.Limits.{max_text, max_inputs, max_gates}
use Rattle.netlist.specs.Syntax.{Tree}
use Rattle.netlist.specs.Reading.{gate_lines_at, output_lines_at, is_over_limit}
use Rattle.theory_grammar.proofs.Limits.{limits-within}
use Rattle.theory_grammar.proofs.Places.{print-measure}
use Rattle.text_names.specs.Index.{Indexed}
use Rattle.text_names.proofs.Indexing.{index-none}
use Rattle.text_lines.specs.Trees.{TextOf}
use Rattle.text_lines.specs.declared.counts.Counts.{Counts}
use Rattle.text_lines.specs.Counting.{tree_counts}
use Rattle.text_lines.proofs.TreeCounts.{named-le}
use Rattle.text_symbols.specs.Tables.{table_size}
use Rattle.text_symbols.specs.Results.{TableRoom, IndexReady}

-- Within the limits, few nodes have a name.
pub node-room : (t : Tree) → is_over_limit t ≡ false → (c : Counts) → c ≡ tree_counts t
    → c.inputs + c.named ≤ max_inputs + max_gates
unfolding tree_counts
node-room t h c e =
    let w = limits-within t h in
    let g = named-le t.gates in
    rw e (omega arith)

-- Within the limits, the tables have room.
pub table-room : {t : Tree} {text : List ℕ} → TextOf t text → is_over_limit t ≡ false → (c : Counts) → c ≡ tree_counts t
    → (end : ℕ) → end ≡ gate_lines_at t
    → (names places words : List ℕ) → length text ≤ max_text → table_size ≤ length names → table_size ≤ length places
    → table_size ≤ length words
    → TableRoom c text end names places words
unfolding tree_counts output_lines_at
table-room {t} {text} p h c e end f names places words short a b d =
    let w = limits-within t h in
    let g = named-le t.gates in
    let m = print-measure t in
    let k = ap length p.printed in
    rw e
    (record {
      short = short;
      inside = omega arith;
      few = w.inputs;
      room = omega arith;
      number_room = a;
      place_room = b;
      node_room = d;
    })

-- An empty index is one of no node yet.
pub nodes-none : (c : Counts) (names places index : List ℕ) → IndexReady c names places index
    → Indexed (take (c.inputs + c.named) names) 0 index
nodes-none c names places index r =
    let f = r.few in
    let m = r.index_room in
    index-none (take (c.inputs + c.named) names) index (rw length-take (omega arith)) (rw length-take (omega arith))
    r.empty
