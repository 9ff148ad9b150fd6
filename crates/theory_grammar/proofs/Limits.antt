-- What the test of the limits says of a tree, part by part. Assumes nothing.
use Prim.Native.Nat.{◌≤◌}
use mathlib.Core.Path.{◌≡◌}
use mathlib.Core.Bool.{false, ◌&&◌}
use mathlib.Core.List.{map}
use lib.ListN.{length}
use lib.Dec.{leb}
use borrow.Author.Tests.{leb-true, not-false}
use Rattle.prelude.specs.Lists.{sum}
use Rattle.netlist.specs.Limits.{max_inputs, max_nevers, max_gates, max_outputs}
use Rattle.netlist.specs.Syntax.{Tree}
use Rattle.netlist.specs.Reading.{line_gates, is_over_limit}
use Rattle.theory_encoding.proofs.ListFacts.{and_parts}

pub record WithinLimits (t : Tree) : Type 0 where
  pub inputs : length t.inputs ≤ max_inputs
  pub nevers : length t.nevers ≤ max_nevers
  pub gates : sum (map line_gates t.gates) ≤ max_gates
  pub outputs : length t.outputs ≤ max_outputs

pub limits-within : (t : Tree) → is_over_limit t ≡ false → WithinLimits t
unfolding is_over_limit
limits-within t h =
    let i = leb (length t.inputs) max_inputs in
    let l = leb (length t.nevers) max_nevers in
    let g = leb (sum (map line_gates t.gates)) max_gates in
    let o = leb (length t.outputs) max_outputs in
    let e = and_parts (i && l && g) o (not-false (i && l && g && o) h) in
    let d = and_parts (i && l) g e.0 in
    let c = and_parts i l d.0 in
    record {
      inputs = leb-true _ _ c.0;
      nevers = leb-true _ _ c.1;
      gates = leb-true _ _ d.1;
      outputs = leb-true _ _ e.1;
    }
