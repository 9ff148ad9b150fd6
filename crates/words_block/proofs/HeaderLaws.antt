-- What the header's rule says of the limits, before any other rule is tested. Assumes nothing.
use mathlib.Core.Path.{◌≡◌}
use mathlib.Core.Bool.{true, ◌&&◌}
use mathlib.Core.List.{List}
use Prim.Native.Nat.{ℕ, ◌+◌, ◌*◌, ◌≤◌}
use lib.ListN.{length, get_or}
use lib.Dec.{eqb, leb}
use borrow.Author.Tests.{leb-true, eqb-true}
use Rattle.prelude.proofs.Tests.{and_left, and_right}
use Rattle.netlist.specs.Limits.{max_inputs, max_nevers, max_gates, max_outputs}
use Rattle.netlist.specs.StoredBlock.{output_size, inputs_at, outputs_at}
use Rattle.theory_encoding.specs.Rules.{header_rule}

pub record Limits (n m k lines : ℕ) : Type 0 where
  pub inputs : n ≤ max_inputs
  pub gates : m ≤ max_gates
  pub outputs : k ≤ max_outputs
  pub nevers : lines ≤ max_nevers

pub header-limits : (ws : List ℕ) → header_rule ws ≡ true
    → Limits (get_or ws 0 0) (get_or ws 1 0) (get_or ws 2 0) (get_or ws 3 0)
unfolding header_rule
header-limits ws h =
    let size = eqb (length ws) (outputs_at (get_or ws 0 0) (get_or ws 3 0) (get_or ws 1 0) + output_size * get_or ws 2 0) in
    let long = leb inputs_at (length ws) in
    let n = leb (get_or ws 0 0) max_inputs in
    let m = leb (get_or ws 1 0) max_gates in
    let k = leb (get_or ws 2 0) max_outputs in
    let lines = leb (get_or ws 3 0) max_nevers in
    let h5 = and_left (long && n && m && k && lines) size h in
    let h4 = and_left (long && n && m && k) lines h5 in
    let h3 = and_left (long && n && m) k h4 in
    record {
      inputs = leb-true (get_or ws 0 0) max_inputs (and_right long n (and_left (long && n) m h3));
      gates = leb-true (get_or ws 1 0) max_gates (and_right (long && n) m h3);
      outputs = leb-true (get_or ws 2 0) max_outputs (and_right (long && n && m) k h4);
      nevers = leb-true (get_or ws 3 0) max_nevers (and_right (long && n && m && k) lines h5);
    }

-- what the rule of the head says of the length
pub header-length : (ws : List ℕ) → header_rule ws ≡ true
    → length ws ≡ outputs_at (get_or ws 0 0) (get_or ws 3 0) (get_or ws 1 0) + output_size * get_or ws 2 0
unfolding header_rule
header-length ws h =
    let said = outputs_at (get_or ws 0 0) (get_or ws 3 0) (get_or ws 1 0) + output_size * get_or ws 2 0 in
    let limits =
    leb inputs_at (length ws) && leb (get_or ws 0 0) max_inputs && leb (get_or ws 1 0) max_gates
    && leb (get_or ws 2 0) max_outputs
    && leb (get_or ws 3 0) max_nevers in
    eqb-true (length ws) said (and_right limits (eqb (length ws) said) h)
