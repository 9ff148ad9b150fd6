-- The gates of a block that is not malformed have legal head words. Assumes nothing.
use mathlib.Core.Path.{◌≡◌}
use mathlib.Core.Bool.{false}
use mathlib.Core.List.{List}
use Prim.Native.Nat.{ℕ, ◌+◌, ◌*◌, ◌<◌}
use lib.ListN.{get_or}
use Rattle.netlist.specs.StoredBlock.{is_malformed, gates_at, gate_size}
use Rattle.theory_encoding.proofs.Readers.{whole-gate}
use Rattle.graph_simulation.specs.Legal.{LegalHead}

pub legal-head : (ws : List ℕ) (j : ℕ) → is_malformed ws ≡ false → j < get_or ws 1 0
    → LegalHead ws (gates_at (get_or ws 0 0) (get_or ws 3 0) + gate_size * j)
legal-head ws j h l = let head = whole-gate ws h j l in record { kind = head.known; count = head.arity }
