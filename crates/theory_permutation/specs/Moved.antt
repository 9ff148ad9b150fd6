-- Paper 12, "Settled values move with their gates", said of words: Settle on the gathered words answers what Settle
-- answers on the words themselves, with the values in the list's order. Proved as `settle-moved` in
-- proofs/SettleMoved.antt. Assumes nothing.
use Rattle.std.specs.Prelude.{ℕ, ◌≡◌, List, map, get_or}
use Rattle.netlist.specs.StoredBlock.{decode}
use Rattle.netlist.specs.Answers.{Outcome, done, refused}
use Rattle.netlist.specs.Operations.{settle}
use Rattle.netlist.specs.Gather.{gathered_order, gathered_words}

-- an outcome whose result's elements are permuted by a list of places; a refusal stays as it is
unfoldable pub in_list_order : List ℕ → Outcome → Outcome
in_list_order order (done values count detail) = done (map (λ j. get_or values j 2) order) count detail
in_list_order order (refused r) = refused r

-- Settle on the gathered words answers as Settle on the words, with the values in the list's order: for every setting,
-- legal or not, and every slice
abbrev pub SettleMoves : List ℕ → Type 0
SettleMoves ws =
    (setting : List ℕ) (room : ℕ) → settle (gathered_words (decode ws)) setting room
    ≡ in_list_order (gathered_order (decode ws)) (settle ws setting room)
