-- SPECIFICATION 7.14: Bring. Blocks stored before there were never lines have three counts at their head; a fourth, 0,
-- makes them blocks of today.
use Rattle.std.specs.Prelude.{ℕ, Bool, not, ◌&&◌, List, ◌∷◌, ◌++◌, map, take, drop, leb}
use Rattle.prelude.specs.Lists.{same, joined}
use Rattle.netlist.specs.declared.Refusal.TheVariants.{MalformedBlock}
use Rattle.netlist.specs.Netlist.{Block, input_count, gate_count, output_count}
use Rattle.netlist.specs.StoredBlock.{name_words, gate_words, output_words, decode, is_well_formed}
use Rattle.netlist.specs.Answers.{Outcome, refuse_if, in_room}
use Rattle.netlist.specs.Operations.{counted}

-- the limit of inputs that these blocks had
abbrev pub max_inputs_before : ℕ
max_inputs_before = 10

-- the words of a block as they were: three counts, names, gates and outputs
unfoldable pub encode_before : Block → List ℕ
encode_before b =
    input_count b ∷ gate_count b ∷ output_count b
    ∷ joined (map name_words b.inputs)
    ++ joined (map (gate_words (input_count b)) b.gates)
    ++ joined (map (output_words (input_count b)) b.outputs)

-- a 0 behind the three counts: no never lines
unfoldable pub brought : List ℕ → List ℕ
brought ws = take 3 ws ++ (0 ∷ drop 3 ws)

-- malformed by the rules that held before: not the words, as they were, of any well-formed block of so many inputs
unfoldable pub is_malformed_before : List ℕ → Bool
is_malformed_before ws =
    not
    (leb (input_count (decode (brought ws))) max_inputs_before && is_well_formed (decode (brought ws))
    && same (encode_before (decode (brought ws))) ws)

-- Bring (6, 11): count: words
unfoldable pub bring_words : List ℕ → Outcome
bring_words ws =
    refuse_if (is_malformed_before ws) MalformedBlock
    (counted (brought ws))

unfoldable pub bring : List ℕ → ℕ → Outcome
bring ws room = in_room room (bring_words ws)
