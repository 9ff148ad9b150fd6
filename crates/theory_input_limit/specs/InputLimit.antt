-- What Paper 8 changed when it raised the limit of inputs from 10 to 12. Here the limit is a parameter: with 12 the
-- definitions are those of `netlist`, with 10 those of the program just before. Encoding, decoding and parsing do not
-- depend on the limit; only the test for malformed words and refusal 3 do.
--   is_well_formed_up_to, is_malformed_up_to   SPECIFICATION 2.4, with the limit of inputs as a parameter
--   is_over_limit_up_to, read_up_to           SPECIFICATION 7.3, with the limit of inputs as a parameter
--   LimitKept                           the theorem of proofs/InputLimit.antt: what stayed, and what is refused by the
--                                       earlier program
use Rattle.std.specs.Prelude.{ℕ, ◌-◌, ◌≤◌, ◌<◌, ◌≡◌, Bool, true, false, not, ◌&&◌, List, map, length, get_or, leb, ltb}
use Rattle.prelude.specs.Lists.{same, all, distinct, sum}
use Rattle.netlist.specs.declared.Refusal.TheVariants.{TextTooLong, SyntaxError, OverLimit, DuplicateDeclaration}
use Rattle.netlist.specs.declared.Refusal.TheVariants.{UndeclaredName}
use Rattle.netlist.specs.Limits.{max_text, max_inputs, max_nevers, max_gates, max_outputs}
use Rattle.netlist.specs.Names.{is_plain_name}
use Rattle.netlist.specs.Netlist.{Output, Block, input_count, gate_count, output_count, never_count}
use Rattle.netlist.specs.StoredBlock.{encode, decode, is_node, gate_fits, never_fits, is_malformed}
use Rattle.netlist.specs.Syntax.{Tree}
use Rattle.netlist.specs.Parse.{Parsed, got, stuck, parse}
use Rattle.netlist.specs.Reading.{line_gates, first_duplicate, first_undeclared, block_of}
use Rattle.netlist.specs.Answers.{Outcome, refused, refuse_if, refuse_at, in_room}
use Rattle.netlist.specs.Operations.{counted, read}

-- ---- stored blocks

unfoldable pub is_well_formed_up_to : ℕ → Block → Bool
is_well_formed_up_to limit b =
    leb (input_count b) limit && leb (gate_count b) max_gates && leb (output_count b) max_outputs && leb (never_count b)
    max_nevers
    && all is_plain_name b.inputs && distinct b.inputs
    && all (never_fits b) b.nevers
    && all (gate_fits b) b.gates
    && all (λ o. is_plain_name o.port) b.outputs && distinct (map (λ (o : Output). o.port) b.outputs)
    && all (λ o. is_node b o.node) b.outputs

unfoldable pub is_malformed_up_to : ℕ → List ℕ → Bool
is_malformed_up_to limit ws = not (is_well_formed_up_to limit (decode ws) && same (encode (decode ws)) ws)

-- ---- texts

unfoldable pub is_over_limit_up_to : ℕ → Tree → Bool
is_over_limit_up_to limit t =
    not
    (leb (length t.inputs) limit && leb (length t.nevers) max_nevers
    && leb (sum (map line_gates t.gates)) max_gates && leb (length t.outputs) max_outputs)

unfoldable pub read_parsed_up_to : ℕ → List ℕ → Parsed Tree → Outcome
read_parsed_up_to limit text (stuck left) = refused (SyntaxError (length text - left))
read_parsed_up_to limit text (got t rest) =
    refuse_if (is_over_limit_up_to limit t) OverLimit
    (refuse_at (first_duplicate t) DuplicateDeclaration
    (refuse_at (first_undeclared t) UndeclaredName
    (counted (encode (block_of t)))))

unfoldable pub read_up_to : ℕ → List ℕ → ℕ → Outcome
read_up_to limit text room =
    in_room room (refuse_if (ltb max_text (length text)) TextTooLong (read_parsed_up_to limit text (parse text)))

-- ---- the theorem

-- the text of a tree with at most so many inputs, or of none
unfoldable pub inputs_of : Parsed Tree → ℕ
inputs_of (stuck left) = 0
inputs_of (got t rest) = length t.inputs

-- What stays when the limit of inputs is raised from `limit`, which is at most 12.
pub record LimitKept (limit : ℕ) : Type 0 where
  -- a block of up to so many inputs keeps its words: it is whole now exactly if it was
  pub blocks_kept : (ws : List ℕ) → get_or ws 0 0 ≤ limit → is_malformed_up_to limit ws ≡ is_malformed ws
  -- a block with more inputs was malformed to the earlier program
  pub blocks_malformed : (ws : List ℕ) → limit < get_or ws 0 0 → is_malformed_up_to limit ws ≡ true
  -- a text of up to so many inputs keeps every answer of Read
  pub texts_kept : (text : List ℕ) → inputs_of (parse text) ≤ limit → (room : ℕ)
      → read_up_to limit text room ≡ read text room
  -- a text with more inputs, of the grammar and not too long, was refused with 3 by the earlier program
  pub texts_over_limit : (text : List ℕ) → limit < inputs_of (parse text) → length text ≤ max_text → (room : ℕ)
      → read_up_to limit text room ≡ refused OverLimit
