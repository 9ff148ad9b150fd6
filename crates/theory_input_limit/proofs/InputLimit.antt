-- What the limit of inputs changes (specs/InputLimit.antt): nothing up to the earlier limit, and above it the two
-- refusals. Assumes nothing.
use Prim.Native.Nat.{ℕ, ◌≤◌, ◌<◌}
use mathlib.Core.Path.{◌≡◌, refl}
use mathlib.Core.Bool.{Bool, true, false, not, ◌&&◌}
use mathlib.Core.List.{List}
use native.Mathlib.Omega.{arith}
use borrow.Author.Tests.{le-leb, lt-leb, le-ltb}
use lib.ListN.{length, get_or}
use lib.Dec.{leb}
use Rattle.netlist.specs.Limits.{max_text, max_inputs}
use Rattle.netlist.specs.Bring.{max_inputs_before}
use Rattle.netlist.specs.Netlist.{input_count}
use Rattle.netlist.specs.StoredBlock.{decode, is_well_formed, is_malformed}
use Rattle.netlist.specs.Syntax.{Tree}
use Rattle.netlist.specs.Parse.{Parsed, got, stuck, parse}
use Rattle.netlist.specs.Reading.{is_over_limit}
use Rattle.netlist.specs.Answers.{refused, refuse_if, in_room}
use Rattle.netlist.specs.Operations.{read_tree, read_parsed, read_text, read}
use Rattle.netlist.specs.declared.Refusal.TheVariants.{OverLimit}
use Rattle.theory_encoding.proofs.Decoded.{decode-input_count}
use Rattle.theory_input_limit.specs.InputLimit.{is_well_formed_up_to, is_malformed_up_to, is_over_limit_up_to}
use Rattle.theory_input_limit.specs.InputLimit.{read_parsed_up_to, read_up_to, inputs_of, LimitKept}

module _ (limit : ℕ) (low : limit ≤ max_inputs) where
  blocks-kept : (ws : List ℕ) → get_or ws 0 0 ≤ limit → is_malformed_up_to limit ws ≡ is_malformed ws
  unfolding is_malformed_up_to is_well_formed_up_to is_malformed is_well_formed
  blocks-kept ws few =
      let n : input_count (decode ws) ≤ limit = rw (decode-input_count ws) few in
      rw (le-leb (input_count (decode ws)) limit n, le-leb (input_count (decode ws)) max_inputs (omega arith)) refl

  blocks-malformed : (ws : List ℕ) → limit < get_or ws 0 0 → is_malformed_up_to limit ws ≡ true
  unfolding is_malformed_up_to is_well_formed_up_to
  blocks-malformed ws many =
      let n : limit < input_count (decode ws) = rw (decode-input_count ws) many in
      rw (lt-leb (input_count (decode ws)) limit n) refl

  parsed-kept : (text : List ℕ) (p : Parsed Tree) → inputs_of p ≤ limit → read_parsed_up_to limit text p ≡ read_parsed text p
  unfolding read_parsed_up_to read_parsed read_tree inputs_of is_over_limit_up_to is_over_limit
  parsed-kept text (stuck left) few = refl
  parsed-kept text (got t rest) few =
      rw (le-leb (length t.inputs) limit few, le-leb (length t.inputs) max_inputs (omega arith)) refl

  parsed-over_limit : (text : List ℕ) (p : Parsed Tree) → limit < inputs_of p
      → read_parsed_up_to limit text p ≡ refused OverLimit
  unfolding read_parsed_up_to inputs_of is_over_limit_up_to refuse_if
  parsed-over_limit text (stuck left) many = absurd (omega arith)
  parsed-over_limit text (got t rest) many = rw (lt-leb (length t.inputs) limit many) refl

  pub limit-kept : LimitKept limit
  unfolding read_up_to read read_text refuse_if in_room
  limit-kept =
      record {
        blocks_kept = blocks-kept;
        blocks_malformed = blocks-malformed;
        texts_kept = λ text few room. rw (parsed-kept text (parse text) few) refl;
        texts_over_limit =
            λ text many short room. rw (parsed-over_limit text (parse text) many, le-ltb max_text (length text) short)
            refl;
      }

-- with 12 the rules are those of `netlist`
pub limit-of-today : (ws : List ℕ) → is_malformed_up_to max_inputs ws ≡ is_malformed ws
unfolding is_malformed_up_to is_well_formed_up_to is_malformed is_well_formed
limit-of-today ws = refl

-- with 10 they are those of the program before Paper 8
pub before-twelve : LimitKept max_inputs_before
before-twelve = limit-kept max_inputs_before (omega arith)
