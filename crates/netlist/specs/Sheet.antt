-- Sheet (SPECIFICATION 7.12): a sheet of settings in one call: what each record is filled with, and what the call
-- answers.
use Rattle.std.specs.Prelude.{ℕ, Bool, cond, not, List, [], map, eqb}
use Rattle.prelude.specs.Lists.{tab}
use Rattle.netlist.specs.declared.Refusal.TheVariants.{MalformedBlock, BadSetting}
use Rattle.netlist.specs.declared.Record.{Record}
use Rattle.netlist.specs.Values.{Value, value_of, is_defined}
use Rattle.netlist.specs.Netlist.{Block, input_count}
use Rattle.netlist.specs.StoredBlock.{decode, is_malformed}
use Rattle.netlist.specs.Assignments.{bit, mask_of, is_one, are_masks}
use Rattle.netlist.specs.Rounds.{settled, output_value}
use Rattle.netlist.specs.Answers.{Outcome, done, refuse_if, refusal_number}

-- ---- what the two masks of inputs stand for

-- the byte that Settle takes for input i: 0 or 1 where it is fixed, and 2 where it is not
unfoldable pub input_byte : ℕ → ℕ → ℕ → ℕ
input_byte fixed ones i = cond (eqb (bit fixed i) 1) (bit ones i) 2

unfoldable pub setting_bytes : ℕ → ℕ → ℕ → List ℕ
setting_bytes n fixed ones = tab (input_byte fixed ones) n

-- refusal 7 of a record: a bit at or above n, or a value bit on an input that is not fixed
unfoldable pub is_bad_masks : ℕ → ℕ → ℕ → Bool
is_bad_masks n fixed ones = not (are_masks n fixed ones)

-- ---- the two masks of outputs

-- what the outputs show, from the values of the inputs and of the gates
unfoldable pub output_values : Block → List Value → List Value → List Value
output_values b x state = map (output_value x state) b.outputs

-- ---- a record, and the sheet

-- the record of these two masks of inputs that shows these values at the outputs
unfoldable pub showing : ℕ → ℕ → List Value → Record
showing fixed ones vs = record {
  fixed = fixed;
  ones = ones;
  number = 0;
  defined = mask_of is_defined vs;
  values = mask_of is_one vs;
}

unfoldable pub refused_record : ℕ → ℕ → Record
refused_record fixed ones = record {
  fixed = fixed;
  ones = ones;
  number = refusal_number BadSetting;
  defined = 0;
  values = 0;
}

-- the outputs under the settled values
unfoldable pub settled_outputs : Block → List Value → List Value
settled_outputs b x = output_values b x (settled b x)

-- the answer of a record to its two masks of inputs
unfoldable pub record_of : Block → ℕ → ℕ → Record
record_of b fixed ones =
    cond (is_bad_masks (input_count b) fixed ones) (refused_record fixed ones)
    (showing fixed ones (settled_outputs b (map value_of (setting_bytes (input_count b) fixed ones))))

-- a record of the sheet, answered: its masks of inputs stay, whatever else stood in it
unfoldable pub answered_record : Block → Record → Record
answered_record b r = record_of b r.fixed r.ones

-- the records as the call leaves them; after refusal 6 none changes
unfoldable pub sheet_records : List ℕ → List Record → List Record
sheet_records ws rs = cond (is_malformed ws) rs (map (answered_record (decode ws)) rs)

-- the call's own answer (6); count: the records
unfoldable pub sheet : List ℕ → ℕ → Outcome
sheet ws count =
    refuse_if (is_malformed ws) MalformedBlock
    (done [] count 0)
