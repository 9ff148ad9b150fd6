-- A sheet is one call of Settle after another: each record is what is read off the answer to its own setting. Assumes
-- nothing.
use mathlib.Core.Path.{◌≡◌, refl, ◌∙◌}
use mathlib.Core.Bool.{false, cond}
use mathlib.Core.List.{List, [], ◌∷◌, map}
use Prim.Native.Nat.{ℕ, ◌≤◌}
use lib.ListN.{get_or}
use lib.Dec.{leb}
use borrow.Author.Tests.{le-ltb, le-leb, eq-eqb}
use Rattle.prelude.proofs.Quantifiers.{all-tab-from}
use Rattle.netlist.specs.declared.Record.{Record}
use Rattle.netlist.specs.Values.{code, value_of}
use Rattle.netlist.specs.Netlist.{Block, input_count, gate_count}
use Rattle.netlist.specs.StoredBlock.{decode, is_malformed}
use Rattle.netlist.specs.Rounds.{rounds, settled}
use Rattle.netlist.specs.Answers.{Outcome, done, refused, refuse_if, refusal_number}
use Rattle.netlist.specs.Operations.{is_bad_setting, settle}
use Rattle.netlist.specs.Sheet.{input_byte, setting_bytes, is_bad_masks, output_values, showing, settled_outputs}
use Rattle.netlist.specs.Sheet.{refused_record, record_of, answered_record}
use Rattle.netlist.specs.Sheet.{sheet_records}
use Rattle.theory_encoding.proofs.Decoded.{decode-gate_count}
use Rattle.theory_fixpoint.proofs.Values.{values-codes}
use Rattle.op_settle.proofs.Outcomes.{settle-chain, settle-room}
use Rattle.op_sheet.proofs.MaskLaws.{length-setting_bytes, byte-most}

-- What a caller of Settle reads off the answer to a setting's bytes, for the record of two masks.
unfoldable pub read_off : Block → ℕ → ℕ → List ℕ → Outcome → Record
read_off b fixed ones setting (done codes count detail) =
    showing fixed ones (output_values b (map value_of setting) (map value_of codes))
read_off b fixed ones setting (refused why) =
    record { fixed = fixed; ones = ones; number = refusal_number why; defined = 0; values = 0 }

-- One call of Settle for one record: with the bytes that its masks stand for, and room for the values. Masks that stand
-- for no setting are 7 without a call.
unfoldable pub one_call : List ℕ → ℕ → Record → Record
one_call ws room r =
    cond (is_bad_masks (input_count (decode ws)) r.fixed r.ones) (refused_record r.fixed r.ones)
    (read_off (decode ws) r.fixed r.ones (setting_bytes (input_count (decode ws)) r.fixed r.ones)
    (settle ws (setting_bytes (input_count (decode ws)) r.fixed r.ones) room))

module _ (ws : List ℕ) (whole : is_malformed ws ≡ false) (room : ℕ) (enough : gate_count (decode ws) ≤ room) where
  -- the bytes of two masks are a setting that Settle takes
  setting-legal : (fixed ones : ℕ) → is_bad_setting (decode ws) (setting_bytes (input_count (decode ws)) fixed ones) ≡ false
  unfolding is_bad_setting setting_bytes
  setting-legal fixed ones =
      rw (
        eq-eqb _ (input_count (decode ws)) (length-setting_bytes (input_count (decode ws)) fixed ones),
        all-tab-from (λ v. leb v 2) (input_byte fixed ones) (input_count (decode ws))
            (λ i l. le-leb (input_byte fixed ones i) 2 (byte-most fixed ones i)),
      )

  -- what Settle answers to them
  settle-done : (fixed ones : ℕ) → let setting = setting_bytes (input_count (decode ws)) fixed ones in
      settle ws setting room
      ≡ done (map code (settled (decode ws) (map value_of setting))) (rounds (decode ws) (map value_of setting)) 0
  unfolding refuse_if
  settle-done fixed ones =
      let setting = setting_bytes (input_count (decode ws)) fixed ones in
      settle-chain ws setting room
      ∙ rw (whole, setting-legal fixed ones)
      (settle-room ws setting room refl ∙ rw (le-ltb room (get_or ws 1 0) (rw (← decode-gate_count ws) enough)))

  -- Each record's answer is that of one call of Settle.
  pub record-one-call : (r : Record) → answered_record (decode ws) r ≡ one_call ws room r
  unfolding answered_record record_of one_call read_off settled_outputs
  record-one-call r =
      rw (
        settle-done r.fixed r.ones,
        values-codes (settled (decode ws) (map value_of (setting_bytes (input_count (decode ws)) r.fixed r.ones))),
      )

  calls : (rs : List Record) → map (answered_record (decode ws)) rs ≡ map (one_call ws room) rs
  calls [] = refl
  calls (r ∷ rs) = λ i. record-one-call r i ∷ calls rs i

  -- The sheet is one call after another.
  pub sheet-one-by-one : (rs : List Record) → sheet_records ws rs ≡ map (one_call ws room) rs
  unfolding sheet_records
  sheet-one-by-one rs = rw whole (calls rs)
