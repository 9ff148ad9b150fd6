-- One record's answer from the parts that the functions find, and the call's own answer. Assumes nothing.
use mathlib.Core.Path.{◌≡◌, refl, sym, ap, ◌∙◌}
use mathlib.Core.Bool.{Bool, true, false, not}
use mathlib.Core.List.{List, []}
use Prim.Native.Nat.{ℕ}
use lib.ListN.{get_or}
use Rattle.std.specs.declared.result.Result.TheVariants.{Ok, Err}
use Rattle.netlist.specs.declared.Refusal.TheVariants.{MalformedBlock}
use Rattle.netlist.specs.StoredBlock.{decode, is_malformed}
use Rattle.netlist.specs.Assignments.{are_masks}
use Rattle.netlist.specs.Answers.{done, refuse_if, answer_of}
use Rattle.netlist.specs.Sheet.{is_bad_masks, showing, refused_record, record_of, sheet}
use Rattle.theory_encoding.proofs.Decoded.{decode-input_count}
use Rattle.op_sheet.specs.Records.{shown_at, ShownFor}

-- ---- the call

module _ (ws : List ℕ) (count : ℕ) where
  pub sheet-chain : sheet ws count ≡ refuse_if (is_malformed ws) MalformedBlock (done [] count 0)
  unfolding sheet
  sheet-chain = refl

  pub sheet-malformed : is_malformed ws ≡ true → answer_of (sheet ws count) ≡ Err MalformedBlock
  unfolding sheet refuse_if answer_of
  sheet-malformed t = rw t

  pub sheet-done : is_malformed ws ≡ false → answer_of (sheet ws count) ≡ Ok (record { count = count; detail = 0 })
  unfolding sheet refuse_if answer_of
  sheet-done t = rw t

-- ---- one record

-- what a test of the masks came to, of the number of inputs that was read
pub bad-as : (ws : List ℕ) (fixed ones : ℕ) {n : ℕ} {r t : Bool} → n ≡ get_or ws 0 0 → r ≡ are_masks n fixed ones
    → not r ≡ t
    → is_bad_masks (get_or ws 0 0) fixed ones ≡ t
unfolding is_bad_masks
bad-as ws fixed ones e p q = ap (λ (k : ℕ). not (are_masks k fixed ones)) (sym e) ∙ ap not (sym p) ∙ q

pub record-refused : (ws : List ℕ) (fixed ones : ℕ) → is_bad_masks (get_or ws 0 0) fixed ones ≡ true
    → refused_record fixed ones ≡ record_of (decode ws) fixed ones
unfolding record_of
record-refused ws fixed ones h = rw (decode-input_count ws, h)

-- what the outputs show under the settled values of the masks' setting
pub shown-record : (ws : List ℕ) (fixed ones s : ℕ) {shown : List ℕ} → is_bad_masks (get_or ws 0 0) fixed ones ≡ false
    → ShownFor ws fixed ones s shown
    → showing fixed ones (shown_at (get_or ws 2 0) shown s) ≡ record_of (decode ws) fixed ones
unfolding record_of
shown-record ws fixed ones s h t = rw (decode-input_count ws, h, t.is)
