-- `text_pieces::put_operand` meets its contract: one law for each kind of operand.
use Prim.Native.Nat.{◌≤◌, ◌<◌}
use native.Mathlib.Omega.{arith}
use lib.ListN.{get_or}
use Rattle.text_pieces.proofs.OperandLaws.{operand-input, operand-zero, operand-one, operand-gate}
use Rattle.text_pieces.proofs.put_operand.Goals as goal

pub put_name-requires : goal.put_name-requires
put_name-requires c =
    let at-shared-slice-known = c in
    let stage = at-shared-slice-known in
    let start = stage in
    let a = start.args in
    let w = c.word_at-word in
    let l : w.result < get_or a.words.now 0 0 = omega arith in record {
      from_le_written_room = omega (arith, at-shared-slice-known.shared_slice_known-1.given a.from);
      short = rw (operand-input a.words.now a.from w.result w.ensures l) at start.requires;
    }

pub returns-then-word-n : goal.returns-then-word-n
returns-then-word-n c =
    let at-word-at = c in
    let start = c in
    let a = start.args in
    let w = at-word-at.word_at-word in
    let l : w.result < get_or a.words.now 0 0 = omega arith in
    rw (operand-input a.words.now a.from w.result w.ensures l) c.put_name.ensures

pub put-requires : goal.put-requires
put-requires c =
    let at-word-at = c in
    let start = c in
    let a = start.args in
    let w = at-word-at.word_at-word in
    let l : get_or a.words.now 0 0 ≤ w.result = omega arith in
    let short = rw (operand-zero a.words.now a.from w.result w.ensures l
    c.in-65534.is) at start.requires in
    record { small = short.small }

pub put-requires-in-65535 : goal.put-requires-in-65535
put-requires-in-65535 c =
    let at-word-at = c in
    let start = c in
    let a = start.args in
    let w = at-word-at.word_at-word in
    let l : get_or a.words.now 0 0 ≤ w.result = omega arith in
    let short = rw (operand-one a.words.now a.from w.result w.ensures l
    c.in-65535.is) at start.requires in
    record { small = short.small }

pub put_gate_name-requires : goal.put_gate_name-requires
put_gate_name-requires c =
    let at-word-at = c in
    let at-inputs-of = at-word-at in
    let stage = at-inputs-of in
    let start = stage in
    let a = start.args in
    let w = at-word-at.word_at-word in
    let others = c.in_default.in_default-own.rest in
    let l : get_or a.words.now 0 0 ≤ w.result = omega arith in
    rw at-inputs-of.inputs_of-n.ensures
    (rw (operand-gate a.words.now a.from w.result w.ensures l others.0.1 others.1) at start.requires)

pub returns-in-65534 : goal.returns-in-65534
returns-in-65534 c =
    let at-match = c in
    let at-word-at = at-match in
    let start = c in
    let a = start.args in
    let w = at-word-at.word_at-word in
    let l : get_or a.words.now 0 0 ≤ w.result = omega arith in
    rw (operand-zero a.words.now a.from w.result w.ensures l at-match.in-65534.is)
    c.put.ensures

pub returns-in-65535 : goal.returns-in-65535
returns-in-65535 c =
    let at-match = c in
    let at-word-at = at-match in
    let start = c in
    let a = start.args in
    let w = at-word-at.word_at-word in
    let l : get_or a.words.now 0 0 ≤ w.result = omega arith in
    rw (operand-one a.words.now a.from w.result w.ensures l at-match.in-65535.is)
    c.put-in-65535.ensures

pub returns-in_default : goal.returns-in_default
returns-in_default c =
    let at-match = c in
    let at-word-at = at-match in
    let at-inputs-of = at-word-at in
    let start = at-inputs-of in
    let a = start.args in
    let w = at-word-at.word_at-word in
    let others = at-match.in_default.in_default-own.rest in
    let l : get_or a.words.now 0 0 ≤ w.result = omega arith in
    rw (
      operand-gate a.words.now a.from w.result w.ensures l others.0.1 others.1,
      ← at-inputs-of.inputs_of-n.ensures,
    )
    c.put_gate_name.ensures
