-- `text_pieces::refusal_line::tell` meets its contract: its five pieces, one after the other.
use Prim.Native.Nat.{◌≤◌}
use native.Mathlib.Omega.{arith}
use lib.ListN.{length}
use Rattle.netlist.specs.Writing.{decimal}
use Rattle.text_pieces.proofs.Appending.{appended_then}
use Rattle.text_pieces.proofs.Lines.{told_line, number_short, line-told}
use Rattle.text_pieces.proofs.refusal_line.tell.Goals.{After-detail_of-detail}
use Rattle.text_pieces.proofs.refusal_line.tell.Goals as goal

-- neither number has more than 20 digits, so every end is a small number
digits : (c : After-detail_of-detail)
    → (length (decimal c.number_of-number.result) ≤ 20) × (length (decimal c.detail_of-detail.result) ≤ 20)
digits c = (
  number_short c.number_of-number.result c.number_of-number.type_inv,
  number_short c.detail_of-detail.result c.detail_of-detail.type_inv,
)

pub put_decimal-end-requires : goal.put_decimal-end-requires
put_decimal-end-requires c =
    let n = c in
    let f = c in
    let few = digits (goal.at.put_decimal-end-requires c).After-detail_of-detail in
    record { small = omega (arith, few.0, few.1, f.put_all-end.ensures.end_is) }

pub put_all-end-requires-2 : goal.put_all-end-requires-2
put_all-end-requires-2 c =
    let n = c in
    let f = c in
    let s = c in
    let few = digits (goal.at.put_all-end-requires-2 c).After-detail_of-detail in
    record { small = omega (arith, few.0, few.1, f.put_all-end.ensures.end_is, s.put_decimal-end.ensures.end_is) }

pub put_decimal-end-requires-2 : goal.put_decimal-end-requires-2
put_decimal-end-requires-2 c =
    let n = c in
    let f = c in
    let s = c in
    let t = c in
    let few = digits (goal.at.put_decimal-end-requires-2 c).After-detail_of-detail in
    let e = f.put_all-end.ensures.end_is in
    record { small = omega (arith, few.0, few.1, e, s.put_decimal-end.ensures.end_is, t.put_all-end-2.ensures.end_is) }

pub put_all-requires : goal.put_all-requires
put_all-requires c =
    let n = c in
    let f = c in
    let s = c in
    let t = c in
    let d = c in
    let few = digits (goal.at.put_all-requires c).After-detail_of-detail in
    let e = f.put_all-end.ensures.end_is in
    let e₂ = s.put_decimal-end.ensures.end_is in
    let e₃ = t.put_all-end-2.ensures.end_is in
    record { small = omega (arith, few.0, few.1, e, e₂, e₃, d.put_decimal-end-2.ensures.end_is) }

pub returns : goal.returns
unfolding told_line
returns c =
    let e = c in
    let d = e in
    let t = d in
    let s = t in
    let n = s in
    let entry = n in
    line-told entry.args.why entry.args.out.now _ _ entry.requires n.number_of-number.ensures
    n.detail_of-detail.ensures n.number_of-number.type_inv n.detail_of-detail.type_inv
    (appended_then s.put_all-end.ensures (appended_then s.put_decimal-end.ensures
    (appended_then t.put_all-end-2.ensures (appended_then d.put_decimal-end-2.ensures e.put_all.ensures))))
