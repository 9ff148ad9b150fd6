-- `op_line::line_end` meets its contract: the parts that are skipped have no LF.
use mathlib.Core.Path.{sym, ap, ◌∙◌}
use Prim.Native.Nat.{ℕ, ◌+◌, ◌-◌}
use native.Mathlib.Omega.{arith}
use lib.ListN.{length, take, drop, length-drop}
use Rattle.std.proofs.lemmas.List.{take_rest}
use Rattle.netlist.specs.Line.{until_lf, line_end}
use Rattle.op_line.proofs.Ends.{clamped-le, until-le}
use Rattle.op_line.proofs.line_end.Goals as goal

pub skip_behind-from-requires : goal.skip_behind-from-requires
skip_behind-from-requires c = rw c.clamp.ensures (clamped-le c.args.text.now c.args.place)

pub overflow_add-result : goal.overflow_add-result
overflow_add-result c =
    let text = c.args.text.now in
    let from = c.skip_behind-from.result in
    let rest = take (length text - from) (drop from text) in
    omega (arith, c.until_lf.ensures, until-le rest, length-drop from text, c.skip_behind-from.ensures.0)

pub returns : goal.returns
unfolding line_end
returns c =
    let text = c.args.text.now in
    let from = c.skip_behind-from.result in
    ap (λ k. from + k) (c.until_lf.ensures ∙ ap until_lf (take_rest text from))
    ∙ sym (ap (λ (at : ℕ). at + until_lf (drop at text)) (sym c.clamp.ensures) ∙ c.skip_behind-from.ensures.1)
