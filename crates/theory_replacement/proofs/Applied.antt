-- The claims ask for nothing that cannot be had: the loop of specs/Example.antt can be replaced, and what replaces it
-- is shown to agree by computing the four settings of its boundary. Assumes nothing.
use Prim.Native.Nat.{zero, suc}
use mathlib.Core.Path.{◌≡◌, refl}
use mathlib.Core.Bool.{true, true≢false}
use mathlib.Core.List.{List, [], ◌∷◌}
use native.Mathlib.Omega.{arith}
use lib.ListN.{length}
use Rattle.prelude.specs.Lists.{ascii}
use Rattle.netlist.specs.Values.{Value, code, value_of, invert, is_defined}
use Rattle.netlist.specs.Kinds.{row, rows, row_of, is_not, is_xor, is_xnor, ruled, parity, gate_value}
use Rattle.netlist.specs.Assignments.{bit, fixes, agrees}
use Rattle.netlist.specs.Netlist.{input_count}
use Rattle.netlist.specs.StoredBlock.{is_node, is_operand}
use Rattle.netlist.specs.Rounds.{operand_value, evaluated, round, after_rounds, is_stable, rounds, settled, setting_of}
use Rattle.netlist.specs.Rounds.{setting_count, settled_under, output_value}
use Rattle.netlist.specs.Rounds.{outputs_under, is_excluded}
use Rattle.netlist.specs.Groups.{group_of}
use Rattle.theory_replacement.specs.Placing.{is_complete}
use Rattle.theory_replacement.specs.Group.{same_net, is_outside_net, first_ones, operands_of, boundary, cut_of}
use Rattle.theory_replacement.specs.Group.{own_block}
use Rattle.theory_replacement.specs.Claim.{SameValues, AgreeWhereAllowed, AllowedAt}
use Rattle.theory_replacement.specs.Example.{netlist, loop, straight, its-group, its-block}
use Rattle.theory_replacement.proofs.Shown.{replaced-group}

loop-agrees : AgreeWhereAllowed loop straight
unfolding code value_of invert is_defined row rows row_of is_not is_xor is_xnor ruled parity gate_value bit fixes agrees
    operand_value evaluated round
    after_rounds is_stable rounds settled setting_of setting_count settled_under output_value outputs_under is_excluded
loop-agrees zero l e = refl
loop-agrees (suc zero) l e = absurd (true≢false e)
loop-agrees (suc (suc zero)) l e = refl
loop-agrees (suc (suc (suc zero))) l e = refl
loop-agrees (suc (suc (suc (suc s)))) l e = absurd (omega arith)

own-is-loop : own_block netlist (group_of netlist 0) (ascii "a" ∷ ascii "n" ∷ []) (ascii "q" ∷ [])
    (record { fixed = 3; ones = 1 } ∷ []) ≡ loop
own-is-loop = rw its-group its-block

loop-inputs : input_count straight ≡ length (boundary netlist (group_of netlist 0))
unfolding same_net is_outside_net first_ones operands_of boundary
loop-inputs = rw its-group refl

complete-netlist : is_complete netlist ≡ true
unfolding is_complete is_operand is_node
complete-netlist = refl

complete-straight : is_complete straight ≡ true
unfolding is_complete is_operand is_node
complete-straight = refl

pub loop-taken-out : (x : List Value) → AllowedAt netlist x (boundary netlist (group_of netlist 0)) loop
    → SameValues netlist (cut_of netlist (group_of netlist 0)) straight x
loop-taken-out x allowed =
    replaced-group netlist 0 (ascii "a" ∷ ascii "n" ∷ []) (ascii "q" ∷ [])
    (record { fixed = 3; ones = 1 } ∷ []) straight complete-netlist
    complete-straight loop-inputs (rw own-is-loop loop-agrees) x (rw own-is-loop allowed)
