-- SPECIFICATION 3.3, 3.4: three-valued simulation of a block that may have loops, as Malik has it ("Analysis of cyclic
-- combinational circuits", 1994): rounds from all gates undefined up to their least fixpoint, the settled values; and
-- settings. The last two counts are those of Verdict (7.6).
use Rattle.std.specs.Prelude.{ℕ, zero, suc, ◌^◌, Bool, not, ◌&&◌, ◌||◌, List, map, get_or, replicate, eqb}
use Rattle.prelude.specs.Lists.{same, all, any, tab, count_below, least}
use Rattle.netlist.specs.Values.{Value, undefined, val, code, is_defined}
use Rattle.netlist.specs.Assignments.{bit, agrees}
use Rattle.netlist.specs.Kinds.{gate_value}
use Rattle.netlist.specs.Netlist.{Operand, input, gate, constant, Gate, Output, Block, input_count, gate_count}

-- A state gives each gate a value, and x each input; what is past the end of either is undefined.
unfoldable pub operand_value : List Value → List Value → Operand → Value
operand_value x state (input i) = get_or x i undefined
operand_value x state (gate j) = get_or state j undefined
operand_value x state (constant b) = val b

unfoldable pub evaluated : List Value → List Value → Gate → Value
evaluated x state g = gate_value g.kind (map (operand_value x state) g.operands)

-- one round (Jacobi iteration): every gate anew, all from the same state
unfoldable pub round : Block → List Value → List Value → List Value
round b x state = map (evaluated x state) b.gates

-- the state after so many rounds; at first all gates are undefined, not 0
unfoldable pub after_rounds : Block → List Value → ℕ → List Value
after_rounds b x zero = replicate (gate_count b) undefined
after_rounds b x (suc r) = round b x (after_rounds b x r)

-- the state after so many rounds is a fixpoint: a further round changes nothing
unfoldable pub is_stable : Block → List Value → ℕ → Bool
is_stable b x r = same (map code (after_rounds b x (suc r))) (map code (after_rounds b x r))

-- how many rounds change something; m are always enough (`rounds-stable` in crates/theory_fixpoint)
unfoldable pub rounds : Block → List Value → ℕ
rounds b x = least (is_stable b x) (gate_count b)

-- the settled values, the least fixpoint: the first state that its own round leaves as it is
unfoldable pub settled : Block → List Value → List Value
settled b x = after_rounds b x (rounds b x)

-- the values of n inputs in setting number s
unfoldable pub setting_of : ℕ → ℕ → List Value
setting_of n s = tab (λ i. val (eqb (bit s i) 1)) n

unfoldable pub setting_count : Block → ℕ
setting_count b = 2 ^ input_count b

-- the settled values under setting number s
unfoldable pub settled_under : Block → ℕ → List Value
settled_under b s = settled b (setting_of (input_count b) s)

-- the value of the input or gate that an output shows, in any state of the gates
unfoldable pub output_value : List Value → List Value → Output → Value
output_value x state o = operand_value x state o.node

-- what the outputs show under setting number s
unfoldable pub outputs_under : Block → ℕ → List Value
outputs_under b s = map (output_value (setting_of (input_count b) s) (settled_under b s)) b.outputs

-- every output is 0 or 1 under setting number s, whatever the gates are that no output shows; so is every setting of a
-- block without outputs
unfoldable pub is_settled : Block → ℕ → Bool
is_settled b s = all is_defined (outputs_under b s)

-- setting number s never comes: it agrees with a never line
unfoldable pub is_excluded : Block → ℕ → Bool
is_excluded b s = any (λ a. agrees (input_count b) a s) b.nevers

-- setting number s may come, and is settled
unfoldable pub is_counted : Block → ℕ → Bool
is_counted b s = not (is_excluded b s) && is_settled b s

-- setting number s never comes, or is settled
unfoldable pub is_sound_at : Block → ℕ → Bool
is_sound_at b s = is_excluded b s || is_settled b s

-- how many settings that may come are settled; and the lowest of them that is not, or the number of settings where
-- there is none
unfoldable pub settled_settings : Block → ℕ
settled_settings b = count_below (is_counted b) (setting_count b)

unfoldable pub lowest_unsettled : Block → ℕ
lowest_unsettled b = least (λ s. not (is_sound_at b s)) (setting_count b)
