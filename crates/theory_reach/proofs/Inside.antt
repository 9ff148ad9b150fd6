-- In a well-formed block every gate reads gates that are there.
--   well_formed-inside   a well-formed block is `Inside`
-- Assumes nothing.
use Prim.Native.Nat.{ℕ, zero, suc, ◌<◌}
use mathlib.Core.Path.{◌≡◌}
use mathlib.Core.Logic.{⊎_elim}
use mathlib.Core.Bool.{Bool, true, ◌&&◌, false≢true}
use mathlib.Core.List.{List, [], ◌∷◌, map}
use lib.ListN.{length, get_or}
use lib.Dec.{leb}
use borrow.Author.Tests.{ltb-true}
use Rattle.prelude.specs.Lists.{all, joined, member, distinct}
use Rattle.prelude.proofs.Tests.{and_left, and_right}
use Rattle.prelude.proofs.Lists.{member-cases, member-one}
use Rattle.netlist.specs.Limits.{max_inputs, max_nevers, max_gates, max_outputs}
use Rattle.netlist.specs.Netlist.{Operand, input, gate, constant, Gate, Output, Block, input_count, gate_count}
use Rattle.netlist.specs.Netlist.{output_count, never_count}
use Rattle.netlist.specs.Kinds.{is_kind, arity_fits}
use Rattle.netlist.specs.StoredBlock.{is_node, is_operand, gate_fits, never_fits, is_well_formed}
use Rattle.netlist.specs.Names.{is_plain_name}
use Rattle.netlist.specs.Groups.{gate_operand, read_by, reads}
use Rattle.theory_reach.specs.Inside.{Inside}

-- an operand that is there reads only gates that are there
operand-inside : (b : Block) (o : Operand) (k : ℕ) → is_operand b o ≡ true → member k (gate_operand o) ≡ true
    → k < gate_count b
unfolding is_operand is_node gate_operand
operand-inside b (input i) k h m = absurd (false≢true m)
operand-inside b (gate j) k h m = ltb-true k (gate_count b) (rw (member-one k j m) h)
operand-inside b (constant c) k h m = absurd (false≢true m)

operands-inside : (b : Block) (os : List Operand) (k : ℕ) → all (is_operand b) os ≡ true
    → member k (joined (map gate_operand os)) ≡ true → k < gate_count b
operands-inside b [] k h m = absurd (false≢true m)
operands-inside b (o ∷ os) k h m =
    ⊎_elim
    (operand-inside b o k (and_left _ _ h))
    (operands-inside b os k (and_right (is_operand b o) _ h))
    (member-cases k (gate_operand o) (joined (map gate_operand os)) m)

gates-inside : (b : Block) (gs : List Gate) (i k : ℕ) → all (gate_fits b) gs ≡ true
    → member k (joined (map gate_operand (get_or gs i (record { kind = 0; operands = [] })).operands)) ≡ true
    → k < gate_count b
unfolding gate_fits
gates-inside b [] i k h m = absurd (false≢true m)
gates-inside b (g ∷ gs) zero k h m =
    let fits : gate_fits b g ≡ true = and_left _ _ h in
    operands-inside b g.operands k
    (and_right (is_kind g.kind && arity_fits g.kind (length g.operands)) _ fits) m
gates-inside b (g ∷ gs) (suc i) k h m = gates-inside b gs i k (and_right (gate_fits b g) _ h) m

-- gates that fit read only gates that are there
pub fits-inside : (b : Block) → all (gate_fits b) b.gates ≡ true → Inside b
unfolding reads read_by
fits-inside b h i k m = gates-inside b b.gates i k h m

second : (a b c d e : Bool) → (a && b && c && d && e) ≡ true → b ≡ true
second a b c d e h = and_right a b (and_left (a && b) c (and_left (a && b && c) d (and_left (a && b && c && d) e h)))

-- in a well-formed block every gate that is read is there
pub well_formed-inside : (b : Block) → is_well_formed b ≡ true → Inside b
unfolding is_well_formed
well_formed-inside b h =
    fits-inside b
    (second
    (leb (input_count b) max_inputs && leb (gate_count b) max_gates && leb (output_count b) max_outputs && leb (never_count b)
    max_nevers
    && all is_plain_name b.inputs && distinct b.inputs && all (never_fits b) b.nevers)
    (all (gate_fits b) b.gates)
    (all (λ o. is_plain_name o.port) b.outputs)
    (distinct (map (λ (o : Output). o.port) b.outputs))
    (all (λ o. is_node b o.node) b.outputs)
    h)
