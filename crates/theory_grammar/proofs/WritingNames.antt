-- The names of written gates, `_0` to `_1023`: legal, unlike each other, and unlike every input's name. Computed over
-- all of them. Assumes nothing.
--   gate_name-legal: each is legal
--   gate_name-injective, gate_name-no-input: no two are the same, and none is an input's
use Prim.Native.Nat.{ℕ, ◌+◌, ◌-◌, ◌*◌, ◌<◌}
use mathlib.Core.Path.{◌≡◌, refl, ap}
use mathlib.Core.Bool.{true, false≢true}
use mathlib.Core.List.{List, [], ◌∷◌}
use lib.Dec.{eqb}
use borrow.Author.Tests.{eqb-true}
use Rattle.prelude.specs.Lists.{all, up_to}
use Rattle.prelude.proofs.Quantifiers.{all-below}
use Rattle.theory_grammar.proofs.CompleteTerms.{name-facts}
use Rattle.netlist.specs.Limits.{max_gates}
use Rattle.netlist.specs.Netlist.{Name}
use Rattle.netlist.specs.Names.{is_letter, is_digit, is_underscore, is_name_byte, is_name_start, is_legal_name, is_plain_name}
use Rattle.netlist.specs.Names.{is_node_name}
use Rattle.netlist.specs.Writing.{digits, decimal, gate_name}

-- the number that decimal digits stand for, behind a number already read
number_from : ℕ → List ℕ → ℕ
number_from n [] = n
number_from n (c ∷ cs) = number_from (10 * n + (c - 48)) cs

number_of : Name → ℕ
number_of [] = 0
number_of (c ∷ cs) = number_from 0 cs

names-legal : all (λ j. is_node_name (gate_name j)) (up_to max_gates) ≡ true
unfolding digits decimal gate_name is_letter is_digit is_underscore is_name_byte is_name_start is_legal_name is_node_name
names-legal = refl

names-read : all (λ j. eqb (number_of (gate_name j)) j) (up_to max_gates) ≡ true
unfolding digits decimal gate_name number_of number_from
names-read = refl

-- A written gate's name is legal.
pub gate_name-legal : (j : ℕ) → j < max_gates → is_node_name (gate_name j) ≡ true
gate_name-legal j h = all-below (λ j. is_node_name (gate_name j)) max_gates j names-legal h

-- Two written gates have two names.
pub gate_name-injective : (i j : ℕ) → i < max_gates → j < max_gates → gate_name i ≡ gate_name j → i ≡ j
gate_name-injective i j h g e =
    let a =
    eqb-true (number_of (gate_name i)) i (all-below (λ j. eqb (number_of (gate_name j)) j) max_gates i names-read h) in
    let b =
    eqb-true (number_of (gate_name j)) j (all-below (λ j. eqb (number_of (gate_name j)) j) max_gates j names-read g) in
    let c : number_of (gate_name i) ≡ number_of (gate_name j) = ap number_of e in
    cc

-- An input's name is no gate's.
pub gate_name-no-input : (j : ℕ) (x : Name) → is_plain_name x ≡ true → x ≡ gate_name j → ⊥
unfolding gate_name is_plain_name is_letter
gate_name-no-input j x h e = let p = name-facts is_letter 95 (decimal j) (rw e at h) in false≢true p.passes
