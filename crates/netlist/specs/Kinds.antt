-- SPECIFICATION 3.2: the kinds, the table of controlling values, and one gate's value from its operands' values, in
-- Kleene's strong three-valued logic ("Introduction to metamathematics", 1952). Kinds are numbers: 0 not, 1 and, 2 or,
-- 3 nand, 4 nor, 5 xor, 6 xnor.
use Rattle.std.specs.Prelude.{ℕ, suc, ◌-◌, ◌%◌, Bool, cond, ◌&&◌, List, [], ◌∷◌, ◌++◌, map, get_or, eqb, leb}
use Prim.Native.String.{String}
use Rattle.prelude.specs.Lists.{ascii, all, any, trimmed}
use Rattle.netlist.specs.declared.Row.{Row}
use Rattle.netlist.specs.declared.Signature.{Signature}
use Rattle.netlist.specs.Values.{Value, undefined, code, value_of, invert, is_defined}

-- a row of the table: every kind in it has two to four operands
unfoldable pub row : ℕ → ℕ → String → Row
row controlling forced word =
    record { fewest = 2; most = 4; controlling = controlling; forced = forced; keyword = ascii word }

-- `and`, `or`, `nand`, `nor`: the controlling value, and what it forces
unfoldable pub rows : List Row
rows = row 0 0 "and\0" ∷ row 1 1 "or\0\0" ∷ row 0 1 "nand" ∷ row 1 0 "nor\0" ∷ []

-- the row of kind k, from 1 on; all zero behind the last. `not`, `xor` and `xnor` are asked apart and never read a row
unfoldable pub row_of : ℕ → Row
row_of k = get_or rows (k - 1) (record { fewest = 0; most = 0; controlling = 0; forced = 0; keyword = ascii "\0\0\0\0" })

-- `not`, `xor` and `xnor` have no controlling value and no row
unfoldable pub is_not : ℕ → Bool
is_not k = eqb k 0

unfoldable pub is_xor : ℕ → Bool
is_xor k = eqb k 5

unfoldable pub is_xnor : ℕ → Bool
is_xnor k = eqb k 6

unfoldable pub is_kind : ℕ → Bool
is_kind k = leb k 6

-- operand counts and keyword, of a row and of the kinds that have none
unfoldable pub signature_in : Row → Signature
signature_in r = record { fewest = r.fewest; most = r.most; keyword = r.keyword }

unfoldable pub signature : ℕ → ℕ → String → Signature
signature fewest most word = record { fewest = fewest; most = most; keyword = ascii word }

-- the signatures of all kinds, by the kind's number
unfoldable pub signatures : List Signature
signatures = signature 1 1 "not\0" ∷ (map signature_in rows ++ (signature 2 4 "xor\0" ∷ signature 2 4 "xnor" ∷ []))

unfoldable pub signature_of : ℕ → Signature
unfolding signatures signature_in signature rows row
signature_of k = get_or signatures k (signature 0 0 "\0\0\0\0")

unfoldable pub fewest_operands : ℕ → ℕ
fewest_operands k = (signature_of k).fewest

unfoldable pub most_operands : ℕ → ℕ
most_operands k = (signature_of k).most

unfoldable pub arity_fits : ℕ → ℕ → Bool
arity_fits k count = leb (fewest_operands k) count && leb count (most_operands k)

unfoldable pub keyword : ℕ → List ℕ
keyword k = trimmed (signature_of k).keyword

-- the value of a gate with a row, one rule for all of them: what is forced if some operand is the controlling value,
-- its opposite if all are the other value, else undefined
unfoldable pub ruled : Row → List Value → Value
ruled r vs =
    cond (any (λ v. eqb (code v) r.controlling) vs) (value_of r.forced)
    (cond (all is_defined vs) (invert (value_of r.forced)) undefined)

-- how many values are 1
unfoldable pub ones : List Value → ℕ
ones [] = 0
ones (v ∷ vs) = cond (eqb (code v) 1) (suc (ones vs)) (ones vs)

-- the value of `xor`: 1 if an odd number of operands is 1, 0 if an even number is; undefined if any operand is
unfoldable pub parity : List Value → Value
parity vs = cond (all is_defined vs) (value_of (ones vs % 2)) undefined

-- the value of a gate of kind k whose operands have the values vs
unfoldable pub gate_value : ℕ → List Value → Value
gate_value k vs =
    cond (is_not k) (invert (get_or vs 0 undefined))
    (cond (is_xor k) (parity vs)
    (cond (is_xnor k) (invert (parity vs)) (ruled (row_of k) vs)))
