-- The rule of each kind: small numbers, and the table's row where there is one. Assumes nothing.
use mathlib.Core.Path.{◌≡◌, refl}
use mathlib.Core.Bool.{true}
use Prim.Native.Nat.{ℕ, ◌≤◌}
use native.Mathlib.Omega.{arith}
use Rattle.netlist.specs.Kinds.{row, rows, row_of, is_not, is_xor, is_xnor, is_kind}
use Rattle.theory_encoding.proofs.Gates.{by_kind}
use Rattle.graph_gates.specs.Graph.{controlling_of, forced_of}

pub controlling-small : (k : ℕ) → is_kind k ≡ true → controlling_of k ≤ 1
unfolding controlling_of is_not is_xor is_xnor row_of rows row
controlling-small =
    by_kind (λ k. controlling_of k ≤ 1) (omega arith) (omega arith) (omega arith) (omega arith) (omega arith)
    (omega arith) (omega arith)

pub forced-small : (k : ℕ) → is_kind k ≡ true → forced_of k ≤ 1
unfolding forced_of is_not is_xor is_xnor row_of rows row
forced-small =
    by_kind (λ k. forced_of k ≤ 1) (omega arith) (omega arith) (omega arith) (omega arith) (omega arith) (omega arith)
    (omega arith)

-- kinds 1 to 4 have a row
abbrev HasRow : ℕ → Type 0
HasRow k =
    (k ≡ 0 → ⊥) → (k ≡ 5 → ⊥) → (k ≡ 6 → ⊥) → ((row_of k).controlling ≡ controlling_of k) × ((row_of k).forced ≡ forced_of k)

pub rule-row : (k : ℕ) → is_kind k ≡ true → HasRow k
unfolding controlling_of forced_of is_not is_xor is_xnor row_of rows row
rule-row =
    by_kind HasRow
    (λ a b c. absurd (a refl)) (λ a b c. (refl, refl)) (λ a b c. (refl, refl)) (λ a b c. (refl, refl))
    (λ a b c. (refl, refl)) (λ a b c. absurd (b refl))
    (λ a b c. absurd (c refl))
