-- The signature of a kind, by its number; operand counts. Cited by `kinds::signature_of` and by the crates that test
-- counts.
-- Assumes nothing.
use Prim.Native.Nat.{ℕ, zero, suc, ◌≤◌}
use mathlib.Core.Path.{◌≡◌, refl}
use mathlib.Core.Bool.{true}
use native.Mathlib.Omega.{arith}
use native.Mathlib.Numerals.{unary_clauses}
use borrow.Author.Tests.{leb-true}
use Rattle.netlist.specs.Kinds.{row_of, signature_in, signature_of, signature, is_kind, fewest_operands, most_operands}

-- a kind that is not `not`
pub another : (k : ℕ) → (k ≡ 0 → ⊥) → 1 ≤ k
another k h = omega arith

pub signature-not : (k : ℕ) → k ≡ 0 → signature 1 1 "not\0" ≡ signature_of k
unfolding signature_of
signature-not k e = rw e

pub signature-xor : (k : ℕ) → k ≡ 5 → signature 2 4 "xor\0" ≡ signature_of k
unfolding signature_of
signature-xor k e = rw e

pub signature-xnor : (k : ℕ) → k ≡ 6 → signature 2 4 "xnor" ≡ signature_of k
unfolding signature_of
signature-xnor k e = rw e

-- of a kind of the table: its row's; behind the last kind both are zero
pub signature-row : (k : ℕ) → 1 ≤ k → (k ≡ 5 → ⊥) → (k ≡ 6 → ⊥) → signature_in (row_of k) ≡ signature_of k
unfolding signature_of row_of
signature-row zero h x y = absurd (omega arith)
signature-row (suc zero) h x y = refl
signature-row (suc (suc zero)) h x y = refl
signature-row (suc (suc (suc zero))) h x y = refl
signature-row (suc (suc (suc (suc zero)))) h x y = refl
signature-row (suc (suc (suc (suc (suc zero))))) h x y = absurd (x refl)
signature-row (suc (suc (suc (suc (suc (suc zero)))))) h x y = absurd (y refl)
signature-row (suc (suc (suc (suc (suc (suc (suc k))))))) h x y = simp unary_clauses refl

-- ---- operand counts

pub not-counts : (fewest_operands 0 ≡ 1) × (most_operands 0 ≡ 1)
unfolding fewest_operands most_operands signature_of
not-counts = (refl, refl)

-- every other kind
pub other-counts : (k : ℕ) → 1 ≤ k → k ≤ 6 → (fewest_operands k ≡ 2) × (most_operands k ≡ 4)
unfolding fewest_operands most_operands signature_of
other-counts zero h l = absurd (omega arith)
other-counts (suc zero) h l = (refl, refl)
other-counts (suc (suc zero)) h l = (refl, refl)
other-counts (suc (suc (suc zero))) h l = (refl, refl)
other-counts (suc (suc (suc (suc zero)))) h l = (refl, refl)
other-counts (suc (suc (suc (suc (suc zero))))) h l = (refl, refl)
other-counts (suc (suc (suc (suc (suc (suc zero)))))) h l = (refl, refl)
other-counts (suc (suc (suc (suc (suc (suc (suc k))))))) h l = absurd (omega arith)

pub kind-last : (k : ℕ) → is_kind k ≡ true → k ≤ 6
unfolding is_kind
kind-last k h = leb-true k 6 h
