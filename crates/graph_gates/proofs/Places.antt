-- The place of what an operand word stands for, by what the word is; and a place and what stands there determine each
-- other. Cited by whoever makes or reads a graph. Assumes nothing.
use mathlib.Core.Path.{◌≡◌, refl}
use mathlib.Core.Bool.{true, false}
use Prim.Native.Nat.{ℕ, ◌+◌, ◌-◌, ◌≤◌, ◌<◌}
use native.Mathlib.Omega.{arith}
use borrow.Author.Tests.{ne_eqb, lt-ltb, le-ltb}
use mathlib.Core.Logic.{⊎_elim}
use Rattle.prelude.proofs.Tests.{lt-or-le, eq-or-ne}
use Rattle.netlist.specs.Limits.{max_inputs}
use Rattle.netlist.specs.Netlist.{input, gate, constant}
use Rattle.netlist.specs.StoredBlock.{operand_of}
use Rattle.theory_encoding.proofs.Nodes.{operand_of-input, operand_of-zero, operand_of-one, operand_of-gate}
use Rattle.graph_gates.specs.Places.{first_input, first_gate, operand_at, place_of}

-- ---- the place of an operand word

pub place-input : (n w : ℕ) → w < n → place_of (operand_of n w) ≡ first_input + w
unfolding place_of
place-input n w l = rw (operand_of-input n w l) refl

pub place-zero : (n : ℕ) → n ≤ max_inputs → place_of (operand_of n 65534) ≡ 0
unfolding place_of
place-zero n l = rw (operand_of-zero n (omega arith)) refl

pub place-one : (n : ℕ) → n ≤ max_inputs → place_of (operand_of n 65535) ≡ 1
unfolding place_of
place-one n l = rw (operand_of-one n (omega arith)) refl

pub place-gate : (n w : ℕ) → n ≤ w → w < 65534 → place_of (operand_of n w) ≡ first_gate + (w - n)
unfolding place_of
place-gate n w l h = rw (operand_of-gate n w l h) refl

-- ---- what stands at an operand's place is the operand

pub operand_at-input : (i : ℕ) → i < max_inputs → operand_at (first_input + i) ≡ input i
unfolding operand_at
operand_at-input i l =
    let e : first_input + i - first_input ≡ i = omega arith in
    rw (
      ne_eqb (first_input + i) 0 (λ e. omega arith),
      ne_eqb (first_input + i) 1 (λ e. omega arith),
      lt-ltb (first_input + i) first_gate (omega arith),
      e,
    ) refl

pub operand_at-gate : (j : ℕ) → operand_at (first_gate + j) ≡ gate j
unfolding operand_at
operand_at-gate j =
    let e : first_gate + j - first_gate ≡ j = omega arith in
    rw (
      ne_eqb (first_gate + j) 0 (λ e. omega arith),
      ne_eqb (first_gate + j) 1 (λ e. omega arith),
      le-ltb (first_gate + j) first_gate (omega arith),
      e,
    ) refl

pub operand_at-zero : operand_at 0 ≡ constant false
unfolding operand_at
operand_at-zero = refl

pub operand_at-one : operand_at 1 ≡ constant true
unfolding operand_at
operand_at-one = refl

-- of the operand that a word stands for
pub operand_at-word : (n w : ℕ) → n ≤ max_inputs → w < 65536 → operand_at (place_of (operand_of n w)) ≡ operand_of n w
operand_at-word n w few small =
    ⊎_elim inputs (λ h. ⊎_elim zero (λ a. ⊎_elim one (λ b. gates h a b) (eq-or-ne w 65535)) (eq-or-ne w 65534))
    (lt-or-le w n)
  where
    inputs : w < n → operand_at (place_of (operand_of n w)) ≡ operand_of n w
    inputs l = rw (place-input n w l, operand_of-input n w l) (operand_at-input w (omega arith))

    zero : w ≡ 65534 → operand_at (place_of (operand_of n w)) ≡ operand_of n w
    zero e = rw (e, place-zero n few, operand_of-zero n (omega arith)) operand_at-zero

    one : w ≡ 65535 → operand_at (place_of (operand_of n w)) ≡ operand_of n w
    one e = rw (e, place-one n few, operand_of-one n (omega arith)) operand_at-one

    gates : n ≤ w → (w ≡ 65534 → ⊥) → (w ≡ 65535 → ⊥) → operand_at (place_of (operand_of n w)) ≡ operand_of n w
    gates l a b =
        let s : w < 65534 = omega (arith, a, b) in
        rw (place-gate n w l s, operand_of-gate n w l s) (operand_at-gate (w - n))
