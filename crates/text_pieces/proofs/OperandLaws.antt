-- What is written for an operand word, by cases. Cited by `put_operand`. Assumes nothing.
use Prim.Native.Nat.{ℕ, ◌+◌, ◌-◌, ◌*◌, ◌≤◌, ◌<◌}
use mathlib.Core.Path.{◌≡◌, refl, ◌∙◌}
use mathlib.Core.List.{List, [], append-nil}
use native.Mathlib.Omega.{arith}
use lib.ListN.{get_or}
use borrow.Author.Tests.{eq-eqb, ne_eqb, lt-ltb, le-ltb}
use Rattle.prelude.specs.Lists.{ascii}
use Rattle.netlist.specs.StoredBlock.{inputs_at, name_size, name_at, operand_of, decode}
use Rattle.netlist.specs.Syntax.{print_term}
use Rattle.netlist.specs.Writing.{gate_name, node_name_of, term_of}
use Rattle.theory_encoding.proofs.Decoded.{decode-input}
use Rattle.text_pieces.specs.Pieces.{operand_text}

module _ (ws : List ℕ) (at word : ℕ) (is : word ≡ get_or ws at 0) where
  pub operand-input : word < get_or ws 0 0 → operand_text ws at ≡ name_at ws (inputs_at + name_size * word)
  unfolding operand_text operand_of term_of node_name_of print_term
  operand-input l =
      rw (← is, lt-ltb word (get_or ws 0 0) l) (append-nil (get_or (decode ws).inputs word []) ∙ decode-input ws word [] l)

  pub operand-zero : get_or ws 0 0 ≤ word → word ≡ 65534 → operand_text ws at ≡ ascii "0"
  unfolding operand_text operand_of term_of print_term
  operand-zero l e = rw (← is, le-ltb word (get_or ws 0 0) l, eq-eqb word 65534 e) refl

  pub operand-one : get_or ws 0 0 ≤ word → word ≡ 65535 → operand_text ws at ≡ ascii "1"
  unfolding operand_text operand_of term_of print_term
  operand-one l e =
      rw (← is, le-ltb word (get_or ws 0 0) l, ne_eqb word 65534 (λ z. omega arith), eq-eqb word 65535 e) refl

  pub operand-gate : get_or ws 0 0 ≤ word → (word ≡ 65534 → ⊥) → (word ≡ 65535 → ⊥)
      → operand_text ws at ≡ gate_name (word - get_or ws 0 0)
  unfolding operand_text operand_of term_of node_name_of print_term
  operand-gate l ne me =
      rw (← is, le-ltb word (get_or ws 0 0) l, ne_eqb word 65534 ne, ne_eqb word 65535 me)
      (append-nil (gate_name (word - get_or ws 0 0)))
