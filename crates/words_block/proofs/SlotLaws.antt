-- The four operand words of a gate, tested one by one: below the count as operands, from there on for 0. Assumes
-- nothing.
use mathlib.Core.Path.{◌≡◌, refl, ◌∙◌}
use mathlib.Core.Bool.{Bool, true, false, ◌&&◌}
use mathlib.Core.List.{List}
use Prim.Native.Nat.{ℕ, ◌+◌, ◌≤◌, ◌<◌}
use native.Mathlib.Omega.{arith}
use lib.ListN.{get_or}
use lib.Dec.{eqb}
use borrow.Author.Tests.{lt-ltb, le-ltb}
use Rattle.prelude.specs.Lists.{all, up_to}
use Rattle.netlist.specs.StoredBlock.{operand_words}
use Rattle.theory_encoding.specs.Rules.{operand_rule}
use Rattle.words_block.specs.GateSteps.{slot_rule}

four : (p q r s : Bool) → p && q && r && s ≡ p && (q && (r && (s && true)))
four false q r s = refl
four true false r s = refl
four true true false s = refl
four true true true false = refl
four true true true true = refl

module _ (ws : List ℕ) (nodes at count : ℕ) where
  -- operand word i where the count has it
  pub used : (i : ℕ) → i < count → operand_rule nodes (get_or ws (at + (i + 1)) 0) ≡ slot_rule ws nodes at count i
  used i l = let e : at + (i + 1) ≡ at + 1 + i = omega arith in rw (lt-ltb i count l, e)

  -- the rule of a word behind the operand count: it is 0
  pub unused : (i : ℕ) → count ≤ i → eqb (get_or ws (at + (i + 1)) 0) 0 ≡ slot_rule ws nodes at count i
  unused i l = let e : at + (i + 1) ≡ at + 1 + i = omega arith in rw (le-ltb i count l, e)

  -- all four
  pub slots : {p q r s : Bool} → p ≡ slot_rule ws nodes at count 0 → q ≡ slot_rule ws nodes at count 1
      → r ≡ slot_rule ws nodes at count 2
      → s ≡ slot_rule ws nodes at count 3 → p && q && r && s ≡ all (slot_rule ws nodes at count) (up_to operand_words)
  slots {p} {q} {r} {s} a b c d = four p q r s ∙ rw (a, b, c, d)
