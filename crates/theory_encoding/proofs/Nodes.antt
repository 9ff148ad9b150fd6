-- Node numbers in the stored block: a word and what it stands for are each other's, and the rule on the word is the
-- rule on the node. Cited by Gates and Outputs. Assumes nothing.
--   node_word-operand_of, operand_of-node_word: a word and what it stands for are each other's
--   is_operand-operand_of, is_node-operand_of: the rules on a word are those on the operand and the node
--   node_word-small: it is a 16-bit word
use mathlib.Core.Path.{◌≡◌, refl, sym, ◌∙◌}
use mathlib.Core.Bool.{Bool, true, false, cond, or-true, or-false}
use Prim.Native.Nat.{ℕ, ◌+◌, ◌-◌, ◌≤◌, ◌<◌}
use native.Mathlib.Omega.{arith}
use lib.Dec.{eqb, ltb}
use borrow.Author.Tests.{eqb-true, eqb-false, ltb-true, ltb-false, lt-ltb, le-ltb, ne_eqb}
use Rattle.prelude.proofs.Tests.{same_test, not-both}
use Rattle.netlist.specs.Netlist.{Operand, input, gate, constant, Block, input_count, gate_count}
use Rattle.netlist.specs.StoredBlock.{node_word, operand_of, is_node, is_operand}
use Rattle.theory_encoding.specs.Rules.{node_rule, operand_rule}

-- What a word stands for, with the tests that decide it.
data Stands (n w : ℕ) : Operand → Type 0 where
  an-input : w < n → Stands n w (input w)
  zero-constant : n ≤ w → w ≡ 65534 → Stands n w (constant false)
  one-constant : n ≤ w → w ≡ 65535 → Stands n w (constant true)
  a-gate : n ≤ w → (w ≡ 65534 → ⊥) → (w ≡ 65535 → ⊥) → Stands n w (gate (w - n))

stands : (n w : ℕ) → Stands n w (operand_of n w)
unfolding operand_of
stands n w = go (ltb w n) (eqb w 65534) (eqb w 65535) refl refl refl
  where
    go : (a b c : Bool) → ltb w n ≡ a → eqb w 65534 ≡ b → eqb w 65535 ≡ c
        → Stands n w (cond a (input w) (cond b (constant false) (cond c (constant true) (gate (w - n)))))
    go true b c p q r = an-input (ltb-true w n p)
    go false true c p q r = zero-constant (ltb-false w n p) (eqb-true w 65534 q)
    go false false true p q r = one-constant (ltb-false w n p) (eqb-true w 65535 r)
    go false false false p q r = a-gate (ltb-false w n p) (eqb-false w 65534 q) (eqb-false w 65535 r)

-- ---- a word and what it stands for

pub operand_of-input : (n w : ℕ) → w < n → operand_of n w ≡ input w
unfolding operand_of
operand_of-input n w l = rw (lt-ltb w n l)

pub operand_of-zero : (n : ℕ) → n ≤ 65534 → operand_of n 65534 ≡ constant false
unfolding operand_of
operand_of-zero n l = rw (le-ltb 65534 n l)

pub operand_of-one : (n : ℕ) → n ≤ 65535 → operand_of n 65535 ≡ constant true
unfolding operand_of
operand_of-one n l = rw (le-ltb 65535 n l)

pub operand_of-gate : (n w : ℕ) → n ≤ w → w < 65534 → operand_of n w ≡ gate (w - n)
unfolding operand_of
operand_of-gate n w l k = rw (le-ltb w n l, ne_eqb w 65534 (omega arith), ne_eqb w 65535 (omega arith))

-- a word is the word of what it stands for
pub node_word-operand_of : (n w : ℕ) → node_word n (operand_of n w) ≡ w
unfolding node_word
node_word-operand_of n w = go (operand_of n w) (stands n w)
  where
    go : (o : Operand) → Stands n w o → node_word n o ≡ w
    go (input i) (an-input l) = refl
    go (constant c) (zero-constant l e) = sym e
    go (constant c) (one-constant l e) = sym e
    go (gate j) (a-gate l p q) = omega arith

-- an operand that is there is what its word stands for
pub operand_of-node_word : (b : Block) (o : Operand) → input_count b + gate_count b ≤ 65534 → is_operand b o ≡ true
    → operand_of (input_count b) (node_word (input_count b) o) ≡ o
unfolding node_word is_operand is_node
operand_of-node_word b (input i) h e = operand_of-input (input_count b) i (ltb-true i (input_count b) e)
operand_of-node_word b (gate j) h e =
    let l : j < gate_count b = ltb-true j (gate_count b) e in
    let back : input_count b + j - input_count b ≡ j = omega arith in
    operand_of-gate (input_count b) (input_count b + j) (omega arith) (omega arith) ∙ rw back
operand_of-node_word b (constant false) h e = operand_of-zero (input_count b) (omega arith)
operand_of-node_word b (constant true) h e = operand_of-one (input_count b) (omega arith)

-- the word of an operand is a 16-bit word
pub node_word-small : (b : Block) (o : Operand) → input_count b + gate_count b ≤ 65534 → is_operand b o ≡ true
    → node_word (input_count b) o < 65536
unfolding node_word is_operand is_node
node_word-small b (input i) h e = let l : i < input_count b = ltb-true i (input_count b) e in omega arith
node_word-small b (gate j) h e = let l : j < gate_count b = ltb-true j (gate_count b) e in omega arith
node_word-small b (constant false) h e = omega arith
node_word-small b (constant true) h e = omega arith

-- what an output shows is an operand
pub is_node-is_operand : (b : Block) (o : Operand) → is_node b o ≡ true → is_operand b o ≡ true
unfolding is_operand is_node
is_node-is_operand b (input i) e = e
is_node-is_operand b (gate j) e = e
is_node-is_operand b (constant c) e = not-both e refl

gate-number : (n m w : ℕ) → n ≤ w → ltb (w - n) m ≡ ltb w (n + m)
gate-number n m w l =
    same_test (ltb (w - n) m) (ltb w (n + m))
    (λ h. let k : w - n < m = ltb-true (w - n) m h in lt-ltb w (n + m) (omega arith))
    (λ h. let k : w < n + m = ltb-true w (n + m) h in lt-ltb (w - n) m (omega arith))

-- the rule on an operand's word is the rule on the operand
pub is_operand-operand_of : (b : Block) (n m w : ℕ) → input_count b ≡ n → gate_count b ≡ m
    → is_operand b (operand_of n w) ≡ operand_rule (n + m) w
unfolding is_operand is_node operand_rule node_rule
is_operand-operand_of b n m w en em = go (operand_of n w) (stands n w)
  where
    go : (o : Operand) → Stands n w o → is_operand b o ≡ operand_rule (n + m) w
    go (input i) (an-input l) = rw (en, lt-ltb w n l, lt-ltb w (n + m) (omega arith))
    go (constant c) (zero-constant l e) = rw (e, or-true)
    go (constant c) (one-constant l e) = rw (e, or-true)
    go (gate j) (a-gate l p q) = rw (em, ne_eqb w 65534 p, ne_eqb w 65535 q) (simp or-false (gate-number n m w l))

-- the rule on an output's word is the rule on the node, where no node is a constant's number
pub is_node-operand_of : (b : Block) (n m w : ℕ) → input_count b ≡ n → gate_count b ≡ m → n + m ≤ 65534
    → is_node b (operand_of n w) ≡ node_rule (n + m) w
unfolding is_node node_rule
is_node-operand_of b n m w en em h = go (operand_of n w) (stands n w)
  where
    go : (o : Operand) → Stands n w o → is_node b o ≡ node_rule (n + m) w
    go (input i) (an-input l) = rw (en, lt-ltb w n l, lt-ltb w (n + m) (omega arith))
    go (constant c) (zero-constant l e) = sym (le-ltb w (n + m) (omega arith))
    go (constant c) (one-constant l e) = sym (le-ltb w (n + m) (omega arith))
    go (gate j) (a-gate l p q) = rw em (gate-number n m w l)
