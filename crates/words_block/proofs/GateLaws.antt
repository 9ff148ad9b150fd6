-- The kinds and their operand counts, by ranges of numbers, and operand words by one comparison. Assumes nothing.
use mathlib.Core.Path.{◌≡◌}
use mathlib.Core.Logic.{⊎_elim}
use mathlib.Core.Bool.{true, false, ◌&&◌}
use Prim.Native.Nat.{ℕ, ◌+◌, ◌%◌, ◌≤◌, ◌<◌}
use native.Mathlib.Omega.{arith}
use lib.Dec.{leb, ltb}
use borrow.Author.Tests.{le-leb, lt-leb, lt-ltb, le-ltb, eq-eqb, ne_eqb}
use Rattle.prelude.proofs.Tests.{lt-or-le, and_left, and_right}
use Rattle.theory_encoding.specs.Rules.{node_rule, operand_rule}
use Rattle.theory_encoding.proofs.Gates.{arity-not as arity-one, arity-others as arity-two}
use Rattle.netlist.specs.Kinds.{is_kind, arity_fits}
use Rattle.words_layout.proofs.KindLaws.{not-counts, other-counts}

-- every kind but `not` has two to four operands
arity-others : (k count : ℕ) → 1 ≤ k → k ≤ 6 → is_kind k && arity_fits k count ≡ leb 2 count && leb count 4
unfolding is_kind arity_fits
arity-others k count a b = rw (le-leb k 6 b, (other-counts k a b).0, (other-counts k a b).1)

-- `not` has one
arity-not : (count : ℕ) → is_kind 0 && arity_fits 0 count ≡ leb 1 count && leb count 1
unfolding is_kind arity_fits
arity-not count = rw (not-counts.0, not-counts.1)

pub not-one : is_kind 0 && arity_fits 0 1 ≡ true
not-one = arity-not 1

pub not-other : (count : ℕ) → (count ≡ 1 → ⊥) → is_kind 0 && arity_fits 0 count ≡ false
not-other count ne =
    ⊎_elim (λ h. rw (arity-not, lt-leb 1 count h)) (λ h. rw (arity-not, le-leb 1 count h, lt-leb count 1 (omega arith)))
    (lt-or-le count 1)

module _ (k count : ℕ) (low : 1 ≤ k) (high : k ≤ 6) where
  pub row_fits : 2 ≤ count → count ≤ 4 → is_kind k && arity_fits k count ≡ true
  row_fits a b = rw (arity-others k count low high, le-leb 2 count a, le-leb count 4 b)

  pub row-few : count < 2 → is_kind k && arity_fits k count ≡ false
  row-few a = rw (arity-others k count low high, lt-leb 2 count a)

  pub row-many : 4 < count → is_kind k && arity_fits k count ≡ false
  row-many a = rw (arity-others k count low high, le-leb 2 count (omega arith), lt-leb count 4 a)

-- no other number is a kind
pub no_kind : (k count : ℕ) → 6 < k → is_kind k && arity_fits k count ≡ false
unfolding is_kind
no_kind k count h = rw (lt-leb k 6 h)

-- every gate has an operand
pub some-operand : (k count : ℕ) → is_kind k && arity_fits k count ≡ true → 1 ≤ count
some-operand k count h =
    let arity = and_right (is_kind k) (arity_fits k count) h in
    ⊎_elim (λ (b : k < 1). let e : k ≡ 0 = omega arith in omega (arith, arity-one count (rw e at arity)))
    (λ (b : 1 ≤ k). omega (arith, arity-two k count (and_left (is_kind k) (arity_fits k count) h) b arity)) (lt-or-le k 1)

-- two further on the constants, the two highest words, are 0 and 1, and every other word is two more
pub operand-word : (nodes w : ℕ) → nodes ≤ 65534 → w < 65536 → ltb ((w + 2) % 65536) (nodes + 2) ≡ operand_rule nodes w
unfolding operand_rule node_rule
operand-word nodes w few fits =
    ⊎_elim
    (λ (l : w < 65534).
    let e : (w + 2) % 65536 ≡ w + 2 = omega arith in
    rw (ne_eqb w 65534 (λ z. omega arith), ne_eqb w 65535 (λ z. omega arith), e)
    (⊎_elim (λ (b : w < nodes). rw (lt-ltb w nodes b, lt-ltb (w + 2) (nodes + 2) (omega arith)))
    (λ (b : nodes ≤ w). rw (le-ltb w nodes b, le-ltb (w + 2) (nodes + 2) (omega arith))) (lt-or-le w nodes)))
    (λ (g : 65534 ≤ w).
    let e : (w + 2) % 65536 < nodes + 2 = omega arith in
    rw (le-ltb w nodes (omega arith), lt-ltb ((w + 2) % 65536) (nodes + 2) e)
    (⊎_elim (λ (b : w < 65535). let z : w ≡ 65534 = omega arith in rw (eq-eqb w 65534 z))
    (λ (b : 65535 ≤ w). let z : w ≡ 65535 = omega arith in rw (ne_eqb w 65534 (λ y. omega arith), eq-eqb w 65535 z))
    (lt-or-le w 65535)))
    (lt-or-le w 65534)
