-- The loop over the operands of an expression: i of them are read, and so many bytes are left. One law for each way
-- through its turn. Assumes nothing.
use mathlib.Core.Path.{◌≡◌, sym, ap, ◌∙◌}
use mathlib.Core.List.{List}
use Prim.Native.Nat.{ℕ, ◌+◌, ◌-◌, ◌≤◌, ◌<◌}
use native.Mathlib.Omega.{arith}
use lib.ListN.{length, drop, get_or, take, length-drop}
use Rattle.std.specs.Prelude.{Ok, Err}
use Rattle.prelude.specs.Lists.{ascii}
use Rattle.prelude.proofs.Elements.{byte-there, rest-is-drop}
use Rattle.netlist.specs.Syntax.{Term}
use Rattle.netlist.specs.Parse.{Reader, terms_reader}
use Rattle.text_recogniser.specs.Readers.{scan_of, last_ones, word_reader}
use Rattle.text_recogniser.proofs.ListFacts.{last-of-last}
use Rattle.text_recogniser.proofs.Shortens.{Shortens}
use Rattle.text_recogniser.proofs.Continues.{then_of, left-short, then-read, then-refused}
use Rattle.text_recogniser.proofs.OperandLists.{continues-operand, list_full, list-closed, list-needed}
use Rattle.text_recogniser.proofs.OperandLists.{list-other, list-more}

-- a text from a place on, as code lends it
abbrev pub rest_of : ℕ → List ℕ → List ℕ
rest_of at s = take (length s - at) (drop at s)

pub record OperandsLeft (term : Reader Term) (s : List ℕ) (most needed i : ℕ) (rest : List ℕ) : Type 0 where
  pub within : length rest ≤ length s
  pub is-rest : scan_of (terms_reader term most needed s) ≡ scan_of (terms_reader term (most - i) (needed - i) rest)

module _ (term : Reader Term) (s rest : List ℕ) (most needed i : ℕ) (p : OperandsLeft term s most needed i rest) where
  pub operands_end : most ≤ i → scan_of (terms_reader term most needed s) ≡ scan_of (word_reader (ascii ")") rest)
  operands_end l = p.is-rest ∙ list_full term (most - i) (needed - i) rest (omega arith)

  module _ (l : i < most) {b : ℕ} (e : b ≡ get_or rest 0 0) where
    more : most - i ≡ 0 → ⊥
    more z = omega arith

    pub left-closed : b ≡ 41 → needed ≤ i → Ok (length rest - 1) ≡ scan_of (terms_reader term most needed s)
    left-closed f n = sym (p.is-rest ∙ list-closed term (most - i) (needed - i) rest more e f (omega arith))

    pub left-needed : b ≡ 41 → i < needed → Err (length rest) ≡ scan_of (terms_reader term most needed s)
    left-needed f n = sym (p.is-rest ∙ list-needed term (most - i) (needed - i) rest more e f (λ z. omega arith))

    pub left_other : (b ≡ 41 → ⊥) → (b ≡ 32 → ⊥) → Err (length rest) ≡ scan_of (terms_reader term most needed s)
    left_other f g = sym (p.is-rest ∙ list-other term (most - i) (needed - i) rest more e f g)

    -- an operand comes, behind its space
    module _ (g : b ≡ 32) where
      one : scan_of (terms_reader term most needed s)
          ≡ then_of (term (rest_of 1 rest)) (λ u. scan_of (terms_reader term (most - i - 1) (needed - i - 1) u))
      one =
          rw (rest-is-drop rest 1)
          (p.is-rest ∙ list-more term (most - i) (needed - i) rest more e (λ z. omega arith) g
          ∙ (continues-operand term (terms_reader term (most - i - 1) (needed - i - 1))).goes_on (drop 1 rest))

      pub left-bad : {n : ℕ} → Err n ≡ scan_of (term (rest_of 1 rest))
          → scan_of (terms_reader term most needed s) ≡ Err n
      left-bad told = one ∙ then-refused (term (rest_of 1 rest)) _ told

      pub left-next : Shortens term → {n : ℕ} {t : List ℕ} → Ok n ≡ scan_of (term (rest_of 1 rest))
          → t ≡ last_ones n rest → OperandsLeft term s most needed (i + 1) t
      left-next short {n} {t} told h =
          let w : n ≤ length (rest_of 1 rest) = left-short short (rest_of 1 rest) told in
          let q : last_ones n (rest_of 1 rest) ≡ last_ones n rest =
          last-of-last n (length rest - 1) rest (rest-is-drop rest 1 ∙ dropped) w
          in
          let a : most - i - 1 ≡ most - (i + 1) = omega arith in
          let d : needed - i - 1 ≡ needed - (i + 1) = omega arith in
          let v : length t ≤ length rest = rw h (omega (arith, length-drop (length rest - n) rest)) in
          record {
            within = omega (arith, p.within, v);
            is-rest = rw (h, ← a, ← d, ← q) (one ∙ then-read _ short (rest_of 1 rest) told);
          }
        where
          dropped : drop 1 rest ≡ last_ones (length rest - 1) rest
          dropped =
              let h : 0 < length rest = byte-there rest e g (omega arith) in
              let k : 1 ≡ length rest - (length rest - 1) = omega arith in
              ap (λ (j : ℕ). drop j rest) k
