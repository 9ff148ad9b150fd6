-- Operands by their first byte: one law for each way through the code. Assumes nothing.
use mathlib.Core.Path.{◌≡◌, refl, sym, ap, ◌∙◌}
use mathlib.Core.Bool.{true, false}
use mathlib.Core.Logic.{⊎_elim}
use mathlib.Core.List.{List}
use Prim.Native.Nat.{ℕ, zero, suc, ◌-◌, ◌≤◌, ◌<◌}
use native.Mathlib.Omega.{arith}
use lib.ListN.{length, drop, get_or, length-drop}
use Rattle.std.specs.Prelude.{Ok, Err}
use Rattle.prelude.specs.Lists.{ascii}
use Rattle.prelude.proofs.Tests.{eq-or-ne}
use Rattle.netlist.specs.Names.{is_name_start}
use Rattle.netlist.specs.Syntax.{Term, name, apply}
use Rattle.netlist.specs.Parse.{Reader, pure, stop, expect, name_after, name_reader, expr_reader, leaf_or, term_reader}
use Rattle.text_recogniser.specs.Readers.{scan_of, first_byte}
use Rattle.text_recogniser.proofs.Continues.{scan-map}
use Rattle.text_recogniser.proofs.First.{if-taken, if-left, byte-taken, byte_left}
use Rattle.text_recogniser.proofs.Names.{no_start}

-- an operand that is neither a name nor a constant
unfoldable pub inner : ℕ → Reader Term
inner zero = stop
inner (suc depth) = expect (ascii "(") (expr_reader (term_reader depth) apply)

leaf-or-inner : (depth : ℕ) (s : List ℕ) → term_reader depth s ≡ leaf_or (inner depth) s
unfolding term_reader inner
leaf-or-inner zero s = refl
leaf-or-inner (suc depth) s = refl

pub inner-other : (depth : ℕ) (s : List ℕ) {b : ℕ} → b ≡ get_or s 0 0 → (b ≡ 40 → ⊥)
    → scan_of (inner depth s) ≡ Err (length s)
unfolding inner expect stop
inner-other zero s e f = refl
inner-other (suc depth) s e f = ap scan_of (byte_left _ _ s 40 e f)

module _ (depth : ℕ) (s : List ℕ) where
  pub operand-name : is_name_start (get_or s 0 0) ≡ true
      → scan_of (name_reader (first_byte true) s) ≡ scan_of (term_reader depth s)
  unfolding leaf_or name_reader first_byte
  operand-name h =
      ap scan_of (if-taken _ _ is_name_start s no_start h)
      ∙ sym
      (ap scan_of (leaf-or-inner depth s ∙ if-taken _ _ is_name_start s no_start h)
      ∙ scan-map (name_after (get_or s 0 0)) name (drop 1 s))

  module _ (h : is_name_start (get_or s 0 0) ≡ false) {b : ℕ} (e : b ≡ get_or s 0 0) where
    pub operand-bit : 48 ≤ b → b ≤ 49 → Ok (length s - 1) ≡ scan_of (term_reader depth s)
    unfolding leaf_or pure
    operand-bit l u = ⊎_elim zero one (eq-or-ne b 48)
      where
        zero : b ≡ 48 → Ok (length s - 1) ≡ scan_of (term_reader depth s)
        zero f =
            sym
            (ap scan_of (leaf-or-inner depth s ∙ if-left _ _ is_name_start s h ∙ byte-taken _ _ s 48 e f (omega arith))
            ∙ ap Ok (length-drop 1 s))

        one : (b ≡ 48 → ⊥) → Ok (length s - 1) ≡ scan_of (term_reader depth s)
        one n =
            let f : b ≡ 49 = omega (arith, n) in
            sym
            (ap scan_of (leaf-or-inner depth s ∙ if-left _ _ is_name_start s h ∙ byte_left _ _ s 48 e n
            ∙ byte-taken _ _ s 49 e f (omega arith))
            ∙ ap Ok (length-drop 1 s))

    module _ (n0 : b ≡ 48 → ⊥) (n1 : b ≡ 49 → ⊥) where
      pub operand-inner : scan_of (term_reader depth s) ≡ scan_of (inner depth s)
      unfolding leaf_or
      operand-inner =
          ap scan_of (leaf-or-inner depth s ∙ if-left _ _ is_name_start s h ∙ byte_left _ _ s 48 e n0
          ∙ byte_left _ _ s 49 e n1)

      pub operand-deepest : depth ≡ 0 → Err (length s) ≡ scan_of (term_reader depth s)
      unfolding inner stop
      operand-deepest z = let d : scan_of (inner depth s) ≡ Err (length s) = rw z in sym (operand-inner ∙ d)

      pub operand-other : (b ≡ 40 → ⊥) → Err (length s) ≡ scan_of (term_reader depth s)
      operand-other f = sym (operand-inner ∙ inner-other depth s e f)

      pub operand-expression : 0 < depth → b ≡ 40
          → scan_of (expr_reader (term_reader (depth - 1)) apply (drop 1 s)) ≡ scan_of (term_reader depth s)
      unfolding inner expect
      operand-expression g f =
          let d : depth ≡ suc (depth - 1) = omega arith in
          sym
          (operand-inner ∙ ap (λ (k : ℕ). scan_of (inner k s)) d
          ∙ ap scan_of (byte-taken _ _ s 40 e f (omega arith)))
