-- Operand lists by their first byte, and an expression by its kind: one law for each way through the code. Assumes
-- nothing.
use mathlib.Core.Path.{◌≡◌, sym, ap, ◌∙◌}
use mathlib.Core.List.{List}
use Prim.Native.Nat.{ℕ, zero, suc, ◌-◌}
use native.Mathlib.Omega.{arith}
use lib.ListN.{length, drop, get_or, length-drop}
use Rattle.std.specs.Prelude.{Ok, Err}
use Rattle.prelude.specs.Lists.{ascii}
use Rattle.netlist.specs.Kinds.{keyword, most_operands, fewest_operands}
use Rattle.netlist.specs.Syntax.{Term, Terms, nil, cons}
use Rattle.netlist.specs.Parse.{Reader, pure, stop, expect, on_parsed, bind, kind_reader, spaced, terms_reader, expr_reader}
use Rattle.text_recogniser.specs.Readers.{scan_of, last_ones, word_reader}
use Rattle.text_recogniser.proofs.Shortens.{shortens-word}
use Rattle.text_recogniser.proofs.Continues.{Continues, continues-bind, continues-word, continues-same, scan-map}
use Rattle.text_recogniser.proofs.Chain.{Then, goes-on, breaks-off}
use Rattle.text_recogniser.proofs.First.{byte-taken, byte_left}
use Rattle.text_recogniser.specs.Keywords.{kind_here}
use Rattle.text_recogniser.proofs.KindWords.{kind-is, word-handed}

-- an operand, and then the others
pub operand_then : Reader Term → Reader Terms → Reader Terms
operand_then term others = bind term (λ t. bind others (λ ts. pure (cons t ts)))

pub continues-operand : (term : Reader Term) (others : Reader Terms)
    → Continues (operand_then term others) term (λ t. scan_of (others t))
unfolding operand_then
continues-operand term others = continues-bind term _ _ (λ t s. scan-map others (cons t) s)

module _ (term : Reader Term) (most needed : ℕ) (s : List ℕ) where
  -- no operand may come
  pub list_full : most ≡ 0 → scan_of (terms_reader term most needed s) ≡ scan_of (word_reader (ascii ")") s)
  unfolding terms_reader pure word_reader
  list_full e =
      rw e ((continues-word (ascii ")") (pure nil)).goes_on s ∙ sym ((continues-word (ascii ")") (pure 0)).goes_on s))

  module _ (m : most ≡ 0 → ⊥) {b : ℕ} (e : b ≡ get_or s 0 0) where
    pub list-closed : b ≡ 41 → needed ≡ 0 → scan_of (terms_reader term most needed s) ≡ Ok (length s - 1)
    unfolding terms_reader pure
    list-closed f n =
        let d : most ≡ suc (most - 1) = omega arith in
        rw (d, n) (ap scan_of (byte-taken _ _ s 41 e f (omega arith)) ∙ ap Ok (length-drop 1 s))

    pub list-needed : b ≡ 41 → (needed ≡ 0 → ⊥) → scan_of (terms_reader term most needed s) ≡ Err (length s)
    unfolding terms_reader spaced expect stop
    list-needed f n =
        let d : most ≡ suc (most - 1) = omega arith in
        let g : needed ≡ suc (needed - 1) = omega arith in
        rw (d, g) (ap scan_of (byte_left _ _ s 32 e (λ z. omega arith)))

    -- where no bracket closes it, an operand comes
    module _ (f : b ≡ 41 → ⊥) where
      list-spaced : terms_reader term most needed s ≡ spaced term (terms_reader term (most - 1) (needed - 1)) s
      unfolding terms_reader
      list-spaced = let d : most ≡ suc (most - 1) = omega arith in rw d (go needed)
        where
          go : (needed : ℕ) → terms_reader term (suc (most - 1)) needed s
              ≡ spaced term (terms_reader term (suc (most - 1) - 1) (needed - 1)) s
          go zero = let d : suc (most - 1) - 1 ≡ most - 1 = omega arith in rw d (byte_left _ _ s 41 e f)
          go (suc n) =
              let d : suc (most - 1) - 1 ≡ most - 1 = omega arith in let g : suc n - 1 ≡ n = omega arith in rw (d, g)

      pub list-other : (b ≡ 32 → ⊥) → scan_of (terms_reader term most needed s) ≡ Err (length s)
      unfolding spaced expect stop
      list-other g = ap scan_of (list-spaced ∙ byte_left _ _ s 32 e g)

      pub list-more : b ≡ 32
          → scan_of (terms_reader term most needed s)
          ≡ scan_of (operand_then term (terms_reader term (most - 1) (needed - 1)) (drop 1 s))
      unfolding spaced expect operand_then
      list-more g = ap scan_of (list-spaced ∙ byte-taken _ _ s 32 e g (omega arith))

-- what follows a kind
unfoldable pub after_kind : {A : Type 0} → Reader Term → (ℕ → Terms → A) → ℕ → Reader A
after_kind term make k = bind (terms_reader term (most_operands k) (fewest_operands k)) (λ ts. pure (make k ts))

-- an expression is the word of the kind that its first bytes tell, and then its operands
module _ {A : Type 0} (term : Reader Term) (make : ℕ → Terms → A) where
  abbrev pub operands_of : ℕ → Reader Terms
  operands_of k = terms_reader term (most_operands k) (fewest_operands k)

  word-and-operands : (k : ℕ)
      → Then (expect (keyword k) (after_kind term make k)) (word_reader (keyword k)) (operands_of k)
  unfolding after_kind
  word-and-operands k =
      record {
        goes =
            continues-same (continues-word (keyword k) (after_kind term make k))
            (λ t. scan-map (operands_of k) (make k) t);
        shorter = shortens-word (keyword k);
      }

  -- the keyword is read, and then the operands; or it breaks off
  module _ (s : List ℕ) {k : ℕ} (e : k ≡ kind_here s) where
    begun : scan_of (expr_reader term make s) ≡ scan_of (expect (keyword k) (after_kind term make k) s)
    unfolding expr_reader bind after_kind
    begun =
        let h : kind_reader s ≡ expect (keyword k) (pure k) s = rw e (kind-is s) in
        ap (λ p. scan_of (on_parsed (after_kind term make) p)) h
        ∙ ap scan_of (word-handed (keyword k) (after_kind term make) k s)

    module _ {n : ℕ} where
      pub expression-read : {rest : List ℕ} → Ok n ≡ scan_of (word_reader (keyword k) s) → rest ≡ last_ones n s
          → scan_of (expr_reader term make s) ≡ scan_of (operands_of k rest)
      expression-read f g = begun ∙ goes-on (word-and-operands k) s f g

      pub expression-bad : Err n ≡ scan_of (word_reader (keyword k) s) → scan_of (expr_reader term make s) ≡ Err n
      expression-bad f = begun ∙ breaks-off (word-and-operands k) s f
