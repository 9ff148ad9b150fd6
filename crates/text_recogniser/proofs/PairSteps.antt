-- Pairs: one law for each way through the code that reads them. Assumes nothing.
use mathlib.Core.Path.{◌≡◌, refl, sym, ap, ◌∙◌}
use mathlib.Core.Bool.{Bool, true, false}
use mathlib.Core.Logic.{⊎_elim}
use mathlib.Core.List.{List, [], ◌∷◌}
use Prim.Native.Nat.{ℕ, zero, suc, ◌+◌, ◌-◌, ◌≤◌, ◌<◌}
use native.Mathlib.Omega.{arith}
use lib.ListN.{length, get_or, length-drop}
use lib.Dec.{eqb}
use Rattle.std.specs.Prelude.{Result, Ok, Err}
use Rattle.prelude.specs.Lists.{ascii, is}
use Rattle.prelude.proofs.Tests.{eq-or-ne}
use Rattle.netlist.specs.Names.{is_name_start}
use Rattle.netlist.specs.Parse.{Parsed, Reader, got, stuck, pure, stop, on_test, if_next, expect, on_parsed, bind}
use Rattle.netlist.specs.Parse.{name_reader}
use Rattle.netlist.specs.Syntax.{Pair}
use Rattle.netlist.specs.Parse.{bit_reader, pair_reader, spaced_pair, pairs_reader}
use Rattle.text_recogniser.specs.Readers.{scan_of, last_ones, word_reader, first_byte}
use Rattle.text_recogniser.proofs.Shortens.{Shortens, shortens-pure, shortens-stop, shortens-if, shortens-expect}
use Rattle.text_recogniser.proofs.Shortens.{shortens-bind, shortens-name}
use Rattle.text_recogniser.proofs.Continues.{then_of, Continues, continues-bind, continues-after-expect}
use Rattle.text_recogniser.proofs.Continues.{continues-word}
use Rattle.text_recogniser.proofs.Continues.{scan-map, then-read, then-refused}
use Rattle.text_recogniser.proofs.Chain.{Then, word-then, skip-then}
use Rattle.text_recogniser.proofs.First.{byte-taken, byte_left}
use Rattle.text_recogniser.specs.Pairs.{pair_value, pair_space, pair_name, pair_scan}

-- ---- readers that leave the same, whatever they read

pub record SameRest {A B : Type 0} (R : Reader A) (Q : Reader B) : Type 0 where
  pub same : (k : List ℕ → Result ℕ ℕ) (s : List ℕ) → then_of (R s) k ≡ then_of (Q s) k

module _ {A B : Type 0} where
  same-pure : (a : A) (b : B) → SameRest (pure a) (pure b)
  unfolding pure
  same-pure a b = record { same = λ k s. refl }

  same_if : (test : ℕ → Bool) {R : Reader A} {Q : Reader B} → SameRest R Q
      → SameRest (if_next test (λ _. R) stop) (if_next test (λ _. Q) stop)
  unfolding if_next on_test stop
  same_if test {R} {Q} h = record { same = λ k s. go k s }
    where
      at : (b : Bool) (k : List ℕ → Result ℕ ℕ) (d : ℕ) (s : List ℕ)
          → then_of (on_test b (λ _. R) stop d s) k ≡ then_of (on_test b (λ _. Q) stop d s) k
      at true k d s = h.same k s
      at false k d s = refl

      go : (k : List ℕ → Result ℕ ℕ) (s : List ℕ)
          → then_of (if_next test (λ _. R) stop s) k ≡ then_of (if_next test (λ _. Q) stop s) k
      go k [] = refl
      go k (d ∷ s) = at (test d) k d s

  same-expect : (w : List ℕ) {R : Reader A} {Q : Reader B} → SameRest R Q → SameRest (expect w R) (expect w Q)
  unfolding expect
  same-expect [] h = h
  same-expect (c ∷ cs) h = same_if (eqb c) (same-expect cs h)

same-bind : {A B C : Type 0} (R : Reader A) {f : A → Reader B} {g : A → Reader C} → ((a : A) → SameRest (f a) (g a))
    → SameRest (bind R f) (bind R g)
unfolding bind on_parsed
same-bind {A} R {f} {g} h = record { same = λ k s. go k (R s) }
  where
    go : (k : List ℕ → Result ℕ ℕ) (p : Parsed A) → then_of (on_parsed f p) k ≡ then_of (on_parsed g p) k
    go k (got a t) = (h a).same k t
    go k (stuck left) = refl

-- ---- one pair

shortens-bit : Shortens bit_reader
unfolding bit_reader
shortens-bit =
    shortens-if (is "0") (λ _. shortens-pure false) (shortens-if (is "1") (λ _. shortens-pure true) shortens-stop)

module _ (s : List ℕ) {b : ℕ} (e : b ≡ get_or s 0 0) where
  pub value-bit : 48 ≤ b → b ≤ 49 → Ok (length s - 1) ≡ scan_of (bit_reader s)
  unfolding bit_reader pure
  value-bit l u = ⊎_elim zero one (eq-or-ne b 48)
    where
      zero : b ≡ 48 → Ok (length s - 1) ≡ scan_of (bit_reader s)
      zero f = sym (ap scan_of (byte-taken _ _ s 48 e f (omega arith)) ∙ ap Ok (length-drop 1 s))

      one : (b ≡ 48 → ⊥) → Ok (length s - 1) ≡ scan_of (bit_reader s)
      one n =
          let f : b ≡ 49 = omega (arith, n) in
          sym (ap scan_of (byte_left _ _ s 48 e n ∙ byte-taken _ _ s 49 e f (omega arith)) ∙ ap Ok (length-drop 1 s))

  pub value_none : (b ≡ 48 → ⊥) → (b ≡ 49 → ⊥) → Err (length s) ≡ scan_of (bit_reader s)
  unfolding bit_reader stop
  value_none n m = sym (ap scan_of (byte_left _ _ s 48 e n ∙ byte_left _ _ s 49 e m))

pub pair-word : Then pair_scan (word_reader (ascii " (")) pair_name
unfolding pair_scan
pair-word = word-then (ascii " (") pair_name

pub pair-name : Then pair_name (name_reader (first_byte true)) pair_space
unfolding pair_name
pair-name = skip-then (shortens-name (first_byte true)) pair_space

pub pair-space : Then pair_space (word_reader (ascii " ")) pair_value
unfolding pair_space
pair-space = word-then (ascii " ") pair_value

pub pair-value : Then pair_value bit_reader (word_reader (ascii ")"))
unfolding pair_value
pair-value = skip-then shortens-bit (word_reader (ascii ")"))

-- netlist's reader of a pair leaves what this one leaves
pair_same : SameRest (expect (ascii " ") pair_reader) pair_scan
unfolding expect pair_reader pair_scan pair_name pair_space pair_value word_reader first_byte
pair_same =
    same-expect (ascii " (") (same-bind (name_reader is_name_start) λ s. same-expect (ascii " ")
    (same-bind bit_reader λ v. same-expect (ascii ")") (same-pure _ 0)))

shortens-pair : Shortens pair_scan
unfolding pair_scan pair_name pair_space pair_value word_reader
shortens-pair =
    shortens-expect (ascii " (") (shortens-bind (shortens-name (first_byte true)) λ _. shortens-expect (ascii " ")
    (shortens-bind shortens-bit λ _. shortens-expect (ascii ")") (shortens-pure 0)))

shortens-spaced : (others : Reader (List Pair)) → Shortens others → Shortens (spaced_pair others)
unfolding spaced_pair pair_reader
shortens-spaced others h =
    shortens-expect (ascii " ") (shortens-bind (shortens-expect (ascii "(")
    (shortens-bind (shortens-name is_name_start) λ s.
    shortens-expect (ascii " ") (shortens-bind shortens-bit λ v. shortens-expect (ascii ")") (shortens-pure _))))
    (λ p. shortens-bind h (λ ps. shortens-pure (p ∷ ps))))

continues-pair : (others : Reader (List Pair)) → Continues (spaced_pair others) pair_scan (λ t. scan_of (others t))
unfolding spaced_pair
continues-pair others = record {
  goes_on =
      λ s. (continues-after-expect (ascii " ") (continues-bind pair_reader _ (λ t. scan_of (others t))
      (λ p t. scan-map others (λ ps. p ∷ ps) t))).goes_on s
      ∙ pair_same.same (λ t. scan_of (others t)) s;
}

-- ---- pairs up to their closing bracket

list-spaced : (most needed : ℕ) (s : List ℕ) → 0 < most → {b : ℕ} → b ≡ get_or s 0 0 → (b ≡ 41 → ⊥)
    → pairs_reader most needed s ≡ spaced_pair (pairs_reader (most - 1) (needed - 1)) s
unfolding pairs_reader
list-spaced zero needed s m e f = absurd (omega arith)
list-spaced (suc most) zero s m e f = let d : suc most - 1 ≡ most = omega arith in rw d (byte_left _ _ s 41 e f)
list-spaced (suc most) (suc needed) s m e f =
    let d : suc most - 1 ≡ most = omega arith in let g : suc needed - 1 ≡ needed = omega arith in rw (d, g)

module _ (most needed : ℕ) (s : List ℕ) where
  pairs-full : most ≡ 0 → scan_of (pairs_reader most needed s) ≡ scan_of (word_reader (ascii ")") s)
  unfolding pairs_reader pure word_reader
  pairs-full e =
      rw e ((continues-word (ascii ")") (pure [])).goes_on s ∙ sym ((continues-word (ascii ")") (pure 0)).goes_on s))

  module _ (m : 0 < most) {b : ℕ} (e : b ≡ get_or s 0 0) where
    pairs-closed : b ≡ 41 → needed ≡ 0 → scan_of (pairs_reader most needed s) ≡ Ok (length s - 1)
    unfolding pairs_reader pure
    pairs-closed f n =
        let d : most ≡ suc (most - 1) = omega arith in
        rw (d, n) (ap scan_of (byte-taken _ _ s 41 e f (omega arith)) ∙ ap Ok (length-drop 1 s))

    pairs-needed : b ≡ 41 → 0 < needed → scan_of (pairs_reader most needed s) ≡ Err (length s)
    unfolding pairs_reader spaced_pair expect stop
    pairs-needed f n =
        let d : most ≡ suc (most - 1) = omega arith in
        let g : needed ≡ suc (needed - 1) = omega arith in
        rw (d, g) (ap scan_of (byte_left _ _ s 32 e (λ z. omega arith)))

    -- where no bracket closes them, a pair comes
    pairs-more : (b ≡ 41 → ⊥)
        → scan_of (pairs_reader most needed s) ≡ then_of (pair_scan s) (λ t. scan_of (pairs_reader (most - 1) (needed - 1) t))
    pairs-more f = ap scan_of spaced ∙ (continues-pair (pairs_reader (most - 1) (needed - 1))).goes_on s
      where
        spaced : pairs_reader most needed s ≡ spaced_pair (pairs_reader (most - 1) (needed - 1)) s
        spaced = list-spaced most needed s m e f

-- ---- the loop over pairs: i of them are read, and so much of the text is left

abbrev pub PairsLeft : List ℕ → ℕ → ℕ → ℕ → List ℕ → Type 0
PairsLeft s most needed i rest =
    scan_of (pairs_reader most needed s) ≡ scan_of (pairs_reader (most - i) (needed - i) rest)

module _ (s rest : List ℕ) (most needed i : ℕ) (p : PairsLeft s most needed i rest) where
  pub pairs_end : most ≤ i → scan_of (pairs_reader most needed s) ≡ scan_of (word_reader (ascii ")") rest)
  pairs_end l = p ∙ pairs-full (most - i) (needed - i) rest (omega arith)

  module _ (l : i < most) {b : ℕ} (e : b ≡ get_or rest 0 0) where
    pub left-closed : b ≡ 41 → needed ≤ i → Ok (length rest - 1) ≡ scan_of (pairs_reader most needed s)
    left-closed f n = sym (p ∙ pairs-closed (most - i) (needed - i) rest (omega arith) e f (omega arith))

    pub left-needed : b ≡ 41 → i < needed → Err (length rest) ≡ scan_of (pairs_reader most needed s)
    left-needed f n = sym (p ∙ pairs-needed (most - i) (needed - i) rest (omega arith) e f (omega arith))

    module _ (f : b ≡ 41 → ⊥) where
      one : scan_of (pairs_reader most needed s)
          ≡ then_of (pair_scan rest) (λ u. scan_of (pairs_reader (most - i - 1) (needed - i - 1) u))
      one = p ∙ pairs-more (most - i) (needed - i) rest (omega arith) e f

      pub left-bad : {n : ℕ} → Err n ≡ scan_of (pair_scan rest) → scan_of (pairs_reader most needed s) ≡ Err n
      left-bad told = one ∙ then-refused (pair_scan rest) _ told

      pub left-next : {n : ℕ} {t : List ℕ} → Ok n ≡ scan_of (pair_scan rest) → t ≡ last_ones n rest
          → PairsLeft s most needed (i + 1) t
      left-next {n} told g =
          let a : most - i - 1 ≡ most - (i + 1) = omega arith in
          let d : needed - i - 1 ≡ needed - (i + 1) = omega arith in
          rw (g, ← a, ← d) (one ∙ then-read _ shortens-pair rest told)

-- ---- what is left is within the line

pub shortens-pairs : (most needed : ℕ) → Shortens (pairs_reader most needed)
unfolding pairs_reader
shortens-pairs zero needed = shortens-expect (ascii ")") (shortens-pure [])
shortens-pairs (suc most) zero =
    shortens-if (is ")") (λ _. shortens-pure []) (shortens-spaced _ (shortens-pairs most zero))
shortens-pairs (suc most) (suc needed) = shortens-spaced _ (shortens-pairs most needed)
