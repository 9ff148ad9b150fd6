-- The result of reading a text does not depend on the bound on lines or pairs, once it is at least the length.
-- Assumes nothing.
--   text_reader-bound, pairs_reader-bound: every bound that is at least the length gives one result
use Prim.Native.Nat.{ℕ, zero, suc, ◌-◌, ◌≤◌}
use mathlib.Core.Path.{◌≡◌, refl, sym, ap, ◌∙◌}
use mathlib.Core.Bool.{Bool, true, false}
use mathlib.Core.List.{List, [], ◌∷◌}
use native.Mathlib.Omega.{arith}
use lib.ListN.{length}
use lib.Dec.{eqb}
use Rattle.prelude.specs.Lists.{ascii}
use Rattle.netlist.specs.Limits.{max_depth}
use Rattle.netlist.specs.Names.{is_letter, is_name_byte, is_name_start}
use Rattle.netlist.specs.Syntax.{Terms, Pair, Tree}
use Rattle.netlist.specs.Parse.{Parsed, Reader, got, stuck, stop, on_test, if_next, expect, on_parsed, bind, name_reader}
use Rattle.netlist.specs.Parse.{expr_reader, term_reader, pair_reader, spaced_pair, pairs_reader, never_pairs, input_line}
use Rattle.netlist.specs.Parse.{never_line, gate_line, output_line, at_end, line, outputs_reader, gates_reader, nevers_reader}
use Rattle.netlist.specs.Parse.{text_reader}
use Rattle.theory_grammar.proofs.Lengths.{pair-length, pairs-length}
use Rattle.theory_grammar.proofs.Pairs.{pair_reader-sound, never_pairs-sound}
use Rattle.theory_grammar.proofs.SoundTerms.{letter-name_byte, name_start-name_byte}
use Rattle.theory_grammar.proofs.Shorter.{name_reader-shorter, expr_reader-shorter}

-- two readers answer alike on texts of at most k bytes
record Alike {A : Type 0} (k : ℕ) (r q : Reader A) : Type 0 where
  alike : (s : List ℕ) → length s ≤ k → r s ≡ q s

-- what is left of a text is not longer
record Shrinks {A : Type 0} (r : Reader A) : Type 0 where
  shrinks : (s : List ℕ) (a : A) (t : List ℕ) → r s ≡ got a t → length t ≤ length s

module _ {A : Type 0} (k : ℕ) where
  alike_self : {r : Reader A} → Alike k r r
  alike_self = record { alike = λ s le. refl }

  alike-if_next : (test : ℕ → Bool) (f g : ℕ → Reader A) (r q : Reader A) → ((c : ℕ) → Alike k (f c) (g c)) → Alike k r q
      → Alike k (if_next test f r) (if_next test g q)
  unfolding if_next on_test
  alike-if_next test f g r q h e = record { alike = go }
    where
      behind : (b : Bool) (c : ℕ) (s : List ℕ) → suc (length s) ≤ k → on_test b f r c s ≡ on_test b g q c s
      behind true c s le = (h c).alike s (omega arith)
      behind false c s le = e.alike (c ∷ s) le

      go : (s : List ℕ) → length s ≤ k → if_next test f r s ≡ if_next test g q s
      go [] le = e.alike [] le
      go (c ∷ s) le = behind (test c) c s le

  -- the byte that passes the test is taken
  alike-taken : (test : ℕ → Bool) (f g : ℕ → Reader A) (r : Reader A) → ((c : ℕ) → Alike k (f c) (g c))
      → Alike (suc k) (if_next test f r) (if_next test g r)
  unfolding if_next on_test
  alike-taken test f g r h = record { alike = go }
    where
      behind : (b : Bool) (c : ℕ) (s : List ℕ) → length s ≤ k → on_test b f r c s ≡ on_test b g r c s
      behind true c s le = (h c).alike s le
      behind false c s le = refl

      go : (s : List ℕ) → length s ≤ suc k → if_next test f r s ≡ if_next test g r s
      go [] le = refl
      go (c ∷ s) le = behind (test c) c s (omega arith)

  alike-expect : (cs : List ℕ) (r q : Reader A) → Alike k r q → Alike k (expect cs r) (expect cs q)
  unfolding expect
  alike-expect [] r q h = h
  alike-expect (c ∷ cs) r q h = alike-if_next (eqb c) _ _ stop stop (λ _. alike-expect cs r q h) alike_self

module _ {A B : Type 0} (k : ℕ) where
  alike-bind : (r : Reader A) (f g : A → Reader B) → Shrinks r → ((a : A) → Alike k (f a) (g a))
      → Alike k (bind r f) (bind r g)
  unfolding bind on_parsed
  alike-bind r f g sh h = record { alike = λ s le. go s le (r s) refl }
    where
      go : (s : List ℕ) → length s ≤ k → (p : Parsed A) → r s ≡ p → on_parsed f p ≡ on_parsed g p
      go s le (got a t) e = let m = sh.shrinks s a t e in (h a).alike t (omega arith)
      go s le (stuck n) e = refl

  alike-first : (r q : Reader A) (f : A → Reader B) → Alike k r q → Alike k (bind r f) (bind q f)
  unfolding bind
  alike-first r q f h = record { alike = λ s le. rw (h.alike s le) }

name_reader-shrinks : (start : ℕ → Bool) → ((c : ℕ) → start c ≡ true → is_name_byte c ≡ true) → Shrinks (name_reader start)
name_reader-shrinks start within = record {
  shrinks = λ s x t e. let h = name_reader-shorter start within s x t e in omega arith;
}

expr_reader-shrinks : {A : Type 0} (depth : ℕ) (make : ℕ → Terms → A) → Shrinks (expr_reader (term_reader depth) make)
expr_reader-shrinks depth make = record {
  shrinks = λ s a t e. let h = expr_reader-shorter depth make s a t e in omega arith;
}

alike-zero : {A : Type 0} (r q : Reader A) → r [] ≡ q [] → Alike zero r q
alike-zero r q e = record { alike = go }
  where
    go : (s : List ℕ) → length s ≤ zero → r s ≡ q s
    go [] le = e
    go (c ∷ s) le = absurd (omega arith)

-- ---- pairs

pair_reader-shrinks : Shrinks pair_reader
pair_reader-shrinks = record {
  shrinks = λ s p t e. let h = (pair_reader-sound s).holds p t e in
      omega (arith, pair-length p t, ap length h.printed);
}

never_pairs-shrinks : Shrinks never_pairs
never_pairs-shrinks = record {
  shrinks = λ s ps t e. let h = (never_pairs-sound s).holds ps t e in
      omega (arith, pairs-length ps t, ap length h.printed);
}

spaced_pair-alike : (k : ℕ) (r q : Reader (List Pair)) → Alike k r q → Alike (suc k) (spaced_pair r) (spaced_pair q)
unfolding spaced_pair expect
spaced_pair-alike k r q h =
    alike-taken k _ _ _ _ (λ _. alike-bind k pair_reader _ _ pair_reader-shrinks λ p. alike-first k r q _ h)

pairs-bound : (k n m needed : ℕ) → k ≤ n → k ≤ m → Alike k (pairs_reader n needed) (pairs_reader m needed)
unfolding pairs_reader spaced_pair expect if_next stop
pairs-bound zero n m needed a b = alike-zero _ _ (empty n needed ∙ sym (empty m needed))
  where
    empty : (n needed : ℕ) → pairs_reader n needed [] ≡ stuck 0
    empty zero needed = refl
    empty (suc n) zero = refl
    empty (suc n) (suc needed) = refl
pairs-bound (suc k) zero m needed a b = absurd (omega arith)
pairs-bound (suc k) (suc n) zero needed a b = absurd (omega arith)
pairs-bound (suc k) (suc n) (suc m) zero a b =
    alike-if_next (suc k) _ _ _ _ _ (λ _. alike_self (suc k))
    (spaced_pair-alike k _ _ (pairs-bound k n m zero (omega arith) (omega arith)))
pairs-bound (suc k) (suc n) (suc m) (suc needed) a b =
    spaced_pair-alike k _ _ (pairs-bound k n m needed (omega arith) (omega arith))

-- Every bound that is at least the length gives one result.
pub pairs_reader-bound : (n m needed : ℕ) (s : List ℕ) → length s ≤ n → length s ≤ m
    → pairs_reader n needed s ≡ pairs_reader m needed s
pairs_reader-bound n m needed s a b = (pairs-bound (length s) n m needed a b).alike s (omega arith)

-- ---- lines

module _ (k : ℕ) (r q : Reader Tree) (h : Alike k r q) (a b : Reader Tree) (e : Alike k a b) where
  input_line-alike : Alike k (input_line r a) (input_line q b)
  unfolding input_line
  input_line-alike =
      alike-if_next k _ _ _ _ _
      (λ _. alike-expect k (ascii "n ") _ _
      (alike-bind k (name_reader is_letter) _ _ (name_reader-shrinks is_letter letter-name_byte)
      λ s. alike-expect k (ascii ")\n") _ _ (alike-first k r q _ h))) e

  never_line-alike : Alike k (never_line r a) (never_line q b)
  unfolding never_line
  never_line-alike =
      alike-if_next k _ _ _ _ _
      (λ _. alike-expect k (ascii "ever") _ _ (alike-bind k never_pairs _ _ never_pairs-shrinks
      λ ps. alike-expect k (ascii "\n") _ _ (alike-first k r q _ h))) e

  gate_line-alike : Alike k (gate_line r a) (gate_line q b)
  unfolding gate_line
  gate_line-alike =
      alike-if_next k _ _ _ _ _
      (λ _. alike-expect k (ascii "ate ") _ _
      (alike-bind k (name_reader is_name_start) _ _ (name_reader-shrinks is_name_start name_start-name_byte)
      λ s. alike-expect k (ascii " (") _ _
      (alike-bind k (expr_reader (term_reader (max_depth - 1)) _) _ _ (expr_reader-shrinks (max_depth - 1) _)
      λ g. alike-expect k (ascii ")\n") _ _ (alike-first k r q _ h)))) e

  output_line-alike : Alike k (output_line r a) (output_line q b)
  unfolding output_line
  output_line-alike =
      alike-if_next k _ _ _ _ _
      (λ _. alike-expect k (ascii "ut ") _ _
      (alike-bind k (name_reader is_letter) _ _ (name_reader-shrinks is_letter letter-name_byte)
      λ p. alike-expect k (ascii " ") _ _
      (alike-bind k (name_reader is_name_start) _ _ (name_reader-shrinks is_name_start name_start-name_byte)
      λ s. alike-expect k (ascii ")\n") _ _ (alike-first k r q _ h)))) e

line-alike : (k : ℕ) (r q : Reader Tree) → Alike k r q → Alike (suc k) (line r) (line q)
unfolding line
line-alike k r q h = alike-taken k _ _ _ _ (λ _. h)

module _ (reader : ℕ → Reader Tree) (empty : (n : ℕ) → reader n [] ≡ at_end [])
    (step : (k n m : ℕ) → k ≤ n → k ≤ m → Alike k (reader n) (reader m)
    → Alike (suc k) (reader (suc n)) (reader (suc m))) where
  any-bound : (k n m : ℕ) → k ≤ n → k ≤ m → Alike k (reader n) (reader m)
  any-bound zero n m a b = alike-zero (reader n) (reader m) (empty n ∙ sym (empty m))
  any-bound (suc k) zero m a b = absurd (omega arith)
  any-bound (suc k) (suc n) zero a b = absurd (omega arith)
  any-bound (suc k) (suc n) (suc m) a b =
      step k n m (omega arith) (omega arith) (any-bound k n m (omega arith) (omega arith))

outputs-bound : (k n m : ℕ) → k ≤ n → k ≤ m → Alike k (outputs_reader n) (outputs_reader m)
unfolding outputs_reader line if_next
outputs-bound =
    any-bound outputs_reader empty λ k n m a b h. line-alike k _ _ (output_line-alike k _ _ h stop stop (alike_self k))
  where
    empty : (n : ℕ) → outputs_reader n [] ≡ at_end []
    empty zero = refl
    empty (suc n) = refl

gates-bound : (k n m : ℕ) → k ≤ n → k ≤ m → Alike k (gates_reader n) (gates_reader m)
unfolding gates_reader line if_next
gates-bound = any-bound gates_reader empty λ k n m a b h. line-alike k _ _
    (gate_line-alike k _ _ h _ _ (output_line-alike k _ _ (outputs-bound k n m a b) stop stop (alike_self k)))
  where
    empty : (n : ℕ) → gates_reader n [] ≡ at_end []
    empty zero = refl
    empty (suc n) = refl

nevers-bound : (k n m : ℕ) → k ≤ n → k ≤ m → Alike k (nevers_reader n) (nevers_reader m)
unfolding nevers_reader line if_next
nevers-bound = any-bound nevers_reader empty λ k n m a b h. line-alike k _ _ (never_line-alike k _ _ h _ _
    (gate_line-alike k _ _ (gates-bound k n m a b) _ _
    (output_line-alike k _ _ (outputs-bound k n m a b) stop stop (alike_self k))))
  where
    empty : (n : ℕ) → nevers_reader n [] ≡ at_end []
    empty zero = refl
    empty (suc n) = refl

text-bound : (k n m : ℕ) → k ≤ n → k ≤ m → Alike k (text_reader n) (text_reader m)
unfolding text_reader line if_next
text-bound = any-bound text_reader empty λ k n m a b h. line-alike k _ _ (input_line-alike k _ _ h _ _
    (never_line-alike k _ _ (nevers-bound k n m a b) _ _
    (gate_line-alike k _ _ (gates-bound k n m a b) _ _
    (output_line-alike k _ _ (outputs-bound k n m a b) stop stop (alike_self k)))))
  where
    empty : (n : ℕ) → text_reader n [] ≡ at_end []
    empty zero = refl
    empty (suc n) = refl

-- Every bound that is at least the length gives one result.
pub text_reader-bound : (n m : ℕ) (s : List ℕ) → length s ≤ n → length s ≤ m → text_reader n s ≡ text_reader m s
text_reader-bound n m s a b = (text-bound (length s) n m a b).alike s (omega arith)
