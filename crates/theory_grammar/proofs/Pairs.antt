-- Pairs of a name and a value, in set lines and never lines, up to their closing bracket: what is read is legal and
-- printed back, and what is legal is read back. Assumes nothing.
--   pair_reader-sound, pairs_reader-sound, never_pairs-sound: what is read is legal, and printed back
--   pair_reader-back, pairs_reader-back, never_pairs-back: the print of legal pairs is read
--   pairs-few: no text has more pairs than bytes
use Prim.Native.Nat.{ℕ, zero, suc, ◌≤◌}
use mathlib.Core.Path.{◌≡◌, refl, ap, ◌∙◌}
use mathlib.Core.Bool.{Bool, true, false, and-eq-true_iff}
use mathlib.Core.List.{List, [], ◌∷◌, ◌++◌}
use native.Mathlib.Omega.{arith}
use lib.ListN.{length}
use lib.Dec.{leb}
use borrow.Author.Tests.{le-leb, leb-true}
use Rattle.prelude.specs.Lists.{ascii, is, all}
use Rattle.netlist.specs.Values.{val}
use Rattle.netlist.specs.Names.{is_letter, is_digit, is_underscore, is_name_byte, is_name_start, is_node_name}
use Rattle.netlist.specs.Syntax.{Pair, value_text, pair_text, print_pair, print_lines, is_legal_pair, is_legal_never}
use Rattle.netlist.specs.Parse.{Parsed, Reader, got, pure, stop, if_next, on_test, expect, name_reader, bit_reader}
use Rattle.netlist.specs.Parse.{pair_reader, spaced_pair, pairs_reader, never_pairs}
use Rattle.theory_grammar.proofs.Equations.{if_next-true, if_next-false, expect-back, bind-got}
use Rattle.theory_grammar.proofs.Readings.{Gives, gives-stuck, gives-pure, gives-stop, gives-is, gives-expect}
use Rattle.theory_grammar.proofs.Readings.{gives-bind}
use Rattle.theory_grammar.proofs.SoundTerms.{name_reader-sound, name_start-name_byte}
use Rattle.theory_grammar.proofs.CompleteTerms.{name_reader-back}
use Rattle.theory_grammar.proofs.Lengths.{pairs-length}

-- ---- what is read is legal and printed back

record BitRead (s : List ℕ) (v : Bool) (rest : List ℕ) : Type 0 where
  printed : value_text (val v) ++ rest ≡ s

bit_reader-sound : (s : List ℕ) → Gives (BitRead s) (bit_reader s)
unfolding bit_reader value_text
bit_reader-sound s =
    gives-is _ _ _ s (λ t e. gives-pure false t (record { printed = e }))
    (gives-is _ _ _ s (λ t e. gives-pure true t (record { printed = e })) (gives-stop s))

-- a pair, behind its space
pub record PairRead (s : List ℕ) (p : Pair) (rest : List ℕ) : Type 0 where
  pub printed : print_pair p rest ≡ ascii " " ++ s
  pub legal : is_legal_pair p ≡ true

pub pair_reader-sound : (s : List ℕ) → Gives (PairRead s) (pair_reader s)
unfolding pair_reader print_pair pair_text is_legal_pair is_node_name
pair_reader-sound s =
    gives-expect (ascii "(") _ s λ t e. gives-bind (name_reader is_name_start) _ t
    (name_reader-sound is_name_start name_start-name_byte t)
    λ x u f. gives-expect (ascii " ") _ u λ v g. gives-bind bit_reader _ v (bit_reader-sound v)
    λ b w h. gives-expect (ascii ")") _ w λ y i. gives-pure _ y (record { printed = cc; legal = f.legal })

-- pairs with the bracket behind them
pub record PairsRead (most needed : ℕ) (s : List ℕ) (ps : List Pair) (rest : List ℕ) : Type 0 where
  pub printed : print_lines print_pair ps (ascii ")" ++ rest) ≡ s
  pub few : length ps ≤ most
  pub enough : needed ≤ length ps
  pub legal : all is_legal_pair ps ≡ true

spaced_pair-sound : (others : Reader (List Pair)) (most needed : ℕ)
    → ((t : List ℕ) → Gives (PairsRead most needed t) (others t))
    → (s : List ℕ) → Gives (PairsRead (suc most) (suc needed) s) (spaced_pair others s)
unfolding spaced_pair print_lines
spaced_pair-sound others most needed rec s =
    gives-expect (ascii " ") _ s λ t e. gives-bind pair_reader _ t (pair_reader-sound t)
    λ p u f. gives-bind others _ u (rec u)
    λ ps v g. gives-pure (p ∷ ps) v (record {
      printed = ap (print_pair p) g.printed ∙ f.printed ∙ e;
      few = omega (arith, g.few);
      enough = omega (arith, g.enough);
      legal = rw f.legal g.legal;
    })

pub pairs_reader-sound : (most needed : ℕ) → needed ≤ most → (s : List ℕ)
    → Gives (PairsRead most needed s) (pairs_reader most needed s)
unfolding pairs_reader print_lines
pairs_reader-sound zero needed le s =
    gives-expect (ascii ")") _ s λ t e. gives-pure [] t
    (record { printed = e; few = omega arith; enough = omega arith; legal = refl })
pairs_reader-sound (suc most) zero le s =
    gives-is _ _ _ s
    (λ t e. gives-pure [] t (record { printed = e; few = omega arith; enough = omega arith; legal = refl }))
    (weaker (spaced_pair-sound _ most zero (pairs_reader-sound most zero (omega arith)) s))
  where
    weaker : {p : Parsed (List Pair)} → Gives (PairsRead (suc most) 1 s) p → Gives (PairsRead (suc most) 0 s) p
    weaker g = record {
      holds =
          λ a rest e. let f = g.holds a rest e in record {
            printed = f.printed;
            few = f.few;
            enough = omega arith;
            legal = f.legal;
          };
    }
pairs_reader-sound (suc most) (suc needed) le s =
    spaced_pair-sound _ most needed (pairs_reader-sound most needed (omega arith)) s

-- ---- what is legal is read back

bit_reader-back : (v : Bool) (rest : List ℕ) → bit_reader (value_text (val v) ++ rest) ≡ got v rest
unfolding bit_reader value_text if_next on_test pure
bit_reader-back true rest = refl
bit_reader-back false rest = refl

pub pair_reader-back : (p : Pair) (rest : List ℕ) → is_legal_pair p ≡ true
    → pair_reader (ascii "(" ++ (p.name ++ (ascii " " ++ (value_text (val p.value) ++ (ascii ")" ++ rest)))))
    ≡ got p rest
unfolding pair_reader is_legal_pair is_node_name pure is_name_byte is_letter is_digit is_underscore
pair_reader-back p rest h =
    expect-back (ascii "(") _ _
    ∙ bind-got (name_reader is_name_start) _ _ p.name _ (name_reader-back is_name_start p.name _ h refl)
    ∙ expect-back (ascii " ") _ _ ∙ bind-got bit_reader _ _ p.value _ (bit_reader-back p.value _)
    ∙ expect-back (ascii ")") _ _

spaced_pair-back : (others : Reader (List Pair)) (p : Pair) (ps : List Pair) (s rest : List ℕ) → is_legal_pair p ≡ true
    → others s ≡ got ps rest
    → spaced_pair others (print_pair p s) ≡ got (p ∷ ps) rest
unfolding spaced_pair print_pair pair_text pure
spaced_pair-back others p ps s rest h e =
    expect-back (ascii " ") _ _ ∙ bind-got pair_reader _ _ p s (pair_reader-back p s h) ∙ bind-got others _ s ps rest e

-- a pair does not begin with the closing bracket
not-closed : {A : Type 0} (first : ℕ → Reader A) (second : Reader A) (p : Pair) (s : List ℕ)
    → if_next (is ")") first second (print_pair p s) ≡ second (print_pair p s)
unfolding print_pair pair_text
not-closed first second p s = if_next-false _ _ _ _ _ refl

pub pairs_reader-back : (ps : List Pair) (most needed : ℕ) (rest : List ℕ) → all is_legal_pair ps ≡ true
    → needed ≤ length ps → length ps ≤ most
    → pairs_reader most needed (print_lines print_pair ps (ascii ")" ++ rest)) ≡ got ps rest
unfolding pairs_reader print_lines pure
pairs_reader-back [] zero needed rest h enough few = expect-back (ascii ")") _ _
pairs_reader-back [] (suc most) zero rest h enough few = if_next-true _ _ _ _ _ refl
pairs_reader-back [] (suc most) (suc needed) rest h enough few = absurd (omega arith)
pairs_reader-back (p ∷ ps) zero needed rest h enough few = absurd (omega arith)
pairs_reader-back (p ∷ ps) (suc most) zero rest h enough few =
    let f = (and-eq-true_iff (is_legal_pair p) (all is_legal_pair ps)).0 h in
    not-closed _ _ p _
    ∙ spaced_pair-back _ p ps _ rest f.0 (pairs_reader-back ps most zero rest f.1 (omega arith) (omega arith))
pairs_reader-back (p ∷ ps) (suc most) (suc needed) rest h enough few =
    let f = (and-eq-true_iff (is_legal_pair p) (all is_legal_pair ps)).0 h in
    spaced_pair-back _ p ps _ rest f.0 (pairs_reader-back ps most needed rest f.1 (omega arith) (omega arith))

-- ---- the pairs of a never line: no text has more pairs than bytes

pub pairs-few : (most needed : ℕ) (s : List ℕ) (ps : List Pair) (rest : List ℕ) → PairsRead most needed s ps rest
    → length ps ≤ length s
pairs-few most needed s ps rest h = rw (← h.printed) (omega (arith, pairs-length ps rest))

-- whatever bound they were read with, they are read with the text's length
pub pairs-got : (most : ℕ) (s : List ℕ) (ps : List Pair) (rest : List ℕ) → pairs_reader (suc most) 1 s ≡ got ps rest
    → never_pairs s ≡ got ps rest
unfolding never_pairs
pairs-got most s ps rest e =
    let h = (pairs_reader-sound (suc most) 1 (omega arith) s).holds ps rest e in
    rw h.printed at (pairs_reader-back ps (length s) 1 rest h.legal h.enough
    (pairs-few (suc most) 1 s ps rest h))

pub record NeverRead (s : List ℕ) (ps : List Pair) (rest : List ℕ) : Type 0 where
  pub printed : print_lines print_pair ps (ascii ")" ++ rest) ≡ s
  pub legal : is_legal_never ps ≡ true

pub never_pairs-sound : (s : List ℕ) → Gives (NeverRead s) (never_pairs s)
unfolding never_pairs is_legal_never pairs_reader expect if_next stop
never_pairs-sound [] = gives-stuck 0
never_pairs-sound (c ∷ s) = record {
  holds = λ ps rest e.
      let h = (pairs_reader-sound (suc (length s)) 1 (omega arith) (c ∷ s)).holds ps rest e in
      record { printed = h.printed; legal = rw (le-leb 1 (length ps) h.enough) h.legal };
}

pub never_pairs-back : (ps : List Pair) (rest : List ℕ) → is_legal_never ps ≡ true
    → never_pairs (print_lines print_pair ps (ascii ")" ++ rest)) ≡ got ps rest
unfolding never_pairs is_legal_never
never_pairs-back ps rest h =
    let f = (and-eq-true_iff (leb 1 (length ps)) (all is_legal_pair ps)).0 h in
    pairs_reader-back ps _ 1 rest f.1 (leb-true 1 (length ps) f.0) (omega (arith, pairs-length ps rest))
