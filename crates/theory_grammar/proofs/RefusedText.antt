-- Every reader of the grammar is good: it refuses at the first byte that no accepted text has there. Assumes nothing.
--   name_reader-good, pairs_reader-good: names, and pairs up to their closing bracket
--   text_reader-good: the reader of a whole text is good, with every bound on the lines
use Prim.Native.Nat.{ℕ, zero, suc, ◌-◌}
use mathlib.Core.Path.{◌≡◌, refl, ap}
use mathlib.Core.Bool.{Bool, true, false, false≢true}
use mathlib.Core.List.{List, [], ◌∷◌}
use native.Mathlib.Omega.{arith}
use lib.ListN.{length}
use Rattle.prelude.specs.Lists.{ascii}
use Rattle.netlist.specs.Limits.{max_name, max_depth}
use Rattle.netlist.specs.Kinds.{fewest_operands, most_operands}
use Rattle.netlist.specs.Names.{is_letter, is_name_byte, is_name_start}
use Rattle.netlist.specs.Syntax.{Term, Terms, name, literal, apply, nil, cons, Pair, Tree}
use Rattle.netlist.specs.Parse.{Parsed, Reader, got, stuck, stop, on_parsed, bind, name_bytes, name_after, name_reader}
use Rattle.netlist.specs.Parse.{kind_reader, spaced, terms_reader, expr_reader, leaf_or, term_reader, bit_reader, pair_reader}
use Rattle.netlist.specs.Parse.{spaced_pair, pairs_reader, never_pairs, add_input, add_never, add_gate, input_line, never_line}
use Rattle.netlist.specs.Parse.{gate_line, output_line, at_end, line, outputs_reader, gates_reader, nevers_reader, text_reader}
use Rattle.theory_grammar.proofs.Pairs.{pairs-got}
use Rattle.theory_grammar.proofs.Bound.{pairs_reader-bound}
use Rattle.theory_grammar.proofs.Bounded.{good-bounded}
use Rattle.theory_grammar.proofs.Refusals.{accepted, Good, HalfGood, GoodBefore, HalfGoodBefore, half-stop}
use Rattle.theory_grammar.proofs.Refusals.{good-if_next, good-expect, before-pure, before-stop, before-if_next}
use Rattle.theory_grammar.proofs.Refusals.{half_before-if_next, before-half, before-expect, before-bind, good-made}
use Rattle.theory_grammar.proofs.Refusals.{good-end}

name_bytes-good : (most : ℕ) → GoodBefore (name_bytes most)
unfolding name_bytes is_name_byte is_letter
name_bytes-good zero = before-pure []
name_bytes-good (suc most) =
    before-if_next is_name_byte _ _
    (λ c q. before-bind (name_bytes most) _ (name_bytes-good most) λ cs. before-pure (c ∷ cs))
    (before-half (before-pure [])) 97 refl

name_after-good : (c : ℕ) → GoodBefore (name_after c)
unfolding name_after
name_after-good c = before-bind (name_bytes (max_name - 1)) _ (name_bytes-good (max_name - 1)) λ cs. before-pure (c ∷ cs)

pub name_reader-good : (start : ℕ → Bool) → start 97 ≡ true → GoodBefore (name_reader start)
unfolding name_reader
name_reader-good start h = before-if_next start _ _ (λ c q. name_after-good c) before-stop 97 h

kind_reader-good : GoodBefore kind_reader
unfolding kind_reader
kind_reader-good =
    before-if_next _ _ _ (λ _ _. before-expect (ascii "nd") _ (before-pure 1))
    (before-half (before-if_next _ _ _ (λ _ _. before-expect (ascii "r") _ (before-pure 2))
    (before-half (before-if_next _ _ _ (λ _ _. before-if_next _ _ _ (λ _ _. before-expect (ascii "nd") _ (before-pure 3))
    (before-half (before-if_next _ _ _ (λ _ _. before-if_next _ _ _ (λ _ _. before-pure 0)
    (before-half (before-if_next _ _ _ (λ _ _. before-pure 4) before-stop 114 refl)) 116 refl)
    before-stop 111 refl)) 97 refl)
    (before-half (before-if_next _ _ _ (λ _ _. before-if_next _ _ _ (λ _ _. before-expect (ascii "r") _ (before-pure 5))
    (before-half (before-if_next _ _ _ (λ _ _. before-expect (ascii "or") _ (before-pure 6)) before-stop 110 refl))
    111 refl)
    before-stop 120 refl)) 110 refl)) 111 refl)) 97 refl

spaced-good : (term : Reader Term) (others : Reader Terms) → GoodBefore term → GoodBefore others
    → GoodBefore (spaced term others)
unfolding spaced
spaced-good term others b c =
    before-expect (ascii " ") _ (before-bind term _ b λ t. before-bind others _ c λ ts. before-pure (cons t ts))

terms_reader-good : (term : Reader Term) → GoodBefore term → (most needed : ℕ)
    → GoodBefore (terms_reader term most needed)
unfolding terms_reader
terms_reader-good term b zero needed = before-expect (ascii ")") _ (before-pure nil)
terms_reader-good term b (suc most) zero =
    before-if_next _ _ _ (λ _ _. before-pure nil)
    (before-half (spaced-good term _ b (terms_reader-good term b most zero))) 41 refl
terms_reader-good term b (suc most) (suc needed) = spaced-good term _ b (terms_reader-good term b most needed)

expr_reader-good : {A : Type 0} (term : Reader Term) (make : ℕ → Terms → A) → GoodBefore term
    → GoodBefore (expr_reader term make)
unfolding expr_reader
expr_reader-good term make b =
    before-bind kind_reader _ kind_reader-good λ k. before-bind (terms_reader term (most_operands k) (fewest_operands k)) _
    (terms_reader-good term b (most_operands k) (fewest_operands k)) λ ts. before-pure (make k ts)

leaf_or-good : (inner : Reader Term) → HalfGoodBefore inner → GoodBefore (leaf_or inner)
unfolding leaf_or is_name_start is_letter
leaf_or-good inner b =
    before-if_next is_name_start _ _ (λ c _. before-bind (name_after c) _ (name_after-good c) λ s. before-pure (name s))
    (half_before-if_next _ _ _ (λ _ _. before-pure (literal false))
    (half_before-if_next _ _ _ (λ _ _. before-pure (literal true)) b)) 97 refl

term_reader-good : (depth : ℕ) → GoodBefore (term_reader depth)
unfolding term_reader
term_reader-good zero = leaf_or-good stop before-stop
term_reader-good (suc depth) =
    leaf_or-good _
    (before-half (before-expect (ascii "(") _ (expr_reader-good (term_reader depth) apply (term_reader-good depth))))

-- ---- pairs

bit_reader-good : GoodBefore bit_reader
unfolding bit_reader
bit_reader-good = before-if_next _ _ _ (λ _ _. before-pure false)
    (before-half (before-if_next _ _ _ (λ _ _. before-pure true) before-stop 49 refl)) 48 refl

pair_reader-good : GoodBefore pair_reader
unfolding pair_reader is_name_start is_letter
pair_reader-good =
    before-expect (ascii "(") _
    (before-bind (name_reader is_name_start) _ (name_reader-good is_name_start refl) λ s. before-expect (ascii " ") _
    (before-bind bit_reader _ bit_reader-good λ v. before-expect (ascii ")") _ (before-pure _)))

spaced_pair-good : (others : Reader (List Pair)) → GoodBefore others → GoodBefore (spaced_pair others)
unfolding spaced_pair
spaced_pair-good others b =
    before-expect (ascii " ") _
    (before-bind pair_reader _ pair_reader-good λ p. before-bind others _ b λ ps. before-pure (p ∷ ps))

pub pairs_reader-good : (most needed : ℕ) → GoodBefore (pairs_reader most needed)
unfolding pairs_reader
pairs_reader-good zero needed = before-expect (ascii ")") _ (before-pure [])
pairs_reader-good (suc most) zero =
    before-if_next _ _ _ (λ _ _. before-pure []) (before-half (spaced_pair-good _ (pairs_reader-good most zero))) 41 refl
pairs_reader-good (suc most) (suc needed) = spaced_pair-good _ (pairs_reader-good most needed)

-- the bound is the text's length: any larger one gives the same
never_pairs-good : GoodBefore never_pairs
unfolding never_pairs bind on_parsed
never_pairs-good = record { good = good }
  where
    good : {T : Type 0} (next : List Pair → Reader T) → ((ps : List Pair) → Good (next ps))
        → Good (bind never_pairs next)
    good next g =
        good-bounded (λ n. bind (pairs_reader (suc n) 1) next) (bind never_pairs next)
        (λ n. (pairs_reader-good (suc n) 1).good next g)
        (λ n s le. ap (on_parsed next) (pairs_reader-bound (suc n) (length s) 1 s (omega arith) (omega arith)))
        λ n s h. more n s (pairs_reader (suc n) 1 s) refl h
      where
        more : (n : ℕ) (s : List ℕ) (p : Parsed (List Pair)) → pairs_reader (suc n) 1 s ≡ p
            → accepted (on_parsed next p) ≡ true
            → accepted (bind never_pairs next s) ≡ true
        more n s (got ps rest) e h = rw (pairs-got n s ps rest e) h
        more n s (stuck left) e h = absurd (false≢true h)

-- ---- lines

module _ (others otherwise : Reader Tree) (g : Good others) (h : HalfGood otherwise) where
  input_line-good : Good (input_line others otherwise)
  unfolding input_line is_letter
  input_line-good =
      good-if_next _ _ _ (λ _ _. good-expect (ascii "n ") _
      ((name_reader-good is_letter refl).good _ λ s. good-expect (ascii ")\n") _ (good-made others (add_input s) g))) h
      105 refl

  never_line-good : Good (never_line others otherwise)
  unfolding never_line
  never_line-good =
      good-if_next _ _ _ (λ _ _. good-expect (ascii "ever") _
      (never_pairs-good.good _ λ ps. good-expect (ascii "\n") _ (good-made others (add_never ps) g))) h 110 refl

  output_line-good : Good (output_line others otherwise)
  unfolding output_line is_name_start is_letter
  output_line-good =
      good-if_next _ _ _
      (λ _ _. good-expect (ascii "ut ") _ ((name_reader-good is_letter refl).good _ λ p. good-expect (ascii " ") _
      ((name_reader-good is_name_start refl).good _ λ s. good-expect (ascii ")\n") _ (good-made others _ g)))) h 111 refl

  gate_line-good : Good (gate_line others otherwise)
  unfolding gate_line is_name_start is_letter
  gate_line-good =
      good-if_next _ _ _
      (λ _ _. good-expect (ascii "ate ") _ ((name_reader-good is_name_start refl).good _ λ s. good-expect (ascii " (") _
      ((expr_reader-good (term_reader (max_depth - 1)) _ (term_reader-good (max_depth - 1))).good _ λ y. good-expect
      (ascii ")\n") _
      (good-made others (add_gate y) g)))) h 103 refl

at_end-good : Good at_end
unfolding at_end
at_end-good = good-end _

line-good : (behind : Reader Tree) → Good behind → Good (line behind)
unfolding line
line-good behind g = good-if_next _ _ _ (λ _ _. g) at_end-good.half 40 refl

outputs_reader-good : (n : ℕ) → Good (outputs_reader n)
unfolding outputs_reader
outputs_reader-good zero = at_end-good
outputs_reader-good (suc n) = line-good _ (output_line-good _ _ (outputs_reader-good n) half-stop)

gates_reader-good : (n : ℕ) → Good (gates_reader n)
unfolding gates_reader
gates_reader-good zero = at_end-good
gates_reader-good (suc n) =
    line-good _ (gate_line-good _ _ (gates_reader-good n) (output_line-good _ _ (outputs_reader-good n) half-stop).half)

nevers_reader-good : (n : ℕ) → Good (nevers_reader n)
unfolding nevers_reader
nevers_reader-good zero = at_end-good
nevers_reader-good (suc n) =
    line-good _ (never_line-good _ _ (nevers_reader-good n)
    (gate_line-good _ _ (gates_reader-good n) (output_line-good _ _ (outputs_reader-good n) half-stop).half).half)

-- With every bound on the lines, what is refused cannot go on, and what was read before can.
pub text_reader-good : (n : ℕ) → Good (text_reader n)
unfolding text_reader
text_reader-good zero = at_end-good
text_reader-good (suc n) =
    line-good _ (input_line-good _ _ (text_reader-good n) (never_line-good _ _ (nevers_reader-good n)
    (gate_line-good _ _ (gates_reader-good n) (output_line-good _ _ (outputs_reader-good n) half-stop).half).half).half)
