-- The print of a legal name or expression is read back. Only here does it matter which byte may follow a name.
-- Assumes nothing.
use Prim.Native.Nat.{ℕ, zero, suc, ◌-◌, ◌≤◌}
use mathlib.Core.Path.{◌≡◌, refl, ◌∙◌}
use mathlib.Core.Bool.{Bool, true, false, ◌&&◌, and-eq-true_iff, false≢true}
use mathlib.Core.List.{List, [], ◌∷◌, ◌++◌}
use native.Mathlib.Omega.{arith}
use lib.ListN.{length}
use lib.Dec.{leb}
use borrow.Author.Tests.{leb-true}
use Rattle.prelude.specs.Lists.{ascii, all}
use Rattle.netlist.specs.Limits.{max_name}
use Rattle.netlist.specs.Kinds.{is_kind, fewest_operands, most_operands, arity_fits, keyword, signature_of}
use Rattle.netlist.specs.Netlist.{Name}
use Rattle.netlist.specs.Names.{is_letter, is_digit, is_underscore, is_name_byte, is_name_start, is_legal_name, is_node_name}
use Rattle.netlist.specs.Syntax.{Term, Terms, name, literal, apply, nil, cons, print_term, print_terms, term_count}
use Rattle.netlist.specs.Syntax.{is_legal_term, is_legal_terms}
use Rattle.netlist.specs.Parse.{got, Reader, pure, on_test, if_next, expect, name_bytes, name_after, name_reader, kind_reader}
use Rattle.netlist.specs.Parse.{spaced, terms_reader, expr_reader, leaf_or, term_reader}
use Rattle.theory_grammar.proofs.Equations.{if_next-true, if_next-false, expect-back, bind-got}
use Rattle.theory_grammar.proofs.ListFacts.{and3}
use Rattle.theory_encoding.proofs.Gates.{by_kind}

-- ---- names

-- the text begins with a byte that no name has
abbrev pub Ends : List ℕ → Type 0
Ends [] = ⊥
Ends (x ∷ s) = is_name_byte x ≡ false

name_bytes-back : (most : ℕ) (cs rest : List ℕ) → length cs ≤ most → all is_name_byte cs ≡ true → Ends rest
    → name_bytes most (cs ++ rest) ≡ got cs rest
unfolding name_bytes pure
name_bytes-back zero [] rest few h e = refl
name_bytes-back zero (c ∷ cs) rest few h e = absurd (omega arith)
name_bytes-back (suc most) [] [] few h e = absurd e
name_bytes-back (suc most) [] (x ∷ rest) few h e = if_next-false is_name_byte _ _ x rest e
name_bytes-back (suc most) (c ∷ cs) rest few h e =
    let both = (and-eq-true_iff (is_name_byte c) (all is_name_byte cs)).0 h in
    if_next-true is_name_byte _ _ c (cs ++ rest) both.0
    ∙ bind-got (name_bytes most) _ (cs ++ rest) cs rest (name_bytes-back most cs rest (omega arith) both.1 e)

-- what is known of a legal name's first byte and of the others
pub record NameFacts (start : ℕ → Bool) (c : ℕ) (cs : Name) : Type 0 where
  pub passes : start c ≡ true
  pub few : length cs ≤ max_name - 1
  pub legal : all is_name_byte cs ≡ true

pub name-facts : (start : ℕ → Bool) (c : ℕ) (cs : Name) → is_legal_name start (c ∷ cs) ≡ true → NameFacts start c cs
unfolding is_legal_name
name-facts start c cs h =
    let a = and3 (leb 1 (suc (length cs)) && leb (suc (length cs)) max_name) (start c)
    (is_name_byte c && all is_name_byte cs) h in
    let b = (and-eq-true_iff (leb 1 (suc (length cs))) (leb (suc (length cs)) max_name)).0 a.0 in
    let d = (and-eq-true_iff (is_name_byte c) (all is_name_byte cs)).0 a.2 in
    record { passes = a.1; few = omega (arith, leb-true (suc (length cs)) max_name b.1); legal = d.1 }

no-empty-name : (start : ℕ → Bool) → is_legal_name start [] ≡ true → ⊥
unfolding is_legal_name
no-empty-name start h = false≢true h

name_after-back : (start : ℕ → Bool) (c : ℕ) (cs : Name) (rest : List ℕ) → NameFacts start c cs → Ends rest
    → name_after c (cs ++ rest) ≡ got (c ∷ cs) rest
unfolding name_after pure
name_after-back start c cs rest p e =
    bind-got (name_bytes (max_name - 1)) _ (cs ++ rest) cs rest
    (name_bytes-back (max_name - 1) cs rest p.few p.legal e)

pub name_reader-back : (start : ℕ → Bool) (x : Name) (rest : List ℕ) → is_legal_name start x ≡ true → Ends rest
    → name_reader start (x ++ rest) ≡ got x rest
unfolding name_reader
name_reader-back start [] rest h e = absurd (no-empty-name start h)
name_reader-back start (c ∷ cs) rest h e =
    let p = name-facts start c cs h in
    if_next-true start _ _ c (cs ++ rest) p.passes ∙ name_after-back start c cs rest p e

-- ---- expressions

kind_reader-back : (rest : List ℕ) (k : ℕ) → is_kind k ≡ true → kind_reader (keyword k ++ rest) ≡ got k rest
unfolding kind_reader keyword if_next on_test expect pure signature_of
kind_reader-back rest = by_kind (λ k. kind_reader (keyword k ++ rest) ≡ got k rest) refl refl refl refl refl refl refl

module _ (inner : Reader Term) (rest : List ℕ) where
  leaf_or-name : (x : Name) → is_node_name x ≡ true → Ends rest → leaf_or inner (x ++ rest) ≡ got (name x) rest
  unfolding leaf_or is_node_name pure
  leaf_or-name [] h e = absurd (no-empty-name is_name_start h)
  leaf_or-name (c ∷ cs) h e =
      let p = name-facts is_name_start c cs h in
      if_next-true is_name_start _ _ c (cs ++ rest) p.passes
      ∙ bind-got (name_after c) _ (cs ++ rest) (c ∷ cs) rest (name_after-back is_name_start c cs rest p e)

  leaf_or-literal : (b : Bool) → leaf_or inner (print_term (literal b) rest) ≡ got (literal b) rest
  unfolding leaf_or print_term if_next on_test pure is_name_start is_letter is_underscore
  leaf_or-literal true = refl
  leaf_or-literal false = refl

  leaf_or-bracket : leaf_or inner (ascii "(" ++ rest) ≡ inner (ascii "(" ++ rest)
  unfolding leaf_or if_next on_test is_name_start is_letter is_underscore
  leaf_or-bracket = refl

terms-end : (ts : Terms) (rest : List ℕ) → Ends (print_terms ts (ascii ")" ++ rest))
unfolding print_terms is_name_byte is_letter is_digit is_underscore
terms-end nil rest = refl
terms-end (cons t ts) rest = refl

pub arity-bounds : (k count : ℕ) → arity_fits k count ≡ true → (fewest_operands k ≤ count) × (count ≤ most_operands k)
unfolding arity_fits
arity-bounds k count h =
    let b = (and-eq-true_iff (leb (fewest_operands k) count) (leb count (most_operands k))).0 h in
    (leb-true (fewest_operands k) count b.0, leb-true count (most_operands k) b.1)

expr_reader-back : {A : Type 0} (depth : ℕ) (make : ℕ → Terms → A) (k : ℕ) (ts : Terms) (rest : List ℕ)
    → ((most needed : ℕ) → is_legal_terms ts depth ≡ true → needed ≤ term_count ts → term_count ts ≤ most
    → terms_reader (term_reader depth) most needed (print_terms ts (ascii ")" ++ rest)) ≡ got ts rest)
    → is_legal_term (apply k ts) (suc depth) ≡ true
    → expr_reader (term_reader depth) make (keyword k ++ print_terms ts (ascii ")" ++ rest)) ≡ got (make k ts) rest
unfolding expr_reader pure is_legal_term
expr_reader-back depth make k ts rest rec h =
    let f = and3 (is_kind k) (arity_fits k (term_count ts)) (is_legal_terms ts depth) h in
    let a = arity-bounds k (term_count ts) f.1 in
    bind-got kind_reader _ _ k _ (kind_reader-back _ k f.0)
    ∙ bind-got (terms_reader (term_reader depth) (most_operands k) (fewest_operands k)) _ _ ts rest
    (rec (most_operands k) (fewest_operands k) f.2 a.0 a.1)

spaced-back : (term : Reader Term) (others : Reader Terms) (t : Term) (ts : Terms) (rest : List ℕ)
    → term (print_term t (print_terms ts (ascii ")" ++ rest))) ≡ got t (print_terms ts (ascii ")" ++ rest))
    → others (print_terms ts (ascii ")" ++ rest)) ≡ got ts rest
    → spaced term others (print_terms (cons t ts) (ascii ")" ++ rest)) ≡ got (cons t ts) rest
unfolding spaced print_terms pure
spaced-back term others t ts rest e f =
    expect-back (ascii " ") _ _ ∙ bind-got term _ _ t _ e ∙ bind-got others _ _ ts rest f

mutual
  unfolding term_reader print_term is_legal_term pure terms_reader print_terms is_legal_terms term_count

  pub term_reader-back : (t : Term) (depth : ℕ) (rest : List ℕ) → is_legal_term t depth ≡ true → Ends rest
      → term_reader depth (print_term t rest) ≡ got t rest
  term_reader-back (name x) zero rest h e = leaf_or-name _ rest x h e
  term_reader-back (name x) (suc depth) rest h e = leaf_or-name _ rest x h e
  term_reader-back (literal b) zero rest h e = leaf_or-literal _ rest b
  term_reader-back (literal b) (suc depth) rest h e = leaf_or-literal _ rest b
  term_reader-back (apply k ts) zero rest h e = absurd (false≢true h)
  term_reader-back (apply k ts) (suc depth) rest h e =
      leaf_or-bracket _ _ ∙ expect-back (ascii "(") _ _
      ∙ expr_reader-back depth apply k ts rest
      (λ most needed l enough fits. terms_reader-back ts depth most needed rest l enough fits) h

  pub terms_reader-back : (ts : Terms) (depth most needed : ℕ) (rest : List ℕ) → is_legal_terms ts depth ≡ true
      → needed ≤ term_count ts
      → term_count ts ≤ most
      → terms_reader (term_reader depth) most needed (print_terms ts (ascii ")" ++ rest)) ≡ got ts rest
  terms_reader-back nil depth zero needed rest h enough fits = expect-back (ascii ")") _ _
  terms_reader-back nil depth (suc most) zero rest h enough fits = if_next-true _ _ _ _ _ refl
  terms_reader-back nil depth (suc most) (suc needed) rest h enough fits = absurd (omega arith)
  terms_reader-back (cons t ts) depth zero needed rest h enough fits = absurd (omega arith)
  terms_reader-back (cons t ts) depth (suc most) zero rest h enough fits =
      let f = (and-eq-true_iff (is_legal_term t depth) (is_legal_terms ts depth)).0 h in
      if_next-false _ _ _ _ _ refl
      ∙ spaced-back (term_reader depth) (terms_reader (term_reader depth) most zero) t ts rest
      (term_reader-back t depth _ f.0 (terms-end ts rest))
      (terms_reader-back ts depth most zero rest f.1 (omega arith) (omega arith))
  terms_reader-back (cons t ts) depth (suc most) (suc needed) rest h enough fits =
      let f = (and-eq-true_iff (is_legal_term t depth) (is_legal_terms ts depth)).0 h in
      spaced-back (term_reader depth) (terms_reader (term_reader depth) most needed) t ts rest
      (term_reader-back t depth _ f.0 (terms-end ts rest))
      (terms_reader-back ts depth most needed rest f.1 (omega arith) (omega arith))

-- an EXPR behind its opening bracket
pub expr-back : {A : Type 0} (depth : ℕ) (make : ℕ → Terms → A) (k : ℕ) (ts : Terms) (rest : List ℕ)
    → is_legal_term (apply k ts) (suc depth) ≡ true
    → expr_reader (term_reader depth) make (keyword k ++ print_terms ts (ascii ")" ++ rest)) ≡ got (make k ts) rest
expr-back depth make k ts rest =
    expr_reader-back depth make k ts rest (λ most needed. terms_reader-back ts depth most needed rest)
