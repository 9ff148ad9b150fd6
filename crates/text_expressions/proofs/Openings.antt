-- Which term or operand list stands at a place, by the first byte there, and what stands behind it. Assumes nothing.
use mathlib.Core.Path.{◌≡◌, refl, sym, ap, ◌∙◌}
use mathlib.Core.Bool.{true, false, ◌&&◌, and-eq-true_iff, false≢true}
use mathlib.Core.List.{List, [], ◌∷◌, ◌++◌}
use Prim.Native.Nat.{ℕ, zero, suc, ◌+◌, ◌-◌, ◌≤◌, ◌<◌}
use native.Mathlib.Omega.{arith}
use lib.ListN.{length, get_or, take, drop, length-append}
use lib.Seq.{drop_at}
use lib.Dec.{leb}
use borrow.Author.Tests.{leb-true}
use Rattle.prelude.specs.Lists.{ascii, all}
use Rattle.prelude.proofs.Tests.{and_left, not-both}
use Rattle.prelude.proofs.Elements.{rest-is-drop}
use Rattle.theory_encoding.proofs.Gates.{most-four}
use Rattle.netlist.specs.Kinds.{is_kind, arity_fits, keyword}
use Rattle.netlist.specs.Limits.{max_name}
use Rattle.netlist.specs.Names.{is_letter, is_digit, is_underscore, is_name_byte, is_name_start, is_legal_name, is_node_name}
use Rattle.netlist.specs.Syntax.{Term, Terms, name, literal, apply, nil, cons, print_term, print_terms, term_count}
use Rattle.netlist.specs.Syntax.{is_legal_term, is_legal_terms}
use Rattle.theory_grammar.proofs.ListFacts.{and3}
use Rattle.theory_grammar.proofs.CompleteTerms.{arity-bounds}
use Rattle.theory_grammar.proofs.Shorter.{print_term-append, ending}
use Rattle.theory_grammar.proofs.Places.{term-measure}
use Rattle.text_recogniser.specs.Keywords.{kind_here, word_length}
use Rattle.text_expressions.specs.Walk.{Ends, TermAt, TermsAt}
use Rattle.text_expressions.proofs.Keywords.{kind-back, word_back}

-- ---- a term

-- an expression stands here, behind its opening bracket
pub record Opened (o : Term) (depth : ℕ) (rest s : List ℕ) : Type 0 where
  pub kind : ℕ
  pub terms : Terms
  pub term : o ≡ apply kind terms
  pub legal : is_kind kind ≡ true
  pub count : term_count terms ≤ 4
  pub kind_read : kind_here s ≡ kind
  pub measured : length s ≡ length (keyword kind) + length (drop (word_length kind) s)
  pub inner : TermsAt terms (depth - 1) rest (drop (word_length kind) s)

no_start : (c : ℕ) (rest x : List ℕ) → 0 < length x → is_name_start (get_or x 0 0) ≡ true → is_name_start c ≡ false
    → get_or (x ++ rest) 0 0 ≡ c → ⊥
no_start c rest [] l h f e = omega arith
no_start c rest (d ∷ x) l h f e = not-both h (ap is_name_start e ∙ f)

-- a name begins with none of these bytes
pub name-begins : (c : ℕ) (rest x : List ℕ) → is_node_name x ≡ true → is_name_start c ≡ false → get_or (x ++ rest) 0 0 ≡ c → ⊥
unfolding is_node_name is_legal_name
name-begins c rest x h f =
    let a = and3 (leb 1 (length x) && leb (length x) max_name) (is_name_start (get_or x 0 0)) (all is_name_byte x) h in
    no_start c rest x (leb-true 1 (length x) (and_left (leb 1 (length x)) (leb (length x) max_name) a.0)) a.1 f

opened-at : (o : Term) (depth : ℕ) (rest s : List ℕ) → is_legal_term o depth ≡ true → print_term o rest ≡ 40 ∷ s
    → Opened o depth rest s
unfolding print_term is_legal_term is_name_start is_letter is_underscore
opened-at (name x) depth rest s h e = absurd (name-begins 40 rest x h refl (ap (λ (l : List ℕ). get_or l 0 0) e))
opened-at (literal true) depth rest s h e = absurd (omega (arith, ap (λ (l : List ℕ). get_or l 0 0) e))
opened-at (literal false) depth rest s h e = absurd (omega (arith, ap (λ (l : List ℕ). get_or l 0 0) e))
opened-at (apply k ts) zero rest s h e = absurd (false≢true h)
opened-at (apply k ts) (suc depth) rest s h e =
    let f = and3 (is_kind k) (arity_fits k (term_count ts)) (is_legal_terms ts depth) h in
    let m = most-four k in
    let a = (arity-bounds k (term_count ts) f.1).1 in
    let inside = print_terms ts (ascii ")" ++ rest) in
    let q : keyword k ++ inside ≡ s = cc in
    let d : drop (word_length k) (keyword k ++ inside) ≡ inside = drop_at (keyword k) inside (word_length k)
    (omega (arith, word_back k)) in
    let z : suc depth - 1 ≡ depth = omega arith in
    rw (← q) (record {
      kind = k;
      terms = ts;
      term = refl;
      legal = f.0;
      count = omega arith;
      kind_read = kind-back inside k f.0;
      measured = rw d (length-append (keyword k) inside);
      inner = rw (d, z) (record { legal = f.2; printed = refl });
    })

-- the same, where the kind and its word's length have been read
pub record Inside (o : Term) (depth : ℕ) (rest s : List ℕ) (k wide : ℕ) : Type 0 where
  pub terms : Terms
  pub term : o ≡ apply k terms
  pub legal : is_kind k ≡ true
  pub count : term_count terms ≤ 4
  pub word_read : wide ≡ length (keyword k)
  pub measured : length s ≡ wide + length (drop wide s)
  pub inner : TermsAt terms (depth - 1) rest (drop wide s)

pub inside : (o : Term) (depth : ℕ) (rest s : List ℕ) (k wide : ℕ) → TermAt o depth rest (40 ∷ s) → k ≡ kind_here s
    → wide ≡ word_length k
    → Inside o depth rest s k wide
inside o depth rest s k wide w f g =
    let z = opened-at o depth rest s w.legal w.printed in
    let h : k ≡ z.kind = f ∙ z.kind_read in
    let b = word_back z.kind in
    rw (g, h) (record {
      terms = z.terms;
      term = z.term;
      legal = z.legal;
      count = z.count;
      word_read = b;
      measured = let m = z.measured in omega arith;
      inner = z.inner;
    })

-- a bracket and what is lent behind it
pub opening : (s : List ℕ) → get_or s 0 0 ≡ 40 → 40 ∷ take (length s - 1) (drop 1 s) ≡ s
opening [] e = absurd (omega arith)
opening (c ∷ s) e = rw (rest-is-drop (c ∷ s) 1, e)

-- ---- an operand list

pub record Closed (os : Terms) (rest s : List ℕ) : Type 0 where
  pub terms : os ≡ nil
  pub measured : length s ≡ suc (length rest)

pub record More (os : Terms) (depth : ℕ) (rest s : List ℕ) : Type 0 where
  pub term : Term
  pub others : Terms
  pub terms : os ≡ cons term others
  pub behind : List ℕ
  pub there : 0 < length s
  pub here : TermAt term depth behind (drop 1 s)
  pub next : TermsAt others depth rest behind
  pub ends : drop (length s - length behind) s ≡ behind
  pub shorter : length behind < length s

closed_at : (os : Terms) (rest : List ℕ) → get_or (print_terms os (ascii ")" ++ rest)) 0 0 ≡ 41
    → Closed os rest (print_terms os (ascii ")" ++ rest))
unfolding print_terms
closed_at nil rest e = record { terms = refl; measured = refl }
closed_at (cons o os) rest e = absurd (omega arith)

pub closed-list : (os : Terms) (depth : ℕ) (rest s : List ℕ) → TermsAt os depth rest s → get_or s 0 0 ≡ 41
    → Closed os rest s
closed-list os depth rest s w e = rw (← w.printed) (closed_at os rest (rw w.printed e))

-- what follows an operand begins with a space or a bracket
terms-end : (os : Terms) (rest : List ℕ) → Ends (print_terms os (ascii ")" ++ rest))
unfolding print_terms is_name_byte is_letter is_digit is_underscore
terms-end nil rest = refl
terms-end (cons o os) rest = refl

more-at : (os : Terms) (depth : ℕ) (rest : List ℕ) → is_legal_terms os depth ≡ true
    → (get_or (print_terms os (ascii ")" ++ rest)) 0 0 ≡ 41 → ⊥)
    → More os depth rest (print_terms os (ascii ")" ++ rest))
unfolding print_terms is_legal_terms
more-at nil depth rest h e = absurd (e refl)
more-at (cons o os) depth rest h e =
    let f = (and-eq-true_iff (is_legal_term o depth) (is_legal_terms os depth)).0 h in
    let behind = print_terms os (ascii ")" ++ rest) in
    let m = term-measure o behind in
    let z = ending (32 ∷ print_term o []) behind (32 ∷ print_term o behind)
    (ap (λ (r : List ℕ). 32 ∷ r) (sym (print_term-append o [] behind))) in
    record {
      term = o;
      others = os;
      terms = refl;
      behind = behind;
      there = omega arith;
      here = record { legal = f.0; printed = refl; ends = terms-end os rest };
      next = record { legal = f.1; printed = refl };
      ends = z.dropped;
      shorter = omega (arith, m);
    }

pub more : (os : Terms) (depth : ℕ) (rest s : List ℕ) → TermsAt os depth rest s → (get_or s 0 0 ≡ 41 → ⊥)
    → More os depth rest s
more os depth rest s w e = rw (← w.printed) (more-at os depth rest w.legal (rw w.printed e))
