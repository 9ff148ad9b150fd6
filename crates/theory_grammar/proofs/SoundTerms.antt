-- What is read is legal and printed back, for names and expressions: printed before the rest, it is the text.
-- Assumes nothing.
use Prim.Native.Nat.{ℕ, zero, suc, ◌-◌, ◌≤◌}
use mathlib.Core.Path.{◌≡◌, refl, ◌∙◌}
use mathlib.Core.Bool.{Bool, true, false, ◌||◌}
use mathlib.Core.List.{List, [], ◌∷◌, ◌++◌}
use native.Mathlib.Omega.{arith}
use lib.ListN.{length}
use borrow.Author.Tests.{le-leb}
use Rattle.prelude.specs.Lists.{ascii, all}
use Rattle.netlist.specs.Limits.{max_name}
use Rattle.netlist.specs.Kinds.{is_kind, fewest_operands, most_operands, arity_fits, keyword, signature_of}
use Rattle.netlist.specs.Netlist.{Name}
use Rattle.netlist.specs.Names.{is_letter, is_digit, is_underscore, is_name_byte, is_name_start, is_legal_name, is_node_name}
use Rattle.netlist.specs.Syntax.{Term, Terms, name, literal, apply, nil, cons, print_term, print_terms, term_count}
use Rattle.netlist.specs.Syntax.{is_legal_term, is_legal_terms}
use Rattle.netlist.specs.Parse.{Reader, stop, name_bytes, name_after, name_reader, kind_reader, spaced, terms_reader}
use Rattle.netlist.specs.Parse.{expr_reader, leaf_or, term_reader}
use Rattle.theory_encoding.proofs.Gates.{by_kind}
use Rattle.theory_grammar.proofs.Readings.{Gives, gives-pure, gives-stop, gives-if_next, gives-is, gives-expect}
use Rattle.theory_grammar.proofs.Readings.{gives-bind}

-- ---- names

pub record NameBytesRead (most : ℕ) (s : List ℕ) (cs : Name) (rest : List ℕ) : Type 0 where
  pub printed : cs ++ rest ≡ s
  pub few : length cs ≤ most
  pub legal : all is_name_byte cs ≡ true

pub name_bytes-sound : (most : ℕ) (s : List ℕ) → Gives (NameBytesRead most s) (name_bytes most s)
unfolding name_bytes
name_bytes-sound zero s = gives-pure [] s (record { printed = refl; few = omega arith; legal = refl })
name_bytes-sound (suc most) s =
    gives-if_next is_name_byte _ _ s
    (λ c t e q. gives-bind (name_bytes most) _ t (name_bytes-sound most t)
    λ cs u h. gives-pure (c ∷ cs) u (record { printed = cc; few = omega arith; legal = rw q h.legal }))
    (gives-pure [] s (record { printed = refl; few = omega arith; legal = refl }))

pub record NameRead (start : ℕ → Bool) (s : List ℕ) (x : Name) (rest : List ℕ) : Type 0 where
  pub printed : x ++ rest ≡ s
  pub legal : is_legal_name start x ≡ true

legal-name : (start : ℕ → Bool) (c : ℕ) (cs : Name) → start c ≡ true → is_name_byte c ≡ true → length cs ≤ max_name - 1
    → all is_name_byte cs ≡ true
    → is_legal_name start (c ∷ cs) ≡ true
unfolding is_legal_name
legal-name start c cs p q few h =
    rw (le-leb 1 (suc (length cs)) (omega arith), le-leb (suc (length cs)) 8 (omega arith), p, q) h

-- the byte in front passed the test `start`
pub name_after-sound : (start : ℕ → Bool) (c : ℕ) (s : List ℕ) → start c ≡ true → is_name_byte c ≡ true
    → Gives (NameRead start (c ∷ s)) (name_after c s)
unfolding name_after
name_after-sound start c s p q =
    gives-bind (name_bytes (max_name - 1)) _ s (name_bytes-sound (max_name - 1) s)
    λ cs u h. gives-pure (c ∷ cs) u (record { printed = cc; legal = legal-name start c cs p q h.few h.legal })

pub name_reader-sound : (start : ℕ → Bool) → ((c : ℕ) → start c ≡ true → is_name_byte c ≡ true) → (s : List ℕ)
    → Gives (NameRead start s) (name_reader start s)
unfolding name_reader
name_reader-sound start within s =
    gives-if_next start _ _ s (λ c t e p. rw e at (name_after-sound start c t p (within c p))) (gives-stop s)

pub letter-name_byte : (c : ℕ) → is_letter c ≡ true → is_name_byte c ≡ true
unfolding is_name_byte
letter-name_byte c h = rw h

pub name_start-name_byte : (c : ℕ) → is_name_start c ≡ true → is_name_byte c ≡ true
unfolding is_name_byte is_name_start
name_start-name_byte c h = go (is_letter c) (is_digit c) (is_underscore c) h
  where
    go : (a b d : Bool) → a || d ≡ true → a || b || d ≡ true
    go true b d h = refl
    go false true d h = refl
    go false false d h = h

-- ---- expressions

pub record KindRead (s : List ℕ) (k : ℕ) (rest : List ℕ) : Type 0 where
  pub printed : keyword k ++ rest ≡ s
  pub legal : is_kind k ≡ true

pub kind_reader-sound : (s : List ℕ) → Gives (KindRead s) (kind_reader s)
unfolding kind_reader keyword is_kind signature_of
kind_reader-sound s =
    gives-is _ _ _ s
    (λ t e. gives-expect (ascii "nd") _ t λ u f. gives-pure 1 u (record { printed = cc; legal = refl }))
    (gives-is _ _ _ s
    (λ t e. gives-expect (ascii "r") _ t λ u f. gives-pure 2 u (record { printed = cc; legal = refl }))
    (gives-is _ _ _ s (λ t e.
    gives-is _ _ _ t
    (λ u f. gives-expect (ascii "nd") _ u λ v g. gives-pure 3 v (record { printed = cc; legal = refl }))
    (gives-is _ _ _ t (λ u f.
    gives-is _ _ _ u (λ v g. gives-pure 0 v (record { printed = cc; legal = refl }))
    (gives-is _ _ _ u (λ v g. gives-pure 4 v (record { printed = cc; legal = refl })) (gives-stop u)))
    (gives-stop t)))
    (gives-is _ _ _ s (λ t e.
    gives-is _ _ _ t (λ u f. gives-expect (ascii "r") _ u λ v g. gives-pure 5 v (record { printed = cc; legal = refl }))
    (gives-is _ _ _ t
    (λ u f. gives-expect (ascii "or") _ u λ v g. gives-pure 6 v (record { printed = cc; legal = refl }))
    (gives-stop t)))
    (gives-stop s))))

pub record TermRead (depth : ℕ) (s : List ℕ) (t : Term) (rest : List ℕ) : Type 0 where
  pub printed : print_term t rest ≡ s
  pub legal : is_legal_term t depth ≡ true

pub record TermsRead (depth most needed : ℕ) (s : List ℕ) (ts : Terms) (rest : List ℕ) : Type 0 where
  pub printed : print_terms ts (ascii ")" ++ rest) ≡ s
  pub legal : is_legal_terms ts depth ≡ true
  pub enough : needed ≤ term_count ts
  pub fits : term_count ts ≤ most

-- an EXPR behind its opening bracket
pub record ExprRead (depth : ℕ) (s : List ℕ) (k : ℕ) (ts : Terms) (rest : List ℕ) : Type 0 where
  pub printed : keyword k ++ print_terms ts (ascii ")" ++ rest) ≡ s
  pub legal : is_legal_term (apply k ts) (suc depth) ≡ true

pub fewest-most : (k : ℕ) → is_kind k ≡ true → fewest_operands k ≤ most_operands k
unfolding fewest_operands most_operands signature_of
fewest-most =
    by_kind (λ k. fewest_operands k ≤ most_operands k) (omega arith) (omega arith) (omega arith) (omega arith)
    (omega arith) (omega arith) (omega arith)

module _ (term : Reader Term) (depth : ℕ) (reads : (s : List ℕ) → Gives (TermRead depth s) (term s)) where
  spaced-sound : (others : Reader Terms) (most before needed : ℕ) → needed ≤ suc before → (s : List ℕ)
      → ((t : List ℕ) → Gives (TermsRead depth most before t) (others t))
      → Gives (TermsRead depth (suc most) needed s) (spaced term others s)
  unfolding spaced print_terms is_legal_terms term_count
  spaced-sound others most before needed le s rec =
      gives-expect (ascii " ") _ s λ t e. gives-bind term _ t (reads t) λ x u h. gives-bind others _ u (rec u)
      λ xs v g. gives-pure (cons x xs) v
      (record {
        printed = rw (g.printed, h.printed) e;
        legal = rw h.legal g.legal;
        enough = omega arith;
        fits = omega arith;
      })

  pub terms_reader-sound : (most needed : ℕ) → needed ≤ most → (s : List ℕ)
      → Gives (TermsRead depth most needed s) (terms_reader term most needed s)
  unfolding terms_reader print_terms is_legal_terms term_count
  terms_reader-sound zero needed le s =
      gives-expect (ascii ")") _ s λ t e. gives-pure nil t
      (record { printed = e; legal = refl; enough = le; fits = omega arith })
  terms_reader-sound (suc most) zero le s =
      gives-is _ _ _ s
      (λ t e. gives-pure nil t (record { printed = e; legal = refl; enough = omega arith; fits = omega arith }))
      (spaced-sound (terms_reader term most zero) most zero zero (omega arith) s
      (terms_reader-sound most zero (omega arith)))
  terms_reader-sound (suc most) (suc needed) le s =
      spaced-sound (terms_reader term most needed) most needed (suc needed) (omega arith) s
      (terms_reader-sound most needed (omega arith))

  pub expr_reader-sound : {A : Type 0} {P : A → List ℕ → Type 0} (make : ℕ → Terms → A) (s : List ℕ)
      → ((k : ℕ) (ts : Terms) (rest : List ℕ) → ExprRead depth s k ts rest → P (make k ts) rest)
      → Gives P (expr_reader term make s)
  unfolding expr_reader is_legal_term arity_fits
  expr_reader-sound make s post =
      gives-bind kind_reader _ s (kind_reader-sound s) λ k t e. gives-bind
      (terms_reader term (most_operands k) (fewest_operands k)) _ t
      (terms_reader-sound (most_operands k) (fewest_operands k) (fewest-most k e.legal) t)
      λ ts u h. gives-pure (make k ts) u (post k ts u (record {
        printed = cc;
        legal = rw (
          e.legal,
          le-leb (fewest_operands k) (term_count ts) h.enough,
          le-leb (term_count ts) (most_operands k) h.fits,
        ) h.legal;
      }))

leaf_or-sound : (depth : ℕ) (inner : Reader Term) (s : List ℕ) → Gives (TermRead depth s) (inner s)
    → Gives (TermRead depth s) (leaf_or inner s)
unfolding leaf_or print_term is_legal_term is_node_name
leaf_or-sound depth inner s h =
    gives-if_next is_name_start _ _ s
    (λ c t e q. gives-bind (name_after c) _ t (name_after-sound is_name_start c t q (name_start-name_byte c q))
    λ x u g. gives-pure (name x) u (record { printed = g.printed ∙ e; legal = g.legal }))
    (gives-is _ _ _ s (λ t e. gives-pure (literal false) t (record { printed = e; legal = refl }))
    (gives-is _ _ _ s (λ t e. gives-pure (literal true) t (record { printed = e; legal = refl })) h))

-- An operand that is read is legal, and printed before the rest it is the text.
pub term_reader-sound : (depth : ℕ) (s : List ℕ) → Gives (TermRead depth s) (term_reader depth s)
unfolding term_reader print_term
term_reader-sound zero s = leaf_or-sound zero stop s (gives-stop s)
term_reader-sound (suc depth) s =
    leaf_or-sound (suc depth) _ s
    (gives-expect (ascii "(") _ s λ t e. expr_reader-sound (term_reader depth) depth (term_reader-sound depth) apply t
    λ k ts rest h. record { printed = rw h.printed e; legal = h.legal })
