-- What a reader leaves of a text is shorter than the text, for names and expressions; the end of a text; and what a
-- term prints before other bytes. Assumes nothing.
use Prim.Native.Nat.{ℕ, ◌-◌, ◌≤◌, ◌<◌}
use mathlib.Core.Path.{◌≡◌, refl, sym, ap, ◌∙◌}
use mathlib.Core.Bool.{Bool, true, false, false≢true}
use mathlib.Core.List.{List, [], ◌∷◌, ◌++◌, append_assoc}
use native.Mathlib.Omega.{arith}
use lib.ListN.{length, drop, length-append}
use lib.Seq.{drop_at}
use Rattle.prelude.specs.Lists.{ascii}
use Rattle.netlist.specs.Kinds.{keyword}
use Rattle.netlist.specs.Netlist.{Name}
use Rattle.netlist.specs.Names.{is_name_byte, is_legal_name}
use Rattle.netlist.specs.Syntax.{Term, Terms, name, literal, apply, nil, cons, print_term, print_terms}
use Rattle.netlist.specs.Parse.{got, name_reader, expr_reader, term_reader}
use Rattle.theory_grammar.proofs.SoundTerms.{ExprRead, name_reader-sound}
use Rattle.theory_grammar.proofs.SoundTerms.{expr_reader-sound, term_reader-sound}
use Rattle.theory_grammar.proofs.Lengths.{terms-length}

-- A print is its own bytes, and then what follows: `a` may be empty.
mutual
  unfolding print_term print_terms

  pub print_term-append : (t : Term) (a b : List ℕ) → print_term t (a ++ b) ≡ print_term t a ++ b
  print_term-append (name x) a b = sym (append_assoc x a b)
  print_term-append (literal true) a b = refl
  print_term-append (literal false) a b = refl
  print_term-append (apply k ts) a b =
      let h = print_terms-append ts (ascii ")" ++ a) b in
      ap (λ s. ascii "(" ++ s)
      (ap (λ s. keyword k ++ s) h ∙ sym (append_assoc (keyword k) (print_terms ts (ascii ")" ++ a)) b))

  pub print_terms-append : (ts : Terms) (a b : List ℕ) → print_terms ts (a ++ b) ≡ print_terms ts a ++ b
  print_terms-append nil a b = refl
  print_terms-append (cons t ts) a b =
      ap (λ s. ascii " " ++ s) (ap (print_term t) (print_terms-append ts a b) ∙ print_term-append t (print_terms ts a) b)

-- ---- what is left is the text's end

pub record Ending (rest s : List ℕ) : Type 0 where
  pub within : length rest ≤ length s
  pub dropped : drop (length s - length rest) s ≡ rest

pub ending : (w rest s : List ℕ) → w ++ rest ≡ s → Ending rest s
ending w rest s e =
    let l = length-append w rest in
    let m : length (w ++ rest) - length rest ≡ length w = omega arith in
    rw (← e) (record { within = omega arith; dropped = drop_at w rest _ (sym m) })

-- ---- what is left is shorter

-- a legal name has a byte
name-longer : (start : ℕ → Bool) (x : Name) (rest : List ℕ) → is_legal_name start x ≡ true
    → length rest < length (x ++ rest)
unfolding is_legal_name
name-longer start [] rest h = absurd (false≢true h)
name-longer start (c ∷ cs) rest h = omega (arith, length-append cs rest)

pub name_reader-shorter : (start : ℕ → Bool) → ((c : ℕ) → start c ≡ true → is_name_byte c ≡ true)
    → (s : List ℕ) (x : Name) (rest : List ℕ)
    → name_reader start s ≡ got x rest → length rest < length s
name_reader-shorter start within s x rest e =
    let h = (name_reader-sound start within s).holds x rest e in rw h.printed at (name-longer start x rest h.legal)

expr-shorter : (depth : ℕ) (s : List ℕ) (k : ℕ) (ts : Terms) (rest : List ℕ) → ExprRead depth s k ts rest
    → length rest < length s
expr-shorter depth s k ts rest h =
    rw (← h.printed)
    (omega
    (arith, length-append (keyword k) (print_terms ts (ascii ")" ++ rest)), terms-length ts (ascii ")" ++ rest)))

pub expr_reader-shorter : {A : Type 0} (depth : ℕ) (make : ℕ → Terms → A) (s : List ℕ) (a : A) (rest : List ℕ)
    → expr_reader (term_reader depth) make s ≡ got a rest → length rest < length s
expr_reader-shorter depth make s =
    (expr_reader-sound (term_reader depth) depth (term_reader-sound depth) make s
    (λ k ts rest. expr-shorter depth s k ts rest)).holds
