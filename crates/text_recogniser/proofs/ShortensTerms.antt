-- The readers of expressions leave the end of the text that they are given. Assumes nothing.
use mathlib.Core.Bool.{true, false}
use mathlib.Core.List.{◌∷◌}
use Prim.Native.Nat.{ℕ, zero, suc, ◌-◌}
use Rattle.prelude.specs.Lists.{ascii, is}
use Rattle.netlist.specs.Limits.{max_name}
use Rattle.netlist.specs.Names.{is_name_start}
use Rattle.netlist.specs.Kinds.{most_operands, fewest_operands}
use Rattle.netlist.specs.Syntax.{Term, Terms, name, literal, apply, nil, cons}
use Rattle.netlist.specs.Parse.{Reader, name_after, kind_reader, spaced, terms_reader, expr_reader, leaf_or, term_reader}
use Rattle.text_recogniser.proofs.Shortens.{Shortens, shortens-pure, shortens-stop, shortens-if, shortens-expect}
use Rattle.text_recogniser.proofs.Shortens.{shortens-bind, shortens-name-bytes}

pub shortens-kind : Shortens kind_reader
unfolding kind_reader
shortens-kind =
    shortens-if (is "a") (λ _. shortens-expect (ascii "nd") (shortens-pure 1))
    (shortens-if (is "o") (λ _. shortens-expect (ascii "r") (shortens-pure 2))
    (shortens-if (is "n") (λ _.
    shortens-if (is "a") (λ _. shortens-expect (ascii "nd") (shortens-pure 3))
    (shortens-if (is "o") (λ _.
    shortens-if (is "t") (λ _. shortens-pure 0)
    (shortens-if (is "r") (λ _. shortens-pure 4) shortens-stop))
    shortens-stop))
    (shortens-if (is "x") (λ _.
    shortens-if (is "o") (λ _. shortens-expect (ascii "r") (shortens-pure 5))
    (shortens-if (is "n") (λ _. shortens-expect (ascii "or") (shortens-pure 6)) shortens-stop))
    shortens-stop)))

shortens-spaced : {term : Reader Term} {others : Reader Terms} → Shortens term → Shortens others
    → Shortens (spaced term others)
unfolding spaced
shortens-spaced t o =
    shortens-expect (ascii " ") (shortens-bind t (λ x. shortens-bind o (λ xs. shortens-pure (cons x xs))))

pub shortens-terms : {term : Reader Term} (most needed : ℕ) → Shortens term → Shortens (terms_reader term most needed)
unfolding terms_reader
shortens-terms zero needed t = shortens-expect (ascii ")") (shortens-pure nil)
shortens-terms (suc most) zero t =
    let r = shortens-terms most zero t in shortens-if (is ")") (λ _. shortens-pure nil) (shortens-spaced t r)
shortens-terms (suc most) (suc needed) t = let r = shortens-terms most needed t in shortens-spaced t r

pub shortens-expr : {A : Type 0} {term : Reader Term} (make : ℕ → Terms → A) → Shortens term
    → Shortens (expr_reader term make)
unfolding expr_reader
shortens-expr make t =
    shortens-bind shortens-kind (λ k. shortens-bind (shortens-terms (most_operands k) (fewest_operands k) t)
    (λ ts. shortens-pure (make k ts)))

shortens-leaf : {inner : Reader Term} → Shortens inner → Shortens (leaf_or inner)
unfolding leaf_or name_after
shortens-leaf h =
    shortens-if is_name_start
    (λ c. shortens-bind (shortens-bind (shortens-name-bytes (max_name - 1)) (λ cs. shortens-pure (c ∷ cs)))
    (λ s. shortens-pure (name s)))
    (shortens-if (is "0") (λ _. shortens-pure (literal false))
    (shortens-if (is "1") (λ _. shortens-pure (literal true)) h))

pub shortens-term : (depth : ℕ) → Shortens (term_reader depth)
unfolding term_reader
shortens-term zero = shortens-leaf shortens-stop
shortens-term (suc depth) =
    let r = shortens-term depth in shortens-leaf (shortens-expect (ascii "(") (shortens-expr apply r))
