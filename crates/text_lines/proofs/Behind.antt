-- The letters right behind the brackets of a printed tree's lines of gates and outputs: `g` stands behind those of
-- named gates, and not behind a gate's own. Assumes nothing.
use Prim.Native.Nat.{ℕ, zero, suc, ◌+◌, ◌-◌, ◌*◌, ◌≤◌, ◌<◌}
use mathlib.Core.Path.{◌≡◌, refl, ap, ◌∙◌}
use mathlib.Core.Bool.{Bool, true, false, cond, ◌&&◌, false≢true}
use mathlib.Core.List.{List, [], ◌∷◌, ◌++◌}
use native.Mathlib.Nat.{mul-zero, mul-suc}
use native.Mathlib.Omega.{arith}
use lib.ListN.{length, get_or, drop, length-drop}
use lib.Seq.{drop-cons}
use lib.Dec.{eqb}
use Rattle.prelude.specs.Lists.{ascii, all}
use Rattle.prelude.proofs.Tests.{and_left, and_right}
use Rattle.netlist.specs.Kinds.{is_kind, keyword, signature_of}
use Rattle.netlist.specs.Names.{is_plain_name, is_node_name}
use Rattle.netlist.specs.Syntax.{Term, Terms, name, literal, apply, nil, cons, GateLine, OutputLine, Tree, print_term}
use Rattle.netlist.specs.Syntax.{print_terms, print_gate}
use Rattle.netlist.specs.Syntax.{print_output, print_lines, is_legal_term, is_legal_terms, is_legal_gate, is_legal_output}
use Rattle.theory_encoding.proofs.Gates.{by_kind}
use Rattle.text_lines.specs.Lines.{times}
use Rattle.text_lines.specs.Counting.{is_first, times_behind}
use Rattle.netlist.specs.Reading.{gate_lines_at}
use Rattle.theory_grammar.proofs.Places.{gates-at}
use Rattle.text_lines.specs.Trees.{TextOf}
use Rattle.text_lines.proofs.Scanning.{one-le}
use Rattle.text_lines.proofs.TreeLines.{times-name-bytes, times-name, keyword-bytes, kind-legal, legal-parts}

-- ---- the turns of the loop

one-both : (x y : Bool) → cond x 1 0 * cond y 1 0 ≡ cond (x && y) 1 0
one-both true true = refl
one-both true false = refl
one-both false true = refl
one-both false false = refl

-- of two tests
pub both-le : (x y : Bool) (a b : ℕ) → a ≡ cond x 1 0 → b ≡ cond y 1 0 → a * b ≤ 1
both-le x y a b e f = rw (e, f, one-both x y) (one-le (x && y))

-- byte i and the one before it are looked at
pub behind_more : (s : List ℕ) (i : ℕ) → 1 ≤ i → i < length s → (a b n x y : ℕ)
    → n + times_behind a b (drop (i - 1) s) ≡ times_behind a b s
    → x ≡ cond (eqb (get_or s (i - 1) 0) a) 1 0 → y ≡ cond (eqb (get_or s i 0) b) 1 0
    → n + x * y + times_behind a b (drop i s) ≡ times_behind a b s
behind_more s i from inside a b n x y h e f =
    let j = i - 1 in
    let next : suc j ≡ i = omega arith in
    let before : j < length s = omega arith in
    let q : drop j s ≡ get_or s j 0 ∷ drop i s = drop-cons s j 0 before ∙ ap (λ k. get_or s j 0 ∷ drop k s) next in
    let d : times_behind a b (drop j s) ≡ cond (eqb (get_or s j 0) a && is_first b (drop i s)) 1 0 + times_behind a b
    (drop i s) = rw q in
    let v : is_first b (drop i s) ≡ eqb (get_or s i 0) b = rw (drop-cons s i 0 inside) in
    let m : x * y ≡ cond (eqb (get_or s j 0) a && is_first b (drop i s)) 1 0 =
    rw (e, f, v) (one-both (eqb (get_or s j 0) a) (eqb (get_or s i 0) b)) in
    omega arith

-- behind the last byte stands nothing
behind-last : (a b : ℕ) (s : List ℕ) → length s ≤ 1 → times_behind a b s ≡ 0
behind-last a b [] l = refl
behind-last a b (x ∷ []) l = go (eqb x a)
  where
    go : (c : Bool) → cond (c && false) 1 0 + 0 ≡ 0
    go true = refl
    go false = refl
behind-last a b (x ∷ y ∷ ys) l = absurd (omega arith)

pub behind-end : (s : List ℕ) (i n a b : ℕ) → 1 ≤ i → length s ≤ i
    → n + times_behind a b (drop (i - 1) s) ≡ times_behind a b s → n ≡ times_behind a b s
behind-end s i n a b from end h =
    let z = behind-last a b (drop (i - 1) s) (rw (length-drop (i - 1) s) (omega arith)) in
    omega arith

pub behind-le : (a b : ℕ) (s : List ℕ) → times_behind a b s ≤ length s
behind-le a b [] = omega arith
behind-le a b (x ∷ xs) = let h = behind-le a b xs in let o = one-le (eqb x a && is_first b xs) in omega arith

-- ---- a printed tree

behind-append : (a b : ℕ) (xs ys : List ℕ) → times a xs ≡ 0 → times_behind a b (xs ++ ys) ≡ times_behind a b ys
behind-append a b [] ys h = refl
behind-append a b (x ∷ xs) ys h = go (eqb x a) h (behind-append a b xs ys)
  where
    go : (c : Bool) → cond c 1 0 + times a xs ≡ 0 → (times a xs ≡ 0 → times_behind a b (xs ++ ys) ≡ times_behind a b ys)
        → cond (c && is_first b (xs ++ ys)) 1 0 + times_behind a b (xs ++ ys) ≡ times_behind a b ys
    go true h f = absurd (omega arith)
    go false h f = let e = f (omega arith) in omega arith

-- of a letter with which no kind's name begins
module _ (b : ℕ) (other : (k : ℕ) → is_kind k ≡ true → (rest : List ℕ) → is_first b (keyword k ++ rest) ≡ false) where
  mutual
    unfolding print_term print_terms is_legal_term is_legal_terms is_node_name

    behind-term : (t : Term) (d : ℕ) (rest : List ℕ) → is_legal_term t d ≡ true
        → times_behind 40 b (print_term t rest) ≡ times_behind 40 b rest
    behind-term (name s) d rest h = behind-append 40 b s rest (times-name 40 (omega arith) _ s h)
    behind-term (literal true) d rest h = omega arith
    behind-term (literal false) d rest h = omega arith
    behind-term (apply k ts) zero rest h = absurd (false≢true h)
    behind-term (apply k ts) (suc d) rest h =
        let l = kind-legal k ts d h in
        let inside = print_terms ts (ascii ")" ++ rest) in
        let e =
        behind-append 40 b (keyword k) inside (times-name-bytes 40 (omega arith) (keyword k) (keyword-bytes k l.0))
        in
        let f = behind-terms ts d (ascii ")" ++ rest) l.1 in
        rw (other k l.0 inside) (omega arith)

    behind-terms : (ts : Terms) (d : ℕ) (rest : List ℕ) → is_legal_terms ts d ≡ true
        → times_behind 40 b (print_terms ts rest) ≡ times_behind 40 b rest
    behind-terms nil d rest h = refl
    behind-terms (cons t ts) d rest h =
        let e = behind-term t d (print_terms ts rest) (and_left (is_legal_term t d) (is_legal_terms ts d) h) in
        let f = behind-terms ts d rest (and_right (is_legal_term t d) (is_legal_terms ts d) h) in
        omega arith

  behind-gate : (g : GateLine) (rest : List ℕ) → is_legal_gate g ≡ true
      → times_behind 40 b (print_gate g rest) ≡ cond (eqb 103 b) 1 0 + times_behind 40 b rest
  unfolding print_gate is_legal_gate is_node_name
  behind-gate g rest h =
      let term = apply g.kind g.terms in
      let p = and_left (is_node_name g.name) (is_legal_term term 8) h in
      let q = and_right (is_node_name g.name) (is_legal_term term 8) h in
      let e =
      behind-append 40 b g.name (ascii " " ++ print_term term (ascii ")\n" ++ rest))
      (times-name 40 (omega arith) _ g.name p) in
      let f = behind-term term 8 (ascii ")\n" ++ rest) q in
      omega arith

  behind-output : (o : OutputLine) (rest : List ℕ) → is_legal_output o ≡ true
      → times_behind 40 b (print_output o rest) ≡ cond (eqb 111 b) 1 0 + times_behind 40 b rest
  unfolding print_output is_legal_output is_plain_name is_node_name
  behind-output o rest h =
      let p = and_left (is_plain_name o.port) (is_node_name o.shown) h in
      let q = and_right (is_plain_name o.port) (is_node_name o.shown) h in
      let e =
      behind-append 40 b o.port (ascii " " ++ (o.shown ++ (ascii ")\n" ++ rest)))
      (times-name 40 (omega arith) _ o.port p) in
      let f = behind-append 40 b o.shown (ascii ")\n" ++ rest) (times-name 40 (omega arith) _ o.shown q) in
      omega arith

  behind-lines : {A : Type 0} (legal : A → Bool) (line : A → List ℕ → List ℕ) (one : ℕ)
      → ((x : A) (rest : List ℕ) → legal x ≡ true → times_behind 40 b (line x rest) ≡ one + times_behind 40 b rest)
      → (xs : List A) (rest : List ℕ)
      → all legal xs ≡ true
      → times_behind 40 b (print_lines line xs rest) ≡ one * length xs + times_behind 40 b rest
  unfolding print_lines
  behind-lines legal line one f [] rest h = rw mul-zero (omega arith)
  behind-lines legal line one f (x ∷ xs) rest h =
      let a = f x (print_lines line xs rest) (and_left (legal x) (all legal xs) h) in
      let r = behind-lines legal line one f xs rest (and_right (legal x) (all legal xs) h) in
      rw (mul-suc one (length xs)) (omega arith)

  behind-tree : {t : Tree} {text : List ℕ} → TextOf t text
      → times_behind 40 b (drop (gate_lines_at t) text)
      ≡ cond (eqb 103 b) 1 0 * length t.gates + cond (eqb 111 b) 1 0 * length t.outputs
  behind-tree {t} p =
      let q = legal-parts t p.legal in
      let outputs = print_lines print_output t.outputs [] in
      let y = behind-lines is_legal_gate print_gate (cond (eqb 103 b) 1 0) behind-gate t.gates outputs q.gates in
      let z =
      behind-lines is_legal_output print_output (cond (eqb 111 b) 1 0) behind-output t.outputs [] q.outputs in
      rw (← p.printed, gates-at t) (omega arith)

no-kind-g : (k : ℕ) → is_kind k ≡ true → (rest : List ℕ) → is_first 103 (keyword k ++ rest) ≡ false
unfolding keyword signature_of
no-kind-g = by_kind (λ k. (rest : List ℕ) → is_first 103 (keyword k ++ rest) ≡ false)
    (λ r. refl) (λ r. refl) (λ r. refl) (λ r. refl) (λ r. refl) (λ r. refl) (λ r. refl)

-- behind never lines `(g` stands in the lines of gates alone, once in each
pub named-are : {t : Tree} {text : List ℕ} → TextOf t text
    → times_behind 40 103 (drop (gate_lines_at t) text) ≡ length t.gates
named-are p = let h = behind-tree 103 no-kind-g p in omega arith
