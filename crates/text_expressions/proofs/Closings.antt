-- What the walk has done of a term or an operand list, from what it has done of the parts: one law for each way through
-- the code.
-- Assumes nothing.
use mathlib.Core.Path.{◌≡◌, refl, sym, ap, ◌∙◌}
use mathlib.Core.Bool.{Bool, true, false, cond}
use mathlib.Core.List.{List, [], ◌∷◌, ◌++◌, map, map-append}
use mathlib.Core.Option.{none, some}
use Prim.Native.Nat.{ℕ, suc, ◌+◌, ◌*◌, ◌≤◌, ◌<◌}
use native.Mathlib.Omega.{arith}
use lib.ListN.{length, get_or, set, drop, length-append, length-drop}
use lib.Seq.{sets}
use Rattle.std.specs.declared.option.Option.{Option}
use Rattle.std.specs.declared.option.Option.TheVariants.{None, Some}
use Rattle.std.specs.Option.{option_or}
use Rattle.prelude.specs.Lists.{all, joined, tab, member_list}
use Rattle.netlist.specs.Kinds.{keyword}
use Rattle.netlist.specs.Netlist.{Name, Operand, Gate}
use Rattle.netlist.specs.StoredBlock.{node_word, gate_words}
use Rattle.netlist.specs.Names.{is_letter, is_underscore, is_name_start, is_node_name}
use Rattle.netlist.specs.Syntax.{Term, Terms, name, literal, apply, nil, cons, print_term, term_count, is_legal_term}
use Rattle.netlist.specs.Reading.{Mention, Binding, gates_in, gates_inside, term_mentions, terms_mentions, first_outside}
use Rattle.netlist.specs.Reading.{term_node, terms_nodes, term_gates}
use Rattle.netlist.specs.Reading.{terms_gates}
use Rattle.theory_grammar.proofs.Places.{term-measure}
use Rattle.text_expressions.specs.declared.leaves.Leaf.{Leaf}
use Rattle.text_expressions.specs.declared.walk.Found.{Found}
use Rattle.text_expressions.specs.Leaves.{name_length, index_here, name_here, constant_here, leaf_here}
use Rattle.text_expressions.specs.Walk.{Ends, left_of, declared_names, unknown_after, gates_words, Table, TermAt}
use Rattle.text_expressions.specs.Walk.{TermDone, TermsDone, no_words}
use Rattle.prelude.proofs.Stores.{sets-append}
use Rattle.prelude.proofs.Lists.{joined-append}
use Rattle.text_expressions.proofs.Fronts.{or-none, or-assoc, leaf-name}
use Rattle.text_expressions.proofs.Lookups.{front-back, numbers_of, nodes_of, looked}
use Rattle.text_expressions.proofs.Openings.{name-begins}

-- ---- gates and their words

mutual
  unfolding term_gates terms_gates gates_in gates_inside

  pub gates-count : (o : Term) (bs : List Binding) (first : ℕ) → length (term_gates o bs first) ≡ gates_in o
  gates-count (name x) bs first = refl
  gates-count (literal b) bs first = refl
  gates-count (apply k ts) bs first =
      omega (
        arith,
        gates-counts ts bs first,
        length-append (terms_gates ts bs first)
            (record { kind = k; operands = terms_nodes ts bs first } ∷ []),
      )

  pub gates-counts : (ts : Terms) (bs : List Binding) (first : ℕ) → length (terms_gates ts bs first) ≡ gates_inside ts
  gates-counts nil bs first = refl
  gates-counts (cons t ts) bs first =
      omega (
        arith,
        gates-count t bs first,
        gates-counts ts bs (first + gates_in t),
        length-append
            (term_gates t bs first) (terms_gates ts bs (first + gates_in t)),
      )

pub words-length : (n : ℕ) (gs : List Gate) → length (gates_words n gs) ≡ 5 * length gs
unfolding gates_words gate_words
words-length n [] = refl
words-length n (g ∷ gs) =
    omega (arith, length-append (gate_words n g) (gates_words n gs), words-length n gs)

pub words_append : (n : ℕ) (gs hs : List Gate) → gates_words n (gs ++ hs) ≡ gates_words n gs ++ gates_words n hs
unfolding gates_words
words_append n gs hs = ap joined (map-append (gate_words n) gs hs) ∙ joined-append (map (gate_words n) gs)
    (map (gate_words n) hs)

-- one run of gates' words behind another
pub words-behind : (n : ℕ) (gs hs : List Gate) (d : List ℕ) (i j : ℕ) → j ≡ i + length gs
    → sets (sets d (5 * i) (gates_words n gs)) (5 * j) (gates_words n hs) ≡ sets d (5 * i) (gates_words n (gs ++ hs))
words-behind n gs hs d i j e =
    rw (words_append n gs hs) (sets-append (gates_words n gs) d (5 * i) (5 * j) (gates_words n hs)
    (omega (arith, words-length n gs)))

-- ---- the first undeclared name

outside-append : (total : ℕ) (ds : List Name) (us vs : List Mention)
    → left_of total (first_outside ds (us ++ vs)) ≡ option_or (left_of total (first_outside ds us))
    (left_of total (first_outside ds vs))
unfolding first_outside left_of
outside-append total ds [] vs = refl
outside-append total ds (u ∷ us) vs = go (member_list u.name ds) (outside-append total ds us vs)
  where
    go : (b : Bool) → left_of total (first_outside ds (us ++ vs)) ≡ option_or (left_of total (first_outside ds us))
        (left_of total (first_outside ds vs))
        → left_of total (cond b (first_outside ds (us ++ vs)) (some u.place))
        ≡ option_or (left_of total (cond b (first_outside ds us) (some u.place))) (left_of total (first_outside ds vs))
    go true e = e
    go false e = refl

pub unknown-append : (seen : Option ℕ) (bs : List Binding) (us vs : List Mention) (total : ℕ)
    → unknown_after (unknown_after seen bs us total) bs vs total ≡ unknown_after seen bs (us ++ vs) total
unfolding unknown_after
unknown-append seen bs us vs total =
    or-assoc seen (left_of total (first_outside (declared_names bs) us))
    (left_of total (first_outside (declared_names bs) vs))
    ∙ ap (option_or seen) (sym (outside-append total (declared_names bs) us vs))

pub unknown-none : (seen : Option ℕ) (bs : List Binding) (total : ℕ) → seen ≡ unknown_after seen bs [] total
unfolding unknown_after first_outside left_of
unknown-none seen bs total = sym (or-none seen)

-- ---- operand words

pub nodes-count : (ts : Terms) (bs : List Binding) (first : ℕ) → length (terms_nodes ts bs first) ≡ term_count ts
unfolding terms_nodes term_count
nodes-count nil bs first = refl
nodes-count (cons t ts) bs first = ap suc (nodes-count ts bs (first + gates_in t))

-- the words of at most four operands, behind them zeros
filled-words : (n : ℕ) (os : List Operand) → length os ≤ 4
    → sets no_words 0 (map (node_word n) os) ≡ tab (λ i. get_or (map (node_word n) os) i 0) 4
filled-words n [] h = refl
filled-words n (a ∷ []) h = refl
filled-words n (a ∷ b ∷ []) h = refl
filled-words n (a ∷ b ∷ c ∷ []) h = refl
filled-words n (a ∷ b ∷ c ∷ d ∷ []) h = refl
filled-words n (a ∷ b ∷ c ∷ d ∷ e ∷ os) h = absurd (omega arith)

-- a gate's five words
gate-made : (n k count : ℕ) (os : List Operand) (filled : List ℕ) → length os ≤ 4 → count ≡ length os
    → filled ≡ sets no_words 0 (map (node_word n) os)
    → (k + 8 * count) ∷ filled ≡ gates_words n (record { kind = k; operands = os } ∷ [])
unfolding gates_words gate_words
gate-made n k count os filled few c f = rw (c, f, filled-words n os few)

-- ---- the ways through the code

module _ (n : ℕ) (bs : List Binding) where
  -- no operand is left
  pub nil-done : (at first : ℕ) (seen : Option ℕ) (i left : ℕ) (s rest gates slots : List ℕ) → left ≡ length rest
      → TermsDone n bs nil at s rest first seen i gates gates slots slots left i first seen
  unfolding term_count gates_inside terms_mentions terms_gates terms_nodes gates_words
  nil-done at first seen i left s rest gates slots e =
      record {
        left_is = e;
        count_is = omega arith;
        gates_are = omega arith;
        unknown_is = unknown-none seen bs (at + length s);
        words = refl;
        operands = refl;
      }

  -- an operand, and then the others
  module _ (o : Term) (ts : Terms) (at first : ℕ) (seen : Option ℕ) (i : ℕ)
      (s behind rest g₀ g₁ g₂ slots filled : List ℕ) (one : Found)
    where
      pub cons-done : (left count gates : ℕ) (unknown : Option ℕ) → print_term o behind ≡ drop 1 s → 0 < length s
          → TermDone n bs o (at + 1) (drop 1 s) behind first seen g₀ g₁ one
          → TermsDone n bs ts (at + 1 + length (print_term o [])) behind rest one.gates one.unknown (i + 1) g₁ g₂
          (set slots i one.word) filled
          left count gates unknown
          → TermsDone n bs (cons o ts) at s rest first seen i g₀ g₂ slots filled left count gates unknown
      unfolding term_count gates_inside terms_mentions terms_gates terms_nodes
      cons-done left count gates unknown p l d e =
          let m = term-measure o behind in
          let q = ap length p in
          let z = length-drop 1 s in
          let total : at + 1 + length (print_term o []) + length behind ≡ at + length s = omega arith in
          let total' : at + 1 + length (drop 1 s) ≡ at + length s = omega arith in
          record {
            left_is = e.left_is;
            count_is = omega (arith, e.count_is);
            gates_are = omega (arith, e.gates_are, d.gates);
            unknown_is =
                e.unknown_is ∙ rw (d.unknown, total, total')
                (unknown-append seen bs (term_mentions o (at + 1)) (terms_mentions ts (at + 1 + length (print_term o [])))
                (at + length s));
            words = e.words ∙ rw (d.words, d.gates)
                (words-behind n (term_gates o bs first) (terms_gates ts bs (first + gates_in o)) g₀ first
                (first + gates_in o) (omega (arith, gates-count o bs first)));
            operands = let k : i + 1 ≡ suc i = omega arith in e.operands ∙ rw (d.word, d.gates, k);
          }

  -- an expression
  module _ (k : ℕ) (ts : Terms) (wide at first : ℕ) (seen : Option ℕ) (s inner rest g₀ g₁ g₂ filled : List ℕ)
      (left count gates : ℕ) (unknown : Option ℕ) where
    pub apply-done : term_count ts ≤ 4 → wide ≡ length (keyword k) → length s ≡ wide + length inner
        → TermsDone n bs ts (at + 1 + wide) inner rest first seen 0 g₀ g₁ no_words filled left count gates unknown
        → g₂ ≡ sets g₁ (5 * gates) ((k + 8 * count) ∷ filled)
        → TermDone n bs (apply k ts) at (40 ∷ s) rest first seen g₀ g₂
        (record { left = left; word = n + gates; gates = gates + 1; unknown = unknown })
    unfolding term_node gates_in term_mentions term_gates node_word
    apply-done few w m d e =
        let total : at + 1 + wide + length inner ≡ at + length (40 ∷ s) = omega arith in
        let c = nodes-count ts bs first in
        let made : (k + 8 * count) ∷ filled ≡ gates_words n
        (record { kind = k; operands = terms_nodes ts bs first } ∷ []) =
        gate-made n k count (terms_nodes ts bs first) filled (omega arith) (omega (arith, d.count_is)) d.operands in
        record {
          left = d.left_is;
          word = rw d.gates_are;
          gates = omega (arith, d.gates_are);
          unknown = d.unknown_is ∙ rw (total, w);
          words = e ∙ ap (sets g₁ (5 * gates)) made ∙ rw (d.words, d.gates_are)
              (words-behind n (terms_gates ts bs first) (record { kind = k; operands = terms_nodes ts bs first } ∷ []) g₀
              first (first + gates_inside ts)
              (omega (arith, gates-counts ts bs first)));
        }

  -- a name, or a constant
  module _ (at first : ℕ) (seen : Option ℕ) (rest gates : List ℕ) where
    abbrev pub leaf_found : Leaf → Found
    leaf_found l = record { left = l.left; word = l.word; gates = first; unknown = l.unknown }

    pub name_done : (x : Name) → is_node_name x ≡ true → Ends rest → all is_node_name (declared_names bs) ≡ true
        → TermDone n bs (name x) at (x ++ rest) rest first seen gates gates
        (leaf_found (name_here (x ++ rest) (numbers_of bs) (nodes_of n bs) seen))
    unfolding term_node gates_in term_mentions term_gates gates_words name_here name_length index_here unknown_after
        first_outside left_of is_node_name
    name_done x h e a =
        let l = looked n bs x h a in
        let m = length-append x rest in
        rw (front-back is_name_start x rest h e) (record {
          left = omega arith;
          word = l.word;
          gates = omega arith;
          unknown = rw l.known (ap (option_or seen) (go (member_list x (declared_names bs))));
          words = refl;
        })
      where
        go : (b : Bool) → cond b None (Some (length (x ++ rest))) ≡ left_of (at + length (x ++ rest))
            (cond b none (some at))
        go true = refl
        go false = ap Some (omega arith)

    leaf-name-done : (x : Name) → is_node_name x ≡ true → Ends rest → all is_node_name (declared_names bs) ≡ true
        → TermDone n bs (name x) at (x ++ rest) rest first seen gates gates
        (leaf_found (leaf_here (x ++ rest) (numbers_of bs) (nodes_of n bs) seen))
    unfolding is_name_start is_letter is_underscore
    leaf-name-done x h e a =
        rw (← leaf-name (x ++ rest) (numbers_of bs) (nodes_of n bs) seen (name-begins 48 rest x h refl)
        (name-begins 49 rest x h refl)) (name_done x h e a)

    leaf-at : (o : Term) (depth : ℕ) → is_legal_term o depth ≡ true → Ends rest → all is_node_name (declared_names bs) ≡ true
        → (get_or (print_term o rest) 0 0 ≡ 40 → ⊥)
        → TermDone n bs o at (print_term o rest) rest first seen gates gates
        (leaf_found (leaf_here (print_term o rest) (numbers_of bs) (nodes_of n bs) seen))
    unfolding print_term is_legal_term term_node gates_in term_mentions term_gates gates_words leaf_here constant_here node_word
    leaf-at (name x) depth h e a ne = leaf-name-done x h e a
    leaf-at (literal true) depth h e a ne =
        record {
          left = omega arith;
          word = refl;
          gates = omega arith;
          unknown = unknown-none seen bs
              (at + suc (length rest));
          words = refl;
        }
    leaf-at (literal false) depth h e a ne =
        record {
          left = omega arith;
          word = refl;
          gates = omega arith;
          unknown = unknown-none seen bs
              (at + suc (length rest));
          words = refl;
        }
    leaf-at (apply k ts) depth h e a ne = absurd (ne refl)

  pub leaf-done : (o : Term) (depth at first : ℕ) (seen : Option ℕ) (s rest names words gates : List ℕ) → Table n bs
      names words
      → TermAt o depth rest s
      → (get_or s 0 0 ≡ 40 → ⊥)
      → TermDone n bs o at s rest first seen gates gates
      (record {
        left = (leaf_here s names words seen).left;
        word = (leaf_here s names words seen).word;
        gates = first;
        unknown = (leaf_here s names words seen
            ).unknown;
      })
  leaf-done o depth at first seen s rest names words gates t w ne =
      rw (← w.printed, ← t.packed_names, ← t.node_words)
      (leaf-at at first seen rest gates o depth w.legal w.ends t.legal (λ e. ne (rw w.printed at e)))
