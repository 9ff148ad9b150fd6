-- From a block's words to its graph: the words are legal, the gates are put one after the other, and at the end the
-- graph is the block's. Cited by `put_node` and `decode_gates`. Assumes nothing.
use mathlib.Core.Path.{◌≡◌, refl, ◌∙◌}
use mathlib.Core.Logic.{⊎_elim}
use mathlib.Core.Bool.{true, false, cond}
use mathlib.Core.List.{List, [], ◌∷◌}
use Prim.Native.Nat.{ℕ, zero, suc, ◌+◌, ◌-◌, ◌*◌, ◌/◌, ◌%◌, ◌≤◌, ◌<◌}
use native.Mathlib.Omega.{arith}
use native.Mathlib.Numerals.{add-one}
use native.Mathlib.Nat.{not-suc-le-zero, le_of_suc-le-suc, add-zero}
use borrow.Author.Tests.{lt-ltb, le-ltb}
use lib.Dec.{ltb}
use lib.ListN.{length, get_or, set, length-set}
use lib.Seq.{sets, length-sets, get_or-set_same, get_or-set_other}
use Rattle.prelude.specs.Lists.{tab}
use Rattle.prelude.proofs.Tests.{lt-or-le, eq-or-ne}
use Rattle.prelude.proofs.Tab.{length-tab, get_d-tab, tab-ext}
use Rattle.words_layout.specs.declared.nodes.Nodes.{Nodes}
use Rattle.words_layout.specs.Nodes.{nodes_of}
use Rattle.netlist.specs.Limits.{max_inputs, max_gates}
use Rattle.netlist.specs.Netlist.{Operand, constant, Gate}
use Rattle.netlist.specs.StoredBlock.{gate_size, nevers_at, gates_at, outputs_at, operand_of, gate_at as stored_gate, decode}
use Rattle.netlist.specs.StoredBlock.{is_malformed}
use Rattle.theory_encoding.proofs.Readers.{OperandWord, whole_parts, whole-gate}
use Rattle.theory_encoding.proofs.Sizes.{whole-small}
use Rattle.graph_gates.specs.Places.{first_gate, operand_at, place_of}
use Rattle.graph_gates.specs.Graph.{node_size, slots, controlling_of, forced_of, operation_word}
use Rattle.graph_gates.specs.Graph.{operand_place, kind_at, count_at, place_at, gate_at}
use Rattle.graph_gates.specs.Graph.{gates_in, Node, Decoded}
use Rattle.graph_gates.specs.Decoding.{WordsOf, word_place, head_word, absent_place, node_words, Putting}
use Rattle.graph_gates.proofs.Places.{place-input, place-zero, place-one, place-gate, operand_at-word}

-- ---- the words of a block

-- the place of an operand word is one of the block's
place_inside : (n m w : ℕ) → n ≤ max_inputs → m ≤ max_gates → OperandWord (n + m) w
    → place_of (operand_of n w) < first_gate + m
place_inside n m w few fewer h = ⊎_elim node (⊎_elim zero one) h
  where
    node : w < n + m → place_of (operand_of n w) < first_gate + m
    node l =
        ⊎_elim (λ i. rw (place-input n w i) (omega arith)) (λ i. rw (place-gate n w i (omega arith)) (omega arith))
        (lt-or-le w n)

    zero : w ≡ 65534 → place_of (operand_of n w) < first_gate + m
    zero e = rw (e, place-zero n few) (omega arith)

    one : w ≡ 65535 → place_of (operand_of n w) < first_gate + m
    one e = rw (e, place-one n few) (omega arith)

pub words_of : (ws : List ℕ) → is_malformed ws ≡ false → WordsOf ws (nodes_of ws)
unfolding nodes_of gates_at nevers_at outputs_at
words_of ws h =
    record {
      few_inputs = (whole_parts ws h).few_inputs;
      few_gates = (whole_parts ws h).few_gates;
      near = omega (arith, (whole_parts ws h).few_inputs, (whole_parts ws h).few_nevers);
      long = omega (arith, (whole_parts ws h).sized);
      kind = λ j l. (whole-gate ws h j l).kind;
      count = λ j l. (whole-gate ws h j l).count;
      place =
          λ j i l k. place_inside (get_or ws 0 0) (get_or ws 1 0) _ (whole_parts ws h).few_inputs
          (whole_parts ws h).few_gates ((whole-gate ws h j l).operands i k);
    }

-- ---- gate after gate

sets-before : (l : List ℕ) (i : ℕ) (xs : List ℕ) (q : ℕ) → q < i → get_or (sets l i xs) q 0 ≡ get_or l q 0
sets-before l i [] q h = refl
sets-before l i (x ∷ xs) q h =
    sets-before (set l i x) (suc i) xs q (omega arith) ∙ get_or-set_other l i q x 0 (λ e. omega arith)

sets-at : (l : List ℕ) (i : ℕ) (xs : List ℕ) (p : ℕ) → p < length xs → i + length xs ≤ length l
    → get_or (sets l i xs) (i + p) 0 ≡ get_or xs p 0
sets-at l i [] p h fits = absurd (not-suc-le-zero h)
sets-at l i (x ∷ xs) zero h fits =
    rw (add-zero) (sets-before (set l i x) (suc i) xs i (omega arith) ∙ get_or-set_same l i x 0 (omega arith))
sets-at l i (x ∷ xs) (suc p) h fits =
    let e : i + suc p ≡ suc i + p = omega arith in
    let fits' : suc i + length xs ≤ length (set l i x) = rw length-set (omega arith) in
    rw e (sets-at (set l i x) (suc i) xs p (le_of_suc-le-suc h) fits')

-- the numbers of a gate's words fit a word
module _ {ws : List ℕ} {nodes : Nodes} (w : WordsOf ws nodes) (j : ℕ) (l : j < nodes.gates) where
  pub place-small : (absent i : ℕ) → absent ≤ 1
      → word_place ws nodes.inputs (nodes.start + gate_size * j) absent i < 65536
  unfolding word_place
  place-small absent i small =
      ⊎_elim (λ k. rw (lt-ltb i _ k) (omega (arith, w.place j i l k, w.few_gates)))
      (λ k. rw (le-ltb i _ k) (omega arith))
      (lt-or-le i (get_or ws (nodes.start + gate_size * j) 0 / 8))

-- the store of the operation and then the places of the four slots are the gate's words
pub node-put : (ws graph : List ℕ) (nodes : Nodes) (j h c f : ℕ)
    → h ≡ get_or ws (nodes.start + gate_size * j) 0 → c ≡ controlling_of (h % 8) → f ≡ forced_of (h % 8)
    → sets (set graph (node_size * j) (h + 64 * c + 128 * f)) (node_size * j + 1)
    (tab (word_place ws nodes.inputs (nodes.start + gate_size * j) (1 - c)) slots)
    ≡ sets graph (node_size * j) (node_words ws nodes j)
unfolding node_words head_word absent_place
node-put ws graph nodes j h c f e_h e_c e_f = rw (add-one (node_size * j), e_f, e_c, e_h) refl

node_words-length : (ws : List ℕ) (nodes : Nodes) (j : ℕ) → length (node_words ws nodes j) ≡ node_size
unfolding node_words
node_words-length ws nodes j = refl

-- one gate more
pub putting-more : {ws : List ℕ} {nodes : Nodes} {j : ℕ} {graph graph' : List ℕ} → Putting ws nodes j graph
    → j < max_gates
    → graph' ≡ sets graph (node_size * j) (node_words ws nodes j) → Putting ws nodes (j + 1) graph'
putting-more {ws} {nodes} {j} {graph} {graph'} p l e =
    rw e (record { long = length-sets graph (node_size * j) (node_words ws nodes j) ∙ p.long; put = put' })
  where
    put' : (k i : ℕ) → k < j + 1 → i < node_size
        → get_or (sets graph (node_size * j) (node_words ws nodes j)) (node_size * k + i) 0 ≡ get_or (node_words ws nodes k) i 0
    put' k i kl il = ⊎_elim new (λ ne. old (omega (arith, ne))) (eq-or-ne k j)
      where
        new : k ≡ j → get_or (sets graph (node_size * j) (node_words ws nodes j)) (node_size * k + i) 0
            ≡ get_or (node_words ws nodes k) i 0
        new q =
            rw q
            (sets-at graph (node_size * j) (node_words ws nodes j) i (rw (node_words-length ws nodes j) il)
            (rw (node_words-length ws nodes j, p.long) (omega arith)))

        old : k < j → get_or (sets graph (node_size * j) (node_words ws nodes j)) (node_size * k + i) 0
            ≡ get_or (node_words ws nodes k) i 0
        old less =
            sets-before graph (node_size * j) (node_words ws nodes j) (node_size * k + i) (omega arith)
            ∙ p.put k i less il

-- ---- the graph of all gates

-- an operation word has its kind and its operand count in its lowest digits to base 8
head-kind : (h c f : ℕ) → (h + 64 * c + 128 * f) % 8 ≡ h % 8
head-kind h c f = omega arith

head-count : (h c f : ℕ) → h / 8 ≤ 4 → (h + 64 * c + 128 * f) / 8 % 8 ≡ h / 8
head-count h c f l = omega arith

module _ (ws : List ℕ) (h : is_malformed ws ≡ false) (graph : List ℕ) (p : Putting ws (nodes_of ws) (get_or ws 1 0) graph)
    (j : ℕ) (l : j < get_or ws 1 0) where
  -- where the gate's words start, and its head
  abbrev start : ℕ
  start = gates_at (get_or ws 0 0) (get_or ws 3 0) + gate_size * j

  abbrev head : ℕ
  head = get_or ws start 0

  abbrev stored : Gate
  stored = stored_gate (get_or ws 0 0) ws start

  whole-head : head / 8 ≤ 4
  whole-head = (whole-gate ws h j l).count

  operation-is : get_or graph (node_size * j) 0 ≡ head_word ws start
  unfolding node_words nodes_of
  operation-is = let e : node_size * j + 0 ≡ node_size * j = omega arith in rw e at (p.put j 0 l (omega arith))

  slot_is : (i : ℕ) → i < slots → get_or (node_words ws (nodes_of ws) j) (1 + i) 0
      ≡ word_place ws (get_or ws 0 0) start (absent_place ws start) i
  unfolding node_words nodes_of
  slot_is zero l = refl
  slot_is (suc zero) l = refl
  slot_is (suc (suc zero)) l = refl
  slot_is (suc (suc (suc zero))) l = refl
  slot_is (suc (suc (suc (suc i)))) l = absurd (omega arith)

  place_is : (i : ℕ) → i < slots → place_at graph j i ≡ word_place ws (get_or ws 0 0) start (absent_place ws start) i
  unfolding place_at
  place_is i il =
      let e : node_size * j + 1 + i ≡ node_size * j + (1 + i) = omega arith in
      rw e (p.put j (1 + i) l (omega arith)) ∙ slot_is i il

  kind-is : kind_at graph j ≡ head % 8
  unfolding kind_at head_word
  kind-is = rw operation-is (head-kind head (controlling_of (head % 8)) (forced_of (head % 8)))

  count-is : count_at graph j ≡ head / 8
  unfolding count_at head_word
  count-is = rw operation-is (head-count head (controlling_of (head % 8)) (forced_of (head % 8)) whole-head)

  -- the gate that stands in the graph is the block's
  gate-is : gate_at graph j ≡ stored
  unfolding gate_at stored_gate word_place
  gate-is =
      let k = kind-is in
      let o : tab (λ i. operand_at (place_at graph j i)) (count_at graph j)
      ≡ tab (λ i. operand_of (get_or ws 0 0) (get_or ws (start + 1 + i) 0)) (head / 8) =
      rw count-is (tab-ext _ _ (head / 8) same) in
      cc
    where
      same : (i : ℕ) → i < head / 8 → operand_at (place_at graph j i)
          ≡ operand_of (get_or ws 0 0) (get_or ws (start + 1 + i) 0)
      same i k =
          rw (place_is i (omega (arith, whole-head)), lt-ltb i (head / 8) k)
          (operand_at-word (get_or ws 0 0) (get_or ws (start + 1 + i) 0) (whole_parts ws h).few_inputs
          (whole-small ws h (start + 1 + i)))

  node-is : Node (get_or ws 1 0) graph j
  unfolding operation_word operand_place head_word word_place absent_place stored_gate nodes_of
  node-is =
      record {
        kind = rw kind-is (whole-gate ws h j l).known;
        count = rw (kind-is, count-is) (whole-gate ws h j l).arity;
        operation = rw (operation-is, gate-is, length-tab operand (head / 8)) (omega arith);
        place = λ i il. rw (place_is i il, gate-is, length-tab operand (head / 8)) (slot i);
        inside = λ i il. rw (place_is i il) (there i);
      }
    where
      operand : ℕ → Operand
      operand i = operand_of (get_or ws 0 0) (get_or ws (start + 1 + i) 0)

      slot : (i : ℕ) → cond (ltb i (head / 8)) (place_of (operand i)) (1 - controlling_of (head % 8))
          ≡ cond (ltb i (head / 8)) (place_of (get_or (tab operand (head / 8)) i (constant true)))
          (1 - controlling_of (head % 8))
      slot i =
          ⊎_elim (λ k. rw (get_d-tab operand (head / 8) i (constant true) k) refl) (λ k. rw (le-ltb i (head / 8) k) refl)
          (lt-or-le i (head / 8))

      there : (i : ℕ) → cond (ltb i (head / 8)) (place_of (operand i))
          (1 - controlling_of (head % 8)) < first_gate + get_or ws 1 0
      there i =
          ⊎_elim (λ k. rw (lt-ltb i (head / 8) k) ((words_of ws h).place j i l k))
          (λ k. rw (le-ltb i (head / 8) k) (omega arith)) (lt-or-le i (head / 8))

-- every gate is put
pub graph-decoded : (ws : List ℕ) → is_malformed ws ≡ false → {graph : List ℕ}
    → Putting ws (nodes_of ws) (get_or ws 1 0) graph
    → Decoded (decode ws) (get_or ws 1 0) graph
unfolding gates_in decode
graph-decoded ws h {graph} p =
    record {
      legal = record { few = (whole_parts ws h).few_gates; node = node-is ws h graph p };
      gates = tab-ext (gate_at graph) _ (get_or ws 1 0) (gate-is ws h graph p);
    }
