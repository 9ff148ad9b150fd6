-- The tables that src/ fills from a tree's text hold the tree's declared names, their places and their node numbers.
-- Assumes nothing.
use Prim.Native.Nat.{ℕ, zero, suc, ◌+◌, ◌-◌, ◌≤◌, ◌<◌}
use mathlib.Core.Path.{◌≡◌, refl, sym, ap, ap₂, ◌∙◌}
use mathlib.Core.Bool.{Bool, true}
use mathlib.Core.List.{List, [], ◌∷◌, ◌++◌, map, map-append, append_assoc, append-nil}
use native.Mathlib.Nat.{add-zero}
use native.Mathlib.Omega.{arith}
use lib.ListN.{length, get_or, take, drop, length-map, length-append, get_or-append}
use lib.Seq.{take_at, drop-drop, take-append-le, sets}
use borrow.Author.Tests.{lt-ltb, le-ltb}
use Rattle.prelude.specs.Lists.{all, sum, tab, placed, joined}
use Rattle.prelude.proofs.Tests.{and_left, and_right}
use Rattle.prelude.proofs.Tab.{length-tab, tab-ext, map-tab, tab-add, tab-get_d}
use Rattle.prelude.proofs.Slices.{length-placed, take-placed, sets-placed}
use Rattle.prelude.proofs.Stores.{sets-append}
use Rattle.netlist.specs.Netlist.{Name}
use Rattle.netlist.specs.StoredBlock.{node_word}
use Rattle.netlist.specs.Syntax.{GateLine, Tree, print_input, print_gate, is_legal_gate}
use Rattle.netlist.specs.Reading.{Mention, mentions, input_mention, gate_mention, gate_lines_at, declared_nodes}
use Rattle.netlist.specs.Reading.{declared_ports, Binding, line_gates, input_bindings}
use Rattle.netlist.specs.Reading.{gate_bindings, bindings}
use Rattle.text_lines.specs.Lines.{gates_to}
use Rattle.text_symbols.specs.Tables.{declared_place, place_at, number_at, line_word, word_at, table_size, FilledTo}
use Rattle.text_names.specs.Packed.{packed, name_from, packed_at, packed_through}
use Rattle.text_lines.specs.Trees.{gate_line_text, output_line_text, lines_behind, TextOf}
use Rattle.text_lines.specs.Counting.{tree_counts}
use Rattle.text_symbols.specs.Results.{declared, packed_names, name_places, node_words, TableRoom, Declared}
use Rattle.text_lines.specs.declared.counts.Counts.{Counts}
use Rattle.text_lines.proofs.JoinedLines.{tab-front}
use Rattle.text_lines.proofs.JoinedLines.{inner_opens, gates-are}
use Rattle.text_lines.proofs.TreeLines.{TreeLine, legal-parts, gate-line, behind-lines, behind-stand}
use Rattle.text_symbols.proofs.TreeWalk.{mention_at, mention_in, input-walk, behind-walk}
use Rattle.text_lines.proofs.TreeCounts.{inputs-total, behind-total}

module _ (text : List ℕ) (from i : ℕ) where
  place_in : place_at text from i ≡ (mention_in text from i).place
  unfolding place_at declared_place mention_at
  place_in = refl

  name_in : packed_at text (place_at text from i) ≡ packed (mention_in text from i).name
  unfolding packed_at name_from place_at declared_place mention_at
  name_in = rw drop-drop

module _ {t : Tree} {text : List ℕ} (p : TextOf t text) where
  abbrev n : ℕ
  n = length t.inputs

  abbrev m : ℕ
  m = length t.gates + length t.outputs

  abbrev end : ℕ
  end = gate_lines_at t

  -- the lines of inputs, and those behind never lines
  declared-are : tab (mention_in text 0) n ++ tab (mention_in text end) m ≡ declared t
  unfolding declared declared_nodes
  declared-are =
      ap₂ ◌++◌ (rw inputs-total at (input-walk p)) (rw behind-total at (behind-walk p))
      ∙ sym (append_assoc (mentions print_input input_mention t.inputs 0)
      (mentions print_gate gate_mention t.gates end) (declared_ports t))

  both-length : {A : Type 0} (f g : ℕ → A) → length (tab f n ++ tab g m) ≡ n + m
  both-length f g = rw (length-append, length-tab f n, length-tab g m)

  -- as many declarations as lines
  pub declared-length : length (declared t) ≡ n + m
  declared-length = ap length (sym declared-are) ∙ both-length (mention_in text 0) (mention_in text end)

  both-map : {A B : Type 0} (h : A → B) (f g : ℕ → A) (f' g' : ℕ → B) → ((i : ℕ) → f' i ≡ h (f i))
      → ((i : ℕ) → g' i ≡ h (g i))
      → tab f' n ++ tab g' m ≡ map h (tab f n ++ tab g m)
  both-map h f g f' g' a b =
      ap₂ ◌++◌ (tab-ext f' (λ i. h (f i)) n (λ i l. a i) ∙ sym (map-tab h f n))
      (tab-ext g' (λ i. h (g i)) m (λ i l. b i) ∙ sym (map-tab h g m))
      ∙ sym (map-append h (tab f n) (tab g m))

  -- The places in the table are those of the declared names.
  places-are : tab (place_at text 0) n ++ tab (place_at text end) m ≡ name_places t
  unfolding name_places
  places-are =
      both-map (λ (d : Mention). d.place) (mention_in text 0) (mention_in text end) _ _ (place_in text 0)
      (place_in text end)
      ∙ ap (map (λ (d : Mention). d.place)) declared-are

  -- The numbers in the table are those of the declared names.
  names-are : map (packed_at text) (name_places t) ≡ packed_names t
  unfolding packed_names
  names-are =
      ap (map (packed_at text)) (sym places-are)
      ∙ sym (both-map (packed_at text) (place_at text 0) (place_at text end) (λ i. packed_at text (place_at text 0 i))
      (λ i. packed_at text (place_at text end i))
      (λ i. refl) (λ i. refl))
      ∙ both-map (λ (d : Mention). packed d.name) (mention_in text 0) (mention_in text end) _ _ (name_in text 0)
      (name_in text end)
      ∙ ap (map (λ (d : Mention). packed d.name)) declared-are

-- ---- the names of the inputs

input-numbers : (ss : List Name) (at : ℕ)
    → map (λ (d : Mention). packed d.name) (mentions print_input input_mention ss at) ≡ map packed ss
unfolding mentions input_mention
input-numbers [] at = refl
input-numbers (s ∷ ss) at = ap {B = List ℕ} (λ r. packed s ∷ r) (input-numbers ss _)

pub inputs-named : {t : Tree} {text : List ℕ} → TextOf t text
    → tab (number_at text 0) (length t.inputs) ≡ map packed t.inputs
unfolding number_at
inputs-named {t} {text} p =
    let n = length t.inputs in
    tab-ext _ _ n (λ i l. name_in text 0 i) ∙ sym (map-tab (λ (d : Mention). packed d.name) (mention_in text 0) n)
    ∙ ap (map (λ (d : Mention). packed d.name)) (rw inputs-total at (input-walk p)) ∙ input-numbers t.inputs 0

-- ---- node numbers

inner_of : {A : Type 0} (legal : A → Bool) (line : A → List ℕ) (gates : A → ℕ)
    → ((x : A) → legal x ≡ true → TreeLine (line x) (gates x)) → (xs : List A)
    → all legal xs ≡ true
    → (i : ℕ) → sum (map inner_opens (take i (map line xs))) ≡ sum (map gates (take i xs))
inner_of legal line gates f xs h zero = refl
inner_of legal line gates f [] h (suc i) = refl
inner_of legal line gates f (x ∷ xs) h (suc i) =
    let a = (f x (and_left (legal x) (all legal xs) h)).opens in
    let b = inner_of legal line gates f xs (and_right (legal x) (all legal xs) h) i in
    omega arith

-- the numbers of the inputs
input-words : (n k : ℕ) (ss : List Name)
    → map (λ (b : Binding). node_word n b.node) (input_bindings ss k) ≡ tab (λ i. k + i) (length ss)
unfolding input_bindings node_word
input-words n k [] = refl
input-words n k (s ∷ ss) =
    sym (tab-front (λ i. k + i) (length ss) ∙ rw add-zero
    (ap (λ (r : List ℕ). k ∷ r) (tab-ext _ _ (length ss) (λ i l. omega arith) ∙ sym (input-words n (suc k) ss))))

-- the numbers of the named gates, when `first` gates stand before
gate-words : (n first : ℕ) (gs : List GateLine)
    → map (λ (b : Binding). node_word n b.node) (gate_bindings gs first) ≡ tab
    (λ j. n + (first + sum (map line_gates (take (suc j) gs)) - 1)) (length gs)
unfolding gate_bindings node_word line_gates
gate-words n first [] = refl
gate-words n first (g ∷ gs) =
    sym
    (tab-front (λ j. n + (first + sum (map line_gates (take (suc j) (g ∷ gs))) - 1)) (length gs)
    ∙ ap₂ ◌∷◌ (omega arith) (tab-ext _ _ (length gs) (λ j l. omega arith)
    ∙ sym (gate-words n (first + line_gates g) gs)))

module _ {t : Tree} {text : List ℕ} (p : TextOf t text) where
  input-word : (i : ℕ) → i < n p → word_at text 0 (n p) 0 i ≡ 0 + i
  unfolding word_at line_word
  input-word i l = let e : 0 + i ≡ i = omega arith in rw (e, lt-ltb i (n p) l)

  -- the gates up to the end of gate line j
  gates-to : (j : ℕ) → j < length t.gates
      → gates_to text (end p) (suc j) ≡ sum (map line_gates (take (suc j) t.gates))
  unfolding lines_behind
  gates-to j l =
      let q = legal-parts t p.legal in
      let few : suc j ≤ length (lines_behind t) = omega (arith, behind-total t) in
      let some : suc j ≤ length (map gate_line_text t.gates) = omega (arith, length-map t.gates gate_line_text) in
      let stand = behind-stand p ∙ sym (append-nil (joined (lines_behind t))) in
      gates-are text (end p) (lines_behind t) [] (behind-lines p) stand (suc j) few
      ∙ ap (λ (ls : List (List ℕ)). sum (map inner_opens ls))
      (take-append-le (suc j) (map gate_line_text t.gates) (map output_line_text t.outputs) some)
      ∙ inner_of is_legal_gate gate_line_text line_gates gate-line t.gates q.gates (suc j)

  gate-word : (j : ℕ) → j < length t.gates
      → word_at text (end p) (n p) (n p) j ≡ n p + (0 + sum (map line_gates (take (suc j) t.gates)) - 1)
  unfolding word_at line_word
  gate-word j l = let h : n p ≤ n p + j = omega arith in rw (le-ltb (n p + j) (n p) h, gates-to j l) (omega arith)

  -- The node numbers in the table are those of the declared nodes.
  words-equal : tab (word_at text 0 (n p) 0) (n p) ++ tab (word_at text (end p) (n p) (n p)) (length t.gates)
      ≡ node_words t
  unfolding node_words bindings
  words-equal =
      rw (tab-ext _ _ (n p) input-word, tab-ext _ _ (length t.gates) gate-word)
      (sym (map-append _ (input_bindings t.inputs 0) (gate_bindings t.gates 0)
      ∙ rw (input-words (n p) 0 t.inputs, gate-words (n p) 0 t.gates)))

  -- as many bindings as inputs and named gates
  pub bindings-length : length (bindings t) ≡ length t.inputs + length t.gates
  unfolding node_words
  bindings-length =
      sym (length-map (bindings t) (λ (b : Binding). node_word (length t.inputs) b.node))
      ∙ ap length (sym words-equal)
      ∙ rw (
        length-append,
        length-tab (word_at text 0 (n p) 0) (n p),
        length-tab (word_at text (end p) (n p) (n p)) (length t.gates),
      )

-- ---- the tables as they are filled

-- lines of inputs first, and behind their entries the others
both-filled : (f g : ℕ → ℕ) (n m : ℕ) (entry between after : List ℕ) → n + m ≤ length entry
    → between ≡ sets entry 0 (tab f n) → after ≡ sets between n (tab g m)
    → after ≡ placed (tab f n ++ tab g m) entry
both-filled f g n m entry between after l e h =
    let size : length (tab f n ++ tab g m) ≡ n + m = rw (length-append, length-tab f n, length-tab g m) in
    h ∙ rw e (sets-append (tab f n) entry 0 n (tab g m) (omega (arith, length-tab f n))
    ∙ sets-placed (tab f n ++ tab g m) entry (omega arith))

-- the front of it
front-words : (f g : ℕ → ℕ) (n a b : ℕ) (entry : List ℕ)
    → take (n + a) (placed (tab f n ++ tab g (a + b)) entry) ≡ tab f n ++ tab g a
front-words f g n a b entry =
    let behind = tab (λ i. g (a + i)) b in
    let rest = drop (length (tab f n ++ tab g (a + b))) entry in
    let whole : placed (tab f n ++ tab g (a + b)) entry ≡ (tab f n ++ tab g a) ++ (behind ++ rest) =
    rw (tab-add g a b) (simp append_assoc) in
    rw whole
    (take_at (tab f n ++ tab g a) (behind ++ rest) (n + a) (rw (length-append, length-tab f n, length-tab g a)))

-- what a list says at each of its places
map-places : (f : ℕ → ℕ) (xs : List ℕ) (k : ℕ) → length xs ≡ k → map f xs ≡ tab (λ i. f (get_or xs i 0)) k
map-places f xs k e = ap (map f) (sym (tab-get_d 0 xs k e)) ∙ map-tab f (λ i. get_or xs i 0) k

-- the number of the name at a place that stands in a table
through : (text places xs entry : List ℕ) (k : ℕ) → places ≡ placed xs entry → length xs ≡ k → (j : ℕ) → j < k
    → packed_through text places j ≡ packed_at text (get_or xs j 0)
unfolding packed_through
through text places xs entry k e size j l = rw (e, get_or-append xs (drop (length xs) entry) 0 j (omega arith))

-- the table of numbers keeps its length
pub names-sized : (c : Counts) (f : ℕ → ℕ) (names names₀ : List ℕ) → c.inputs + c.named + c.outputs ≤ table_size
    → table_size ≤ length names₀
    → names ≡ placed (tab f (c.inputs + (c.named + c.outputs))) names₀ → length names ≡ length names₀
names-sized c f names names₀ room has e =
    let k = c.inputs + (c.named + c.outputs) in
    rw e (length-placed (tab f k) names₀ (omega (arith, length-tab f k)))

module _ {t : Tree} {text : List ℕ} (p : TextOf t text) where
  counted-sum : (c : Counts) → c ≡ tree_counts t → c.inputs + c.named + c.outputs ≡ n p + m p
  unfolding tree_counts
  counted-sum c e = rw e (omega arith)

  -- what the loops fill in are the tables of the tree
  pub tables-are : (c : Counts) (to : ℕ) (names places places₁ words words₁ names₀ places₀ words₀ : List ℕ)
      → c ≡ tree_counts t → to ≡ gate_lines_at t
      → TableRoom c text to names₀ places₀ words₀
      → FilledTo text 0 c.inputs 0 places₀ words₀ c.inputs places₁ words₁
      → FilledTo text to c.inputs c.inputs places₁ words₁ (c.named + c.outputs) places words
      → names ≡ placed (tab (packed_through text places) (c.inputs + (c.named + c.outputs))) names₀
      → Declared t names places words
  unfolding tree_counts name_places packed_names
  tables-are c to names places places₁ words words₁ names₀ places₀ words₀ counted from room one two ns =
      let g = length t.gates in
      let o = length t.outputs in
      let i : c.inputs ≡ n p = rw counted refl in
      let b : c.named + c.outputs ≡ m p = rw counted refl in
      let fits : n p + m p ≤ length places₀ = omega (arith, room.room, room.place_room, counted-sum c counted) in
      let fits' : n p + m p ≤ length words₀ = omega (arith, room.room, room.node_room, counted-sum c counted) in
      let ps : places ≡ placed (name_places t) places₀ =
      both-filled (place_at text 0) (place_at text (end p)) (n p) (m p) places₀ places₁ places fits
      (rw i at one.places_are)
      (rw (i, b, from) at two.places_are) ∙ ap (λ xs. placed xs places₀) (places-are p) in
      let ws : words ≡ placed (tab (word_at text 0 (n p) 0) (n p) ++ tab (word_at text (end p) (n p) (n p)) (m p)) words₀
      =
      both-filled (word_at text 0 (n p) 0) (word_at text (end p) (n p) (n p)) (n p) (m p) words₀ words₁ words fits'
      (rw i at one.words_are)
      (rw (i, b, from) at two.words_are) in
      let size : length (name_places t) ≡ n p + m p =
      length-map (declared t) (λ (d : Mention). d.place) ∙ declared-length p in
      let numbers : tab (packed_through text places) (n p + m p) ≡ packed_names t =
      tab-ext _ _ (n p + m p) (through text places (name_places t) places₀ (n p + m p) ps size)
      ∙ sym (map-places (packed_at text) (name_places t) (n p + m p) size) ∙ names-are p in
      let ns' : names ≡ placed (packed_names t) names₀ = (rw (i, b) at ns) ∙ ap (λ xs. placed xs names₀) numbers in
      record {
        table = record {
          numbers_are =
              rw ns' (take-placed (packed_names t) names₀ (length (declared t))
              (length-map (declared t) (λ (d : Mention). packed d.name)));
          places_are =
              rw ps (take-placed (name_places t) places₀ (length (declared t))
              (length-map (declared t) (λ (d : Mention). d.place)));
        };
        nodes_are =
            rw (bindings-length p, ws) (front-words (word_at text 0 (n p) 0) (word_at text (end p) (n p) (n p)) (n p) g o
            words₀ ∙ words-equal p);
      }
