-- What each step of Read needs, from what the steps before it tell, and what it answers. Assumes nothing.
use mathlib.Core.Path.{◌≡◌, refl, sym, ap, ◌∙◌}
use mathlib.Core.Bool.{true}
use mathlib.Core.List.{List, map}
use mathlib.Core.Option.{Option, none, some}
use Prim.Native.Nat.{ℕ, ◌+◌, ◌-◌, ◌*◌, ◌≤◌, ◌<◌}
use native.Mathlib.Omega.{arith}
use lib.ListN.{length, get_or, take, drop, length-map, length-drop, length-take}
use lib.Seq.{sets}
use lib.Dec.{ltb}
use borrow.Author.Tests.{ltb-false}
use Rattle.prelude.specs.Lists.{joined}
use Rattle.prelude.proofs.Elements.{rest-is-drop}
use Rattle.prelude.proofs.Slices.{sets-placed, placed-room}
use Rattle.netlist.specs.Answers.{Answer}
use Rattle.std.specs.declared.result.Result.TheVariants.{Ok, Err}
use Rattle.std.specs.Result.{IsErrAnd}
use Rattle.netlist.specs.declared.Refusal.{Refusal}
use Rattle.netlist.specs.declared.Refusal.TheVariants.{OverLimit, DuplicateDeclaration, UndeclaredName, NoRoom}
use Rattle.words_refusals.specs.Tests.{Test}
use Rattle.netlist.specs.Limits.{max_text, max_inputs, max_nevers, max_gates, max_outputs}
use Rattle.netlist.specs.StoredBlock.{outputs_at, never_words, gate_words, output_words, encode}
use Rattle.netlist.specs.Syntax.{Tree, is_legal_tree}
use Rattle.netlist.specs.Reading.{gate_lines_at, output_lines_at, never_lines_at, lesser, or_else, first_repeat_in}
use Rattle.netlist.specs.Reading.{excluded_names, first_outside}
use Rattle.netlist.specs.Reading.{is_over_limit, first_duplicate, first_undeclared, block_of}
use Rattle.netlist.specs.Answers.{done, refuse_if, in_room, Promise}
use Rattle.words_refusals.specs.Tests.{test_of, test_at}
use Rattle.netlist.specs.Operations.{read}
use Rattle.theory_grammar.proofs.Places.{print-measure}
use Rattle.theory_grammar.proofs.Limits.{limits-within}
use Rattle.text_lines.specs.declared.counts.Counts.{Counts}
use Rattle.text_names.specs.Packed.{packed}
use Rattle.text_symbols.specs.Tables.{table_size}
use Rattle.text_names.specs.Index.{hashes}
use Rattle.text_lines.specs.Trees.{TextOf}
use Rattle.text_lines.specs.Counting.{tree_counts}
use Rattle.text_symbols.specs.Results.{declared, packed_names, Declared, TableRoom, Filled, declared_twice, Repeats}
use Rattle.text_symbols.specs.Results.{IndexReady}
use Rattle.text_symbols.proofs.Room.{node-room, table-room}
use Rattle.text_constraints.specs.declared.NeverLines.{NeverLines}
use Rattle.text_constraints.specs.declared.NeverTold.{NeverTold}
use Rattle.text_constraints.specs.Places.{never_lines, Told}
use Rattle.text_constraints.specs.Ready.{NeversReady}
use Rattle.text_constraints.proofs.LineWalk.{failed-first}
use Rattle.text_expressions.specs.Resolution.{first_unknown, ResolveReady, Resolved}
use Rattle.words_refusals.proofs.Promised.{IsFailed, not-err, passed_none, passed-false, failed, failed-at, passed, keeps-room}
use Rattle.words_refusals.proofs.Promised.{bare, keeps-bare, finished}
use Rattle.text_block.specs.Words.{tree_block_words, word_count, PutReady}
use Rattle.op_read.specs.Steps.{TreeText, Limited, TablesReady, TermsReady, WriteReady}
use Rattle.op_read.proofs.Outcomes.{read-tree, read-within, read-single, read_known}
use Rattle.text_expressions.proofs.BlockSize.{block-length}
use Rattle.op_read.proofs.BlockWords.{first-numbers, masks-length, gates-length, outputs-length}
use Rattle.op_read.proofs.BlockWords.{words_are}

-- ---- 3

module _ {text : List ℕ} (a : TreeText text) {lines : NeverLines}
    (stand : (t : Tree) → TextOf t text → lines ≡ never_lines t) where
  abbrev tree : Tree
  tree = a.tree

  lines_are : lines ≡ never_lines tree
  lines_are = stand tree a.is

  pub end_is : lines.end ≡ gate_lines_at tree
  unfolding never_lines
  end_is = ap (λ (l : NeverLines). l.end) lines_are

  inputs-is : lines.inputs ≡ length tree.inputs
  unfolding never_lines
  inputs-is = ap (λ (l : NeverLines). l.inputs) lines_are

  count-is : lines.count ≡ length tree.nevers
  unfolding never_lines
  count-is = ap (λ (l : NeverLines). l.count) lines_are

  -- the gate lines stand in the text
  pub end-inside : lines.end ≤ length text
  unfolding output_lines_at
  end-inside = omega (arith, end_is, print-measure tree, ap length a.is.printed)

  abbrev rest_from : List ℕ
  rest_from = take (length text - lines.end) (drop lines.end text)

  pub rest-short : length rest_from ≤ max_text
  rest-short = rw (rest-is-drop text lines.end, length-drop lines.end text) (omega (arith, a.short))

  module _ {c : Counts} (counted : (t : Tree) (text : List ℕ) → TextOf t text → lines.inputs ≡ length t.inputs
      → lines.count ≡ length t.nevers → rest_from ≡ drop (gate_lines_at t) text → c ≡ tree_counts t)
      {r : Test} (tested : (t : Tree) → c ≡ tree_counts t → r ≡ test_of (is_over_limit t) OverLimit) where
    pub counts-are : c ≡ tree_counts tree
    counts-are =
        counted tree text a.is inputs-is count-is (rest-is-drop text lines.end ∙ ap (λ k. drop k text) end_is)

    pub over : (entry : List ℕ) {why : Refusal} → r ≡ Err why → {answer : Answer} → IsErrAnd answer (λ e. e ≡ why)
        → Promise (read text (length entry)) entry answer entry
    over entry k e =
        failed (in_room _) (keeps-room _) _ _ OverLimit (read-tree tree text (length entry) a.is a.short)
        (tested tree counts-are) entry k e

    pub limited : r ≡ Ok tt → Limited tree text lines.end c
    limited e =
        record {
          is = a.is;
          short = a.short;
          within = passed-false _ OverLimit (tested tree counts-are) e;
          from = end_is;
          counted = counts-are;
        }

    pub nevers-ready : r ≡ Ok tt → NeversReady text lines
    nevers-ready e =
        let w = limits-within tree (limited e).within in
        record {
          short = a.short;
          tree = tree;
          is = a.is;
          stand = lines_are;
          few_inputs = omega (arith, inputs-is, w.inputs);
          few_lines = omega (arith, count-is, w.nevers);
        }

    pub tables-ready : r ≡ Ok tt → {masks masks' : List ℕ} {told : NeverTold}
        → ((t : Tree) → TextOf t text → lines ≡ never_lines t → Told t masks masks' told)
        → TablesReady text lines.end c told masks'
    tables-ready e {masks} told =
        record { tree = tree; limited = limited e; masks₀ = masks; nevers = told tree a.is lines_are }

-- ---- the tables and 4

lesser-none : (p q : Option ℕ) → lesser p q ≡ none → q ≡ none
unfolding lesser
lesser-none none q e = e
lesser-none (some a) none e = refl
lesser-none (some a) (some b) e = let z : ◌≡◌ {A = ℕ} 0 1 = cc in absurd (omega arith)

module _ {text : List ℕ} {end : ℕ} {c : Counts} {told : NeverTold} {masks : List ℕ}
    (a : TablesReady text end c told masks) where
  abbrev t : Tree
  t = a.tree

  abbrev l : Limited t text end c
  l = a.limited

  pub room_for : (names places nodes : List ℕ) → table_size ≤ length names → table_size ≤ length places
      → table_size ≤ length nodes
      → TableRoom c text end names places nodes
  room_for names places nodes =
      table-room l.is l.within c l.counted end l.from names places nodes l.short

  pub index-ready : (names places index : List ℕ) → table_size ≤ length names → table_size ≤ length places
      → hashes + (max_inputs + max_gates) < length index
      → ((j : ℕ) → get_or index j 0 ≡ 0) → IndexReady c names places index
  index-ready names places index n p i e =
      let r = (room_for names places names n p n).room in
      record {
        number_room = omega arith;
        place_room = omega arith;
        few = node-room t l.within c l.counted;
        index_room = i;
        empty = e;
      }

  -- 4 of the whole text
  module _ {names places nodes index : List ℕ}
      {names₀ places₀ nodes₀ : List ℕ} (d : Filled c text end names₀ places₀ nodes₀ names places nodes)
      {outside : Test} (u : Repeats c names places index outside) {r : Test}
      (earlier : (p q : Option ℕ) → told.repeat ≡ test_at p DuplicateDeclaration → outside
      ≡ test_at q DuplicateDeclaration
      → r ≡ test_at (lesser p q) DuplicateDeclaration) where
    declared-is : Declared t names places nodes
    declared-is = d.tables t l.is l.counted l.from

    outside-is : outside ≡ test_at (declared_twice t) DuplicateDeclaration
    outside-is = u.answer t l.is.legal l.counted declared-is.table

    repeat-is : r ≡ test_at (first_duplicate t) DuplicateDeclaration
    unfolding first_duplicate declared_twice
    repeat-is = earlier _ _ a.nevers.repeats outside-is

    pub twice : (entry : List ℕ) {why : Refusal} → r ≡ Err why → {answer : Answer} → IsErrAnd answer (λ e. e ≡ why)
        → Promise (read text (length entry)) entry answer entry
    twice entry k e =
        failed-at (in_room _) (keeps-room _) _ _ DuplicateDeclaration
        (read-within t text (length entry) l.is l.short l.within) repeat-is entry k e

    module _ (once : r ≡ Ok tt) where
      single : first_duplicate t ≡ none
      single = passed_none (first_duplicate t) DuplicateDeclaration repeat-is once

      outside-passed : outside ≡ Ok tt
      unfolding first_duplicate declared_twice test_at
      outside-passed =
          rw (lesser-none (first_repeat_in t.nevers (never_lines_at t)) (declared_twice t) single) at outside-is

      -- 5 in never lines
      outsider-is : IsFailed told.outside → told.outside ≡ test_at (first_undeclared t) UndeclaredName
      unfolding first_undeclared first_unknown
      outsider-is k =
          failed-first (first_outside t.inputs (excluded_names t)) (first_unknown t) UndeclaredName
          a.nevers.outsides k

      pub outsider : (entry : List ℕ) {why : Refusal} → told.outside ≡ Err why → {answer : Answer}
          → IsErrAnd answer (λ e. e ≡ why)
          → Promise (read text (length entry)) entry answer entry
      outsider entry k e =
          failed-at (in_room _) (keeps-room _) _ _ UndeclaredName
          (read-single t text (length entry) l.is l.short l.within single) (outsider-is (λ p. not-err (sym k ∙ p))) entry k e

      pub terms-ready : told.outside ≡ Ok tt → TermsReady text end c names nodes index masks
      unfolding block_of
      terms-ready e =
          record {
            tree = t;
            limited = l;
            here = record {
              is = l.is;
              from = l.from;
              counted = l.counted;
              within = l.within;
              numbers_are = declared-is.table.numbers_are;
              nodes_are = declared-is.nodes_are;
            };
            indexed = u.indexed outside-passed;
            single = single;
            inside = passed_none (first_outside t.inputs (excluded_names t)) UndeclaredName a.nevers.outsides e;
            masks₀ = a.masks₀;
            masks_written = a.nevers.words;
          }

-- ---- 5

module _ {text : List ℕ} {end : ℕ} {c : Counts} {names nodes index masks : List ℕ}
    (a : TermsReady text end c names nodes index masks) where
  pub resolve-ready : (gates outputs : List ℕ) → 5 * max_gates ≤ length gates → 5 * max_outputs ≤ length outputs
      → ResolveReady text end c names nodes gates outputs
  resolve-ready gates outputs g o = record { tree = a.tree; here = a.here; gate_room = g; output_room = o }

  -- in never lines all are inputs
  unknown-whole : first_undeclared a.tree ≡ first_unknown a.tree
  unfolding first_undeclared or_else first_unknown
  unknown-whole = rw a.inside

  module _ {gates gates' outputs outputs' : List ℕ} {r : Test}
      (d : Resolved text end c names nodes gates gates' outputs outputs' r) where
    unknown-is : r ≡ test_at (first_undeclared a.tree) UndeclaredName
    unknown-is = rw unknown-whole (d.done a.tree a.here).answer

    pub unknown : (entry : List ℕ) {why : Refusal} → r ≡ Err why → {answer : Answer} → IsErrAnd answer (λ e. e ≡ why)
        → Promise (read text (length entry)) entry answer entry
    unknown entry k e =
        let l = a.limited in
        failed-at (in_room _) (keeps-room _) _ _ UndeclaredName
        (read-single a.tree text (length entry) l.is l.short l.within a.single)
        unknown-is entry k e

    pub write-ready : r ≡ Ok tt → WriteReady text c names masks gates' outputs'
    write-ready e =
        let l = a.limited in
        let x = d.done a.tree a.here in
        record {
          tree = a.tree;
          is = l.is;
          short = l.short;
          within = l.within;
          counted = l.counted;
          numbers_are = a.here.numbers_are;
          single = a.single;
          known = passed_none (first_undeclared a.tree) UndeclaredName unknown-is e;
          masks₀ = a.masks₀;
          gates₀ = gates;
          outputs₀ = outputs;
          masks_written = a.masks_written;
          gates_written = x.gates_written;
          outputs_written = x.outputs_written;
        }

-- ---- 11 and the words

-- the table has the numbers of the inputs' names
names-room : (t : Tree) (c : Counts) (names : List ℕ) → is_legal_tree t ≡ true → c ≡ tree_counts t
    → take (length (declared t)) names ≡ packed_names t
    → c.inputs ≤ length names
unfolding tree_counts
names-room t c names legal e numbers =
    let n : c.inputs ≡ length t.inputs = ap (λ (d : Counts). d.inputs) e in
    let k = ap length (first-numbers t legal names numbers) ∙ length-map t.inputs packed in
    omega (arith, n, k, length-take (length t.inputs) names)

pub record Few (c : Counts) : Type 0 where
  pub inputs : c.inputs ≤ max_inputs
  pub nevers : c.nevers ≤ max_nevers
  pub gates : c.gates ≤ max_gates
  pub outputs : c.outputs ≤ max_outputs

module _ {text : List ℕ} {c : Counts} {names masks gates outputs : List ℕ}
    (w : WriteReady text c names masks gates outputs) where
  pub few : Few c
  unfolding tree_counts
  few =
      let l = limits-within w.tree w.within in
      record {
        inputs = rw w.counted l.inputs;
        nevers = rw w.counted l.nevers;
        gates = rw w.counted l.gates;
        outputs = rw w.counted l.outputs;
      }

  size : length (encode (block_of w.tree)) ≡ word_count c
  size = block-length w.tree c w.counted

  pub put-ready : (block : List ℕ) → word_count c ≤ length block → PutReady c names masks gates outputs block
  put-ready block r =
      let n = length w.tree.inputs in
      let b = block_of w.tree in
      record {
        few_inputs = few.inputs;
        few_nevers = few.nevers;
        few_gates = few.gates;
        few_outputs = few.outputs;
        named = names-room w.tree c names w.is.legal w.counted w.numbers_are;
        mask_room =
            rw w.masks_written (placed-room (joined (map never_words b.nevers)) w.masks₀ (masks-length w));
        gate_room =
            rw w.gates_written (placed-room (joined (map (gate_words n) b.gates)) w.gates₀ (gates-length w));
        output_room =
            rw w.outputs_written (placed-room (joined (map (output_words n) b.outputs)) w.outputs₀
            (outputs-length w));
        room = r;
      }

  -- the number of words, behind the outputs
  pub all_words : {at : ℕ} → at ≡ outputs_at c.inputs c.nevers c.gates → at + 5 * c.outputs ≡ word_count c
  unfolding word_count
  all_words e = rw e

  -- 11's condition, on the number of words
  module _ (entry : List ℕ) {count : ℕ} (all' : count ≡ word_count c) {r : Test}
      (tested : r ≡ test_of (ltb (length entry) count) NoRoom) where
    chain : read text (length entry) ≡ refuse_if (ltb (length entry) count) NoRoom
        (done (encode (block_of w.tree)) count 0)
    chain =
        read_known w.tree text (length entry) w.is w.short w.within w.single w.known
        ∙ ap (λ (n : ℕ). refuse_if (ltb (length entry) n) NoRoom (done (encode (block_of w.tree)) n 0))
        (size ∙ sym all')

    pub no_room : {why : Refusal} → r ≡ Err why → {answer : Answer} → IsErrAnd answer (λ e. e ≡ why)
        → Promise (read text (length entry)) entry answer entry
    no_room k e = failed bare keeps-bare _ _ NoRoom chain tested entry k e

    pub fits : r ≡ Ok tt → word_count c ≤ length entry
    fits e = rw (← all') (ltb-false _ _ (passed-false _ NoRoom tested e))

    pub all-written : r ≡ Ok tt → (exit : List ℕ) → exit ≡ sets entry 0 (tree_block_words c names masks gates outputs)
        → Promise (read text (length entry)) entry (Ok (record { count = count; detail = 0 })) exit
    all-written e exit x =
        finished (passed bare keeps-bare _ _ NoRoom chain tested e) refl
        (x ∙ rw (words_are w) (sets-placed (encode (block_of w.tree)) entry (rw size (fits e))))
