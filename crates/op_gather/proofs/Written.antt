-- The words of a block with its gates in another order, part after part. Cited by `arranged`. Assumes nothing.
--   moved-next         a gate more is written
--   ordered-as         numbers below a count
--   table-stands       the table has the word of each gate's new number
-- arranged-written   the front as it was, the gates in the order listed, the outputs: the encoding of the arranged
-- block
use Prim.Native.Nat.{ℕ, ◌+◌, ◌*◌, ◌≤◌, ◌<◌}
use mathlib.Core.Path.{◌≡◌, refl, sym, ap, ◌∙◌}
use mathlib.Core.Bool.{true, false}
use mathlib.Core.List.{List, [], ◌∷◌, ◌++◌, map}
use native.Mathlib.Nat.{zero-add}
use native.Mathlib.Omega.{arith}
use lib.ListN.{length, get_or, take, length-append}
use lib.Seq.{sets, get_or-take, length-take-le}
use borrow.Author.Tests.{ltb-true}
use Rattle.prelude.specs.Lists.{tab, joined, placed}
use Rattle.prelude.proofs.Quantifiers.{all-at}
use Rattle.prelude.proofs.Tab.{length-tab, get_d-tab, tab-add, tab-ext, tab-get_d, map-tab, placed-tab}
use Rattle.prelude.proofs.Stores.{sets-append, sets-joined-next, length-joined-tab}
use Rattle.prelude.proofs.Slices.{sets-placed}
use Rattle.words_layout.specs.declared.nodes.Nodes.{Nodes}
use Rattle.words_layout.specs.Nodes.{nodes_of}
use Rattle.netlist.specs.Limits.{max_inputs, max_gates, max_outputs}
use Rattle.netlist.specs.Netlist.{Operand, input, gate, constant, Gate, Output, Block, gate_count, gate_of}
use Rattle.netlist.specs.StoredBlock.{nevers_at, gates_at, outputs_at, node_word, gate_words, output_words}
use Rattle.netlist.specs.StoredBlock.{encode, decode, is_malformed, is_node, is_operand, gate_fits, is_well_formed}
use Rattle.netlist.specs.Rendering.{copied_operand, copied}
use Rattle.netlist.specs.Gather.{renumbered, renumbered_gate, renumbered_output, arranged, number_at}
use Rattle.theory_encoding.proofs.Decoded.{decode-input_count, decode-gate_count, decode-output_count, decode-never_count}
use Rattle.theory_encoding.proofs.Gates.{fits-operands}
use Rattle.theory_encoding.proofs.Nodes.{is_node-is_operand}
use Rattle.theory_encoding.proofs.RoundTrip.{whole-well_formed, whole-encode}
use Rattle.theory_encoding.proofs.Readers.{whole_parts, well_formed-gate, well_formed-output}
use Rattle.theory_reach.proofs.ListFacts.{map_same}
use Rattle.unroll_emission.specs.Words.{word_from, copy_words, shown_at, Order}
use Rattle.unroll_emission.proofs.Words.{length-copy}
use Rattle.unroll_emission.proofs.Copied.{Stands}
use Rattle.unroll_emission.proofs.Written.{front-written, copy_written, outputs-written, encode-of}
use Rattle.theory_permutation.proofs.Arranged.{arranged-count, arranged-output_count}
use Rattle.theory_permutation.proofs.Words.{arranged-length}
use Rattle.op_gather.specs.Arranging.{new_word, moved_at, arrangement}

no_output : Output
no_output = record { port = []; node = constant false }

-- numbers below a count, by what the count is
pub ordered-as : {m w : ℕ} {xs : List ℕ} → m ≡ w → Order w w xs → Order m m xs
ordered-as e o = rw e o

-- ---- a gate more

length-moved_at : (ws : List ℕ) (nodes : Nodes) (order table : List ℕ) (t : ℕ)
    → length (moved_at ws nodes order table t) ≡ 5
unfolding moved_at
length-moved_at ws nodes order table t = length-copy ws nodes (get_or order t 0) table

pub moved-next : (ws : List ℕ) (nodes : Nodes) (order table entry out out' : List ℕ) (t : ℕ)
    → out ≡ sets entry nodes.start (joined (tab (moved_at ws nodes order table) t))
    → out' ≡ sets out (nodes.start + 5 * t) (copy_words ws nodes (get_or order t 0) table)
    → out' ≡ sets entry nodes.start (joined (tab (moved_at ws nodes order table) (t + 1)))
unfolding moved_at
moved-next ws nodes order table entry out out' t e h =
    sets-joined-next (moved_at ws nodes order table) 5 (length-moved_at ws nodes order table) entry out out'
    nodes.start t e h

-- ---- new numbers stand for the gates as newest copies do

-- what stands for each gate
newest : List ℕ → ℕ → List Operand
newest numbers m = tab (λ j. gate (number_at numbers j)) m

table-stands : (nodes : Nodes) (numbers entry table : List ℕ)
    → table ≡ placed (tab (new_word nodes.inputs numbers) nodes.gates) entry
    → Stands nodes table (newest numbers nodes.gates)
unfolding newest new_word node_word number_at
table-stands nodes numbers entry table is j l =
    rw (is, get_d-tab (λ j. gate (get_or numbers j 0)) nodes.gates j (constant false) l)
    (placed-tab (new_word nodes.inputs numbers) nodes.gates entry j 0 l)

module _ (b : Block) (numbers : List ℕ) where
  operand-renumbered : (o : Operand) → is_operand b o ≡ true
      → copied_operand (newest numbers (gate_count b)) o ≡ renumbered (number_at numbers) o
  unfolding copied_operand renumbered newest is_operand is_node
  operand-renumbered (input i) h = refl
  operand-renumbered (gate j) h =
      get_d-tab (λ j. gate (number_at numbers j)) (gate_count b) j (constant false) (ltb-true j (gate_count b) h)
  operand-renumbered (constant c) h = refl

  gate-renumbered : (g : Gate) → gate_fits b g ≡ true
      → copied (newest numbers (gate_count b)) g ≡ renumbered_gate (number_at numbers) g
  unfolding copied renumbered_gate
  gate-renumbered g h =
      ap (λ (os : List Operand). record { kind = g.kind; operands = os })
      (map_same (copied_operand (newest numbers (gate_count b))) (renumbered (number_at numbers)) g.operands
      (constant false)
      (λ i l. operand-renumbered (get_or g.operands i (constant false))
      (all-at (is_operand b) g.operands i (constant false) (fits-operands b g h) l)))

  output-renumbered : (o : Output) → is_node b o.node ≡ true
      → record { port = o.port; node = copied_operand (newest numbers (gate_count b)) o.node }
      ≡ renumbered_output (number_at numbers) o
  unfolding renumbered_output
  output-renumbered o h = rw (operand-renumbered o.node (is_node-is_operand b o.node h)) refl

-- ---- the parts

-- the counts, the names and the never lines
front-words : (ws : List ℕ)
    → tab (word_from ws 0) (nodes_of ws).start
    ≡ (get_or ws 0 0 ∷ get_or ws 1 0 ∷ get_or ws 2 0 ∷ get_or ws 3 0 ∷ [])
    ++ tab (word_from ws 4) (4 * get_or ws 0 0 + 2 * get_or ws 3 0)
unfolding word_from gates_at nevers_at nodes_of
front-words ws =
    let split : (nodes_of ws).start ≡ 4 + (4 * get_or ws 0 0 + 2 * get_or ws 3 0) = omega arith in
    rw split
    (tab-add (word_from ws 0) 4 (4 * get_or ws 0 0 + 2 * get_or ws 3 0)
    ∙ ap (λ (r : List ℕ). (get_or ws 0 0 ∷ get_or ws 1 0 ∷ get_or ws 2 0 ∷ get_or ws 3 0 ∷ []) ++ r)
    (tab-ext (λ i. word_from ws 0 (4 + i)) (word_from ws 4) (4 * get_or ws 0 0 + 2 * get_or ws 3 0)
    (λ i l. ap (λ (p : ℕ). get_or ws p 0) (zero-add (4 + i)))))

module _ (ws order numbers : List ℕ) (whole : is_malformed ws ≡ false) (listed : Order (get_or ws 1 0) (get_or ws 1 0) order)
    (table : List ℕ)
    (stands : Stands (nodes_of ws) table (newest numbers (get_or ws 1 0))) where
  abbrev n : ℕ
  n = get_or ws 0 0

  abbrev m : ℕ
  m = get_or ws 1 0

  fits : is_well_formed (decode ws) ≡ true
  fits = whole-well_formed ws whole

  count : gate_count (decode ws) ≡ m
  count = decode-gate_count ws

  -- the gates in the order listed
  abbrev placed_gate : ℕ → Gate
  placed_gate t = renumbered_gate (number_at numbers) (gate_of (decode ws) (get_or order t 0))

  gate-words : (t : ℕ) → t < m → moved_at ws (nodes_of ws) order table t ≡ gate_words n (placed_gate t)
  unfolding moved_at
  gate-words t l =
      let below : get_or order t 0 < m = listed.inside t l in
      copy_written ws whole table (newest numbers m) stands (get_or order t 0) below
      ∙ ap (gate_words n)
      (rw (← count)
      (gate-renumbered (decode ws) numbers (gate_of (decode ws) (get_or order t 0))
      (well_formed-gate (decode ws) fits (get_or order t 0) (rw count below))))

  listed-gates : (arrangement ws order numbers).gates ≡ tab placed_gate m
  unfolding arrangement arranged
  listed-gates =
      let all : take m order ≡ tab (λ t. get_or order t 0) m =
      sym (tab-ext (λ t. get_or order t 0) (λ t. get_or (take m order) t 0) m (λ t l. sym (get_or-take m order t 0 l))
      ∙ tab-get_d 0 (take m order) m (length-take-le m order listed.listed)) in
      rw all (map-tab (λ j. renumbered_gate (number_at numbers) (gate_of (decode ws) j)) (λ t. get_or order t 0) m)

  gates-words : joined (tab (moved_at ws (nodes_of ws) order table) m)
      ≡ joined (map (gate_words n) (arrangement ws order numbers).gates)
  gates-words =
      rw listed-gates (ap joined (tab-ext _ (λ t. gate_words n (placed_gate t)) m gate-words
      ∙ sym (map-tab (gate_words n) placed_gate m)))

  outputs-words : joined (tab (shown_at ws (nodes_of ws) table) (get_or ws 2 0))
      ≡ joined (map (output_words n) (arrangement ws order numbers).outputs)
  unfolding arrangement arranged
  outputs-words =
      outputs-written ws whole table (newest numbers m) stands
      ∙ ap (λ (os : List Output). joined (map (output_words n) os))
      (map_same _ (renumbered_output (number_at numbers)) (decode ws).outputs no_output
      (λ o l. rw (← count) (output-renumbered (decode ws) numbers (get_or (decode ws).outputs o no_output)
      (well_formed-output (decode ws) fits o no_output l))))

-- ---- all of it

-- the numbers that the code computes with are small, and the slices long enough
pub record Sizes (ws : List ℕ) (nodes : Nodes) : Type 0 where
  pub few_inputs : nodes.inputs ≤ max_inputs
  pub few_gates : nodes.gates ≤ max_gates
  pub gates_are : nodes.gates ≡ get_or ws 1 0
  pub few_outputs : get_or ws 2 0 ≤ max_outputs
  pub words : length ws ≡ nodes.start + 5 * nodes.gates + 5 * get_or ws 2 0

pub sizes : (ws : List ℕ) {nodes : Nodes} → is_malformed ws ≡ false → nodes ≡ nodes_of ws → Sizes ws nodes
unfolding outputs_at nodes_of
sizes ws whole are =
    let p = whole_parts ws whole in
    rw are (record {
      few_inputs = p.few_inputs;
      few_gates = p.few_gates;
      gates_are = refl;
      few_outputs = p.few_outputs;
      words = p.sized;
    })

module _ (ws : List ℕ) (whole : is_malformed ws ≡ false) (order numbers entry table out : List ℕ)
    (listed : Order (get_or ws 1 0) (get_or ws 1 0) order)
    (room : length ws ≤ length out) where
  -- the parts, stored one after the other
  stored : table ≡ placed (tab (new_word (nodes_of ws).inputs numbers) (nodes_of ws).gates) entry
      → sets (sets (sets out 0 (tab (word_from ws 0) (nodes_of ws).start)) (nodes_of ws).start
      (joined (tab (moved_at ws (nodes_of ws) order table) (nodes_of ws).gates)))
      ((nodes_of ws).start + 5 * (nodes_of ws).gates) (joined (tab (shown_at ws (nodes_of ws) table) (get_or ws 2 0)))
      ≡ placed (encode (arrangement ws order numbers)) out
  unfolding arrangement arranged nodes_of
  stored et =
      ap (λ (l : List ℕ). sets l (at + 5 * m) outputs)
      (sets-append front out 0 at gates (rw (length-tab (word_from ws 0) at) (omega arith)))
      ∙ sets-append (front ++ gates) out 0 (at + 5 * m) outputs
      (rw (
        length-append front gates,
        length-tab (word_from ws 0) at,
        length-joined-tab (moved_at ws (nodes_of ws) order table) 5 (length-moved_at ws (nodes_of ws) order table) m,
      )
      (omega arith))
      ∙ ap (sets out 0) (sym encoded)
      ∙ sets-placed (encode c) out (rw long room)
    where
      m : ℕ
      m = get_or ws 1 0

      at : ℕ
      at = (nodes_of ws).start

      c : Block
      c = arrangement ws order numbers

      front : List ℕ
      front = tab (word_from ws 0) at

      gates : List ℕ
      gates = joined (tab (moved_at ws (nodes_of ws) order table) m)

      outputs : List ℕ
      outputs = joined (tab (shown_at ws (nodes_of ws) table) (get_or ws 2 0))

      stands : Stands (nodes_of ws) table (newest numbers m)
      stands = table-stands (nodes_of ws) numbers entry table et

      taken : length (take m order) ≡ m
      taken = length-take-le m order listed.listed

      long : length (encode c) ≡ length ws
      long =
          arranged-length (take m order) (number_at numbers) (decode ws) (taken ∙ sym (decode-gate_count ws))
          ∙ ap {B = ℕ} length (whole-encode ws whole)

      encoded : encode c ≡ front ++ gates ++ outputs
      encoded =
          encode-of c (get_or ws 0 0) m (get_or ws 2 0) (get_or ws 3 0)
          (tab (word_from ws 4) (4 * get_or ws 0 0 + 2 * get_or ws 3 0)) gates outputs
          (decode-input_count ws) (arranged-count (take m order) (number_at numbers) (decode ws) ∙ taken)
          (arranged-output_count (take m order) (number_at numbers) (decode ws) ∙ decode-output_count ws)
          (decode-never_count ws) (front-written ws)
          (gates-words ws order numbers whole listed table stands)
          (outputs-words ws order numbers whole listed table stands)
          ∙ ap (λ (r : List ℕ). r ++ gates ++ outputs) (sym (front-words ws))

  pub arranged-written : (nodes : Nodes) (k : ℕ) (out₁ out₂ out₃ : List ℕ) → nodes ≡ nodes_of ws → k ≡ get_or ws 2 0
      → table ≡ placed (tab (new_word nodes.inputs numbers) nodes.gates) entry
      → out₁ ≡ sets out 0 (tab (word_from ws 0) nodes.start)
      → out₂ ≡ sets out₁ nodes.start (joined (tab (moved_at ws nodes order table) nodes.gates))
      → out₃ ≡ sets out₂ (nodes.start + 5 * nodes.gates) (joined (tab (shown_at ws nodes table) k))
      → out₃ ≡ placed (encode (arrangement ws order numbers)) out
  arranged-written nodes k out₁ out₂ out₃ are ek et e₁ e₂ e₃ = rw (e₃, e₂, e₁, are, ek) (stored (rw are at et))
