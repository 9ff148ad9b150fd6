-- What is written, part after part, is the encoding of the rendering. Cited by `write_rendering`; the laws of single
-- parts also by `op_gather`.
-- Assumes nothing.
use Prim.Native.Nat.{ℕ, zero, suc, ◌+◌, ◌-◌, ◌*◌, ◌≤◌, ◌<◌}
use mathlib.Core.Path.{◌≡◌, refl, sym, ap, ap₂, ◌∙◌}
use mathlib.Core.Bool.{false}
use mathlib.Core.List.{List, [], ◌∷◌, ◌++◌, map, map-append}
use native.Mathlib.Nat.{zero-add, add_assoc}
use native.Mathlib.Omega.{arith}
use lib.ListN.{length, get_or, set, take, drop, replicate, length-take, length-append, length-replicate}
use lib.Seq.{sets, take-suc, take-length, length-take-le, get_or-take}
use Rattle.prelude.specs.Lists.{tab, joined, placed}
use Rattle.prelude.proofs.Tab.{tab-ext, tab-add, map-tab, length-tab}
use Rattle.prelude.proofs.Lists.{joined_snoc}
use Rattle.prelude.proofs.Stores.{sets-append, length-joined-tab}
use Rattle.prelude.proofs.Slices.{sets-placed}
use Rattle.words_layout.specs.declared.nodes.Nodes.{Nodes}
use Rattle.words_layout.specs.Nodes.{nodes_of}
use Rattle.netlist.specs.Limits.{max_inputs, max_nevers, max_gates, max_outputs}
use Rattle.netlist.specs.Netlist.{Operand, gate, constant, Gate, Output, Block, input_count, gate_count, output_count}
use Rattle.netlist.specs.Netlist.{never_count, gate_of}
use Rattle.netlist.specs.StoredBlock.{gate_size, output_size, nevers_at, gates_at, outputs_at, name_words, name_at, never_words}
use Rattle.netlist.specs.StoredBlock.{never_at, node_word}
use Rattle.netlist.specs.StoredBlock.{gate_words, output_words, output_at, encode, decode, is_malformed}
use Rattle.netlist.specs.Rendering.{schedule, no_copies, copied_operand, copied, copies, newest_after, last_copies}
use Rattle.netlist.specs.Rendering.{rendering}
use Rattle.theory_encoding.proofs.Names.{name_words-name_at}
use Rattle.theory_encoding.proofs.Decoded.{decode-input_count, decode-gate_count, decode-output_count, decode-never_count}
use Rattle.theory_encoding.proofs.Decoded.{decode-gate}
use Rattle.theory_encoding.proofs.Encoded.{length-encode}
use Rattle.theory_encoding.proofs.RoundTrip.{part-words, never_words-never_at}
use Rattle.theory_encoding.proofs.Readers.{whole_parts, whole-gate, whole-node}
use Rattle.theory_unrolling.proofs.Copies.{length-no_copies, length-newest_after, newest_after-snoc, copies-snoc}
use Rattle.theory_unrolling.proofs.Schedule.{schedule-below}
use Rattle.theory_unrolling.proofs.Block.{rendering-inputs, rendering-nevers, length-schedule-is}
use Rattle.theory_unrolling.proofs.Block.{length-rendering-outputs}
use Rattle.unroll_emission.specs.Words.{word_from, table_after, copy_words, copy_at, shown_at, Order, CopyReady}
use Rattle.unroll_emission.proofs.Words.{length-table_after, length-copy_at}
use Rattle.unroll_emission.proofs.Copied.{Stands, copy-words, shown-words, stands-none, stands_set}

-- The words of the input names and of the never lines are copied as they are.
pub front-written : (ws : List ℕ)
    → tab (word_from ws 4) (4 * get_or ws 0 0 + 2 * get_or ws 3 0)
    ≡ joined (map name_words (decode ws).inputs) ++ joined (map never_words (decode ws).nevers)
unfolding word_from decode nevers_at
front-written ws =
    tab-add (word_from ws 4) (4 * n) (2 * lines)
    ∙ ap₂ {C = List ℕ} (λ (xs ys : List ℕ). xs ++ ys)
    (sym (part-words ws name_words (λ i. name_at ws (4 + 4 * i)) 4 4 n (λ j l. name_words-name_at ws (4 + 4 * j))))
    (tab-ext (λ i. word_from ws 4 (4 * n + i)) (λ i. get_or ws (4 + 4 * n + i) 0) (2 * lines)
    (λ i l. ap (λ (p : ℕ). get_or ws p 0) (sym (add_assoc 4 (4 * n) i)))
    ∙ sym
    (part-words ws never_words (λ i. never_at ws (nevers_at n + 2 * i)) (nevers_at n) 2 lines
    (λ j l. never_words-never_at ws (nevers_at n + 2 * j))))
  where
    n : ℕ
    n = get_or ws 0 0

    lines : ℕ
    lines = get_or ws 3 0

module _ (ws : List ℕ) (whole : is_malformed ws ≡ false) where
  abbrev n : ℕ
  n = get_or ws 0 0

  abbrev m : ℕ
  m = get_or ws 1 0

  abbrev k : ℕ
  k = get_or ws 2 0

  -- where the first output stands
  abbrev outputs-at : ℕ
  outputs-at = outputs_at n (get_or ws 3 0) m

  pub few : (nodes_of ws).inputs + (nodes_of ws).gates ≤ 65534
  unfolding nodes_of
  few = let parts = whole_parts ws whole in omega (arith, parts.few_inputs, parts.few_gates)

  -- The words of a copy of gate j.
  pub copy_written : (table : List ℕ) (newest : List Operand) → Stands (nodes_of ws) table newest → (j : ℕ) → j < m
      → copy_words ws (nodes_of ws) j table ≡ gate_words n (copied newest (gate_of (decode ws) j))
  unfolding copy_words nodes_of
  copy_written table newest stands j l =
      copy-words (nodes_of ws) few table newest stands ws (gates_at n (get_or ws 3 0) + gate_size * j)
      (whole-gate ws whole j l)
      ∙ ap (λ (g : Gate). gate_words n (copied newest g)) (sym (decode-gate ws j l))

  -- ---- the outputs

  -- an output that shows what stands for its node
  abbrev shown : List Operand → Output → Output
  shown newest o = record { port = o.port; node = copied_operand newest o.node }

  outputs-of : (decode ws).outputs ≡ tab (λ o. output_at n ws (outputs-at + output_size * o)) k
  unfolding decode
  outputs-of = refl

  pub outputs-written : (table : List ℕ) (newest : List Operand) → Stands (nodes_of ws) table newest
      → joined (tab (shown_at ws (nodes_of ws) table) k)
      ≡ joined (map (output_words n) (map (λ (o : Output). record
      { port = o.port; node = copied_operand newest o.node }) (decode ws).outputs))
  unfolding output_at shown_at outputs_at nodes_of
  outputs-written table newest stands =
      ap joined
      (tab-ext (shown_at ws (nodes_of ws) table)
      (λ o. output_words n (shown newest (output_at n ws (outputs-at + output_size * o)))) k
      (λ o l. shown-words (nodes_of ws) few table newest stands ws (outputs-at + output_size * o)
      (whole-node ws whole o l)))
      ∙ sym
      (ap (λ (os : List Output). joined (map (output_words n) (map (shown newest) os))) outputs-of
      ∙ ap joined
      (ap (map (output_words n)) (map-tab (shown newest) (λ o. output_at n ws (outputs-at + output_size * o)) k)
      ∙ map-tab (output_words n) (λ o. shown newest (output_at n ws (outputs-at + output_size * o))) k))

  -- ---- the copies

  module _ (order : List ℕ) (total : ℕ) (total_is : total ≡ length (schedule (decode ws)))
      (taken : take total order ≡ schedule (decode ws)) where
    scheduled : (t : ℕ) → t < total → get_or order t 0 ≡ get_or (schedule (decode ws)) t 0
    scheduled t l = sym (get_or-take total order t 0 l) ∙ ap (λ (js : List ℕ). get_or js t 0) taken

    pub ordered-below : (t : ℕ) → t < total → get_or order t 0 < m
    ordered-below t l = rw (scheduled t l, ← decode-gate_count ws) (schedule-below (decode ws) t (rw (← total_is) l))

    newest : ℕ → List Operand
    newest t = newest_after (no_copies (decode ws)) 0 (take t (schedule (decode ws)))

    take_next : (t : ℕ) → t < total → take (suc t) (schedule (decode ws))
        ≡ take t (schedule (decode ws)) ++ (get_or order t 0 ∷ [])
    take_next t l = rw (scheduled t l) (take-suc (schedule (decode ws)) t 0 (rw (← total_is) l))

    newest-next : (t : ℕ) → t < total → newest (suc t) ≡ set (newest t) (get_or order t 0) (gate t)
    unfolding newest
    newest-next t l =
        rw (take_next t l)
        (newest_after-snoc (no_copies (decode ws)) 0 (take t (schedule (decode ws))) (get_or order t 0)
        ∙ ap (λ (u : ℕ). set (newest t) (get_or order t 0) (gate u))
        (zero-add (length (take t (schedule (decode ws))))
        ∙ length-take-le t (schedule (decode ws)) (rw (← total_is) (omega arith))))

    length-newest : (t : ℕ) → length (newest t) ≡ m
    unfolding newest
    length-newest t =
        length-newest_after (no_copies (decode ws)) 0 (take t (schedule (decode ws))) ∙ length-no_copies (decode ws)
        ∙ decode-gate_count ws

    all-taken : take total (schedule (decode ws)) ≡ schedule (decode ws)
    all-taken = rw total_is (take-length (schedule (decode ws)))

    module _ (table : List ℕ) (long : m ≤ length table) (none : Stands (nodes_of ws) table (no_copies (decode ws))) where
      -- After t copies the table is that of the definition.
      stands_after : (t : ℕ) → t ≤ total → Stands (nodes_of ws) (table_after n order table t) (newest t)
      unfolding table_after newest newest_after nodes_of
      stands_after zero l = none
      stands_after (suc t) l =
          rw (newest-next t l)
          (stands_set (nodes_of ws) (table_after n order table t) (newest t) (get_or order t 0) t
          (rw (length-table_after n order table t) (omega (arith, ordered-below t l)))
          (rw (length-newest t) (ordered-below t l))
          (stands_after t (omega arith)))

      copies-written : (t : ℕ) → t ≤ total
          → joined (tab (copy_at ws (nodes_of ws) order table) t)
          ≡ joined (map (gate_words n) (copies (decode ws) (no_copies (decode ws)) 0 (take t (schedule (decode ws)))))
      unfolding copy_at newest copies nodes_of
      copies-written zero l = refl
      copies-written (suc t) l =
          joined_snoc (tab (copy_at ws (nodes_of ws) order table) t) (copy_at ws (nodes_of ws) order table t)
          ∙ ap₂ {C = List ℕ} (λ (xs ys : List ℕ). xs ++ ys) (copies-written t (omega arith))
          (copy_written (table_after n order table t) (newest t) (stands_after t (omega arith)) (get_or order t 0)
          (ordered-below t l))
          ∙ sym
          (rw (
            take_next t l,
            copies-snoc (decode ws) (no_copies (decode ws)) 0 (take t (schedule (decode ws)))
                (get_or order t 0),
            map-append (gate_words n),
          )
          (joined_snoc (map (gate_words n) (copies (decode ws) (no_copies (decode ws)) 0 (take t (schedule (decode ws)))))
          (gate_words n (copied (newest t) (gate_of (decode ws) (get_or order t 0))))))

      -- All copies: the gates of the rendering, and the table of the last copies.
      gates-written : joined (tab (copy_at ws (nodes_of ws) order table) total)
          ≡ joined (map (gate_words n) (rendering (decode ws)).gates)
      unfolding rendering
      gates-written =
          copies-written total (omega arith)
          ∙ ap (λ (js : List ℕ). joined (map (gate_words n) (copies (decode ws) (no_copies (decode ws)) 0 js))) all-taken

      stands-last : Stands (nodes_of ws) (table_after n order table total) (last_copies (decode ws))
      unfolding last_copies newest nodes_of
      stands-last j l =
          stands_after total (omega arith) j l
          ∙ ap (λ (js : List ℕ). node_word n (get_or (newest_after (no_copies (decode ws)) 0 js) j (constant false)))
          all-taken

-- The five parts of a block's words.
pub encode-of : (b : Block) (n t k lines : ℕ) (front gates outputs : List ℕ)
    → input_count b ≡ n → gate_count b ≡ t → output_count b ≡ k → never_count b ≡ lines
    → front ≡ joined (map name_words b.inputs) ++ joined (map never_words b.nevers)
    → gates ≡ joined (map (gate_words n) b.gates) → outputs ≡ joined (map (output_words n) b.outputs)
    → encode b ≡ (n ∷ t ∷ k ∷ lines ∷ []) ++ front ++ gates ++ outputs
unfolding encode
encode-of b n t k lines front gates outputs en et ek el ef eg eo = rw (ef, eg, eo, ← en, ← et, ← ek, ← el) refl

-- Lists stored one after the other, from the start.
four-sets : (entry a b c d : List ℕ) (i j k : ℕ) → i ≡ length a → j ≡ i + length b → k ≡ j + length c
    → sets (sets (sets (sets entry 0 a) i b) j c) k d ≡ sets entry 0 (a ++ b ++ c ++ d)
four-sets entry a b c d i j k ei ej ek =
    ap (λ (l : List ℕ). sets (sets l j c) k d) (sets-append a entry 0 i b (omega arith))
    ∙ ap (λ (l : List ℕ). sets l k d) (sets-append (a ++ b) entry 0 j c (rw (length-append a b) (omega arith)))
    ∙ sets-append (a ++ b ++ c) entry 0 k d (rw (length-append (a ++ b) c, length-append a b) (omega arith))

-- The numbers that the code computes with are small, and the slices long enough.
pub record Sizes (ws : List ℕ) (nodes : Nodes) (total : ℕ) (out : List ℕ) : Type 0 where
  pub few_inputs : nodes.inputs ≤ max_inputs
  pub few_gates : nodes.gates ≤ max_gates
  pub gates_are : nodes.gates ≡ get_or ws 1 0
  pub few_outputs : get_or ws 2 0 ≤ max_outputs
  pub few_nevers : get_or ws 3 0 ≤ max_nevers
  pub near : nodes.start ≡ 4 + 4 * nodes.inputs + 2 * get_or ws 3 0
  pub words : length ws ≡ nodes.start + 5 * nodes.gates + 5 * get_or ws 2 0
  pub room : nodes.start + 5 * total + 5 * get_or ws 2 0 ≤ length out

module _ (ws order : List ℕ) (total : ℕ) (newest out : List ℕ) (r : CopyReady ws order total newest out) where
  counts : (input_count (rendering (decode ws)) ≡ get_or ws 0 0) × (gate_count (rendering (decode ws)) ≡ total)
      × (output_count (rendering (decode ws)) ≡ get_or ws 2 0) × (never_count (rendering (decode ws)) ≡ get_or ws 3 0)
  counts = (
    ap {B = ℕ} length (rendering-inputs (decode ws)) ∙ decode-input_count ws,
    sym (length-schedule-is (decode ws)) ∙ sym r.total_is,
    length-rendering-outputs (decode ws) ∙ decode-output_count ws,
    ap {B = ℕ} length (rendering-nevers (decode ws)) ∙ decode-never_count ws,
  )

  sizes-of : Sizes ws (nodes_of ws) total out
  unfolding outputs_at gates_at nevers_at nodes_of
  sizes-of =
      let p = whole_parts ws r.whole in
      record {
        few_inputs = p.few_inputs;
        few_gates = p.few_gates;
        gates_are = refl;
        few_outputs = p.few_outputs;
        few_nevers = p.few_nevers;
        near = refl;
        words = p.sized;
        room = rw (length-encode (rendering (decode ws)), counts.0, counts.1, counts.2, counts.3) at r.room;
      }

  pub sizes : {nodes : Nodes} → nodes ≡ nodes_of ws → Sizes ws nodes total out
  sizes are = rw are sizes-of

  pub ordered : {nodes : Nodes} → nodes ≡ nodes_of ws → Order nodes.gates total order
  unfolding nodes_of
  ordered are =
      rw are
      (record {
        listed = omega (arith, sym (length-take total order) ∙ ap {B = ℕ} length r.scheduled ∙ sym r.total_is);
        inside = ordered-below ws r.whole order total r.total_is r.scheduled;
      })

  -- the parts, stored one after the other
  stored : (lines : ℕ) (table last : List ℕ) → lines ≡ get_or ws 3 0
      → table ≡ placed (replicate (nodes_of ws).gates 65534) newest
      → last ≡ table_after (nodes_of ws).inputs order table total
      → sets (sets (sets (sets out 0 ((nodes_of ws).inputs ∷ total ∷ get_or ws 2 0 ∷ lines ∷ [])) 4
      (tab (word_from ws 4) ((nodes_of ws).start - 4)))
      (nodes_of ws).start (joined (tab (copy_at ws (nodes_of ws) order table) total)))
      ((nodes_of ws).start + 5 * total) (joined (tab (shown_at ws (nodes_of ws) last) (get_or ws 2 0)))
      ≡ placed (encode (rendering (decode ws))) out
  unfolding outputs_at no_copies rendering nodes_of
  stored lines table last en et el =
      four-sets out (n ∷ total ∷ k ∷ lines ∷ []) front gates outputs 4 at (at + 5 * total) refl
      (rw (length-tab (word_from ws 4) (at - 4)) (omega (arith, sizes-of.near)))
      (ap (λ (p : ℕ). at + p) (sym (length-joined-tab (copy_at ws (nodes_of ws) order table) 5
      (length-copy_at ws (nodes_of ws) order table) total)))
      ∙ ap (sets out 0) (sym encoded)
      ∙ sets-placed (encode (rendering (decode ws))) out r.room
    where
      n : ℕ
      n = get_or ws 0 0

      m : ℕ
      m = get_or ws 1 0

      k : ℕ
      k = get_or ws 2 0

      at : ℕ
      at = (nodes_of ws).start

      front : List ℕ
      front = tab (word_from ws 4) (at - 4)

      front-is : at - 4 ≡ 4 * get_or ws 0 0 + 2 * get_or ws 3 0
      front-is = omega (arith, sizes-of.near)

      gates : List ℕ
      gates = joined (tab (copy_at ws (nodes_of ws) order table) total)

      outputs : List ℕ
      outputs = joined (tab (shown_at ws (nodes_of ws) last) k)

      long : m ≤ length table
      long =
          rw (
            et,
            length-append (replicate {A = ℕ} m 65534) (drop (length (replicate {A = ℕ} m 65534)) newest),
            length-replicate {A = ℕ} m 65534,
          ) (omega arith)

      none : Stands (nodes_of ws) table (no_copies (decode ws))
      none = rw et (stands-none (nodes_of ws) newest (gate_count (decode ws)) (decode-gate_count ws))

      encoded : encode (rendering (decode ws)) ≡ (n ∷ total ∷ k ∷ lines ∷ []) ++ front ++ gates ++ outputs
      encoded =
          encode-of (rendering (decode ws)) n total k lines front gates outputs counts.0 counts.1 counts.2
          (counts.3 ∙ sym en)
          (rw (rendering-inputs (decode ws), rendering-nevers (decode ws))
          (ap (tab (word_from ws 4)) front-is ∙ front-written ws))
          (gates-written ws r.whole order total r.total_is r.scheduled table long none)
          (outputs-written ws r.whole last (last_copies (decode ws))
          (rw el (stands-last ws r.whole order total r.total_is r.scheduled table long none)))

  pub rendering-written : (nodes : Nodes) (k lines : ℕ) (table out₁ out₂ out₃ last out₄ : List ℕ) → nodes ≡ nodes_of ws
      → k ≡ get_or ws 2 0
      → lines ≡ get_or ws 3 0 → out₁ ≡ sets out 0 (nodes.inputs ∷ total ∷ k ∷ lines ∷ [])
      → out₂ ≡ sets out₁ 4 (tab (word_from ws 4) (nodes.start - 4))
      → table ≡ placed (replicate nodes.gates 65534) newest
      → out₃ ≡ sets out₂ nodes.start (joined (tab (copy_at ws nodes order table) total))
      → last ≡ table_after nodes.inputs order table total
      → out₄ ≡ sets out₃ (nodes.start + 5 * total) (joined (tab (shown_at ws nodes last) k))
      → out₄ ≡ placed (encode (rendering (decode ws))) out
  rendering-written nodes k lines table out₁ out₂ out₃ last out₄ are ek en e₁ e₂ et e₃ el e₄ =
      rw (e₄, e₃, e₂, e₁, are, ek) (stored lines table last en (rw are at et) (rw are at el))
