-- Encode and decode undo each other: on words of the right length whose unused operand words are 0, and on well-formed
-- blocks. Cited by Intact and by whoever writes or reads blocks. Assumes nothing.
--   part-words, never_words-never_at: parts read from words at a fixed distance, and a never line, have those words
--   encode-decode: on words of the right length whose unused operand words are 0
--   decode-encode, encode-whole: on well-formed blocks, whose words are not malformed
--   whole-encode, whole-well_formed: on words that are not malformed, whose block is well-formed
use mathlib.Core.Path.{◌≡◌, refl, sym, ap, ◌∙◌}
use mathlib.Core.Bool.{true, false, ◌&&◌}
use mathlib.Core.List.{List, [], ◌∷◌, ◌++◌, map}
use Prim.Native.Nat.{ℕ, ◌+◌, ◌*◌, ◌<◌}
use native.Mathlib.Nat.{add_assoc, add-zero}
use native.Mathlib.Omega.{arith}
use lib.ListN.{length, get_or}
use borrow.Author.Tests.{not-false}
use Rattle.prelude.specs.Lists.{tab, joined, same}
use Rattle.prelude.proofs.Tests.{and_left, and_right}
use Rattle.prelude.proofs.Tab.{length-tab, tab-ext, tab-get_d, map-tab, tab-add}
use Rattle.prelude.proofs.Same.{same-eq, eq-same}
use Rattle.prelude.proofs.Quantifiers.{all-at}
use Rattle.netlist.specs.Assignments.{Assignment}
use Rattle.netlist.specs.Netlist.{Name, Gate, Output, Block, input_count, gate_count, output_count, never_count, gate_of}
use Rattle.netlist.specs.StoredBlock.{name_size, never_size, gate_size, output_size, inputs_at, nevers_at, gates_at, outputs_at}
use Rattle.netlist.specs.StoredBlock.{name_words}
use Rattle.netlist.specs.Names.{is_plain_name}
use Rattle.netlist.specs.StoredBlock.{name_at, never_words, never_at, gate_words, gate_at}
use Rattle.netlist.specs.StoredBlock.{output_words, output_at, gate_fits, is_node, encode, decode, is_well_formed}
use Rattle.netlist.specs.StoredBlock.{is_malformed}
use Rattle.theory_encoding.proofs.ListFacts.{tab-is, joined-tab}
use Rattle.theory_encoding.proofs.Names.{name_words-name_at, name_at-name_words}
use Rattle.theory_encoding.proofs.Gates.{gate_words-gate_at, gate_at-gate_words, Unused}
use Rattle.theory_encoding.proofs.Outputs.{output_words-output_at, output_at-output_words}
use Rattle.theory_encoding.proofs.WellFormed.{no_gate, no_never, no_output, WellFormed, well_formed-parts, few-nodes}
use Rattle.theory_encoding.proofs.Encoded.{encode-input, encode-never, encode-gate, encode-output}

-- ---- one never line

pub never_words-never_at : (ws : List ℕ) (at : ℕ) → never_words (never_at ws at) ≡ tab (λ i. get_or ws (at + i) 0) never_size
unfolding never_words never_at
never_words-never_at ws at = rw (add-zero at)

never_at-never_words : (ws : List ℕ) (at : ℕ) (a : Assignment)
    → ((i : ℕ) → i < never_size → get_or ws (at + i) 0 ≡ get_or (never_words a) i 0) → never_at ws at ≡ a
unfolding never_words never_at
never_at-never_words ws at a h =
    λ i. record {
      fixed = (ap (λ p. get_or ws p 0) (sym (add-zero at)) ∙ h 0 (omega arith)) i;
      ones = h 1 (omega arith) i;
    }

-- ---- words, a block, and the words again

-- parts read from words at a fixed distance are those words
pub part-words : {A : Type 0} (ws : List ℕ) (g : A → List ℕ) (f : ℕ → A) (at size count : ℕ)
    → ((j : ℕ) → j < count → g (f j) ≡ tab (λ i. get_or ws (at + size * j + i) 0) size)
    → joined (map g (tab f count)) ≡ tab (λ i. get_or ws (at + i) 0) (size * count)
part-words ws g f at size count h =
    ap joined
    (map-tab g f count
    ∙ tab-ext (λ j. g (f j)) (λ j. tab (λ i. get_or ws (at + (size * j + i)) 0) size) count
    (λ j l. h j l ∙ tab-ext (λ i. get_or ws (at + size * j + i) 0) (λ i. get_or ws (at + (size * j + i)) 0) size
    (λ i k. rw (add_assoc at (size * j) i))))
    ∙ joined-tab (λ i. get_or ws (at + i) 0) size count

-- words of the right length, with the unused operand words 0, are the words of the block that they hold
pub encode-decode : (ws : List ℕ) (n m k lines : ℕ) → get_or ws 0 0 ≡ n → get_or ws 1 0 ≡ m → get_or ws 2 0 ≡ k
    → get_or ws 3 0 ≡ lines
    → length ws ≡ outputs_at n lines m + output_size * k
    → ((j : ℕ) → j < m → Unused ws (gates_at n lines + gate_size * j)) → encode (decode ws) ≡ ws
unfolding encode decode outputs_at gates_at nevers_at
encode-decode ws n m k lines en em ek el size unused =
    rw (
      en,
      em,
      ek,
      el,
      length-tab name n,
      length-tab never lines,
      length-tab the-gate m,
      length-tab output k,
      names,
      nevers,
      gates,
      outputs,
    )
    (sym whole ∙ tab-get_d 0 ws (outputs_at n lines m + output_size * k) size)
  where
    name : ℕ → Name
    name i = name_at ws (inputs_at + name_size * i)

    never : ℕ → Assignment
    never i = never_at ws (nevers_at n + never_size * i)

    the-gate : ℕ → Gate
    the-gate j = gate_at n ws (gates_at n lines + gate_size * j)

    output : ℕ → Output
    output o = output_at n ws (outputs_at n lines m + output_size * o)

    from : ℕ → ℕ → List ℕ
    from at size = tab (λ i. get_or ws (at + i) 0) size

    names : joined (map name_words (tab name n)) ≡ from inputs_at (name_size * n)
    names = part-words ws name_words name inputs_at name_size n (λ j l. name_words-name_at ws (inputs_at + name_size * j))

    nevers : joined (map never_words (tab never lines)) ≡ from (nevers_at n) (never_size * lines)
    nevers = part-words ws never_words never (nevers_at n) never_size lines
        (λ i l. never_words-never_at ws (nevers_at n + never_size * i))

    gates : joined (map (gate_words n) (tab the-gate m)) ≡ from (gates_at n lines) (gate_size * m)
    gates = part-words ws (gate_words n) the-gate (gates_at n lines) gate_size m
        (λ j l. gate_words-gate_at n ws (gates_at n lines + gate_size * j) (unused j l))

    outputs : joined (map (output_words n) (tab output k)) ≡ from (outputs_at n lines m) (output_size * k)
    outputs = part-words ws (output_words n) output (outputs_at n lines m) output_size k
        (λ o l. output_words-output_at n ws (outputs_at n lines m + output_size * o))

    whole : tab (λ i. get_or ws i 0) (outputs_at n lines m + output_size * k)
        ≡ n ∷ m ∷ k ∷ lines ∷ from inputs_at (name_size * n) ++ from (nevers_at n) (never_size * lines)
        ++ from (gates_at n lines) (gate_size * m) ++ from (outputs_at n lines m) (output_size * k)
    whole =
        let f : ℕ → ℕ = λ i. get_or ws i 0 in
        rw (
          tab-add f (outputs_at n lines m) (output_size * k),
          tab-add f (gates_at n lines) (gate_size * m),
          tab-add f (nevers_at n) (never_size * lines),
          tab-add f inputs_at (name_size * n),
          en,
          em,
          ek,
          el,
        )

-- ---- a well-formed block, its words, and the block again

-- the words of a well-formed block hold that block
pub decode-encode : (b : Block) → is_well_formed b ≡ true → decode (encode b) ≡ b
unfolding encode decode
decode-encode b h = λ i. record {
  inputs = inputs_are i;
  nevers = nevers-are i;
  gates = gates-are i;
  outputs = outputs-are i;
}
  where
    w : WellFormed b
    w = well_formed-parts b h

    n : ℕ
    n = input_count b

    m : ℕ
    m = gate_count b

    k : ℕ
    k = output_count b

    lines : ℕ
    lines = never_count b

    inputs_are : tab (λ i. name_at (encode b) (inputs_at + name_size * i)) n ≡ b.inputs
    inputs_are =
        tab-is (λ i. name_at (encode b) (inputs_at + name_size * i)) b.inputs []
        (λ i l. name_at-name_words (encode b) (inputs_at + name_size * i) (get_or b.inputs i [])
        (all-at is_plain_name b.inputs i [] w.input_names l)
        (encode-input b i [] l))

    nevers-are : tab (λ i. never_at (encode b) (nevers_at n + never_size * i)) lines ≡ b.nevers
    nevers-are =
        tab-is (λ i. never_at (encode b) (nevers_at n + never_size * i)) b.nevers no_never
        (λ i l. never_at-never_words (encode b) (nevers_at n + never_size * i) (get_or b.nevers i no_never)
        (encode-never b i no_never l))

    gates-are : tab (λ j. gate_at n (encode b) (gates_at n lines + gate_size * j)) m ≡ b.gates
    gates-are =
        tab-is (λ j. gate_at n (encode b) (gates_at n lines + gate_size * j)) b.gates no_gate
        (λ j l. gate_at-gate_words b (encode b) (gates_at n lines + gate_size * j) (gate_of b j) (few-nodes b w)
        (all-at (gate_fits b) b.gates j no_gate w.gates_fit l) (encode-gate b j l))

    outputs-are : tab (λ o. output_at n (encode b) (outputs_at n lines m + output_size * o)) k ≡ b.outputs
    outputs-are =
        tab-is (λ o. output_at n (encode b) (outputs_at n lines m + output_size * o)) b.outputs no_output
        (λ o l. output_at-output_words b (encode b) (outputs_at n lines m + output_size * o) (get_or b.outputs o no_output)
        (few-nodes b w)
        (all-at (λ o. is_plain_name o.port) b.outputs o no_output w.port_names l)
        (all-at (λ o. is_node b o.node) b.outputs o no_output w.nodes_there l)
        (encode-output b o no_output l))

-- ---- malformed

-- words that are not malformed are the words of the block that they hold
pub whole-encode : (ws : List ℕ) → is_malformed ws ≡ false → encode (decode ws) ≡ ws
unfolding is_malformed
whole-encode ws h =
    same-eq (encode (decode ws)) ws
    (and_right (is_well_formed (decode ws)) (same (encode (decode ws)) ws)
    (not-false (is_well_formed (decode ws) && same (encode (decode ws)) ws) h))

-- the block that words hold that are not malformed is well-formed
pub whole-well_formed : (ws : List ℕ) → is_malformed ws ≡ false → is_well_formed (decode ws) ≡ true
unfolding is_malformed
whole-well_formed ws h =
    and_left (is_well_formed (decode ws)) (same (encode (decode ws)) ws)
    (not-false (is_well_formed (decode ws) && same (encode (decode ws)) ws) h)

-- the words of a well-formed block are not malformed
pub encode-whole : (b : Block) → is_well_formed b ≡ true → is_malformed (encode b) ≡ false
unfolding is_malformed
encode-whole b h = rw (decode-encode b h, h, eq-same (encode b) (encode b) refl)
