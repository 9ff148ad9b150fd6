-- How large a stored block is. Cited by code that stores blocks. Assumes nothing.
--   encode-longest, whole-longest: at most `max_block` words
--   encode-small, whole-small: each is a 16-bit word
use mathlib.Core.Path.{◌≡◌, refl, subst, ◌∙◌}
use mathlib.Core.Logic.{⊎_elim}
use mathlib.Core.Bool.{Bool, true, false, ◌&&◌}
use mathlib.Core.List.{List, [], ◌∷◌, ◌++◌, map}
use Prim.Native.Nat.{ℕ, ◌+◌, ◌*◌, ◌^◌, ◌≤◌, ◌<◌}
use lib.Pow.{pow_mono}
use native.Mathlib.Omega.{arith}
use lib.ListN.{length, get_or, get_or-eq_default}
use lib.Dec.{ltb}
use borrow.Author.Tests.{ltb-true, lt-ltb}
use Rattle.prelude.specs.Lists.{all, tab, joined}
use Rattle.prelude.proofs.Tests.{and_intro, lt-or-le}
use Rattle.prelude.proofs.Quantifiers.{all-at, all_from, all_append, all-tab-from}
use Rattle.prelude.proofs.Lists.{all-joined}
use Rattle.netlist.specs.Limits.{max_inputs, max_block}
use Rattle.netlist.specs.Assignments.{Assignment, is_within, are_masks}
use Rattle.netlist.specs.Netlist.{Name, constant, Gate, Output, Block, input_count, gate_count, output_count, never_count}
use Rattle.netlist.specs.StoredBlock.{operand_words, nevers_at, gates_at, outputs_at, never_words, never_fits, name_words}
use Rattle.netlist.specs.StoredBlock.{node_word}
use Rattle.netlist.specs.Names.{is_letter, is_plain_name}
use Rattle.netlist.specs.StoredBlock.{gate_words, output_words, is_node, is_operand, gate_fits, encode, decode, is_well_formed}
use Rattle.netlist.specs.StoredBlock.{is_malformed}
use Rattle.theory_encoding.proofs.ListFacts.{and_parts, all_map, get_d_map}
use Rattle.theory_encoding.proofs.Names.{length-name_words, legal-words}
use Rattle.theory_encoding.proofs.Nodes.{node_word-small, is_node-is_operand}
use Rattle.theory_encoding.proofs.Gates.{no-operand-word, kind-small, arity-four, fits-kind, fits-arity}
use Rattle.theory_encoding.proofs.Gates.{fits-operands}
use Rattle.theory_encoding.proofs.WellFormed.{no_gate, no_never, no_output, WellFormed, well_formed-parts, few-nodes}
use Rattle.theory_encoding.proofs.Encoded.{length-encode}
use Rattle.theory_encoding.proofs.RoundTrip.{whole-encode, whole-well_formed}

-- the longest block has as many of everything as the limits allow
pub encode-longest : (b : Block) → is_well_formed b ≡ true → length (encode b) ≤ max_block
unfolding outputs_at gates_at nevers_at
encode-longest b h =
    let w = well_formed-parts b h in
    rw (length-encode b) (omega (arith, w.few_inputs, w.few_nevers, w.few_gates, w.few_outputs))

-- a 16-bit word
small : ℕ → Bool
small w = ltb w 65536

name-small : (s : Name) → is_plain_name s ≡ true → all small (name_words s) ≡ true
unfolding is_plain_name small
name-small s h = all_from small (name_words s) 0
    (λ i l. lt-ltb (get_or (name_words s) i 0) 65536 (legal-words is_letter s h i (rw (length-name_words s) at l)))

-- masks of so few inputs are small
never-small : (b : Block) (a : Assignment) → input_count b ≤ max_inputs → never_fits b a ≡ true
    → all small (never_words a) ≡ true
unfolding never_words never_fits are_masks small
never-small b a few fits =
    let n = input_count b in
    let fit = (and_parts (ltb 0 a.fixed) (are_masks n a.fixed a.ones) fits).1 in
    let masks = and_parts _ _
    (and_parts (ltb a.fixed (2 ^ n) && ltb a.ones (2 ^ n)) (is_within n a.fixed a.ones) fit).0 in
    rw (
      lt-ltb a.fixed 65536 (below (ltb-true _ _ masks.0)),
      lt-ltb a.ones 65536 (below (ltb-true _ _ masks.1)),
    )
  where
    below : {x : ℕ} → x < 2 ^ input_count b → x < 65536
    below l = let g : 2 ^ input_count b ≤ 2 ^ 16 = pow_mono {i = input_count b} {j = 16} (omega (arith, few)) in
        omega (arith, l, g)

gate-small : (b : Block) (g : Gate) → input_count b + gate_count b ≤ 65534 → gate_fits b g ≡ true
    → all small (gate_words (input_count b) g) ≡ true
unfolding gate_words small
gate-small b g few fits =
    and_intro (small (g.kind + 8 * length g.operands)) (all small (tab word operand_words))
    (lt-ltb (g.kind + 8 * length g.operands) 65536
    (omega (
      arith,
      kind-small g.kind (fits-kind b g fits),
      arity-four g.kind (length g.operands) (fits-arity b g fits),
    )))
    (all-tab-from small word operand_words (λ i l. lt-ltb (word i) 65536 (operand i)))
  where
    word : ℕ → ℕ
    word i = get_or (map (node_word (input_count b)) g.operands) i 0

    operand : (i : ℕ) → word i < 65536
    operand i =
        ⊎_elim
        (λ l. rw (get_d_map (node_word (input_count b)) g.operands i (constant false) 0 l)
        (node_word-small b (get_or g.operands i (constant false)) few
        (all-at (is_operand b) g.operands i (constant false) (fits-operands b g fits) l)))
        (λ l. rw (no-operand-word (input_count b) g.operands i l) (omega arith))
        (lt-or-le i (length g.operands))

output-small : (b : Block) (o : Output) → input_count b + gate_count b ≤ 65534 → is_plain_name o.port ≡ true
    → is_node b o.node ≡ true
    → all small (output_words (input_count b) o) ≡ true
unfolding output_words small
output-small b o few plain node =
    all_append small (name_words o.port) (node_word (input_count b) o.node ∷ [])
    ∙ and_intro (all small (name_words o.port)) (small (node_word (input_count b) o.node) && true)
    (name-small o.port plain)
    (and_intro (small (node_word (input_count b) o.node)) true
    (lt-ltb (node_word (input_count b) o.node) 65536
    (node_word-small b o.node few (is_node-is_operand b o.node node))) refl)

-- parts whose words are small
parts-small : {A : Type 0} (g : A → List ℕ) (xs : List A) (d : A)
    → ((i : ℕ) → i < length xs → all small (g (get_or xs i d)) ≡ true)
    → all small (joined (map g xs)) ≡ true
parts-small g xs d h = all-joined small (map g xs) ∙ all_map (all small) g xs ∙ all_from (λ x. all small (g x)) xs d h

all_small : (b : Block) → is_well_formed b ≡ true → all small (encode b) ≡ true
unfolding encode small
all_small b h =
    rw (
      lt-ltb (input_count b) 65536 (omega (arith, w.few_inputs)),
      lt-ltb (gate_count b) 65536 (omega (arith, w.few_gates)),
      lt-ltb (output_count b) 65536 (omega (arith, w.few_outputs)),
      lt-ltb (never_count b) 65536 (omega (arith, w.few_nevers)),
      all_append small (names ++ nevers ++ gates) outputs,
      all_append small (names ++ nevers) gates,
      all_append small names nevers,
      names-small,
      nevers-small,
      gates-small,
    )
    outputs-small
  where
    w : WellFormed b
    w = well_formed-parts b h

    names : List ℕ
    names = joined (map name_words b.inputs)

    nevers : List ℕ
    nevers = joined (map never_words b.nevers)

    gates : List ℕ
    gates = joined (map (gate_words (input_count b)) b.gates)

    outputs : List ℕ
    outputs = joined (map (output_words (input_count b)) b.outputs)

    names-small : all small names ≡ true
    names-small = parts-small name_words b.inputs []
        (λ i l. name-small (get_or b.inputs i []) (all-at is_plain_name b.inputs i [] w.input_names l))

    nevers-small : all small nevers ≡ true
    nevers-small =
        parts-small never_words b.nevers no_never
        (λ i l. never-small b (get_or b.nevers i no_never) w.few_inputs
        (all-at (never_fits b) b.nevers i no_never w.nevers_fit l))

    gates-small : all small gates ≡ true
    gates-small =
        parts-small (gate_words (input_count b)) b.gates no_gate
        (λ j l. gate-small b (get_or b.gates j no_gate) (few-nodes b w)
        (all-at (gate_fits b) b.gates j no_gate w.gates_fit l))

    outputs-small : all small outputs ≡ true
    outputs-small =
        parts-small (output_words (input_count b)) b.outputs no_output
        (λ o l. output-small b (get_or b.outputs o no_output) (few-nodes b w)
        (all-at (λ o. is_plain_name o.port) b.outputs o no_output w.port_names l)
        (all-at (λ o. is_node b o.node) b.outputs o no_output w.nodes_there l))

-- every word of a well-formed block is a 16-bit word
pub encode-small : (b : Block) → is_well_formed b ≡ true → (p : ℕ) → get_or (encode b) p 0 < 65536
unfolding small
encode-small b h p =
    ⊎_elim (λ l. ltb-true (get_or (encode b) p 0) 65536 (all-at small (encode b) p 0 (all_small b h) l))
    (λ l. rw (get_or-eq_default (encode b) 0 {n = p} l) (omega arith))
    (lt-or-le p (length (encode b)))

-- words that are not malformed are 16-bit words
pub whole-small : (ws : List ℕ) → is_malformed ws ≡ false → (p : ℕ) → get_or ws p 0 < 65536
whole-small ws h p =
    subst (λ (v : List ℕ). get_or v p 0 < 65536) (whole-encode ws h) (encode-small (decode ws) (whole-well_formed ws h) p)

pub whole-longest : (ws : List ℕ) → is_malformed ws ≡ false → length ws ≤ max_block
whole-longest ws h =
    subst (λ (v : List ℕ). length v ≤ max_block) (whole-encode ws h) (encode-longest (decode ws) (whole-well_formed ws h))
