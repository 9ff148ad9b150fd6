-- A block with its gates in another order, gate by gate and node by node: its counts, its gates, that it is
-- well-formed, and that it is undone.
--   arranged-*              its counts, its gate t
--   renumbered-*            operands renumbered twice, or not at all
--   arranged-ext            only the numbers of gates that are there matter
--   arranged-well_formed     it is well-formed
--   arranged-back           arranged once more, the other way round, it is the block
--   arranged-itself         in the order that they have, the gates stay
-- Assumes nothing.
use Prim.Native.Nat.{ℕ, ◌<◌}
use mathlib.Core.Path.{◌≡◌, refl, sym, ap, ◌∙◌}
use mathlib.Core.Bool.{true, false}
use mathlib.Core.List.{List, [], map, map-map, map-id}
use lib.ListN.{length, get_or, length-map}
use lib.Seq.{ext_get_or}
use borrow.Author.Tests.{ltb-true, lt-ltb}
use Rattle.prelude.proofs.Quantifiers.{all-at, all_from}
use Rattle.netlist.specs.Netlist.{Operand, input, gate, constant, Gate, Output, Block, gate_count, output_count, gate_of}
use Rattle.netlist.specs.StoredBlock.{is_node, is_operand, gate_fits, is_well_formed}
use Rattle.netlist.specs.Gather.{renumbered, renumbered_gate, renumbered_output, arranged, number_at}
use Rattle.theory_encoding.proofs.ListFacts.{get_d_map, all_map}
use Rattle.theory_encoding.proofs.Gates.{fits-kind, fits-arity, fits-operands, fits-from}
use Rattle.theory_encoding.proofs.Nodes.{is_node-is_operand}
use Rattle.theory_encoding.proofs.WellFormed.{well_formed-parts, well_formed-interface}
use Rattle.theory_encoding.proofs.Readers.{well_formed-gate, well_formed-output}
use Rattle.theory_reach.proofs.ListFacts.{map_same}
use Rattle.theory_permutation.specs.Renumbering.{Renumbers}

-- ---- operands, gates and outputs under two numberings

-- two ways of numbering gates agree on those that are there
abbrev pub Agree : ℕ → (ℕ → ℕ) → (ℕ → ℕ) → Type 0
Agree m f g = (j : ℕ) → j < m → f j ≡ g j

module _ (b : Block) (f g : ℕ → ℕ) (agree : Agree (gate_count b) f g) where
  operand-agree : (o : Operand) → is_operand b o ≡ true → renumbered f o ≡ renumbered g o
  unfolding renumbered is_operand is_node
  operand-agree (input i) h = refl
  operand-agree (gate j) h = ap gate (agree j (ltb-true j (gate_count b) h))
  operand-agree (constant c) h = refl

  gate-agree : (a : Gate) → gate_fits b a ≡ true → renumbered_gate f a ≡ renumbered_gate g a
  unfolding renumbered_gate
  gate-agree a h =
      rw (map_same (renumbered f) (renumbered g) a.operands (constant false)
      (λ i l. operand-agree (get_or a.operands i (constant false))
      (all-at (is_operand b) a.operands i (constant false) (fits-operands b a h) l)))
      refl

  output-agree : (o : Output) → is_node b o.node ≡ true → renumbered_output f o ≡ renumbered_output g o
  unfolding renumbered_output
  output-agree o h = rw (operand-agree o.node (is_node-is_operand b o.node h)) refl

module _ (f g : ℕ → ℕ) where
  operand-twice : (o : Operand) → renumbered f (renumbered g o) ≡ renumbered (λ j. f (g j)) o
  unfolding renumbered
  operand-twice (input i) = refl
  operand-twice (gate j) = refl
  operand-twice (constant c) = refl

  gate-twice : (a : Gate) → renumbered_gate f (renumbered_gate g a) ≡ renumbered_gate (λ j. f (g j)) a
  unfolding renumbered_gate
  gate-twice a =
      ap (λ (os : List Operand). record { kind = a.kind; operands = os })
      (map-map (renumbered f) (renumbered g) a.operands
      ∙ map_same _ _ a.operands (constant false) (λ i l. operand-twice (get_or a.operands i (constant false))))

  output-twice : (o : Output) → renumbered_output f (renumbered_output g o) ≡ renumbered_output (λ j. f (g j)) o
  unfolding renumbered_output
  output-twice o = rw (operand-twice o.node) refl

operand-kept : (o : Operand) → renumbered (λ j. j) o ≡ o
unfolding renumbered
operand-kept (input i) = refl
operand-kept (gate j) = refl
operand-kept (constant c) = refl

gate-kept : (a : Gate) → renumbered_gate (λ j. j) a ≡ a
unfolding renumbered_gate
gate-kept a =
    ap (λ (os : List Operand). record { kind = a.kind; operands = os })
    (map_same (renumbered (λ j. j)) (λ o. o) a.operands (constant false)
    (λ i l. operand-kept (get_or a.operands i (constant false)))
    ∙ map-id a.operands)

output-kept : (o : Output) → renumbered_output (λ j. j) o ≡ o
unfolding renumbered_output
output-kept o = rw (operand-kept o.node) refl

-- ---- the arranged block

no_output : Output
no_output = record { port = []; node = constant false }

module _ (order : List ℕ) (number : ℕ → ℕ) (b : Block) where
  pub arranged-inputs : (arranged order number b).inputs ≡ b.inputs
  unfolding arranged
  arranged-inputs = refl

  pub arranged-nevers : (arranged order number b).nevers ≡ b.nevers
  unfolding arranged
  arranged-nevers = refl

  pub arranged-count : gate_count (arranged order number b) ≡ length order
  unfolding arranged
  arranged-count = length-map order (λ j. renumbered_gate number (gate_of b j))

  pub arranged-output_count : output_count (arranged order number b) ≡ output_count b
  unfolding arranged
  arranged-output_count = length-map b.outputs (renumbered_output number)

  pub arranged-gate : (t : ℕ) → t < length order
      → gate_of (arranged order number b) t ≡ renumbered_gate number (gate_of b (number_at order t))
  unfolding arranged number_at
  arranged-gate t l = get_d_map (λ j. renumbered_gate number (gate_of b j)) order t 0 _ l

  pub arranged-output : (o : ℕ) (d e : Output) → o < output_count b
      → get_or (arranged order number b).outputs o d ≡ renumbered_output number (get_or b.outputs o e)
  unfolding arranged
  arranged-output o d e l = get_d_map (renumbered_output number) b.outputs o e d l

  pub arranged-ports : map (λ (o : Output). o.port) (arranged order number b).outputs
      ≡ map (λ (o : Output). o.port) b.outputs
  unfolding arranged renumbered_output
  arranged-ports = map-map (λ (o : Output). o.port) (renumbered_output number) b.outputs

-- a block is its parts, gate by gate and output by output
same_parts : (c b : Block) → c.inputs ≡ b.inputs → c.nevers ≡ b.nevers → c.gates ≡ b.gates
    → c.outputs ≡ b.outputs → c ≡ b
same_parts c b ei en eg eo =
    let parts : record { inputs = c.inputs; nevers = c.nevers; gates = c.gates; outputs = c.outputs } ≡ b =
    rw (ei, en, eg, eo) refl in parts

same_block : (c b : Block) → c.inputs ≡ b.inputs → c.nevers ≡ b.nevers → gate_count c ≡ gate_count b
    → output_count c ≡ output_count b
    → ((j : ℕ) → j < gate_count b → gate_of c j ≡ gate_of b j)
    → ((o : ℕ) → o < output_count b → get_or c.outputs o no_output ≡ get_or b.outputs o no_output)
    → c ≡ b
same_block c b ei en count outputs gates shown =
    same_parts c b ei en (ext_get_or _ c.gates b.gates count (λ i l. gates i (rw (← count) l)))
    (ext_get_or no_output c.outputs b.outputs outputs (λ i l. shown i (rw (← outputs) l)))

module _ (b : Block) (fits : is_well_formed b ≡ true) where
  node-there : (o : ℕ) → o < output_count b → is_node b (get_or b.outputs o no_output).node ≡ true
  node-there o l = well_formed-output b fits o no_output l

  -- only the numbers of gates that are there matter
  pub arranged-ext : (order : List ℕ) (f g : ℕ → ℕ) → ((t : ℕ) → t < length order → number_at order t < gate_count b)
      → Agree (gate_count b) f g
      → arranged order f b ≡ arranged order g b
  arranged-ext order f g below agree =
      same_block (arranged order f b) (arranged order g b) (arranged-inputs order f b ∙ sym (arranged-inputs order g b))
      (arranged-nevers order f b ∙ sym (arranged-nevers order g b))
      (arranged-count order f b ∙ sym (arranged-count order g b))
      (arranged-output_count order f b ∙ sym (arranged-output_count order g b))
      (λ t l. let l' : t < length order = rw (arranged-count order g b) at l in
      arranged-gate order f b t l'
      ∙ gate-agree b f g agree (gate_of b (number_at order t)) (well_formed-gate b fits (number_at order t) (below t l'))
      ∙ sym (arranged-gate order g b t l'))
      (λ o l. let l' : o < output_count b = rw (arranged-output_count order g b) at l in
      arranged-output order f b o no_output no_output l'
      ∙ output-agree b f g agree (get_or b.outputs o no_output) (node-there o l')
      ∙ sym (arranged-output order g b o no_output no_output l'))

  -- gates that keep their place and number stay
  pub arranged-itself : (order : List ℕ) (number : ℕ → ℕ) → length order ≡ gate_count b
      → ((t : ℕ) → t < gate_count b → number_at order t ≡ t) → Agree (gate_count b) number (λ j. j)
      → arranged order number b ≡ b
  arranged-itself order number long old new =
      same_block (arranged order number b) b (arranged-inputs order number b) (arranged-nevers order number b)
      (arranged-count order number b ∙ long) (arranged-output_count order number b)
      (λ t l.
      arranged-gate order number b t (rw long l)
      ∙ rw (old t l) (gate-agree b number (λ j. j) new (gate_of b t) (well_formed-gate b fits t l)
      ∙ gate-kept (gate_of b t)))
      (λ o l.
      arranged-output order number b o no_output no_output l
      ∙ output-agree b number (λ j. j) new (get_or b.outputs o no_output) (node-there o l)
      ∙ output-kept (get_or b.outputs o no_output))

  module _ (order : List ℕ) (number : ℕ → ℕ) (r : Renumbers (gate_count b) order number) where
    -- ---- undone

    module _ (order' : List ℕ) (number' : ℕ → ℕ) (long : length order' ≡ gate_count b)
        (places : Agree (gate_count b) (number_at order') number)
        (undone : Agree (gate_count b) (λ j. number' (number j)) (λ j. j)) where
      -- arranged the other way round, it is the block, every part of it
      pub arranged-back : arranged order' number' (arranged order number b) ≡ b
      arranged-back =
          same_block (arranged order' number' c) b (arranged-inputs order' number' c ∙ arranged-inputs order number b)
          (arranged-nevers order' number' c ∙ arranged-nevers order number b)
          (arranged-count order' number' c ∙ long)
          (arranged-output_count order' number' c ∙ arranged-output_count order number b) gate-back output-back
        where
          c : Block
          c = arranged order number b

          gate-back : (j : ℕ) → j < gate_count b → gate_of (arranged order' number' c) j ≡ gate_of b j
          gate-back j l =
              arranged-gate order' number' c j (rw long l)
              ∙ ap (λ (i : ℕ). renumbered_gate number' (gate_of c i)) (places j l)
              ∙ ap (renumbered_gate number')
              (arranged-gate order number b (number j) (rw r.length_is (r.new_below j l)))
              ∙ gate-twice number' number (gate_of b (number_at order (number j)))
              ∙ rw (r.old_of_new j l)
              (gate-agree b (λ j. number' (number j)) (λ j. j) undone (gate_of b j) (well_formed-gate b fits j l)
              ∙ gate-kept (gate_of b j))

          output-back : (o : ℕ) → o < output_count b
              → get_or (arranged order' number' c).outputs o no_output ≡ get_or b.outputs o no_output
          output-back o l =
              arranged-output order' number' c o no_output no_output (rw (arranged-output_count order number b) l)
              ∙ ap (renumbered_output number') (arranged-output order number b o no_output no_output l)
              ∙ output-twice number' number (get_or b.outputs o no_output)
              ∙ output-agree b (λ j. number' (number j)) (λ j. j) undone (get_or b.outputs o no_output) (node-there o l)
              ∙ output-kept (get_or b.outputs o no_output)

    -- ---- well-formed

    same_count : gate_count (arranged order number b) ≡ gate_count b
    same_count = arranged-count order number b ∙ r.length_is

    node-fits : (o : Operand) → is_node b o ≡ true → is_node (arranged order number b) (renumbered number o) ≡ true
    unfolding is_node renumbered arranged
    node-fits (input i) h = h
    node-fits (gate j) h = rw same_count (lt-ltb (number j) (gate_count b) (r.new_below j (ltb-true j (gate_count b) h)))
    node-fits (constant c) h = h

    operand-fits : (o : Operand) → is_operand b o ≡ true
        → is_operand (arranged order number b) (renumbered number o) ≡ true
    unfolding is_operand renumbered
    operand-fits (input i) h = node-fits (input i) h
    operand-fits (gate j) h = node-fits (gate j) h
    operand-fits (constant c) h = refl

    gate-fits : (a : Gate) → gate_fits b a ≡ true → gate_fits (arranged order number b) (renumbered_gate number a) ≡ true
    unfolding renumbered_gate
    gate-fits a h =
        fits-from (arranged order number b) (renumbered_gate number a) (fits-kind b a h)
        (rw (length-map a.operands (renumbered number)) (fits-arity b a h))
        (all_map (is_operand (arranged order number b)) (renumbered number) a.operands
        ∙ all_from (λ o. is_operand (arranged order number b) (renumbered number o)) a.operands (constant false)
        (λ i l. operand-fits (get_or a.operands i (constant false))
        (all-at (is_operand b) a.operands i (constant false) (fits-operands b a h) l)))

    output-fits : (o : Output) → is_node b o.node ≡ true
        → is_node (arranged order number b) (renumbered_output number o).node ≡ true
    unfolding renumbered_output
    output-fits o h = node-fits o.node h

    pub arranged-well_formed : is_well_formed (arranged order number b) ≡ true
    arranged-well_formed =
        well_formed-interface b (arranged order number b) fits (arranged-inputs order number b)
        (arranged-nevers order number b) (arranged-ports order number b)
        (rw same_count (well_formed-parts b fits).few_gates)
        (λ t l. let l' : t < gate_count b = rw same_count at l in
        rw (arranged-gate order number b t (rw r.length_is l'))
        (gate-fits (gate_of b (number_at order t)) (well_formed-gate b fits (number_at order t) (r.old_below t l'))))
        (λ o d l. let l' : o < output_count b = rw (arranged-output_count order number b) at l in
        rw (arranged-output order number b o d no_output l')
        (output-fits (get_or b.outputs o no_output) (node-there o l')))
