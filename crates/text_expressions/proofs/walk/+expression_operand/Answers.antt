-- `text_expressions::walk::expression` and `operand` meet their contracts: whatever term stands here, its first byte
-- says which.
use native.Mathlib.Omega.{arith}
use mathlib.Core.Path.{◌≡◌, refl, sym, ◌∙◌}
use mathlib.Core.List.{List, ◌∷◌}
use Prim.Native.Nat.{ℕ, ◌+◌, ◌≤◌, ◌<◌}
use lib.ListN.{length, get_or}
use Rattle.netlist.specs.Syntax.{Term}
use Rattle.prelude.proofs.Elements.{byte-there}
use Rattle.text_expressions.specs.Walk.{TermAt}
use Rattle.text_expressions.proofs.Openings.{Inside, inside}
use Rattle.text_expressions.proofs.Walking.{rest-length, leaf-read, opened-here, opened-read}
use Rattle.text_expressions.proofs.Walking.{list-start}
use Rattle.text_expressions.proofs.Walking.{operand-there, slot-there, operand-here, operand-kept, list-step}
use Rattle.text_expressions.proofs.Walking.{Bounded, bounded, expression-read}
use Rattle.text_expressions.proofs.walk.+expression_operand.Goals.{expression-After-word_length-at}
use Rattle.text_expressions.proofs.walk.+expression_operand.Goals.{expression-In-loop-at, expression-After-operand-one}
use Rattle.text_expressions.proofs.walk.+expression_operand.Goals.{expression-After-loop-at}
use Rattle.text_expressions.proofs.walk.+expression_operand.Goals as goal

-- ---- an expression: whatever expression stands here, its kind and its word's length are read

expression-inside : (t : ℕ) (c : expression-After-word_length-at t) (o : Term) (depth : ℕ) (rest : List ℕ)
    → TermAt o depth rest (40 ∷ c.args.s.now)
    → Inside o depth rest c.args.s.now c.kind_here-kind.result c.word_length-at.result
expression-inside t c o depth rest w =
    inside o depth rest c.args.s.now c.kind_here-kind.result c.word_length-at.result w c.kind_here-kind.ensures
    c.word_length-at.ensures

expression-here : (t : ℕ) (c : expression-After-word_length-at t) →
    let p = c.requires.term_here in
    Inside p.term p.depth p.rest c.args.s.now c.kind_here-kind.result c.word_length-at.result
expression-here t c =
    let p = c.requires.term_here in
    expression-inside t c p.term p.depth p.rest p.here

pub expression-loop-at-init : goal.expression-loop-at-init
expression-loop-at-init t c =
    let a = c.args in
    list-start a.s.now c.word_length-at.result a.n a.symbols.now.names.now a.symbols.now.words.now a.first a.unknown
    a.gates.now
    (omega (arith, (expression-here t c).measured)) refl

-- ---- another operand stands here

module _ (t : ℕ) (c : expression-In-loop-at t) where
  another : get_or c.args.s.now c.loop-at.at 0 ≡ 41 → ⊥
  another e = c.loop-at-test.true (c.byte_at.ensures ∙ e)

  abbrev begun : expression-After-word_length-at t
  begun = (goal.at.expression-In-loop-at t c).After-word_length-at

  there : c.loop-at.at + 1 ≤ length c.args.s.now
  there =
      let a = c.args in
      let l = c.loop-at in
      operand-there a.s.now c.word_length-at.result a.n a.symbols.now.names.now a.symbols.now.words.now a.first
      a.unknown a.gates.now l.at
      l.count l.closed l.missing l.gates l.slots l.invariant another c.kind_here-kind.result c.requires.term_here
      (expression-here t begun)

  slot : c.loop-at.count < 4
  slot =
      let a = c.args in
      let l = c.loop-at in
      slot-there a.s.now c.word_length-at.result a.n a.symbols.now.names.now a.symbols.now.words.now a.first
      a.unknown a.gates.now l.at
      l.count l.closed l.missing l.gates l.slots l.invariant another c.kind_here-kind.result c.requires.term_here
      (expression-here t begun)

pub expression-overflow_add-at : goal.expression-overflow_add-at
expression-overflow_add-at t c = omega (arith, there t c, c.well_formed)

pub expression-slice_bounds-operand-count : goal.expression-slice_bounds-operand-count
expression-slice_bounds-operand-count t c = there t c

pub expression-slice_bounds-operand-start : goal.expression-slice_bounds-operand-start
expression-slice_bounds-operand-start t c = there t c

pub expression-operand-one-requires : goal.expression-operand-one-requires
expression-operand-one-requires t c =
    let turn = (goal.at.expression-operand-one-requires t c).In-loop-at in
    let a = c.args in
    let l = c.loop-at in (
      omega (arith, rest-length a.s.now (l.at + 1), there t turn, c.decreases),
      operand-here a.s.now c.word_length-at.result a.n a.symbols.now.names.now a.symbols.now.words.now a.first
          a.unknown a.gates.now l.at
          l.count l.closed l.missing l.gates l.slots l.invariant (another t turn) c.kind_here-kind.result
          c.requires.term_here (expression-here t (begun t turn)),
    )

-- ---- it is read

module _ (t : ℕ) (c : expression-After-operand-one t) where
  abbrev turn : expression-In-loop-at t
  turn = (goal.at.expression-After-operand-one t c).In-loop-at

  kept : (c.operand-one.result.left + c.loop-at.at + 1 ≤ length c.args.s.now)
      × (length c.operand-one.new.gates ≡ length c.args.gates.now)
  kept =
      let a = c.args in
      let l = c.loop-at in
      operand-kept a.s.now c.word_length-at.result a.n a.symbols.now.names.now a.symbols.now.words.now a.first
      a.unknown a.gates.now l.at
      l.count l.closed l.missing l.gates l.slots l.invariant (another t turn) c.kind_here-kind.result
      c.requires.term_here (expression-here t (begun t turn)) c.operand-one.new.gates c.operand-one.result
      c.operand-one.ensures

pub expression-offset_bounds-slots-count : goal.expression-offset_bounds-slots-count
expression-offset_bounds-slots-count t c = omega (arith, slot t (turn t c))

pub expression-bounds-slots-count : goal.expression-bounds-slots-count
expression-bounds-slots-count t c = slot t (turn t c)

pub expression-overflow_sub-at : goal.expression-overflow_sub-at
expression-overflow_sub-at t c = omega (arith, kept t (goal.at.expression-overflow_sub-at t c).After-operand-one)

pub expression-overflow_add-count : goal.expression-overflow_add-count
expression-overflow_add-count t c = omega (arith, slot t (goal.at.expression-overflow_add-count t c).In-loop-at)

pub expression-loop-at-smaller : goal.expression-loop-at-smaller
expression-loop-at-smaller t c = omega (arith, kept t (goal.at.expression-loop-at-smaller t c).After-operand-one)

pub expression-loop-at-preserved : goal.expression-loop-at-preserved
expression-loop-at-preserved t c =
    let read = (goal.at.expression-loop-at-preserved t c).After-operand-one in
    let a = c.args in
    let l = c.loop-at in
    list-step a.s.now c.word_length-at.result a.n a.symbols.now.names.now a.symbols.now.words.now a.first a.unknown
    a.gates.now l.at l.count
    l.closed l.missing l.gates l.slots l.invariant (another t (turn t read)) c.operand-one.new.gates
    c.operand-one.result c.operand-one.ensures (kept t read)

-- ---- all operands are read

module _ (t : ℕ) (c : expression-After-loop-at t) where
  ended : get_or c.args.s.now c.loop-at.at 0 ≡ 41
  ended = sym c.byte_at.ensures ∙ c.loop-at-test.false

  bounds : Bounded c.args.s.now c.word_length-at.result c.args.n c.args.symbols.now.names.now
      c.args.symbols.now.words.now c.args.first
      c.args.unknown c.args.gates.now c.loop-at.at c.loop-at.count c.loop-at.closed c.loop-at.missing c.loop-at.gates
      c.loop-at.slots c.loop-at.invariant ended c.kind_here-kind.result
  bounds =
      let a = c.args in
      let l = c.loop-at in
      bounded a.s.now c.word_length-at.result a.n a.symbols.now.names.now a.symbols.now.words.now a.first a.unknown
      a.gates.now l.at l.count
      l.closed l.missing l.gates l.slots l.invariant ended c.kind_here-kind.result c.requires.term_here
      (expression-here t (goal.at.expression-After-loop-at t c).After-word_length-at)

pub expression-put_gate-requires-clause-gate_size_in_bounds :
    goal.expression-put_gate-requires-clause-gate_size_in_bounds
expression-put_gate-requires-clause-gate_size_in_bounds t c =
    let b = bounds t (goal.at.expression-put_gate-requires-clause-gate_size_in_bounds t c).After-loop-at in
    omega (arith, b.number, b.room)

pub expression-put_gate-requires-clause-kind_bound : goal.expression-put_gate-requires-clause-kind_bound
expression-put_gate-requires-clause-kind_bound t c =
    let b = bounds t (goal.at.expression-put_gate-requires-clause-kind_bound t c).After-loop-at in
    (b.kind, b.few)

pub expression-overflow_add-result : goal.expression-overflow_add-result
expression-overflow_add-result t c =
    let b = bounds t (goal.at.expression-overflow_add-result t c).After-loop-at in
    omega (arith, b.number, b.inputs)

pub expression-overflow_cast-result : goal.expression-overflow_cast-result
expression-overflow_cast-result t c =
    let b = bounds t (goal.at.expression-overflow_cast-result t c).After-loop-at in
    omega (arith, b.number, b.inputs)

pub expression-overflow_add-result-2 : goal.expression-overflow_add-result-2
expression-overflow_add-result-2 t c =
    let b = bounds t (goal.at.expression-overflow_add-result-2 t c).After-loop-at in
    omega (arith, b.number, b.inputs)

pub expression-returns : goal.expression-returns
expression-returns t c =
    let a = c.args in
    let l = c.loop-at in
    expression-read a.s.now c.word_length-at.result a.n a.symbols.now.names.now a.symbols.now.words.now a.first
    a.unknown a.gates.now l.at
    l.count l.closed l.missing l.gates l.slots l.invariant
    (ended t (goal.at.expression-returns t c).After-loop-at) c.kind_here-kind.result c.put_gate.new.gates
    (expression-inside t (goal.at.expression-returns t c).After-word_length-at) c.put_gate.ensures

-- ---- an operand

pub operand-expression-requires : goal.operand-expression-requires
operand-expression-requires t c =
    let a = c.args in
    let bracket = sym c.byte_at.ensures ∙ c.if-byte_at-eq40.true in (
      omega (arith, rest-length a.s.now 1, byte-there a.s.now refl bracket (omega arith), c.decreases),
      opened-here a.s.now a.n a.symbols.now.names.now a.symbols.now.words.now a.first a.gates.now bracket
          c.requires.term_here,
    )

pub operand-returns-then-byte_at-eq40 : goal.operand-returns-then-byte_at-eq40
operand-returns-then-byte_at-eq40 t c =
    let a = c.args in
    opened-read a.s.now a.n a.symbols.now.names.now a.symbols.now.words.now a.first a.gates.now a.unknown
    c.expression.new.gates
    c.expression.result (sym c.byte_at.ensures ∙ c.if-byte_at-eq40.true) c.expression.ensures

pub operand-returns : goal.operand-returns
operand-returns t c =
    let a = c.args in
    leaf-read a.s.now a.n a.symbols.now.names.now a.symbols.now.words.now a.first a.gates.now a.unknown
    c.leaf_here-leaf.result
    c.leaf_here-leaf.ensures (λ e. c.if-byte_at-eq40.false (c.byte_at.ensures ∙ e))
