-- The cycle of calls {expression, operand, operands}: each answer is that of netlist's reader, one law for each way
-- through the code.
use mathlib.Core.Path.{sym, ap, ◌∙◌}
use native.Mathlib.Omega.{arith}
use Rattle.std.proofs.Common.{rules, ◌-◌}
use Rattle.prelude.proofs.Elements.{rest-is-drop}
use Rattle.netlist.specs.Names.{is_name_start}
use Rattle.netlist.specs.Syntax.{Term, apply}
use Rattle.netlist.specs.Parse.{term_reader, expr_reader}
use Rattle.text_recogniser.specs.Readers.{scan_of}
use Rattle.text_recogniser.proofs.ShortensTerms.{shortens-term}
use Rattle.text_recogniser.proofs.OperandForms.{operand-name, operand-bit, operand-deepest, operand-other}
use Rattle.text_recogniser.proofs.OperandForms.{operand-expression}
use Rattle.text_recogniser.proofs.OperandLists.{expression-read, expression-bad}
use Rattle.text_recogniser.proofs.OperandSteps.{operands_end, left-closed, left-needed, left_other, left-bad, left-next}
use Rattle.text_recogniser.proofs.expressions.+expression_operand_operands.Goals as goal

-- ---- an expression: its kind's word, and then its operands

pub expression-returns-in_err-kind_word : goal.expression-returns-in_err-kind_word
expression-returns-in_err-kind_word t c =
    let bad = expression-bad (term_reader c.args.depth) apply c.args.s.now c.kind_here-kind.ensures
    c.in_err-kind_word.ensures in
    search (rules, bad)

pub expression-returns : goal.expression-returns
expression-returns t c =
    rw (c.most_operands.ensures, c.fewest_operands.ensures) at c.operands.ensures
    ∙ sym
    (expression-read (term_reader c.args.depth) apply c.args.s.now c.kind_here-kind.ensures
    c.in_ok-kind_word.ensures c.behind-s.ensures)

-- ---- an operand, by its first byte

pub operand-returns-then-is_name_start : goal.operand-returns-then-is_name_start
operand-returns-then-is_name_start t c =
    c.any_name.ensures
    ∙ operand-name c.args.depth c.args.s.now (sym (c.if-is_name_start.ensures ∙ ap is_name_start c.byte_at-c.ensures))

pub operand-returns-in-40 : goal.operand-returns-in-40
operand-returns-in-40 t c =
    let no_start = sym (c.if-is_name_start.ensures ∙ ap is_name_start c.byte_at-c.ensures) in
    let read = expr_reader {A = Term} (term_reader (c.args.depth - 1)) apply in
    c.expression.ensures ∙ ap (λ u. scan_of (read u)) (rest-is-drop c.args.s.now 1)
    ∙ operand-expression c.args.depth c.args.s.now no_start c.byte_at-c.ensures (λ e. omega arith) (λ e. omega arith)
    c.if-depth-gt0.true c.in-40.is

pub operand-returns-in-48 : goal.operand-returns-in-48
operand-returns-in-48 t c =
    operand-bit c.args.depth c.args.s.now (sym (c.if-is_name_start.ensures ∙ ap is_name_start c.byte_at-c.ensures))
    c.byte_at-c.ensures (omega arith) (omega arith)

pub operand-returns-in_default-2 : goal.operand-returns-in_default-2
operand-returns-in_default-2 t c =
    operand-deepest c.args.depth c.args.s.now
    (sym (c.if-is_name_start.ensures ∙ ap is_name_start c.byte_at-c.ensures)) c.byte_at-c.ensures
    (λ e. omega arith) (λ e. omega arith) (omega arith)

pub operand-returns-in_default-2-2 : goal.operand-returns-in_default-2-2
operand-returns-in_default-2-2 t c =
    operand-other c.args.depth c.args.s.now
    (sym (c.if-is_name_start.ensures ∙ ap is_name_start c.byte_at-c.ensures)) c.byte_at-c.ensures
    (λ e. omega arith) (λ e. omega arith) (λ e. omega arith)

pub operand-returns-in_default-2-3 : goal.operand-returns-in_default-2-3
operand-returns-in_default-2-3 t c =
    operand-other c.args.depth c.args.s.now
    (sym (c.if-is_name_start.ensures ∙ ap is_name_start c.byte_at-c.ensures)) c.byte_at-c.ensures
    (λ e. omega arith) (λ e. omega arith) (λ e. omega arith)

-- ---- the operands of an expression

pub operands-returns-in-41 : goal.operands-returns-in-41
operands-returns-in-41 t c =
    left-needed (term_reader c.args.depth) c.args.s.now c.loop-i.rest.now c.args.most c.args.needed c.loop-i.i
    c.loop-i.invariant c.loop-i-test.true c.byte_at.ensures c.in-41.is c.if-i-needed.true

pub operands-returns-in-41-2 : goal.operands-returns-in-41-2
operands-returns-in-41-2 t c =
    left-closed (term_reader c.args.depth) c.args.s.now c.loop-i.rest.now c.args.most c.args.needed c.loop-i.i
    c.loop-i.invariant c.loop-i-test.true c.byte_at.ensures c.in-41.is c.if-i-needed.false

pub operands-returns-in_err-operand-in-32 : goal.operands-returns-in_err-operand-in-32
operands-returns-in_err-operand-in-32 t c =
    let bad = left-bad (term_reader c.args.depth) c.args.s.now c.loop-i.rest.now c.args.most c.args.needed c.loop-i.i
    c.loop-i.invariant c.loop-i-test.true c.byte_at.ensures c.in-32.is c.in_err-operand-in-32.ensures in
    search (rules, bad)

pub operands-returns-in_default : goal.operands-returns-in_default
operands-returns-in_default t c =
    left_other (term_reader c.args.depth) c.args.s.now c.loop-i.rest.now c.args.most c.args.needed c.loop-i.i
    c.loop-i.invariant c.loop-i-test.true c.byte_at.ensures (λ e. omega arith) (λ e. omega arith)

pub operands-loop-i-preserved : goal.operands-loop-i-preserved
operands-loop-i-preserved t c =
    left-next (term_reader c.args.depth) c.args.s.now c.loop-i.rest.now c.args.most c.args.needed c.loop-i.i
    c.loop-i.invariant c.loop-i-test.true c.byte_at.ensures c.in-32.is (shortens-term c.args.depth)
    c.in_ok-operand-in-32.ensures c.behind-rest.ensures

pub operands-returns : goal.operands-returns
operands-returns t c =
    c.word.ensures
    ∙ sym (operands_end (term_reader c.args.depth) c.args.s.now c.loop-i.rest.now c.args.most c.args.needed c.loop-i.i
    c.loop-i.invariant c.loop-i-test.false)
