-- `op_cells::make::Gate::cell_word` meets its contract: one law for each kind of word.
use mathlib.Core.Path.{sym}
use native.Mathlib.Omega.{arith}
use Rattle.op_cells.proofs.Made.{at-truth, at-operand, at-absent}
use Rattle.op_cells.proofs.make.Gate.cell_word.Goals as goal

pub truth_word-requires : goal.truth_word-requires
truth_word-requires c =
    let legal = c.args.self.now.legal in
    rw c.word_at-head.ensures (record { kind = legal.kind; count = legal.count })

pub returns-then-i-eq-OPERAND_WORDS : goal.returns-then-i-eq-OPERAND_WORDS
returns-then-i-eq-OPERAND_WORDS c =
    let g = c.args.self.now in
    rw (c.if-i-eq-OPERAND_WORDS.true, at-truth g.words.now g.at, ← c.word_at-head.ensures) c.truth_word.ensures

pub returns-then-i-head : goal.returns-then-i-head
returns-then-i-head c =
    let g = c.args.self.now in
    sym (at-operand g.words.now g.at c.args.i (omega arith) (rw (← c.word_at-head.ensures) (omega arith)))

pub returns : goal.returns
returns c =
    let g = c.args.self.now in
    sym (at-absent g.words.now g.at c.args.i (omega arith) (rw (← c.word_at-head.ensures) (omega arith)))
