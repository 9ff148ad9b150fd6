-- `text_recogniser::scan::word` meets its contract. The loop's invariant: the answer on the whole is the answer on what
-- is left of the word and of the text.
use mathlib.Core.Path.{sym, ◌∙◌}
use native.Mathlib.Numerals.{add-one}
use native.Mathlib.Omega.{arith}
use Rattle.text_recogniser.proofs.Words.{word_over, word-short, word_same, word-other}
use Rattle.text_recogniser.proofs.scan.word.Goals.{then-s-i-via-then-s-i, then-s-i-via-else-s-i+then-s-i-2}
use Rattle.text_recogniser.proofs.scan.word.Goals as goal

pub returns-then-s-i : goal.returns-then-s-i
returns-then-s-i c =
    let b = c.args.bytes.now in
    let s = c.args.s.now in
    sym
    (c.loop-i.invariant.same
    ∙ elim c.then-s-i.branch [
      | then-s-i-via-then-s-i w ↦ word-short b s c.loop-i.i c.loop-i-test.true w.if-s-i.true
      | then-s-i-via-else-s-i+then-s-i-2 w ↦
          word-other b s c.loop-i.i c.loop-i-test.true w.if-s-i.false w.if-s-i-2.true
    ])

pub loop-i-preserved : goal.loop-i-preserved
loop-i-preserved c =
    let e = c.loop-i.invariant.same
    ∙ word_same c.args.bytes.now c.args.s.now c.loop-i.i c.loop-i-test.true c.if-s-i.false c.if-s-i-2.false in
    record { in_text = omega arith; same = rw (add-one c.loop-i.i) e }

pub returns : goal.returns
returns c =
    sym
    (c.loop-i.invariant.same
    ∙ word_over c.args.bytes.now c.args.s.now c.loop-i.i c.loop-i-test.false c.loop-i.auto.i-end
    c.loop-i.invariant.in_text)
