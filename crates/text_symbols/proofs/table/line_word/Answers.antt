-- `text_symbols::table::line_word` meets its contract.
use mathlib.Core.Path.{◌≡◌}
use native.Mathlib.Omega.{arith}
use borrow.Author.Tests.{lt-ltb, le-ltb}
use Rattle.text_symbols.specs.Tables.{line_word}
use Rattle.text_symbols.proofs.table.line_word.Goals as goal

pub returns-then-i-n : goal.returns-then-i-n
unfolding line_word
returns-then-i-n c = rw (lt-ltb _ _ c.if-i-n.true)

pub returns-then-gates-eq0 : goal.returns-then-gates-eq0
unfolding line_word
returns-then-gates-eq0 c =
    let z : c.args.gates ≡ 0 = c.if-gates-eq0.true in
    rw (le-ltb _ _ c.if-i-n.false, z) (omega arith)

pub returns-else-gates-eq0 : goal.returns-else-gates-eq0
unfolding line_word
returns-else-gates-eq0 c = rw (le-ltb _ _ c.if-i-n.false)
