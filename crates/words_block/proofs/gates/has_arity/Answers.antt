-- `words_block::gates::has_arity` meets its contract: by the laws on kinds, each arm says in which range the count is.
use mathlib.Core.Path.{sym}
use borrow.Author.Rules.{rules}
use Rattle.words_block.proofs.GateLaws.{not-one, not-other, row_fits, row-few, row-many, no_kind}
use Rattle.words_block.proofs.gates.has_arity.Goals as goal

pub returns-in-1-count : goal.returns-in-1-count
returns-in-1-count c = rw (c.in-0.is, c.in-1-count.is) (sym not-one)

pub returns-in_default-count : goal.returns-in_default-count
returns-in_default-count c = rw c.in-0.is (sym (not-other c.args.count c.in_default-count.in_default-count-own.rest.1))

pub returns-in-2-to-4 : goal.returns-in-2-to-4
returns-in-2-to-4 c =
    let start = c in
    let a = start.args in
    sym (row_fits a.kind a.count (search rules) (search rules) (search rules) (search rules))

pub returns-in_default-count-2 : goal.returns-in_default-count-2
returns-in_default-count-2 c =
    let a = c.args in
    sym (row-few a.kind a.count (search rules) (search rules) (search rules))

pub returns-in_default-count-2-2 : goal.returns-in_default-count-2-2
returns-in_default-count-2-2 c =
    let start = c in
    let a = start.args in sym (row-many a.kind a.count (search rules) (search rules) (search rules))

pub returns-in_default : goal.returns-in_default
returns-in_default c = let a = c.args in sym (no_kind a.kind a.count (search rules))
