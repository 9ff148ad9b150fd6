-- `unroll_emission::entry::Mapping::entry_word` meets its contract: its two tests are the range.
use mathlib.Core.Path.{sym, ◌∙◌}
use mathlib.Core.Logic.{inl, inr}
use native.Mathlib.Omega.{arith}
use Rattle.unroll_emission.proofs.Words.{entry-mapped, entry_kept}
use Rattle.unroll_emission.proofs.entry.Mapping.entry_word.Goals as goal

pub returns-then-i-entry : goal.returns-then-i-entry
returns-then-i-entry c =
    let a = c.args in
    let m = a.self.now in
    c.mapped.ensures
    ∙ sym (entry-mapped m.words.now m.nodes a.entry m.table.now a.i (omega arith) (omega arith))

pub returns-else-i-entry : goal.returns-else-i-entry
returns-else-i-entry c =
    let a = c.args in
    let m = a.self.now in
    sym (entry_kept m.words.now m.nodes a.entry m.table.now a.i (inr c.if-i-entry.false))

pub returns-else-entry-i : goal.returns-else-entry-i
returns-else-entry-i c =
    let a = c.args in
    let m = a.self.now in
    sym (entry_kept m.words.now m.nodes a.entry m.table.now a.i (inl c.if-entry-i.false))
