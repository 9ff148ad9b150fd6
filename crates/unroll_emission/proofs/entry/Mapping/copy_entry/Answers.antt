-- `unroll_emission::entry::Mapping::copy_entry` meets its contract: after i turns i of the five words are written.
use Prim.Native.Nat.{◌+◌}
use mathlib.Core.Path.{◌≡◌, ◌∙◌}
use native.Mathlib.Omega.{arith}
use lib.ListN.{length-set}
use Rattle.prelude.proofs.Stores.{sets-next}
use Rattle.unroll_emission.specs.Words.{entry_word, entry_words}
use Rattle.unroll_emission.proofs.entry.Mapping.copy_entry.Goals as goal

pub loop-i-preserved : goal.loop-i-preserved
loop-i-preserved c =
    let a = c.args in
    let m = a.self.now in
    let l = c.loop-i in (
      sets-next (entry_word m.words.now m.nodes a.entry m.table.now) a.out.now l.out a.to
          l.i c.entry_word-w.result l.invariant.0 c.entry_word-w.ensures,
      length-set l.out (a.to + l.i) c.entry_word-w.result ∙ l.invariant.1,
    )

pub returns : goal.returns
unfolding entry_words
returns c = let all : c.loop-i.i ≡ 5 = omega arith in rw all at c.loop-i.invariant.0
