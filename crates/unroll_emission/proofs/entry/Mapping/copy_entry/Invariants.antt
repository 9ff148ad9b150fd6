-- `unroll_emission::entry::Mapping::copy_entry` meets its contract: after i turns i of the five words are written.
use mathlib.Core.Path.{◌≡◌}
use lib.ListN.{length}
use lib.Seq.{sets}
use Rattle.prelude.specs.Lists.{tab}
use Rattle.unroll_emission.specs.Mapping.{entry_word_by}
use Rattle.unroll_emission.proofs.entry.Mapping.copy_entry.Given as goal

abbrev pub invariant-loop-i : goal.invariant-loop-i
invariant-loop-i l =
    (l.out ≡ sets l.initial.out l.to (tab (entry_word_by l.self l.entry) l.i)) × (length l.out ≡ length l.initial.out)
