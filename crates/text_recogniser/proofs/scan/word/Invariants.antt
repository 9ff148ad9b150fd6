-- `text_recogniser::scan::word` meets its contract. The loop's invariant: the answer on the whole is the answer on what
-- is left of the word and of the text.
use Prim.Native.Nat.{◌≤◌}
use mathlib.Core.Path.{◌≡◌}
use lib.ListN.{length}
use Rattle.text_recogniser.proofs.Words.{word_from}
use Rattle.text_recogniser.proofs.scan.word.Given as goal

abbrev pub invariant-loop-i : goal.invariant-loop-i
invariant-loop-i l = record { in_text : l.i ≤ length l.s; same : word_from l.bytes l.s 0 ≡ word_from l.bytes l.s l.i }
