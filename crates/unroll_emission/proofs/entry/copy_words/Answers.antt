-- `unroll_emission::entry::copy_words` meets its contract: the part copied is the words from `at` on.
use mathlib.Core.Path.{◌≡◌}
use Prim.Native.Nat.{◌+◌, ◌-◌}
use native.Mathlib.Omega.{arith}
use Rattle.unroll_emission.proofs.Words.{copied-words}
use Rattle.unroll_emission.proofs.entry.copy_words.Goals as goal

pub returns : goal.returns
returns c =
    let a = c.args in
    let size : a.at + a.count - a.at ≡ a.count = omega arith in
    rw (c.copy_slice.ensures, size) (copied-words a.words.now a.out.now a.at a.count (omega arith) (omega arith))
