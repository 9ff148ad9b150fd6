-- `words_layout::trim::trimmed_length` meets its contract: what was passed over, from the end, is zero.
use Prim.Native.Nat.{◌+◌, ◌-◌}
use mathlib.Core.Path.{◌≡◌, sym, ◌∙◌}
use native.Mathlib.Omega.{arith}
use Rattle.words_layout.proofs.TrimmedLaws.{trimmed-shorter, trimmed-here}
use Rattle.words_layout.proofs.trim.trimmed_length.Goals as goal

pub returns-then-bytes-i-ne0 : goal.returns-then-bytes-i-ne0
returns-then-bytes-i-ne0 c =
    let start = c in
    let l = c.loop-i in
    let same : l.i - 1 + 1 ≡ l.i = omega arith in (
      rw same l.invariant.within,
      rw same (sym (trimmed-here start.args.bytes.now l.i (omega arith) l.invariant.within c.if-bytes-i-ne0.true)
          ∙ l.invariant.same),
    )

pub loop-i-preserved : goal.loop-i-preserved
loop-i-preserved c =
    let start = c in
    let l = c.loop-i in
    record {
      within = omega arith;
      same =
          sym (trimmed-shorter start.args.bytes.now l.i (omega arith) l.invariant.within c.if-bytes-i-ne0.false)
          ∙ l.invariant.same;
    }
