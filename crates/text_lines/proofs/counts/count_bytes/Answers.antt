-- `text_lines::counts::count_bytes` meets its contract.
use Rattle.text_lines.specs.Counting.{counts_of}
use Rattle.text_lines.proofs.counts.count_bytes.Goals as goal

pub returns : goal.returns
unfolding counts_of
returns c =
    let named = c in
    rw (
      c.saturating_sub-2.ensures,
      c.count.ensures,
      c.saturating_sub.ensures,
      named.count_behind-named.ensures,
      named.count-lines.ensures,
    )
