-- `text_lines::counts::limits` meets its contract, by the law on the counts.
use mathlib.Core.Path.{ap, ◌∙◌}
use Rattle.netlist.specs.declared.Refusal.TheVariants.{OverLimit}
use Rattle.words_refusals.specs.Tests.{test_of}
use Rattle.text_lines.proofs.TreeCounts.{limits-are}
use Rattle.text_lines.proofs.counts.limits.Goals as goal

pub returns : goal.returns
returns c =
    λ t counted.
    c.refuse_if.ensures ∙ ap (λ b. test_of b OverLimit)
    (c.is_over.ensures ∙ limits-are t c.args.c counted)
