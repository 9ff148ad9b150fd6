-- `op_verdict::whole_verdict` meets its contract: the search goes by the block's plan.
use mathlib.Core.Path.{◌∙◌}
use Rattle.words_refusals.proofs.Promised.{tell}
use Rattle.op_verdict.proofs.Outcomes.{answer-whole}
use Rattle.op_verdict.proofs.whole_verdict.Goals as goal

pub returns : goal.returns
returns c = tell (c.search_settings.ensures ∙ answer-whole c.args.block.now.words.now c.args.block.now.well_formed)
