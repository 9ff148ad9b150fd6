-- `lanes_settings::outputs::unsettled_lanes` meets its contract: the word of the first outputs is made one by one.
use mathlib.Core.Path.{refl}
use borrow.Author.Rules.{rules}
use lib.ListN.{get_or}
use Rattle.lanes_settings.specs.Lanes.{unsettled_word}
use Rattle.lanes_settings.proofs.outputs.unsettled_lanes.Goals as goal

pub returns : goal.returns
unfolding unsettled_word
returns c =
    let a = c.args in
    c.any_lanes.ensures (unsettled_word a.words.now a.at a.n a.lanes.now) refl (λ o r h. search rules)
