-- `text_pairs::given::test_outside` meets its contract. Assumes nothing.
use Rattle.text_pairs.proofs.NameTests.{outside-failed, outside-passed}
use Rattle.text_pairs.proofs.given.test_outside.Goals as goal

pub returns-in-Some : goal.returns-in-Some
returns-in-Some c =
    λ ps at known legal counted named placed inputs.
    outside-failed ps legal at named placed inputs counted c.in-Some.ensures

pub returns-in-None : goal.returns-in-None
returns-in-None c =
    λ ps at known legal counted named placed inputs.
    outside-passed ps legal at named placed inputs counted c.in-None.ensures
