-- `text_pairs::given::test_repeat` meets its contract. Assumes nothing.
use Rattle.text_pairs.proofs.NameTests.{repeat-failed, repeat-passed}
use Rattle.text_pairs.proofs.given.test_repeat.Goals as goal

pub returns-in-Some : goal.returns-in-Some
returns-in-Some c = λ ps at legal counted named placed. repeat-failed ps legal at named placed counted c.in-Some.ensures

pub returns-in-None : goal.returns-in-None
returns-in-None c = λ ps at legal counted named placed. repeat-passed ps legal at named placed counted c.in-None.ensures
