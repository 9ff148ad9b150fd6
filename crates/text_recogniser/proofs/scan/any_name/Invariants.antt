-- `text_recogniser::scan::any_name` meets its contract: its closure is the test of the first byte.
use mathlib.Core.Bool.{true}
use Rattle.text_recogniser.proofs.scan.any_name.Given as goal

abbrev pub ghost-name : goal.ghost-name
ghost-name a = true
