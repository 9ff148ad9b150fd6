-- `text_recogniser::scan::pin_name` meets its contract: its closure is the test of the first byte.
use mathlib.Core.Bool.{false}
use Rattle.text_recogniser.proofs.scan.pin_name.Given as goal

abbrev pub ghost-name : goal.ghost-name
ghost-name a = false
