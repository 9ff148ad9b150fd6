-- What the test of one condition answers. No operation's promise cites these; the contracts of inner functions do.
-- Assumes nothing.
use Rattle.std.specs.Prelude.{ℕ, Bool, true, false}
use Rattle.std.specs.declared.result.Result.{Result}
use Rattle.std.specs.declared.result.Result.TheVariants.{Ok, Err}
use Rattle.std.proofs.Math.Option.{Option, none, some}
use Rattle.netlist.specs.declared.Refusal.{Refusal}

-- what the test of one condition answers: the input passes, or the operation refuses
abbrev pub Test : Type 0
Test = Result (Unit {0}) Refusal

-- whether a test that hands on a value passed, without the value
abbrev pub test_in : {T : Type 0} → Result T Refusal → Test
test_in (Ok value) = Ok tt
test_in (Err r) = Err r

-- the test of a condition: it refuses where the condition holds
unfoldable pub test_of : Bool → Refusal → Test
test_of true r = Err r
test_of false r = Ok tt

-- the test of a condition that tells a place
unfoldable pub test_at : Option ℕ → (ℕ → Refusal) → Test
test_at (some place) r = Err (r place)
test_at none r = Ok tt
