-- Pass's promise: its own outcome, and whenever it answers 0, the slice holds what Settle would leave there. Assumes
-- nothing.
use Rattle.std.specs.Prelude.{◌≡◌, List, ℕ, length}
use Rattle.netlist.specs.Answers.{Answer}
use Rattle.netlist.specs.Answers.{number_of, left_in, Promise}
use Rattle.netlist.specs.Operations.{settle, pass}

pub record PassPromise (ws setting entry : List ℕ) (r : Answer) (exit : List ℕ) : Type 0 where
  pub promise : Promise (pass ws setting (length entry)) entry r exit
  pub settles : number_of r ≡ 0 → exit ≡ left_in (settle ws setting (length entry)) entry
