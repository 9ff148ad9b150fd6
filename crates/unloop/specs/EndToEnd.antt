-- The whole way of a text, in one statement: what the program writes is a text of a straight block that has, under
-- every setting that is not excluded, the outputs of the block that was read. Assumes nothing.
use Rattle.std.specs.Prelude.{ℕ, ◌≡◌, List}
use Rattle.netlist.specs.Answers.{Outcome, done, refused}
use Rattle.netlist.specs.Operations.{counted, read_text}
use Rattle.netlist.specs.Program.{unloop}
use Rattle.op_render.specs.Promise.{Renders}

-- the program wrote a text, and not a refusal's line
unfoldable pub Wrote : Outcome → Type 0
Wrote (done result count detail) = Unit {0}
Wrote (refused r) = ⊥

pub record Faithful (text : List ℕ) : Type 0 where
  pub block : List ℕ
  pub copies : List ℕ
  pub count : ℕ
  pub detail : ℕ
  pub reads : read_text text ≡ done block count detail
  pub reads_back : read_text (unloop text) ≡ counted copies
  pub renders : Renders block copies
