-- `text_expressions::lines::put_output` meets its contract: the port's words, and the node behind them.
use Prim.Native.Nat.{◌*◌}
use mathlib.Core.Path.{refl}
use mathlib.Core.List.{[], ◌∷◌}
use Rattle.prelude.proofs.Stores.{sets-append}
use Rattle.text_names.specs.Ports.{port_words}
use Rattle.text_expressions.proofs.lines.put_output.Goals as goal

pub returns : goal.returns
unfolding port_words
returns c =
    let a = c.args in
    rw c.put_name.ensures (sets-append (port_words a.port) a.outputs.now (5 * a.number) _ (a.word ∷ []) refl)
