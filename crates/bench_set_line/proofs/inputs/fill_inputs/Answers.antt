-- `bench_set_line::inputs::fill_inputs` meets its contract: one name a turn. Assumes nothing.
use mathlib.Core.Path.{ap, ◌∙◌}
use native.Mathlib.Omega.{arith}
use Rattle.prelude.proofs.Tabled.{tabled-more}
use Rattle.text_names.specs.Packed.{packed, name_front}
use Rattle.bench_set_line.specs.Tables.{input_key}
use Rattle.bench_set_line.proofs.inputs.fill_inputs.Goals as goal

pub loop-i-preserved : goal.loop-i-preserved
unfolding input_key
loop-i-preserved c =
    tabled-more c.loop-i.invariant (omega arith) (omega arith)
    (c.pack.ensures ∙ ap (λ bytes. packed (name_front 8 bytes)) c.name_bytes-bytes.ensures)
