-- `bench_set_line::fill_tables` meets its contract: the tables are those of the pairs and of the inputs.
use Rattle.std.proofs.Common.{rules}
use native.Mathlib.Omega.{arith}
use Rattle.bench_set_line.proofs.TableLaws.{pairs-at, inputs-few, pair-room, tables-for}
use Rattle.bench_set_line.proofs.fill_tables.Goals as goal

pub fill_pairs-count-requires : goal.fill_pairs-count-requires
fill_pairs-count-requires c = pair-room c.requires (search rules) (search rules) (search rules)

pub fill_inputs-requires : goal.fill_inputs-requires
fill_inputs-requires c =
    let n = inputs-few c.args.words.now c.requires.for.whole in
    (omega (arith, n, c.inputs_of.ensures), omega (arith, n, c.inputs_of.ensures))

pub returns : goal.returns
returns c = λ ps f.
    tables-for f _ (c.fill_pairs-count.ensures ps (pairs-at f.is)) c.inputs_of.ensures c.fill_inputs.ensures
