-- `lanes_settings::decided::judge_batch` meets its contract.
use mathlib.Core.Path.{refl}
use Rattle.theory_encoding.proofs.Readers.{whole_parts}
use Rattle.lanes_batch.proofs.Layering.{settled-decoded}
use Rattle.lanes_settings.proofs.decided.judge_batch.Goals as goal

pub decide_batch-requires : goal.decide_batch-requires
decide_batch-requires c =
    let p = c.args.block.planned in
    let few = (whole_parts c.args.block.words.now p.whole).few_inputs in record {
      graph = (rw c.gates_of-m.ensures p.decoded.legal, rw c.gates_of-m.ensures p.layers);
      n_le_max_inputs = (rw c.inputs_of-n.ensures few, c.requires);
    }

pub returns : goal.returns
returns c =
    let p = c.args.block.planned in
    record {
      whole = p.whole;
      settled =
          settled-decoded p.decoded (rw (c.gates_of-m.ensures, c.inputs_of-n.ensures) at c.decide_batch.ensures);
      inputs = refl;
      few_inputs = (whole_parts c.args.block.words.now p.whole).few_inputs;
      aligned = c.requires;
    }
