-- `lanes_settings::decided::judge_straight` meets its contract.
use mathlib.Core.Path.{refl}
use Rattle.theory_encoding.proofs.Readers.{whole_parts}
use Rattle.lanes_batch.proofs.Layering.{settled-decoded, straight-decoded}
use Rattle.lanes_settings.proofs.decided.judge_straight.Goals as goal

pub invariant_of-decoded : goal.invariant_of-decoded
invariant_of-decoded c = record { legal = rw c.gates_of.ensures c.requires.0.decoded.legal }

pub decide_straight-requires : goal.decide_straight-requires
decide_straight-requires c =
    let p = c.requires.0 in
    let few = (whole_parts c.args.words.now p.whole).few_inputs in record {
      straight = rw c.gates_of.ensures (straight-decoded p.decoded p.straight);
      n_le_max_inputs = (rw c.inputs_of-n.ensures few, c.requires.1);
    }

pub returns : goal.returns
returns c =
    let p = c.requires.0 in
    record {
      whole = p.whole;
      settled =
          settled-decoded p.decoded (rw (c.gates_of.ensures, c.inputs_of-n.ensures) at c.decide_straight.ensures);
      inputs = refl;
      few_inputs = (whole_parts c.args.words.now p.whole).few_inputs;
      aligned = c.requires.1;
    }
