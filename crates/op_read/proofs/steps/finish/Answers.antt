-- `op_read::steps::finish` meets its contract: 11, and then all words.
use native.Mathlib.Omega.{arith}
use Rattle.netlist.specs.StoredBlock.{nevers_at, gates_at, outputs_at}
use Rattle.op_read.proofs.Stages.{few, put-ready, all_words, no_room, fits, all-written}
use Rattle.op_read.proofs.steps.finish.Goals as goal

pub outputs_behind-requires : goal.outputs_behind-requires
outputs_behind-requires c =
    let f = few c.requires in
    record {
      n_le_max_word = omega (arith, f.inputs);
      l_le_max_word = omega (arith, f.nevers);
      m_le_max_word = omega (arith, f.gates);
    }

pub overflow_add-count : goal.overflow_add-count
unfolding outputs_at gates_at nevers_at
overflow_add-count c = omega (arith, few c.requires, c.outputs_behind.ensures)

pub returns-in_err-test_room : goal.returns-in_err-test_room
returns-in_err-test_room c =
    let t = c in
    let s = t in
    no_room s.requires s.args.block.now (all_words s.requires t.outputs_behind.ensures)
    t.test_room.ensures c.in_err-test_room.was c.from_residual.ensures.1

pub put_block-requires : goal.put_block-requires
put_block-requires c =
    let e = c in
    let t = e in
    let s = t in
    put-ready s.requires s.args.block.now
    (fits s.requires s.args.block.now (all_words s.requires t.outputs_behind.ensures)
    t.test_room.ensures e.in_ok-test_room.was)

pub returns : goal.returns
returns c =
    let e = c in
    let t = e in
    let s = t in
    all-written s.requires s.args.block.now (all_words s.requires t.outputs_behind.ensures)
    t.test_room.ensures e.in_ok-test_room.was _ c.put_block.ensures

pub overflow_mul-count : goal.overflow_mul-count
overflow_mul-count c = omega (arith, few c.requires)
