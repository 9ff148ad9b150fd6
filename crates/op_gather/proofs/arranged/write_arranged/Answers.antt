-- `op_gather::arranged::write_arranged` meets its contract: the front as it is, the gates in the order listed, and the
-- outputs, one after the other, are the encoding of the arranged block.
use native.Mathlib.Omega.{arith}
use Rattle.op_gather.proofs.Written.{ordered-as, Sizes, sizes, arranged-written}
use Rattle.op_gather.proofs.arranged.write_arranged.Goals.{After-nodes_of-nodes}
use Rattle.op_gather.proofs.arranged.write_arranged.Goals as goal

-- what the sizes are
known : (p : After-nodes_of-nodes) → Sizes p.args.words.now p.nodes_of-nodes.result
known p = sizes p.args.words.now p.requires.whole p.nodes_of-nodes.ensures

pub fill_table-requires : goal.fill_table-requires
fill_table-requires c =
    let p = c in (
      omega (arith, known (goal.at.fill_table-requires c).After-nodes_of-nodes),
      ordered-as (known (goal.at.fill_table-requires c).After-nodes_of-nodes).gates_are p.requires.numbered,
      omega (arith, known (goal.at.fill_table-requires c).After-nodes_of-nodes, p.requires.table_room),
    )

pub copy_words-requires : goal.copy_words-requires
copy_words-requires c =
    let p = c in
    omega (arith, known (goal.at.copy_words-requires c).After-nodes_of-nodes, p.requires.room)

pub invariant_of-mapping : goal.invariant_of-mapping
invariant_of-mapping c =
    let sizes = known (goal.at.invariant_of-mapping c).After-nodes_of-nodes in
    record {
      few = omega (arith, sizes);
      listed = omega (arith, sizes, c.requires.table_room, c.fill_table.auto.table);
    }

pub move_gates-requires : goal.move_gates-requires
move_gates-requires c =
    let w = c in
    let p = w in (
      ordered-as (known (goal.at.move_gates-requires c).After-nodes_of-nodes).gates_are p.requires.gates,
      omega (
        arith,
        known (goal.at.move_gates-requires c).After-nodes_of-nodes,
        p.requires.room,
        p.requires.table_room,
        w.fill_table.auto.table,
        w.copy_words.auto.out,
      ),
    )

pub copy_outputs-requires : goal.copy_outputs-requires
copy_outputs-requires c =
    let o = c in
    let w = o in
    let p = w in
    omega (
      arith,
      known (goal.at.copy_outputs-requires c).After-nodes_of-nodes,
      p.requires.room,
      p.requires.table_room,
      o.outputs_of.ensures,
      w.fill_table.auto.table,
      w.copy_words.auto.out,
      o.move_gates.auto.out,
    )

pub returns : goal.returns
returns c =
    let out = c in
    let o = out in
    let w = o in
    let p = w in
    let s = p in
    arranged-written s.args.words.now s.requires.whole s.args.order.now s.args.numbers.now
    s.args.table.now _ s.args.out.now
    s.requires.gates s.requires.room _ _ _ _ _ p.nodes_of-nodes.ensures o.outputs_of.ensures
    w.fill_table.ensures
    w.copy_words.ensures o.move_gates.ensures out.copy_outputs.ensures

pub overflow_mul-outputs : goal.overflow_mul-outputs
overflow_mul-outputs c = omega (arith, known (goal.at.overflow_mul-outputs c).After-nodes_of-nodes)

pub overflow_add-outputs : goal.overflow_add-outputs
overflow_add-outputs c = omega (arith, known (goal.at.overflow_add-outputs c).After-nodes_of-nodes)
