-- `unroll_emission::rendered::write_rendering` meets its contract: header, names and never lines, copies and outputs,
-- one after the other, are the encoding of the rendering.
use native.Mathlib.Omega.{arith}
use Rattle.unroll_emission.proofs.Written.{Sizes, sizes, ordered, rendering-written}
use Rattle.unroll_emission.proofs.rendered.write_rendering.Goals.{After-nodes_of-nodes}
use Rattle.unroll_emission.proofs.rendered.write_rendering.Goals as goal

-- what the sizes are
known : (p : After-nodes_of-nodes) → Sizes p.args.words.now p.nodes_of-nodes.result p.args.total
    p.args.out.now
known p =
    let s = p in
    sizes s.args.words.now s.args.order.now s.args.total s.args.newest.now s.args.out.now
    s.requires p.nodes_of-nodes.ensures

pub write_header-requires : goal.write_header-requires
write_header-requires c =
    let lines = c in
    let p = lines in
    omega (arith, known (goal.at.write_header-requires c).After-nodes_of-nodes, p.requires.few_copies, lines.outputs_of-k.ensures, lines.nevers_of.ensures)

pub overflow_sub-nodes : goal.overflow_sub-nodes
overflow_sub-nodes c = omega (arith, known (goal.at.overflow_sub-nodes c).After-nodes_of-nodes)

pub copy_words-requires : goal.copy_words-requires
copy_words-requires c =
    let h = c in
    omega (arith, known (goal.at.copy_words-requires c).After-nodes_of-nodes, h.write_header.auto.out)

pub fill_words-requires : goal.fill_words-requires
fill_words-requires c =
    let p = c in
    omega (arith, known (goal.at.fill_words-requires c).After-nodes_of-nodes, p.requires.table)

pub copy_gates-requires : goal.copy_gates-requires
copy_gates-requires c =
    let z = c in
    let w = z in
    let p = w in
    let s = p in (
      ordered s.args.words.now s.args.order.now s.args.total s.args.newest.now s.args.out.now
          s.requires p.nodes_of-nodes.ensures,
      omega (
        arith,
        known (goal.at.copy_gates-requires c).After-nodes_of-nodes,
        s.requires.few_copies,
        s.requires.table,
        z.fill_words.auto.words,
        w.copy_words.auto.out,
        w.write_header.auto.out,
      ),
    )

pub overflow_add-nodes : goal.overflow_add-nodes
overflow_add-nodes c =
    let g-back = c in
    let g-back2 = g-back in
    let g = g-back2 in
    let p = g in
    omega (arith, known (goal.at.overflow_add-nodes c).After-nodes_of-nodes, p.requires.few_copies)

pub invariant_of-mapping : goal.invariant_of-mapping
invariant_of-mapping c =
    let sizes = known (goal.at.invariant_of-mapping c).After-nodes_of-nodes in
    record {
      few = omega (arith, sizes);
      listed = omega (arith, sizes, c.requires.table, c.copy_gates.auto.newest, c.fill_words.auto.words);
    }

pub copy_outputs-requires : goal.copy_outputs-requires
copy_outputs-requires c =
    let g = c in
    let w = g in
    let p = w in
    omega (
      arith,
      known (goal.at.copy_outputs-requires c).After-nodes_of-nodes,
      p.requires.table,
      w.outputs_of-k.ensures,
      g.copy_gates.auto.newest,
      g.copy_gates.auto.out,
      g.fill_words.auto.words,
      w.copy_words.auto.out,
      w.write_header.auto.out,
    )

pub returns : goal.returns
returns c =
    let out = c in
    let g = c in
    let w = g in
    let lines = w in
    let p = w in
    let s = p in
    rendering-written s.args.words.now s.args.order.now s.args.total s.args.newest.now
    s.args.out.now s.requires _ _ _ _ _ _ _ _ _
    p.nodes_of-nodes.ensures lines.outputs_of-k.ensures lines.nevers_of.ensures
    w.write_header.ensures w.copy_words.ensures
    g.fill_words.ensures g.copy_gates.ensures.out_after g.copy_gates.ensures.newest_after
    out.copy_outputs.ensures
