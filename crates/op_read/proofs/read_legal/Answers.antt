-- `op_read::read_legal` meets its contract: 3 from the counts, what the never lines tell, and then the steps.
use native.Mathlib.Omega.{arith}
use Rattle.op_read.proofs.Stages.{end-inside, over, nevers-ready, tables-ready}
use Rattle.op_read.proofs.read_legal.Goals as goal

pub slice_bounds-tally-count : goal.slice_bounds-tally-count
slice_bounds-tally-count c = end-inside c.requires c.never_lines-lines.ensures

pub slice_bounds-tally-start : goal.slice_bounds-tally-start
slice_bounds-tally-start c = end-inside c.requires c.never_lines-lines.ensures

pub returns-in_err-limits : goal.returns-in_err-limits
returns-in_err-limits c =
    let t = c in
    let f = t in
    over f.requires f.never_lines-lines.ensures t.tally-c.ensures t.limits.ensures
    f.args.block.now c.in_err-limits.was c.from_residual.ensures.1

pub read_nevers-told-requires : goal.read_nevers-told-requires
read_nevers-told-requires c =
    let t = c in
    let f = t in
    record {
      ready =
          nevers-ready f.requires f.never_lines-lines.ensures t.tally-c.ensures t.limits.ensures
          c.in_ok-limits.was;
      room = omega arith;
    }

pub read_tables-requires : goal.read_tables-requires
read_tables-requires c =
    let told = c in
    let within = told in
    let t = within in
    let f = t in
    tables-ready f.requires f.never_lines-lines.ensures t.tally-c.ensures t.limits.ensures
    within.in_ok-limits.was told.read_nevers-told.ensures
