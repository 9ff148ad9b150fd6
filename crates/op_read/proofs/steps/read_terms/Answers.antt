-- `op_read::steps::read_terms` meets its contract: 5 behind never lines, and then the rest.
use Rattle.op_read.proofs.Stages.{unknown, write-ready}
use Rattle.op_read.proofs.steps.read_terms.Goals as goal

pub returns-in_err-resolve : goal.returns-in_err-resolve
returns-in_err-resolve c =
    let r = c in
    let s = r in
    unknown s.requires r.resolve.ensures s.args.block.now c.in_err-resolve.was c.from_residual.ensures.1

pub finish-requires : goal.finish-requires
finish-requires c =
    let told = c in
    let r = told in
    write-ready r.requires r.resolve.ensures told.in_ok-resolve.was
