-- `bench_session::line_part::answer` meets its contract.
use Rattle.bench_session.proofs.Answers.{line_refused, line-done}
use Rattle.bench_session.proofs.line_part.answer.Goals as goal

pub returns-in-Err : goal.returns-in-Err
returns-in-Err c =
    line_refused _ c.args.line.now c.requires.1 c.args.out.now _ c.requires.3 _ c.answer_line.ensures c.in-Err.why _ _
    c.in-Err.is c.tell.ensures

pub returns-in-Ok : goal.returns-in-Ok
returns-in-Ok c =
    line-done _ c.args.line.now c.requires.1 c.args.out.now _ c.requires.3 _ c.answer_line.ensures c.in-Ok.done c.in-Ok.is
