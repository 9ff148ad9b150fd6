-- `bench_set_line::form::test_set_line` meets its contract. Assumes nothing.
use Rattle.text_recogniser.proofs.Continues.{stuck-short}
use Rattle.bench_set_line.proofs.LineSteps.{line-passed, line-failed, shortens-set-line}
use Rattle.bench_set_line.proofs.form.test_set_line.Goals as goal

pub overflow_sub-result : goal.overflow_sub-result
overflow_sub-result c = stuck-short (shortens-set-line c.args.most) c.args.line.now c.in-Err.ensures

pub returns-in-Ok : goal.returns-in-Ok
returns-in-Ok c = line-passed c.args.most c.args.line.now c.set_line_scan.ensures c.in-Ok.is

pub returns-in-Err : goal.returns-in-Err
returns-in-Err c = line-failed c.args.most c.args.line.now c.set_line_scan.ensures c.in-Err.is
