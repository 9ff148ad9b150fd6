-- `bench_session::line_part::hold` meets its contract: a byte is stored while there is room. Assumes nothing.
use Rattle.bench_session.proofs.LineSteps.{held-stored, held-full}
use Rattle.bench_session.proofs.line_part.hold.Goals as goal

pub returns-then-held-lt-LINE_BYTES : goal.returns-then-held-lt-LINE_BYTES
returns-then-held-lt-LINE_BYTES c =
    held-stored c.args.held c.args.byte c.args.line.now c.requires.0 c.requires.1 c.if-held-lt-LINE_BYTES.true

pub returns : goal.returns
returns c =
    held-full c.args.held c.args.byte c.args.line.now c.requires.0 c.requires.1 c.if-held-lt-LINE_BYTES.false
