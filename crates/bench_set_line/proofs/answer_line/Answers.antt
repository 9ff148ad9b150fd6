-- `bench_set_line::answer_line` meets its contract: 2, then 4 and 5, and then the show line of the pairs that the line
-- prints, since the graph's settled values give the definition's line (`show-is`).
use mathlib.Core.Path.{◌≡◌, ap, ◌∙◌}
use lib.ListN.{length, get_or}
use Rattle.netlist.specs.declared.Refusal.TheVariants.{SyntaxError}
use Rattle.netlist.specs.StoredBlock.{decode}
use Rattle.netlist.specs.Answers.{in_room}
use Rattle.netlist.specs.Bench.{pairs_outcome, answer_line}
use Rattle.words_refusals.specs.Tests.{test_at}
use Rattle.words_refusals.proofs.Promised.{passed_none, passed-at, failed-at, keeps-room}
use Rattle.graph_simulation.proofs.Starts.{blank}
use Rattle.bench_set_line.specs.Line.{first_bad_in_set_line}
use Rattle.bench_set_line.specs.Tables.{LineRead}
use Rattle.bench_set_line.proofs.ShowLaws.{show-is}
use Rattle.bench_set_line.proofs.Outcomes.{Found, in-form, form-chain, pairs-passed, pairs-failed}
use Rattle.bench_set_line.proofs.answer_line.Goals.{After-read_pairs, After-test_set_line, In_ok-test_set_line, In_ok-read_pairs}
use Rattle.bench_set_line.proofs.answer_line.Goals as goal

form-told : (c : After-test_set_line) → let a = c.args in
    c.test_set_line.result ≡ test_at (first_bad_in_set_line (get_or a.block.now.words.now 0 0) a.line.now) SyntaxError
form-told c = rw c.inputs_of.ensures at c.test_set_line.ensures

-- the pairs of a line that has passed, and what is left of the chain of conditions
abbrev found : (c : In_ok-test_set_line) → let a = c.args in Found a.block.now.words.now a.line.now
found c =
    in-form c.args.block.now.words.now c.args.line.now c.args.block.now.well_formed
    (passed_none _ SyntaxError (rw c.inputs_of.ensures at c.test_set_line.ensures) c.in_ok-test_set_line.was)

behind-form : (c : In_ok-test_set_line) → let a = c.args in
    answer_line a.block.now.words.now a.line.now (length a.out.now)
    ≡ in_room (length a.out.now) (pairs_outcome (decode a.block.now.words.now) (found c).pairs)
behind-form c =
    passed-at (in_room _) (keeps-room _) _ _ SyntaxError (form-chain _ _ _ c.args.block.now.well_formed)
    (rw c.inputs_of.ensures at c.test_set_line.ensures) c.in_ok-test_set_line.was
    ∙ ap (in_room (length c.args.out.now)) (found c).behind

read : (c : After-read_pairs) (f : Found c.args.block.now.words.now c.args.line.now)
    → LineRead c.args.block.now.words.now f.pairs c.read_pairs.result c.read_pairs.new.values
read c f = c.read_pairs.ensures f.pairs f.for

pub returns-in_err-test_set_line : goal.returns-in_err-test_set_line
returns-in_err-test_set_line c =
    failed-at (in_room _) (keeps-room _) _ _ SyntaxError (form-chain _ _ _ c.args.block.now.well_formed)
    (form-told (goal.at.returns-in_err-test_set_line c).After-test_set_line) c.args.out.now c.in_err-test_set_line.was
    c.from_residual.ensures.1

pub read_pairs-requires : goal.read_pairs-requires
read_pairs-requires c =
    let f = found (goal.at.read_pairs-requires c).In_ok-test_set_line in (record { pairs = f.pairs; for = f.for }, blank)

pub returns-in_err-read_pairs : goal.returns-in_err-read_pairs
returns-in_err-read_pairs c =
    let f = found (goal.at.returns-in_err-read_pairs c).In_ok-test_set_line in
    rw (behind-form (goal.at.returns-in_err-read_pairs c).In_ok-test_set_line)
    (pairs-failed _ f.pairs _ c.args.out.now (read (goal.at.returns-in_err-read_pairs c).After-read_pairs f).told
    c.in_err-read_pairs.was c.from_residual-in_err-read_pairs.ensures.1)

pub settle_prepared-requires : goal.settle_prepared-requires
settle_prepared-requires c =
    let f = found (goal.at.settle_prepared-requires c).In_ok-test_set_line in
    let r = read (goal.at.settle_prepared-requires c).After-read_pairs f in
    (r.given c.in_ok-read_pairs.was).unsettled

pub returns : goal.returns
returns c =
    let f = found (goal.at.returns c).In_ok-test_set_line in
    let r = read (goal.at.returns c).After-read_pairs f in
    rw (behind-form (goal.at.returns c).In_ok-test_set_line
    ∙ pairs-passed _ f.pairs _ r.told c.in_ok-read_pairs.was)
    (rw (show-is c.args.block.now.words.now c.args.block.now.well_formed c.requires.prepared.decoded (r.given
    c.in_ok-read_pairs.was)
    c.gates_of.ensures c.settle_prepared.ensures) at c.show_settled.ensures)
