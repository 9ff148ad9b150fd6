-- `bench_set_line::show::show_settled` meets its contract: the first pass tells the line's length, the second writes
-- it. Assumes nothing.
use mathlib.Core.Path.{◌≡◌, ◌∙◌}
use native.Mathlib.Omega.{arith}
use lib.ListN.{length}
use borrow.Author.Tests.{ltb-false}
use Rattle.prelude.proofs.Slices.{sets-placed}
use Rattle.netlist.specs.declared.Refusal.TheVariants.{NoRoom}
use Rattle.words_refusals.proofs.Promised.{passed, passed-false, failed, bare, keeps-bare, finished}
use Rattle.bench_set_line.specs.Shown.{show_text}
use Rattle.bench_set_line.proofs.Outcomes.{show-room}
use Rattle.bench_set_line.proofs.show.show_settled.Goals.{After-test_room}
use Rattle.bench_set_line.proofs.show.show_settled.Goals as goal

measured : (c : After-test_room) → c.put_show-count.result ≡ length (show_text c.args.block.now.words.now c.args.values.now)
measured c = omega (arith, c.put_show-count.ensures.end_is)

pub returns-in_err-test_room : goal.returns-in_err-test_room
returns-in_err-test_room c =
    let line = show_text c.args.block.now.words.now c.args.values.now in
    failed bare keeps-bare _ _ NoRoom (show-room line _)
    (rw (measured (goal.at.returns-in_err-test_room c).After-test_room) at c.test_room.ensures) c.args.out.now
    c.in_err-test_room.was c.from_residual.ensures.1

pub returns : goal.returns
returns c =
    let line = show_text c.args.block.now.words.now c.args.values.now in
    let size = measured (goal.at.returns c).After-test_room in
    let answer = rw size at c.test_room.ensures in
    let fits = ltb-false _ _ (passed-false _ NoRoom answer c.in_ok-test_room.was) in
    finished (passed bare keeps-bare _ _ NoRoom (show-room line _) answer c.in_ok-test_room.was) size
    (c.put_show.ensures.text_is ∙ sets-placed line c.args.out.now fits)
