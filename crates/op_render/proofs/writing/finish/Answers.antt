-- `op_render::writing::finish` meets its contract: the room is the rendered block's length, and the words are the
-- rendering's.
use Prim.Native.Nat.{◌+◌, ◌*◌}
use mathlib.Core.Path.{◌≡◌, refl}
use native.Mathlib.Omega.{arith}
use lib.ListN.{length}
use lib.Dec.{ltb}
use borrow.Author.Tests.{ltb-false}
use Rattle.netlist.specs.declared.Refusal.TheVariants.{NoRoom}
use Rattle.netlist.specs.StoredBlock.{nevers_at, gates_at, outputs_at, encode, decode}
use Rattle.netlist.specs.Rendering.{rendering}
use Rattle.netlist.specs.Answers.{done, refuse_if}
use Rattle.netlist.specs.Operations.{render}
use Rattle.theory_encoding.proofs.Readers.{whole_parts}
use Rattle.words_refusals.proofs.Promised.{passed, passed-false, failed, bare, keeps-bare, finished}
use Rattle.op_render.proofs.Cases.{render-left}
use Rattle.op_render.proofs.Told.{rendered-size}
use Rattle.op_render.proofs.writing.finish.Goals.{After-outputs_behind}
use Rattle.op_render.proofs.writing.finish.Goals as goal

-- the rendered block's length
long : (c : After-outputs_behind)
    → length (encode (rendering (decode c.args.words.now))) ≡ c.outputs_behind.result + 5 * c.outputs_of-k.result
long c =
    rendered-size c.args.words.now c.inputs_of-n.result c.nevers_of.result c.outputs_of-k.result c.args.total
    c.outputs_behind.result c.inputs_of-n.ensures c.nevers_of.ensures c.outputs_of-k.ensures c.requires.ready.total_is
    c.outputs_behind.ensures

-- nothing but the room is left to refuse for
left : (c : After-outputs_behind) → let a = c.args in
    let size = c.outputs_behind.result + 5 * c.outputs_of-k.result in
    render a.words.now (length a.rendered.now)
    ≡ refuse_if (ltb (length a.rendered.now) size) NoRoom (done (encode (rendering (decode a.words.now))) size 0)
left c =
    let r = c.requires.ready in
    render-left c.args.words.now _ _ r.whole (rw (← r.total_is) r.fits) c.requires.settled (long c)

pub overflow_add-size : goal.overflow_add-size
unfolding nevers_at gates_at outputs_at
overflow_add-size c =
    let p = whole_parts c.args.words.now c.requires.ready.whole in
    omega (
      arith,
      c.outputs_behind.ensures,
      c.nevers_of.ensures,
      c.outputs_of-k.ensures,
      p.few_outputs,
      p.few_nevers,
      c.inputs_of-n.ensures,
      p.few_inputs,
      c.requires.ready.fits,
    )

pub returns-in_err-test_room : goal.returns-in_err-test_room
returns-in_err-test_room c =
    failed bare keeps-bare _ _ NoRoom (left (goal.at.returns-in_err-test_room c).After-outputs_behind)
    c.test_room.ensures c.args.rendered.now c.in_err-test_room.was c.from_residual.ensures.1

pub write_copies-requires : goal.write_copies-requires
write_copies-requires c =
    let room = ltb-false _ _ (passed-false _ NoRoom c.test_room.ensures c.in_ok-test_room.was) in
    (c.requires.ready, rw (long (goal.at.write_copies-requires c).After-outputs_behind) room)

pub returns : goal.returns
returns c =
    finished
    (passed bare keeps-bare _ _ NoRoom (left (goal.at.returns c).After-outputs_behind) c.test_room.ensures
    c.in_ok-test_room.was)
    refl c.write_copies.ensures
