-- An operation's promise, for the reply that shows its answer. Assumes nothing.
use mathlib.Core.Path.{sym, ◌∙◌}
use mathlib.Core.List.{List}
use Prim.Native.Nat.{ℕ}
use Rattle.netlist.specs.Answers.{Answer}
use Rattle.netlist.specs.declared.Reply.{Reply}
use Rattle.netlist.specs.Answers.{Shows, Outcome, answer_of, Told, Promise}
use Rattle.words_refusals.proofs.Shown.{shows_same}
use Rattle.words_refusals.proofs.Promised.{told-answer, promise-answer}
use Rattle.op_pass.specs.Passed.{PassPromise}
use Rattle.op_cells.specs.Promise.{CellsPromise}
use Rattle.op_gather.specs.Promise.{GatherPromise}
use Rattle.op_render.specs.Promise.{RenderPromise}
use Rattle.exports.specs.Replies.{Replies, PassReply, RenderReply, CellsReply, GatherReply}

pub replies : {o : Outcome} {entry exit : List ℕ} {a : Answer} {r : Reply} → Promise o entry a exit → Shows a r
    → Replies o entry r exit
replies p s = record { shows = shows_same (promise-answer p) s; leaves = p.leaves }

pub shows-told : {o : Outcome} {a : Answer} {r : Reply} → Told o a → Shows a r → Shows (answer_of o) r
shows-told t s = shows_same (told-answer t) s

pub pass-reply : {ws setting entry : List ℕ} {a : Answer} {r : Reply} {exit : List ℕ}
    → PassPromise ws setting entry a exit → Shows a r
    → PassReply ws setting entry r exit
pass-reply p s = record { replies = replies p.promise s; settles = λ z. p.settles (sym s.number ∙ z) }

pub render-reply : {ws entry : List ℕ} {a : Answer} {r : Reply} {exit : List ℕ} → RenderPromise ws entry a exit
    → Shows a r → RenderReply ws entry r exit
render-reply p s =
    let e = promise-answer p.promise in record { replies = replies p.promise s; promise = rw (← e) p }

pub cells-reply : {ws entry : List ℕ} {a : Answer} {r : Reply} {exit : List ℕ} → CellsPromise ws entry a exit
    → Shows a r → CellsReply ws entry r exit
cells-reply p s =
    let e = promise-answer p.promise in record { replies = replies p.promise s; promise = rw (← e) p }

pub gather-reply : {ws entry list_entry : List ℕ} {a : Answer} {r : Reply} {exit list_exit : List ℕ}
    → GatherPromise ws entry list_entry a exit list_exit
    → Shows a r
    → GatherReply ws entry list_entry r exit list_exit
gather-reply p s = record { block = replies p.block s; list = p.list }
