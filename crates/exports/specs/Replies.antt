-- What the C functions promise: an operation's promise, of the three numbers that they return. Assumes nothing.
use Rattle.std.specs.Prelude.{◌≡◌, List, ℕ, length}
use Rattle.netlist.specs.Answers.{Shows, Outcome, answer_of, left_in}
use Rattle.netlist.specs.Operations.{settle, pass, render}
use Rattle.netlist.specs.Cells.{make_cells}
use Rattle.netlist.specs.Gather.{gather, gather_list}
use Rattle.op_cells.specs.Promise.{CellsPromise}
use Rattle.op_render.specs.Promise.{RenderPromise}
use Rattle.netlist.specs.declared.Reply.{Reply}

-- An operation's promise (`Promise` of crates/netlist), for the reply that a C function returns.
pub record Replies (o : Outcome) (entry : List ℕ) (r : Reply) (exit : List ℕ) : Type 0 where
  pub shows : Shows (answer_of o) r
  pub leaves : exit ≡ left_in o entry

-- Pass's promise for a reply: the values are Settle's.
pub record PassReply (ws setting entry : List ℕ) (r : Reply) (exit : List ℕ) : Type 0 where
  pub replies : Replies (pass ws setting (length entry)) entry r exit
  pub settles : r.number ≡ 0 → exit ≡ left_in (settle ws setting (length entry)) entry

-- Render's whole promise, for the answer that the reply shows.
pub record RenderReply (ws entry : List ℕ) (r : Reply) (exit : List ℕ) : Type 0 where
  pub replies : Replies (render ws (length entry)) entry r exit
  pub promise : RenderPromise ws entry (answer_of (render ws (length entry))) exit

-- The whole promise of making cells, for the answer that the reply shows.
pub record CellsReply (ws entry : List ℕ) (r : Reply) (exit : List ℕ) : Type 0 where
  pub replies : Replies (make_cells ws (length entry)) entry r exit
  pub promise : CellsPromise ws entry (answer_of (make_cells ws (length entry))) exit

-- Gather's promise for a reply, on both slices.
pub record GatherReply (ws entry list_entry : List ℕ) (r : Reply) (exit list_exit : List ℕ) : Type 0 where
  pub block : Replies (gather ws (length entry) (length list_entry)) entry r exit
  pub list : list_exit ≡ left_in (gather_list ws (length entry) (length list_entry)) list_entry
