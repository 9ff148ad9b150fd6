-- Gather's promise, which is on two slices (SPECIFICATION 7.17), and what its inner functions need.
-- Assumes nothing.
use Rattle.std.specs.Prelude.{ℕ, ◌≤◌, ◌≡◌, List, length, get_or}
use Rattle.netlist.specs.Answers.{Answer}
use Rattle.netlist.specs.Answers.{left_in, Promise}
use Rattle.netlist.specs.Gather.{gather, gather_list}

-- The answer r and what the two slices hold at exit, from the words and the slices at entry: after a refusal, 11 too,
-- both are as they were.
pub record GatherPromise (ws entry list_entry : List ℕ) (r : Answer) (exit list_exit : List ℕ) : Type 0 where
  pub block : Promise (gather ws (length entry) (length list_entry)) entry r exit
  pub list : list_exit ≡ left_in (gather_list ws (length entry) (length list_entry)) list_entry

-- what writing asks when nothing can refuse any more: as many words go out as came in, and a word for each gate
pub record BlockRoom (ws gathered order : List ℕ) : Type 0 where
  pub room : length ws ≤ length gathered
  pub list_room : get_or ws 1 0 ≤ length order
