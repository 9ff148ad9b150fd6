-- The words of specs/Waiting.antt of groups and of what they wait for, each as one value. Cited by the contracts of this
-- crate alone. Assumes nothing.
--   CountedTo, AddedBelow                slots that were counted at first, and groups that are ready at first
--   SlotReady, SlotCounted               before and after a slot that reads a gate with its number is counted down
--   SlotsReady, SlotsCounted             before and after all of them are
--   GroupReady, GroupDone                before and after a group gets its number
--   NumberingReady                       before any group has its number
use Rattle.std.specs.Prelude.{List, ℕ, get_or}
use Rattle.op_groups.specs.declared.waiting.Groups.{Groups}
use Rattle.op_groups.specs.declared.waiting.InDegrees.{InDegrees}
use Rattle.op_groups.specs.Waiting.{is_open, all_open, Waiting, Counting, ReadyBelow, CountDownReady, CountDownAllReady}
use Rattle.op_groups.specs.Waiting.{NumberGroupReady, GroupNumbered, AllReady}

abbrev pub CountedTo : Groups → ℕ → List ℕ → Type 0
CountedTo g e counts = Counting g.graph.gates g.graph.words.now g.leaders.now e counts

abbrev pub AddedBelow : Groups → ℕ → InDegrees → Type 0
AddedBelow g l d = ReadyBelow l g.leaders.now d.counts d.ready.words

abbrev pub SlotReady : Groups → ℕ → ℕ → List ℕ → InDegrees → Type 0
SlotReady g e k numbers d =
    CountDownReady g.graph.gates g.graph.words.now e k g.leaders.now numbers d.counts d.ready.words

abbrev pub SlotCounted : Groups → ℕ → ℕ → List ℕ → InDegrees → Type 0
SlotCounted g e k numbers d =
    Waiting g.graph.gates g.leaders.now numbers (get_or g.leaders.now k 0)
    (is_open g.graph.words.now g.leaders.now numbers k e) d.counts d.ready.words

abbrev pub SlotsReady : Groups → ℕ → List ℕ → InDegrees → Type 0
SlotsReady g k numbers d =
    CountDownAllReady g.graph.gates g.graph.words.now k g.leaders.now numbers g.fanout.now d.counts d.ready.words

abbrev pub SlotsCounted : Groups → ℕ → List ℕ → InDegrees → Type 0
SlotsCounted g k numbers d =
    Waiting g.graph.gates g.leaders.now numbers (get_or g.leaders.now k 0)
    (all_open g.graph.words.now g.leaders.now numbers) d.counts d.ready.words

abbrev pub GroupReady : Groups → ℕ → ℕ → List ℕ → InDegrees → Type 0
GroupReady g leader number numbers d =
    NumberGroupReady g.graph.gates leader number g.graph.words.now g.leaders.now g.nexts.now g.fanout.now numbers d.counts
    d.ready.words

abbrev pub GroupDone : Groups → ℕ → ℕ → List ℕ → List ℕ → InDegrees → Type 0
GroupDone g leader number numbers numbers' d =
    GroupNumbered g.graph.gates leader number g.graph.words.now g.leaders.now numbers numbers' d.counts d.ready.words

abbrev pub NumberingReady : Groups → List ℕ → InDegrees → Type 0
NumberingReady g numbers d =
    AllReady g.graph.gates g.graph.words.now g.leaders.now g.nexts.now g.fanout.now numbers d.counts d.ready.words
