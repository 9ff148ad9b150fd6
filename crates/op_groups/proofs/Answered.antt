-- Groups' outcome as a chain of conditions, and the numbers of a block from those of its graph. Cited by `assign_with`
-- and `groups`. Assumes nothing.
use mathlib.Core.Path.{◌≡◌, refl, ◌∙◌}
use mathlib.Core.List.{List}
use Prim.Native.Nat.{ℕ}
use lib.ListN.{length, get_or}
use lib.Dec.{ltb}
use Rattle.prelude.specs.Lists.{tab, placed}
use Rattle.prelude.proofs.Tab.{length-tab, tab-ext}
use Rattle.netlist.specs.declared.Refusal.TheVariants.{MalformedBlock, NoRoom}
use Rattle.netlist.specs.Netlist.{Block, gate_count}
use Rattle.netlist.specs.StoredBlock.{decode, is_malformed}
use Rattle.netlist.specs.Groups.{groups, group_number, group_numbers}
use Rattle.std.specs.declared.result.Result.TheVariants.{Ok}
use Rattle.netlist.specs.Answers.{done, refuse_if, in_room}
use Rattle.netlist.specs.Operations.{groups_block, groups_of}
use Rattle.words_refusals.specs.Tests.{Test, test_of}
use Rattle.words_refusals.proofs.Promised.{passed, keeps-room}
use Rattle.theory_encoding.proofs.Decoded.{decode-gate_count}
use Rattle.graph_gates.specs.Graph.{network, Decoded}
use Rattle.graph_gates.proofs.Network.{network-gates, network-count, groups-gates, group_numbers-gates}
use Rattle.op_groups.specs.Numbering.{number_at, NumbersOf, GroupsNumbered}

module _ (ws : List ℕ) (room : ℕ) where
  -- the conditions, and the last one
  pub groups-chain : groups_of ws room ≡ in_room room (refuse_if (is_malformed ws) MalformedBlock (groups_block (decode ws)))
  unfolding groups_of
  groups-chain = refl

  pub groups-room : in_room room (groups_block (decode ws))
      ≡ refuse_if (ltb room (get_or ws 1 0)) NoRoom (done (group_numbers (decode ws)) (length (groups (decode ws))) 0)
  unfolding groups_block in_room group_numbers
  groups-room = rw (length-tab (group_number (decode ws)) (gate_count (decode ws)), decode-gate_count ws) refl

  -- the outcome when the first test has passed, from what it says; g is the number of gates
  pub words-passed : {w : Test} {g : ℕ} → w ≡ test_of (is_malformed ws) MalformedBlock → w ≡ Ok tt → g ≡ get_or ws 1 0
      → groups_of ws room
      ≡ refuse_if (ltb room g) NoRoom (done (group_numbers (decode ws)) (length (groups (decode ws))) 0)
  words-passed e f m =
      rw m (passed (in_room room) (keeps-room room) _ _ MalformedBlock groups-chain e f ∙ groups-room)

-- a block has its graph's groups
pub block-numbered : {b : Block} {m : ℕ} {graph numbers entry exit : List ℕ} {count : ℕ} → Decoded b m graph
    → NumbersOf (network m graph) m numbers count
    → exit ≡ placed (tab (number_at numbers) m) entry → GroupsNumbered b entry exit count
unfolding group_numbers
block-numbered {b} {m} {graph} {numbers} d n is =
    let same : tab (number_at numbers) m ≡ group_numbers b =
    rw (← group_numbers-gates (network m graph) b (network-gates b m graph d), network-count m graph)
    (tab-ext (number_at numbers) (group_number (network m graph)) m (λ j l. n.each j l)) in
    record {
      numbers_are = is ∙ rw same refl;
      count_is = n.count_is
          ∙ rw (groups-gates (network m graph) b (network-gates b m graph d)) refl;
    }
