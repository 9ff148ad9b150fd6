-- A group and the groups before it. The agreement and the number of passes cite it.
--   gates_before-next   the gates of one group more
--   group-follows      a group reads only itself and the groups before it
-- Assumes nothing.
use Prim.Native.Nat.{ℕ, suc, ◌<◌}
use mathlib.Core.Path.{◌≡◌, ap, ◌∙◌}
use mathlib.Core.List.{[], ◌++◌}
use lib.ListN.{length, take}
use lib.Seq.{take-suc}
use Rattle.prelude.specs.Lists.{joined}
use Rattle.prelude.proofs.Lists.{joined_snoc, member-cases, member_right}
use Rattle.netlist.specs.Netlist.{Block}
use Rattle.netlist.specs.Groups.{groups}
use Rattle.theory_fixpoint.specs.Order.{Listed, Follows}
use Rattle.theory_reach.proofs.ListFacts.{once-apart}
use Rattle.theory_reach.proofs.Order.{groups-numbered, groups-closed}
use Rattle.theory_unrolling.specs.Copies.{group_at, gates_before}

module _ (b : Block) where
  pub gates_before-next : (t : ℕ) → t < length (groups b) → gates_before b (suc t) ≡ gates_before b t ++ group_at b t
  gates_before-next t l = ap joined (take-suc (groups b) t [] l) ∙ joined_snoc (take t (groups b)) (group_at b t)

  -- A group reads only itself and the groups before it, and shares no gate with them.
  pub group-follows : (t : ℕ) → t < length (groups b) → Follows b (Listed (gates_before b t)) (group_at b t)
  group-follows t l =
      record {
        inside =
            λ j k m r. member-cases k (gates_before b t) (group_at b t)
            (rw (gates_before-next t l) at
            (groups-closed b (suc t) j k
            (rw (gates_before-next t l) (member_right j (gates_before b t) (group_at b t) m)) r));
        apart = λ k m n. once-apart (gates_before b t) (group_at b t)
            (rw (gates_before-next t l) at (groups-numbered b (suc t)).once) k m n;
      }
