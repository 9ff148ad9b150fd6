-- SPECIFICATION 6.1: how many passes over a group its gates need, which is the unrolling depth of its loop, and how
-- many copies that makes.
use Rattle.std.specs.Prelude.{ℕ, suc, ◌*◌, Bool, cond, ◌||◌, List, map, length, get_or, eqb}
use Rattle.prelude.specs.Lists.{all, tab, repeated, up_to, member, least, sum}
use Rattle.netlist.specs.Values.{Value, undefined, code}
use Rattle.netlist.specs.Netlist.{Block, input_count, gate_count}
use Rattle.netlist.specs.Rounds.{setting_of, setting_count, settled_under, is_excluded}
use Rattle.netlist.specs.Groups.{groups}
use Rattle.netlist.specs.Steps.{run}

-- the state before the passes: the group's gates undefined, and every other gate settled. The group reads only itself
-- and earlier groups.
unfoldable pub before_passes : Block → List ℕ → ℕ → List Value
before_passes b group s =
    tab (λ j. cond (member j group) undefined (get_or (settled_under b s) j undefined)) (gate_count b)

-- the state after so many passes over the group, in three values: one gate after the other, each value stored at once,
-- as Render copies them
unfoldable pub after_passes : Block → List ℕ → ℕ → ℕ → List Value
after_passes b group s p = run b (setting_of (input_count b) s) (repeated p group) (before_passes b group s)

-- after so many passes each gate of the group has its settled value, under one setting
unfoldable pub are_settled : Block → List ℕ → ℕ → ℕ → Bool
are_settled b group s p =
    all (λ j. eqb (code (get_or (after_passes b group s p) j undefined)) (code (get_or (settled_under b s) j undefined)))
    group

-- so many passes are enough for the group under every setting that may come
unfoldable pub are_enough : Block → List ℕ → ℕ → Bool
are_enough b group p = all (λ s. is_excluded b s || are_settled b group s p) (up_to (setting_count b))

-- the unrolling depth: the least number of passes, from 1 on, that is enough. As many as there are gates always are
-- (`size-enough` in crates/theory_unrolling).
unfoldable pub pass_count : Block → List ℕ → ℕ
pass_count b group = suc (least (λ p. are_enough b group (suc p)) (length group))

-- the number of all copies: each pass over a group copies each of its gates
unfoldable pub copy_count : Block → ℕ
copy_count b = sum (map (λ group. length group * pass_count b group) (groups b))
