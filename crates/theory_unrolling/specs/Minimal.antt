-- What shows that a number of passes over a group is too small. The theorem of minimality is stated with it. Assumes
-- nothing.
use Rattle.std.specs.Prelude.{ℕ, ◌<◌, ◌≡◌, true, false, List, get_or}
use Rattle.prelude.specs.Lists.{member}
use Rattle.netlist.specs.Values.{undefined}
use Rattle.netlist.specs.Netlist.{Block}
use Rattle.netlist.specs.Rounds.{setting_count, settled_under, is_excluded}
use Rattle.netlist.specs.Passes.{after_passes}

-- after p passes, under a setting that may come, a gate of the group does not have its settled value
pub record FailsAfter (b : Block) (group : List ℕ) (p : ℕ) : Type 0 where
  pub setting : ℕ
  pub is_setting : setting < setting_count b
  pub may_come : is_excluded b setting ≡ false
  pub gate : ℕ
  pub in_group : member gate group ≡ true
  pub not_yet : get_or (after_passes b group setting p) gate undefined ≡ get_or (settled_under b setting) gate undefined → ⊥
