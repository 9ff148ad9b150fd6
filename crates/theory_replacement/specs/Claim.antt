-- What is claimed of a netlist whose group of gates is replaced. proofs/Shown.antt shows it. Assumes nothing.
--   b       any netlist: gates of all seven kinds, with loops or without, with no limit on inputs or gates
--   group   any gates of it, for instance a strongly connected group
--   own     the block that the group is by itself (`own_block` in specs/Group.antt)
--   new     the block that takes the group's place, for instance a rendering of `own`; how it was made plays no part
--   x       the values of the netlist's inputs: 0, 1 or undefined
--
-- What this leaves to a command that takes the loops out of a design: that the design is the netlist that it reads it
-- as (a latch's output is an input of it, and what a latch reads is an output), that it cuts the groups out and puts
-- the new gates back as `own_block` and `replaced` say (specs/Several.antt for all groups together), and that it asked
-- Compare about each. That is not proved of a command; it is tested.
use Rattle.std.specs.Prelude.{ℕ, ◌<◌, ◌≡◌, true, false, List, map, length, get_or}
use Rattle.prelude.specs.Lists.{all, member}
use Rattle.netlist.specs.Values.{Value, undefined, is_defined}
use Rattle.netlist.specs.Assignments.{Assignment, mask_of, is_one}
use Rattle.netlist.specs.Netlist.{Name, Operand, gate, constant, Block, input_count, gate_count, output_count, gate_of}
use Rattle.netlist.specs.StoredBlock.{is_operand}
use Rattle.netlist.specs.Rounds.{settled, setting_count, outputs_under, is_excluded}
use Rattle.netlist.specs.Groups.{OperandPath, reads, group_of}
use Rattle.netlist.specs.Rendering.{is_straight}
use Rattle.netlist.specs.Cover.{is_sound}
use Rattle.netlist.specs.Compare.{Accepts}
use Rattle.netlist.specs.Gather.{number_at}
use Rattle.theory_replacement.specs.Placing.{is_complete, nodes, rewired, in_place, Cut, net_values, shown_under}
use Rattle.theory_replacement.specs.Placing.{uses_input, DependsOnNone}
use Rattle.theory_replacement.specs.Group.{is_shown, boundary, cut_of, own_block}
use Rattle.theory_replacement.specs.Replaced.{new_number, replaced}

-- ---- what is the same

-- Every gate outside the group settles at the value that it has in the original, and every output shows what it shows
-- there.
pub record SameValues (b : Block) (cut : Cut) (new : Block) (x : List Value) : Type 0 where
  pub gates : (j : ℕ) → j < gate_count b → member j cut.gates ≡ false
      → get_or (settled (replaced b cut new) x) (new_number b cut j) undefined ≡ get_or (settled b x) j undefined
  pub outputs : shown_under (replaced b cut new) x ≡ shown_under b x

-- ---- when

-- `own` is what stands in the netlist at the cut: put in place, its gates are the group's gates and its outputs show
-- the ports; its nets are there; and every gate of the group that is read outside the group, or shown, is a port.
pub record StandsAt (b : Block) (cut : Cut) (own : Block) : Type 0 where
  pub complete : is_complete own ≡ true
  pub nets : all (is_operand b) cut.nets ≡ true
  pub inputs : input_count own ≡ length cut.nets
  pub gates : map (rewired (in_place cut.nets (number_at cut.gates))) own.gates ≡ map (gate_of b) cut.gates
  pub outputs : map (in_place cut.nets (number_at cut.gates)) (nodes own) ≡ map gate cut.ports
  pub is_read : (i j : ℕ) → member i cut.gates ≡ false → reads b i j ≡ true → member j cut.gates ≡ true
      → member j cut.ports ≡ true
  pub is_shown : (j : ℕ) → is_shown b j ≡ true → member j cut.gates ≡ true → member j cut.ports ≡ true

-- The new block can be put there: it has the group's inputs, and no net that it reads depends on the group. Without
-- this it could wait for itself: it may need an input to be 0 or 1 where the group does not.
pub record FitsAt (b : Block) (cut : Cut) (new : Block) : Type 0 where
  pub complete : is_complete new ≡ true
  pub inputs : input_count new ≡ length cut.nets
  pub independent : (i k : ℕ) → uses_input new i ≡ true → get_or cut.nets i (constant false) ≡ gate k
      → DependsOnNone b cut.gates k

-- The two blocks show the same under every setting of 0s and 1s that may come, by the never lines of `own`.
abbrev pub AgreeWhereAllowed : Block → Block → Type 0
AgreeWhereAllowed own new =
    (s : ℕ) → s < setting_count own → is_excluded own s ≡ false → outputs_under own s ≡ outputs_under new s

-- The nets at the inputs of `own` are 0 or 1 by the netlist's settled values, and they are a setting that may come.
pub record AllowedAt (b : Block) (x : List Value) (nets : List Operand) (own : Block) : Type 0 where
  pub defined : all is_defined (net_values b x nets) ≡ true
  pub may_come : is_excluded own (mask_of is_one (net_values b x nets)) ≡ false

-- ---- the claims, from the most general to the one that a command rests on

-- At one setting of the netlist, whatever the nets' values are: where the two blocks show the same under these values,
-- everything else is the same.
abbrev pub ReplacedUnderOneSetting : Type 0
ReplacedUnderOneSetting =
    (b : Block) (cut : Cut) (own new : Block) → is_complete b ≡ true → StandsAt b cut own → FitsAt b cut new
    → (x : List Value)
    → shown_under own (net_values b x cut.nets) ≡ shown_under new (net_values b x cut.nets) → SameValues b cut new x

-- Any gates may be replaced, with their own block as `own_block` defines it.
abbrev pub ReplacedGates : Type 0
ReplacedGates =
    (b : Block) (group : List ℕ) (input_names port_names : List Name) (nevers : List Assignment) (new : Block)
    → is_complete b ≡ true → FitsAt b (cut_of b group) new
    → AgreeWhereAllowed (own_block b group input_names port_names nevers) new
    → (x : List Value) → AllowedAt b x (boundary b group) (own_block b group input_names port_names nevers)
    → SameValues b (cut_of b group) new x

-- A strongly connected group: that of gate j. No net of its boundary depends on it, so nothing has to be asked of that.
abbrev pub ReplacedGroup : Type 0
ReplacedGroup =
    (b : Block) (j : ℕ) (input_names port_names : List Name) (nevers : List Assignment) (new : Block)
    → is_complete b ≡ true → is_complete new ≡ true → input_count new ≡ length (boundary b (group_of b j))
    → AgreeWhereAllowed (own_block b (group_of b j) input_names port_names nevers) new
    → (x : List Value) → AllowedAt b x (boundary b (group_of b j)) (own_block b (group_of b j) input_names port_names nevers)
    → SameValues b (cut_of b (group_of b j)) new x

-- What Compare answers is enough: a block that it accepts agrees with the group's own block, if that is sound.
abbrev pub AcceptedAgrees : Type 0
AcceptedAgrees =
    (own new : Block) → is_sound own ≡ true → output_count own ≡ output_count new → Accepts own new
    → AgreeWhereAllowed own new

-- ---- loops

-- a chain of reads, of at least one step, leads from gate j back to it
pub record OnLoop (b : Block) (j : ℕ) : Type 0 where
  pub next : ℕ
  pub is_read : reads b j next ≡ true
  pub back : OperandPath b next j

-- gate n of the replaced netlist was on a loop before, and is a gate outside the group
pub record WasOnLoop (b : Block) (cut : Cut) (n : ℕ) : Type 0 where
  pub old : ℕ
  pub there : old < gate_count b
  pub apart : member old cut.gates ≡ false
  pub number : n ≡ new_number b cut old
  pub loop : OnLoop b old

-- Straight gates bring no loop: every loop of the replaced netlist is one of gates outside the group, and was there
-- before.
abbrev pub NoNewLoop : Type 0
NoNewLoop =
    (b : Block) (cut : Cut) (own new : Block) → is_complete b ≡ true → StandsAt b cut own → FitsAt b cut new
    → length cut.ports ≡ output_count new → is_straight new ≡ true → (n : ℕ) → OnLoop (replaced b cut new) n
    → WasOnLoop b cut n
