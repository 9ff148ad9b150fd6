-- `text_constraints::read::read_line` meets its contract: the table is that of the line's pairs, and 4, 5 and the masks
-- are told from it. Assumes nothing.
use mathlib.Core.Path.{◌≡◌}
use native.Mathlib.Omega.{arith}
use lib.ListN.{drop}
use Rattle.text_lines.specs.Lines.{line_opens}
use Rattle.text_constraints.proofs.NeverText.{opens-behind}
use Rattle.text_constraints.proofs.OneLine.{few-pairs, line_read}
use Rattle.text_constraints.proofs.read.read_line.Goals.{After-line_of-line}
use Rattle.text_constraints.proofs.read.read_line.Goals as goal

-- the line has a bracket for each pair, and its own
pairs-counted : (c : After-line_of-line) → c.line_of-line.result.gates ≡ line_opens (drop 6 c.args.s.now)
pairs-counted c = omega (arith, c.line_of-line.ensures.gates, opens-behind c.requires.is)

pub fill_numbers-requires : goal.fill_numbers-requires
fill_numbers-requires c =
    record {
      near = omega arith;
      few = few-pairs c.requires (pairs-counted (goal.at.fill_numbers-requires c).After-line_of-line);
      room = c.requires.name_room;
    }

pub shared_ref_as_front-given : goal.shared_ref_as_front-given
shared_ref_as_front-given c =
    few-pairs c.requires (pairs-counted (goal.at.shared_ref_as_front-given c).After-line_of-line)

pub returns : goal.returns
returns c =
    line_read c.requires (pairs-counted (goal.at.returns c).After-line_of-line) c.fill_numbers.ensures
    c.find_repeat-repeat.ensures c.find_outside-outside.ensures _ _ c.fill_values.ensures c.masks_of-masks.ensures
