-- The rules of the stored block as the loops of src/ step through them: names for the tests under each "all" of the
-- rules in crates/theory_encoding.
use Rattle.std.specs.Prelude.{ℕ, ◌+◌, ◌*◌, Bool, ◌&&◌, List, get_or}
use Rattle.prelude.specs.Lists.{all, up_to}
use Rattle.netlist.specs.StoredBlock.{name_size, never_size, output_size, inputs_at, nevers_at, gates_at, outputs_at}
use Rattle.theory_encoding.specs.Rules.{names_rule, never_rule, node_rule}
use Rattle.words_block.specs.GateSteps.{gates_rule}

-- the rule of never line i, of those from `at` on, in a block of n inputs
abbrev pub never_rule_at : List ℕ → ℕ → ℕ → ℕ → Bool
never_rule_at ws n at i = never_rule ws n (at + never_size * i)

abbrev pub nevers_rule : List ℕ → ℕ → ℕ → ℕ → Bool
nevers_rule ws n at lines = all (never_rule_at ws n at) (up_to lines)

-- the rule of output o, of those from `at` on
abbrev pub shown_rule : List ℕ → ℕ → ℕ → ℕ → Bool
shown_rule ws nodes at o = node_rule nodes (get_or ws (at + output_size * o + name_size) 0)

abbrev pub shown_rules : List ℕ → ℕ → ℕ → ℕ → Bool
shown_rules ws nodes at k = all (shown_rule ws nodes at) (up_to k)

-- the parts in front of the gates, behind a header of n inputs and so many never lines
abbrev pub front_rule : List ℕ → ℕ → ℕ → Bool
front_rule ws n lines = names_rule ws inputs_at name_size n && nevers_rule ws n (nevers_at n) lines

-- the rules of all parts behind a header with these four counts
abbrev pub parts_rule : List ℕ → ℕ → ℕ → ℕ → ℕ → Bool
parts_rule ws n lines m k =
    front_rule ws n lines
    && gates_rule ws (n + m) (gates_at n lines) m
    && names_rule ws (outputs_at n lines m) output_size k
    && shown_rules ws (n + m) (outputs_at n lines m) k
