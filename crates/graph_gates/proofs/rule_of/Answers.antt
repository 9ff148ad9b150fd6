-- `graph_gates::rule_of` meets its contract: each arm has its kind's numbers, and kinds 1 to 4 those of the table's
-- row.
use mathlib.Core.Path.{◌≡◌, ap, ◌∙◌}
use mathlib.Core.Bool.{true}
use native.Mathlib.Omega.{arith}
use borrow.Author.Rules.{rules}
use borrow.Author.Tests.{tests, le-leb}
use Rattle.netlist.specs.declared.Row.{Row}
use Rattle.netlist.specs.Kinds.{is_not, is_xor, is_xnor, is_kind}
use Rattle.graph_gates.specs.Graph.{controlling_of, forced_of}
use Rattle.graph_gates.proofs.Rules.{controlling-small, forced-small, rule-row}
use Rattle.graph_gates.proofs.rule_of.Goals as goal

pub returns-in-0 : goal.returns-in-0
unfolding controlling_of forced_of is_not
returns-in-0 c = search (rules, tests)

pub returns-in-5 : goal.returns-in-5
unfolding controlling_of forced_of is_not is_xor
returns-in-5 c = search (rules, tests)

pub returns-in-6 : goal.returns-in-6
unfolding controlling_of forced_of is_not is_xor is_xnor
returns-in-6 c = search (rules, tests)

pub returns-in_default : goal.returns-in_default
unfolding is_kind
returns-in_default c =
    let kind = c.args.kind in
    let legal : is_kind kind ≡ true = le-leb kind 6 c.requires in
    let is = c.row_of-row.ensures (omega arith) in
    let rule = rule-row kind legal (omega arith) (omega arith) (omega arith) in
    let first = ap (λ (r : Row). r.controlling) is ∙ rule.0 in
    let second = ap (λ (r : Row). r.forced) is ∙ rule.1 in
    (first, second, rw first (controlling-small kind legal), rw second (forced-small kind legal))
