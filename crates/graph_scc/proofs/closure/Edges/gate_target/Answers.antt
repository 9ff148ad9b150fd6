-- `graph_scc::closure::Edges::gate_target` meets its contract: a gate has four slots, and each is looked at.
use Prim.Native.Nat.{ℕ, ◌<◌}
use mathlib.Core.List.{List}
use mathlib.Core.Bool.{Bool}
use borrow.Author.Rules.{rules}
use Rattle.std.specs.declared.option.Option.{Option}
use Rattle.std.specs.declared.option.Option.TheVariants.{None, Some}
use Rattle.std.specs.Option.{MatchOption}
use Rattle.graph_gates.specs.Graph.{slots, Graph}
use Rattle.graph_scc.specs.Closure.{SlotShut, OpenGate, GateTarget}
use Rattle.graph_scc.proofs.Ranges.{find_map-of_range}
use Rattle.graph_scc.proofs.Reaching.{none-by-slots}
use Rattle.graph_scc.proofs.closure.Edges.gate_target.Goals as goal

by-slots : (m : ℕ) (graph : List ℕ) → Graph m graph → (k : ℕ) → k < m → (back : Bool) (flags : List ℕ) (r : Option ℕ)
    → MatchOption r ((s : ℕ) → s < slots → SlotShut graph back flags k s) (OpenGate m graph back flags)
    → GateTarget m graph back flags k r
by-slots m graph legal k kl back flags None shut = none-by-slots legal k kl back flags shut
by-slots m graph legal k kl back flags (Some t) open' = open'

pub returns : goal.returns
returns c =
    let a = c.args in
    let g = a.self.now.graph in
    by-slots g.gates g.words.now g.legal a.k c.requires a.self.now.back a.flags.now c.find_map.result
    (find_map-of_range c.find_map.result (SlotShut g.words.now a.self.now.back a.flags.now a.k)
    (OpenGate g.gates g.words.now a.self.now.back a.flags.now) slots c.find_map.ensures.runs (search rules) (λ x q k. search rules)
    (λ x y q k. search rules))
