-- `graph_simulation::values::take_gates` meets its contract: the gates' bytes are copied as they stand.
use Rattle.std.proofs.Common.{◌≡◌, List, ℕ, ◌+◌, ◌-◌, ◌≤◌, ◌∙◌, sym, arith, length, get_or, take, drop, length-drop}
use Rattle.std.proofs.lemmas.List.{get_or-take, get_or-drop, length-take-le}
use Rattle.prelude.specs.Lists.{tab}
use Rattle.prelude.proofs.Tab.{length-tab, tab-get_d, tab-ext}
use Rattle.graph_gates.specs.Places.{first_gate}
use Rattle.graph_simulation.proofs.values.take_gates.Goals as goal

-- a part of a list is the list of its elements
part-tab : (xs : List ℕ) (a n : ℕ) → a + n ≤ length xs → take n (drop a xs) ≡ tab (λ j. get_or xs (a + j) 0) n
part-tab xs a n h =
    let few : n ≤ length (drop a xs) = rw length-drop (omega arith) in
    sym (tab-get_d 0 (take n (drop a xs)) n (length-take-le n (drop a xs) few))
    ∙ tab-ext (λ j. get_or (take n (drop a xs)) j 0) (λ j. get_or xs (a + j) 0) n
    (λ j l. get_or-take n (drop a xs) j 0 l ∙ get_or-drop a xs j 0)

pub returns : goal.returns
returns c =
    let m = c.args.m in
    let k : first_gate + m - first_gate ≡ m = omega arith in
    let part : c.copy_from_slice.new.self ≡ take m (drop first_gate c.args.values.now) =
    rw k at c.copy_from_slice.ensures.after in
    let f : ℕ → ℕ = λ j. get_or c.args.values.now (first_gate + j) 0 in
    rw (part, part-tab c.args.values.now first_gate m (omega arith), length-tab f m)
