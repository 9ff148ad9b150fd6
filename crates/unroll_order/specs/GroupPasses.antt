-- The copies of the gates of groups with their passes, as one value. Cited by the contracts of Render. Assumes nothing.
use Rattle.std.specs.Prelude.{ℕ, List}
use Rattle.unroll_order.specs.declared.GroupPasses.{GroupPasses}
use Rattle.unroll_order.specs.Listing.{parts_of}

-- group by group, each as many times over as it has passes
abbrev pub gates_in : GroupPasses → List ℕ
gates_in p = parts_of p.members.now p.starts.now p.passes.now p.count
