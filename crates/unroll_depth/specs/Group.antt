-- The gates of a group as one value. Cited by the contracts of `pairs` and `group`. Assumes nothing.
use Rattle.std.specs.Prelude.{ℕ, List}
use Rattle.unroll_depth.specs.declared.pairs.Group.{Group}
use Rattle.unroll_depth.specs.Pairs.{group_of}

-- the gates at the positions of the group's turn
abbrev pub gates_listed : Group → List ℕ
gates_listed g = group_of g.members.now g.turn
