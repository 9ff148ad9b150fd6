-- Several groups of one netlist replaced, one after the other, each by a block that agrees with the group as it stands
-- in the original. proofs/AllShown.antt shows the claims. Assumes nothing.
--
-- When a group has been replaced, the gates of the others have new numbers, and a net of theirs that was a gate of the
-- replaced group is what stands for it. The order of the list only decides how the new gates are numbered: first those
-- outside all groups, in their old order, then the new blocks' gates, block after block.
use Rattle.std.specs.Prelude.{ℕ, zero, suc, ◌<◌, ◌≡◌, Bool, true, false, not, ◌&&◌, List, [], ◌∷◌, map, length, get_or}
use Rattle.prelude.specs.Lists.{all, any, member}
use Rattle.netlist.specs.Values.{Value, undefined}
use Rattle.netlist.specs.Assignments.{Assignment}
use Rattle.netlist.specs.Netlist.{Name, Block, input_count, gate_count, output_count}
use Rattle.netlist.specs.Rounds.{settled}
use Rattle.netlist.specs.Groups.{same_group, group_of}
use Rattle.netlist.specs.Rendering.{is_straight}
use Rattle.theory_replacement.specs.Placing.{is_complete, Cut, shown_under}
use Rattle.theory_replacement.specs.Group.{boundary, ports, cut_of, own_block}
use Rattle.theory_replacement.specs.Replaced.{new_number, stand_in, replaced}
use Rattle.theory_replacement.specs.Claim.{AgreeWhereAllowed, AllowedAt, OnLoop}

-- ---- one after the other

-- a group's place, the block that it is by itself, and the block that takes its place
pub record Piece : Type 0 where
  pub cut : Cut
  pub own : Block
  pub new : Block

-- the place of another group, when the group at `cut` has been replaced
unfoldable pub moved_cut : Block → Cut → Block → Cut → Cut
moved_cut b cut new other =
    record {
      gates = map (new_number b cut) other.gates;
      nets = map (stand_in b cut new) other.nets;
      ports = map (new_number b cut) other.ports;
    }

unfoldable pub moved_piece : Block → Piece → Piece → Piece
moved_piece b p q = record { cut = moved_cut b p.cut p.new q.cut; own = q.own; new = q.new }

-- the netlist with the first n replaced, and the number that gate j then has
unfoldable pub replaced_first : ℕ → Block → List Piece → Block
replaced_first zero b ps = b
replaced_first (suc n) b [] = b
replaced_first (suc n) b (p ∷ ps) = replaced_first n (replaced b p.cut p.new) (map (moved_piece b p) ps)

unfoldable pub number_first : ℕ → Block → List Piece → ℕ → ℕ
number_first zero b ps j = j
number_first (suc n) b [] j = j
number_first (suc n) b (p ∷ ps) j =
    number_first n (replaced b p.cut p.new) (map (moved_piece b p) ps) (new_number b p.cut j)

unfoldable pub replaced_all : Block → List Piece → Block
replaced_all b ps = replaced_first (length ps) b ps

unfoldable pub number_all : Block → List Piece → ℕ → ℕ
number_all b ps j = number_first (length ps) b ps j

-- gate j is in none of the groups
unfoldable pub is_outside_all : List Piece → ℕ → Bool
is_outside_all ps j = all (λ (p : Piece). not (member j p.cut.gates)) ps

-- ---- strongly connected groups

-- what replaces the strongly connected group of a gate, with the names and never lines of the group's own block
pub record GroupPiece : Type 0 where
  pub gate : ℕ
  pub input_names : List Name
  pub port_names : List Name
  pub nevers : List Assignment
  pub new : Block

unfoldable pub piece_of : Block → GroupPiece → Piece
piece_of b g =
    record {
      cut = cut_of b (group_of b g.gate);
      own = own_block b (group_of b g.gate) g.input_names g.port_names g.nevers;
      new = g.new;
    }

-- no two of these gates are of one group
unfoldable pub are_different : Block → List ℕ → Bool
are_different b [] = true
are_different b (j ∷ js) = not (any (same_group b j) js) && are_different b js

-- the new block has the group's inputs and outputs, and agrees with it wherever the never lines allow
pub record AgreesWithGroup (b : Block) (g : GroupPiece) : Type 0 where
  pub there : g.gate < gate_count b
  pub complete : is_complete g.new ≡ true
  pub inputs : input_count g.new ≡ length (boundary b (group_of b g.gate))
  pub outputs : output_count g.new ≡ length (ports b (group_of b g.gate))
  pub agrees : AgreeWhereAllowed (piece_of b g).own g.new

-- under these values of the netlist's inputs the group's boundary is 0 or 1, and nothing that its never lines exclude
abbrev pub GroupAllowed : Block → List Value → GroupPiece → Type 0
GroupAllowed b x g = AllowedAt b x (boundary b (group_of b g.gate)) (piece_of b g).own

-- each element of a list has the property
abbrev pub Each : {A : Type 0} → (A → Type 0) → List A → Type 0
Each P [] = Unit
Each P (a ∷ rest) = P a × Each P rest

-- ---- the claims

-- Every gate outside all groups settles at the value that it has in the original, and every output shows what it shows
-- there.
pub record SameValuesAll (b : Block) (ps : List Piece) (x : List Value) : Type 0 where
  pub gates : (j : ℕ) → j < gate_count b → is_outside_all ps j ≡ true
      → get_or (settled (replaced_all b ps) x) (number_all b ps j) undefined ≡ get_or (settled b x) j undefined
  pub outputs : shown_under (replaced_all b ps) x ≡ shown_under b x

-- Different strongly connected groups, each replaced by a block that agrees with it as it stands in the original.
abbrev pub ReplacedGroups : Type 0
ReplacedGroups =
    (b : Block) (gs : List GroupPiece) → is_complete b ≡ true
    → are_different b (map (λ (g : GroupPiece). g.gate) gs) ≡ true
    → Each (AgreesWithGroup b) gs → (x : List Value) → Each (GroupAllowed b x) gs
    → SameValuesAll b (map (piece_of b) gs) x

-- Where the new blocks are straight and every gate on a loop is in one of the groups, nothing is on a loop any more.
abbrev pub NoLoopLeft : Type 0
NoLoopLeft =
    (b : Block) (gs : List GroupPiece) → is_complete b ≡ true
    → are_different b (map (λ (g : GroupPiece). g.gate) gs) ≡ true
    → Each (AgreesWithGroup b) gs → Each (λ g. is_straight g.new ≡ true) gs
    → ((j : ℕ) → OnLoop b j → is_outside_all (map (piece_of b) gs) j ≡ false)
    → (n : ℕ) → OnLoop (replaced_all b (map (piece_of b) gs)) n → ⊥
