-- The claims of specs/Several.antt hold: the strongly connected groups of a netlist can be replaced one after the
-- other, with their numbers in the order of the groups as ranks. Assumes nothing.
use Prim.Native.Nat.{ℕ, ◌≤◌, ◌<◌}
use mathlib.Core.Path.{◌≡◌, sym, ◌∙◌}
use mathlib.Core.Logic.{⊎_elim}
use mathlib.Core.Bool.{true, false, not, ◌||◌}
use mathlib.Core.List.{List, [], ◌∷◌, map}
use native.Mathlib.Omega.{arith}
use borrow.Author.Tests.{not-true}
use lib.ListN.{length, get_or}
use Rattle.prelude.specs.Lists.{any, member}
use Rattle.prelude.proofs.Tests.{and_left, and_right, or-neither, not-true-false, not-both, eq-or-ne}
use Rattle.netlist.specs.Values.{Value}
use Rattle.netlist.specs.Netlist.{gate, constant, Block, gate_count}
use Rattle.netlist.specs.Groups.{same_group, group_of, group_number}
use Rattle.netlist.specs.Rendering.{is_straight}
use Rattle.theory_reach.specs.Inside.{Inside}
use Rattle.theory_reach.proofs.ListFacts.{member-keep}
use Rattle.theory_reach.proofs.SameGroup.{same_group-sym, same_group-trans, group_of-member, group_of-same, group_of-below}
use Rattle.theory_reach.proofs.GroupNumber.{group_number-same, same-group_number, group_number-reads}
use Rattle.theory_replacement.specs.Placing.{is_complete}
use Rattle.theory_replacement.specs.Group.{boundary, is_read_outside, is_shown, ports, cut_of}
use Rattle.theory_replacement.specs.Claim.{StandsAt}
use Rattle.theory_replacement.specs.Several.{Piece, GroupPiece, piece_of, are_different, AgreesWithGroup}
use Rattle.theory_replacement.specs.Several.{GroupAllowed, Each, replaced_all, number_all, ReplacedGroups}
use Rattle.theory_replacement.specs.Several.{NoLoopLeft}
use Rattle.theory_replacement.proofs.Rewired.{complete-operand}
use Rattle.theory_replacement.proofs.Seen.{gate-there}
use Rattle.theory_replacement.proofs.Cases.{reads-among}
use Rattle.theory_replacement.proofs.Own.{own-stands-at}
use Rattle.theory_replacement.proofs.Connected.{boundary-apart, boundary-read, boundary-gate, net-there}
use Rattle.theory_replacement.proofs.Settings.{allowed-agree}
use Rattle.theory_replacement.proofs.Moved.{PieceFits, NetsSeen, Apart, Agree}
use Rattle.theory_replacement.proofs.OneByOne.{Pairwise, Ready, first-outputs, first-gates, first-loop}

-- in a complete netlist the gates that gates read are there
complete-inside : (b : Block) → is_complete b ≡ true → Inside b
complete-inside b whole j k r = gate-there b k (complete-operand b whole j (gate k) (reads-among b j k r))

-- a port is a gate of the group
port-inside : (b : Block) (group : List ℕ) (j : ℕ) → member j (ports b group) ≡ true → member j group ≡ true
unfolding ports
port-inside b group j m =
    and_left _ _ (sym (member-keep (λ j. is_read_outside b group j || is_shown b j) group j) ∙ m)

module _ (b : Block) (whole : is_complete b ≡ true) where
  inside : Inside b
  inside = complete-inside b whole

  -- a net of a group's boundary has a lower number
  net-lower : (j i k : ℕ) → j < gate_count b → get_or (boundary b (group_of b j)) i (constant false) ≡ gate k
      → group_number b k < group_number b j
  net-lower j i k l e =
      let there : i < length (boundary b (group_of b j)) = net-there (boundary b (group_of b j)) i k e in
      let (g, m, r) = boundary-read b (group_of b j) i k there e in
      let low : group_number b k ≤ group_number b g = group_number-reads b inside g k r in
      let same : group_number b j ≡ group_number b g = group_number-same b inside j g (group_of-same b j g m) in
      ⊎_elim
      (λ s. not-both
      (group_of-member b j k (same-group_number b inside j k l (boundary-gate b (group_of b j) whole i k there e) (sym s)))
      (boundary-apart b (group_of b j) i k there e))
      (λ d. omega arith) (eq-or-ne (group_number b k) (group_number b j))

  stands : (g : GroupPiece) → StandsAt b (piece_of b g).cut (piece_of b g).own
  unfolding piece_of
  stands g = own-stands-at b (group_of b g.gate) g.input_names g.port_names g.nevers whole

  fits : (g : GroupPiece) → AgreesWithGroup b g → PieceFits b (group_number b) (piece_of b g)
  unfolding piece_of cut_of
  fits g a =
      record {
        stands = stands g;
        complete = a.complete;
        inputs = a.inputs;
        outputs = sym a.outputs;
        there = group_of-below b g.gate;
        inside = port-inside b (group_of b g.gate);
        level = group_number b g.gate;
        at_level = λ j m. sym (group_number-same b inside g.gate j (group_of-same b g.gate j m));
        below_level = λ i k u e. net-lower g.gate i k a.there e;
      }

  -- two different groups share no gate,
  disjoint : (i k : ℕ) → same_group b i k ≡ false → (j : ℕ) → member j (group_of b i) ≡ true
      → member j (group_of b k) ≡ true → ⊥
  disjoint i k d j m m' =
      not-both (same_group-trans b i j k (group_of-same b i j m) (same_group-sym b k j (group_of-same b k j m'))) d

  -- a net of one group that is a gate of another is a port of that one
  nets-seen : (g h : GroupPiece)
      → ((j : ℕ) → member j (group_of b g.gate) ≡ true → member j (group_of b h.gate) ≡ true → ⊥)
      → NetsSeen (piece_of b g) (piece_of b h)
  unfolding piece_of cut_of
  nets-seen g h apart i k e m =
      let there : i < length (boundary b (group_of b g.gate)) = net-there (boundary b (group_of b g.gate)) i k e in
      let (j, mj, r) = boundary-read b (group_of b g.gate) i k there e in
      (stands h).is_read j k (not-true-false (member j (group_of b h.gate)) (λ t. apart j mj t)) r m

  groups-apart : (g h : GroupPiece) → same_group b g.gate h.gate ≡ false → Apart (piece_of b g) (piece_of b h)
  unfolding piece_of cut_of
  groups-apart g h d =
      record {
        disjoint = disjoint g.gate h.gate d;
        nets_of_first = nets-seen g h (disjoint g.gate h.gate d);
        nets_of_second = nets-seen h g (λ j m m'. disjoint g.gate h.gate d j m' m);
      }

  abbrev gates : List GroupPiece → List ℕ
  gates gs = map (λ (g : GroupPiece). g.gate) gs

  each-apart : (g : GroupPiece) (gs : List GroupPiece) → any (same_group b g.gate) (gates gs) ≡ false
      → Each (Apart (piece_of b g)) (map (piece_of b) gs)
  each-apart g [] d = tt
  each-apart g (h ∷ gs) d =
      let (d₁, d₂) = or-neither (same_group b g.gate h.gate) (any (same_group b g.gate) (gates gs)) d in
      (groups-apart g h d₁, each-apart g gs d₂)

  pairs-apart : (gs : List GroupPiece) → are_different b (gates gs) ≡ true → Pairwise Apart (map (piece_of b) gs)
  unfolding are_different
  pairs-apart [] d = tt
  pairs-apart (g ∷ gs) d = (
    each-apart g gs (not-true _ (and_left _ _ d)),
    pairs-apart gs
        (and_right (not (any (same_group b g.gate) (gates gs))) _ d),
  )

  each_fits : (gs : List GroupPiece) → Each (AgreesWithGroup b) gs
      → Each (PieceFits b (group_number b)) (map (piece_of b) gs)
  each_fits [] h = tt
  each_fits (g ∷ gs) h = (fits g h.0, each_fits gs h.1)

  ready : (gs : List GroupPiece) → are_different b (gates gs) ≡ true → Each (AgreesWithGroup b) gs
      → Ready b (map (piece_of b) gs)
  ready gs d h =
      record {
        whole = whole;
        rank = group_number b;
        ranks = group_number-reads b inside;
        fit = each_fits gs h;
        apart = pairs-apart gs d;
      }

  agree : (x : List Value) (g : GroupPiece) → AgreesWithGroup b g → GroupAllowed b x g → Agree b x (piece_of b g)
  unfolding piece_of cut_of
  agree x g a w =
      allowed-agree b x (boundary b (group_of b g.gate)) (piece_of b g).own g.new (stands g).inputs a.inputs
      a.agrees w

  each-agree : (x : List Value) (gs : List GroupPiece) → Each (AgreesWithGroup b) gs → Each (GroupAllowed b x) gs
      → Each (Agree b x) (map (piece_of b) gs)
  each-agree x [] h w = tt
  each-agree x (g ∷ gs) h w = (agree x g h.0 w.0, each-agree x gs h.1 w.1)

  each-straight : (gs : List GroupPiece) → Each (λ (g : GroupPiece). is_straight g.new ≡ true) gs
      → Each (λ (p : Piece). is_straight p.new ≡ true) (map (piece_of b) gs)
  unfolding piece_of
  each-straight [] h = tt
  each-straight (g ∷ gs) h = (h.0, each-straight gs h.1)

pub replaced-groups : ReplacedGroups
unfolding replaced_all number_all
replaced-groups b gs whole different agrees x allowed =
    let ps : List Piece = map (piece_of b) gs in
    record {
      gates =
          first-gates (length ps) b ps x (ready b whole gs different agrees) (each-agree b whole x gs agrees allowed);
      outputs =
          first-outputs (length ps) b ps x (ready b whole gs different agrees) (each-agree b whole x gs agrees allowed);
    }

pub no-loop-left : NoLoopLeft
unfolding replaced_all
no-loop-left b gs whole different agrees straight covered n loop =
    let ps : List Piece = map (piece_of b) gs in
    let left =
    first-loop (length ps) b ps (omega arith) (ready b whole gs different agrees)
    (each-straight b whole gs straight) n loop in
    not-both left.apart (covered left.gate left.loop)
