-- Several groups replaced one after the other, by induction on how many: what one replacement keeps, all keep.
--   Ready, ready-next             groups that can be replaced one after the other; so can the rest afterwards
--   first-outputs, first-gates    every output and every gate outside keeps its settled value
--   first-loop                    where the new blocks are straight, a gate on a loop was on one before, outside all
-- Assumes nothing.
use Prim.Native.Nat.{ℕ, zero, suc, ◌≤◌, ◌<◌}
use mathlib.Core.Path.{◌≡◌, refl, ◌∙◌}
use mathlib.Core.Bool.{true, false, not}
use mathlib.Core.List.{List, [], ◌∷◌, map}
use native.Mathlib.Omega.{arith}
use borrow.Author.Tests.{not-true}
use lib.ListN.{length, get_or, length-map}
use Rattle.prelude.specs.Lists.{member}
use Rattle.prelude.proofs.Tests.{and_left, and_right, and_intro, not-true-false, not-both}
use Rattle.netlist.specs.Values.{Value, undefined}
use Rattle.netlist.specs.Netlist.{Block, gate_count}
use Rattle.netlist.specs.Rounds.{settled}
use Rattle.netlist.specs.Rendering.{is_straight}
use Rattle.theory_permutation.proofs.Groups.{member-map, map-member}
use Rattle.theory_replacement.specs.Placing.{is_complete, shown_under}
use Rattle.theory_replacement.specs.Replaced.{new_number, replaced}
use Rattle.theory_replacement.specs.Claim.{SameValues, OnLoop, WasOnLoop}
use Rattle.theory_replacement.specs.Several.{Piece, moved_cut, moved_piece, replaced_first, number_first}
use Rattle.theory_replacement.specs.Several.{is_outside_all, Each}
use Rattle.theory_replacement.proofs.Numbers.{false-not, new_number-below, length-replaced}
use Rattle.theory_replacement.proofs.Cases.{number-injective}
use Rattle.theory_replacement.proofs.Loops.{was-on-loop}
use Rattle.theory_replacement.proofs.Values.{one-setting}
use Rattle.theory_replacement.proofs.Moved.{Ranks, PieceFits, Apart, Agree, piece-fits-at}
use Rattle.theory_replacement.proofs.Moved.{after-complete, rank_after, ranks-after}
use Rattle.theory_replacement.proofs.Moved.{moved-fits, moved-agree, moved_apart}

-- each element before the others
abbrev pub Pairwise : {A : Type 0} → (A → A → Type 0) → List A → Type 0
Pairwise R [] = Unit
Pairwise R (a ∷ rest) = Each (R a) rest × Pairwise R rest

pub record Ready (b : Block) (ps : List Piece) : Type 0 where
  pub whole : is_complete b ≡ true
  pub rank : ℕ → ℕ
  pub ranks : Ranks b rank
  pub fit : Each (PieceFits b rank) ps
  pub apart : Pairwise Apart ps

module _ (b : Block) (rank : ℕ → ℕ) (whole : is_complete b ≡ true) (ranks : Ranks b rank) (p : Piece)
    (f : PieceFits b rank p) where
  abbrev after : Block
  after = replaced b p.cut p.new

  each_fits : (ps : List Piece) → Each (PieceFits b rank) ps → Each (Apart p) ps
      → Each (PieceFits after (rank_after b rank whole ranks p f)) (map (moved_piece b p) ps)
  each_fits [] fs apart = tt
  each_fits (q ∷ ps) fs apart =
      (moved-fits b rank whole ranks p f q fs.0 apart.0, each_fits ps fs.1 apart.1)

  each-apart : (q : Piece) → PieceFits b rank q → Apart p q → (ps : List Piece) → Each (PieceFits b rank) ps
      → Each (Apart p) ps → Each (Apart q) ps
      → Each (Apart (moved_piece b p q)) (map (moved_piece b p) ps)
  each-apart q fq aq [] fs apart pairs = tt
  each-apart q fq aq (r ∷ ps) fs apart pairs = (
    moved_apart b rank whole ranks p f q r fq aq fs.0 apart.0 pairs.0,
    each-apart q fq aq ps fs.1 apart.1 pairs.1,
  )

  pairs-apart : (ps : List Piece) → Each (PieceFits b rank) ps → Each (Apart p) ps → Pairwise Apart ps
      → Pairwise Apart (map (moved_piece b p) ps)
  pairs-apart [] fs apart pairs = tt
  pairs-apart (q ∷ ps) fs apart pairs = (
    each-apart q fs.0 apart.0 ps fs.1 apart.1 pairs.0,
    pairs-apart ps fs.1 apart.1 pairs.1,
  )

  each-agree : (x : List Value) → Agree b x p → (ps : List Piece) → Each (PieceFits b rank) ps → Each (Apart p) ps
      → Each (Agree b x) ps
      → Each (Agree after x) (map (moved_piece b p) ps)
  each-agree x first [] fs apart agree = tt
  each-agree x first (q ∷ ps) fs apart agree = (
    moved-agree b rank whole ranks p f q fs.0 apart.0 x first agree.0,
    each-agree x first ps fs.1 apart.1 agree.1,
  )

  -- a gate outside is outside the other groups afterwards exactly when it was before
  moved-member : (q : Piece) → PieceFits b rank q → Apart p q → (j : ℕ) → j < gate_count b
      → member j p.cut.gates ≡ false
      → member (new_number b p.cut j) (moved_piece b p q).cut.gates ≡ true → member j q.cut.gates ≡ true
  unfolding moved_piece moved_cut
  moved-member q fq aq j l m h =
      let (k, mk, e) = member-map (new_number b p.cut) (new_number b p.cut j) q.cut.gates h in
      let out : member k p.cut.gates ≡ false =
      not-true-false (member k p.cut.gates) (λ t. aq.disjoint k t mk) in
      let same : j ≡ k = number-injective b p.cut j k l m (fq.there k mk) out e in
      rw same mk

  member-moved : (q : Piece) (j : ℕ) → member j q.cut.gates ≡ true
      → member (new_number b p.cut j) (moved_piece b p q).cut.gates ≡ true
  unfolding moved_piece moved_cut
  member-moved q j m = map-member (new_number b p.cut) j q.cut.gates m

  outside-moved : (ps : List Piece) → Each (PieceFits b rank) ps → Each (Apart p) ps → (j : ℕ) → j < gate_count b
      → member j p.cut.gates ≡ false
      → is_outside_all ps j ≡ true → is_outside_all (map (moved_piece b p) ps) (new_number b p.cut j) ≡ true
  unfolding is_outside_all
  outside-moved [] fs apart j l m h = refl
  outside-moved (q ∷ ps) fs apart j l m h =
      and_intro _ _
      (false-not _
      (not-true-false _ (λ t. not-both (moved-member q fs.0 apart.0 j l m t) (not-true _ (and_left _ _ h)))))
      (outside-moved ps fs.1 apart.1 j l m (and_right (not (member j q.cut.gates)) _ h))

  outside-before : (ps : List Piece) (j : ℕ) → is_outside_all (map (moved_piece b p) ps) (new_number b p.cut j) ≡ true
      → is_outside_all ps j ≡ true
  unfolding is_outside_all
  outside-before [] j h = refl
  outside-before (q ∷ ps) j h =
      and_intro _ _
      (false-not _ (not-true-false _ (λ t. not-both (member-moved q j t) (not-true _ (and_left _ _ h)))))
      (outside-before ps j (and_right (not (member (new_number b p.cut j) (moved_piece b p q).cut.gates)) _ h))

-- ---- all of them

ready-next : (b : Block) (p : Piece) (ps : List Piece) → Ready b (p ∷ ps)
    → Ready (replaced b p.cut p.new) (map (moved_piece b p) ps)
ready-next b p ps r =
    let f : PieceFits b r.rank p = r.fit.0 in
    record {
      whole = after-complete b r.rank r.whole r.ranks p f;
      rank = rank_after b r.rank r.whole r.ranks p f;
      ranks = ranks-after b r.rank r.whole r.ranks p f;
      fit = each_fits b r.rank r.whole r.ranks p f ps r.fit.1 r.apart.0;
      apart = pairs-apart b r.rank r.whole r.ranks p f ps r.fit.1 r.apart.0 r.apart.1;
    }

agree-next : (b : Block) (p : Piece) (ps : List Piece) (x : List Value) → Ready b (p ∷ ps) → Each (Agree b x) (p ∷ ps)
    → Each (Agree (replaced b p.cut p.new) x) (map (moved_piece b p) ps)
agree-next b p ps x r agree =
    each-agree b r.rank r.whole r.ranks p r.fit.0 x agree.0 ps r.fit.1 r.apart.0 agree.1

one : (b : Block) (p : Piece) (ps : List Piece) (x : List Value) → Ready b (p ∷ ps) → Each (Agree b x) (p ∷ ps)
    → SameValues b p.cut p.new x
one b p ps x r agree =
    let f : PieceFits b r.rank p = r.fit.0 in
    one-setting b p.cut p.own p.new r.whole f.stands (piece-fits-at b r.rank r.ranks p f) x
    agree.0

pub first-outputs : (n : ℕ) (b : Block) (ps : List Piece) (x : List Value) → Ready b ps → Each (Agree b x) ps
    → shown_under (replaced_first n b ps) x ≡ shown_under b x
unfolding replaced_first
first-outputs zero b ps x r agree = refl
first-outputs (suc n) b [] x r agree = refl
first-outputs (suc n) b (p ∷ ps) x r agree =
    first-outputs n (replaced b p.cut p.new) (map (moved_piece b p) ps) x (ready-next b p ps r)
    (agree-next b p ps x r agree)
    ∙ (one b p ps x r agree).outputs

pub first-gates : (n : ℕ) (b : Block) (ps : List Piece) (x : List Value) → Ready b ps → Each (Agree b x) ps
    → (j : ℕ) → j < gate_count b → is_outside_all ps j ≡ true
    → get_or (settled (replaced_first n b ps) x) (number_first n b ps j) undefined ≡ get_or (settled b x) j undefined
unfolding replaced_first number_first is_outside_all
first-gates zero b ps x r agree j l h = refl
first-gates (suc n) b [] x r agree j l h = refl
first-gates (suc n) b (p ∷ ps) x r agree j l h =
    let m : member j p.cut.gates ≡ false = not-true _ (and_left _ _ h) in
    let low = new_number-below b p.cut j l m in
    let count = length-replaced b p.cut p.new in
    first-gates n (replaced b p.cut p.new) (map (moved_piece b p) ps) x (ready-next b p ps r)
    (agree-next b p ps x r agree)
    (new_number b p.cut j) (omega arith)
    (outside-moved b r.rank r.whole r.ranks p r.fit.0 ps r.fit.1 r.apart.0 j l m
    (and_right (not (member j p.cut.gates)) _ h))
    ∙ (one b p ps x r agree).gates j l m

-- ---- loops

-- a gate on a loop that is in none of the groups
pub record LoopLeft (b : Block) (ps : List Piece) : Type 0 where
  pub gate : ℕ
  pub loop : OnLoop b gate
  pub apart : is_outside_all ps gate ≡ true

each-straight : (b : Block) (p : Piece) (ps : List Piece) → Each (λ (q : Piece). is_straight q.new ≡ true) ps
    → Each (λ (q : Piece). is_straight q.new ≡ true) (map (moved_piece b p) ps)
unfolding moved_piece
each-straight b p [] h = tt
each-straight b p (q ∷ ps) h = (h.0, each-straight b p ps h.1)

pub first-loop : (n : ℕ) (b : Block) (ps : List Piece) → length ps ≤ n → Ready b ps
    → Each (λ (p : Piece). is_straight p.new ≡ true) ps
    → (m : ℕ) → OnLoop (replaced_first n b ps) m → LoopLeft b ps
unfolding replaced_first is_outside_all
first-loop zero b [] l r straight m loop = record { gate = m; loop = loop; apart = refl }
first-loop zero b (p ∷ ps) l r straight m loop = absurd (omega arith)
first-loop (suc n) b [] l r straight m loop = record { gate = m; loop = loop; apart = refl }
first-loop (suc n) b (p ∷ ps) l r straight m loop =
    let f : PieceFits b r.rank p = r.fit.0 in
    let l' : length (map (moved_piece b p) ps) ≤ n = rw (length-map ps (moved_piece b p)) (omega arith) in
    let rest : LoopLeft (replaced b p.cut p.new) (map (moved_piece b p) ps) =
    first-loop n (replaced b p.cut p.new) (map (moved_piece b p) ps) l' (ready-next b p ps r)
    (each-straight b p ps straight.1) m loop in
    let was : WasOnLoop b p.cut rest.gate =
    was-on-loop b p.cut p.own p.new r.whole f.stands (piece-fits-at b r.rank r.ranks p f)
    f.outputs straight.0
    rest.gate rest.loop in
    record {
      gate = was.old;
      loop = was.loop;
      apart =
          and_intro _ _ (false-not (member was.old p.cut.gates) was.apart)
          (outside-before b r.rank r.whole r.ranks p f ps was.old (rw was.number at rest.apart));
    }
