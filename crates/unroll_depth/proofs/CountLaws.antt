-- The passes of all groups, group by group and batch by batch.
--   group-size, starts-few         where a group stands
--   group-batch, -ready            a group that can be counted
--   listing-counted, counting-counted   the number of groups
--   counting-first, -next, -known, -end, -start, -full   one group more, and all of them
--   rest-none, -one, -then         words that did not change
--   counting-all, settings-are     all settings, and how many they are
--   lowest-first, -known, -none, -some, -all   the lowest setting that is not settled, batch after batch
-- Assumes nothing.
use mathlib.Core.Path.{◌≡◌, refl, sym, ap, ◌∙◌}
use mathlib.Core.Logic.{◌⊎◌, inl, inr, ⊎_elim}
use mathlib.Core.Bool.{Bool, true, false, not}
use mathlib.Core.List.{List, [], ◌∷◌, map}
use Prim.Native.Nat.{ℕ, zero, suc, ◌+◌, ◌-◌, ◌*◌, ◌^◌, ◌≤◌, ◌<◌}
use native.Mathlib.Nat.{mul-one, mul-le-mul_left, add-zero}
use native.Mathlib.Omega.{arith}
use borrow.Author.Tests.{lt-ltb}
use lib.Dec.{ltb}
use lib.ListN.{length, get_or, set, replicate, length-set, drop, length-replicate, get_or-replicate, get_or-append}
use lib.Seq.{ext_get_or, get_or-set_same, get_or-set_other}
use Rattle.prelude.specs.Lists.{sum, tab, placed, least}
use Rattle.prelude.proofs.Tests.{lt-or-le, eq-or-ne, not-both}
use Rattle.prelude.proofs.Tab.{length-tab, get_d-tab, tab-ext, tab-get_d, map-tab, placed-tab}
use Rattle.prelude.proofs.Slices.{length-placed, get_d_past}
use Rattle.prelude.proofs.Lists.{sum-append}
use Rattle.netlist.specs.Limits.{max_copies}
use Rattle.netlist.specs.Netlist.{Block, gate_count}
use Rattle.netlist.specs.StoredBlock.{decode}
use Rattle.netlist.specs.Rounds.{setting_count, is_sound_at, lowest_unsettled}
use Rattle.netlist.specs.Groups.{groups}
use Rattle.netlist.specs.Passes.{are_enough, pass_count, copy_count}
use Rattle.theory_encoding.proofs.Decoded.{decode-input_count}
use Rattle.theory_reach.proofs.Order.{groups-not-empty, groups-below}
use Rattle.theory_reach.proofs.ListFacts.{sum-at}
use Rattle.theory_unrolling.specs.Copies.{group_at}
use Rattle.theory_unrolling.proofs.PassCount.{passes-keep-from, at-enough, enough-from, size-settled, pass_count-some}
use Rattle.theory_unrolling.proofs.PassCount.{pass_count-enough, pass_count-from}
use Rattle.lanes_dual_rail.specs.Batches.{lanes_of}
use Rattle.lanes_dual_rail.specs.Words.{has_lane, Tells}
use Rattle.lanes_dual_rail.proofs.WordLaws.{tells-no-lane, tells-some, tells-lowest}
use Rattle.lanes_batch.proofs.Layering.{among-part}
use Rattle.lanes_settings.specs.Lanes.{is_unsound}
use Rattle.lanes_settings.proofs.Counting.{lowest-found, setting-count}
use Rattle.unroll_depth.specs.declared.passes.Turn.{Turn}
use Rattle.unroll_depth.specs.declared.passes.Counted.{Counted}
use Rattle.unroll_depth.specs.Pairs.{group_of}
use Rattle.unroll_depth.specs.Passes.{Least, GroupBatch, GroupCounted, GroupReady}
use Rattle.unroll_depth.specs.Passes.{Listing}
use Rattle.unroll_depth.specs.Counting.{copies_of, EnoughBelow, StartsFew, Full, Counting, SameRest, BatchHeld}
use Rattle.unroll_depth.specs.Counting.{AllCounted, LowestBelow}
use Rattle.unroll_depth.proofs.PairLaws.{part-long}

-- ---- sums over the groups

sum_more : (f : ℕ → ℕ) (k : ℕ) → sum (tab f (suc k)) ≡ sum (tab f k) + f k
sum_more f k = sum-append (tab f k) (f k ∷ []) ∙ ap (λ (x : ℕ). sum (tab f k) + x) (add-zero (f k))

-- one summand changed
sum-change : (f f' : ℕ → ℕ) (k g : ℕ) → g < k → ((h : ℕ) → (h ≡ g → ⊥) → f' h ≡ f h)
    → sum (tab f' k) + f g ≡ sum (tab f k) + f' g
sum-change f f' zero g l same = absurd (omega arith)
sum-change f f' (suc k) g l same = go (eq-or-ne g k) (sum-change f f' k g)
  where
    go : (g ≡ k) ⊎ (g ≡ k → ⊥)
        → (g < k → ((h : ℕ) → (h ≡ g → ⊥) → f' h ≡ f h) → sum (tab f' k) + f g ≡ sum (tab f k) + f' g)
        → sum (tab f' (suc k)) + f g ≡ sum (tab f (suc k)) + f' g
    go (inl e) r =
        let others : sum (tab f' k) ≡ sum (tab f k) = ap sum (tab-ext f' f k (λ h m. same h (λ d. omega arith))) in
        let a = ap f e in
        let c = ap f' e in
        omega (arith, sum_more f k, sum_more f' k, others, a, c)
    go (inr d) r =
        let last : f' k ≡ f k = same k (λ e. d (sym e)) in
        omega (arith, sum_more f k, sum_more f' k, last, r (omega arith) same)

sum-least : (f f' : ℕ → ℕ) (k : ℕ) → ((h : ℕ) → h < k → f h ≤ f' h) → sum (tab f k) ≤ sum (tab f' k)
sum-least f f' zero h = omega arith
sum-least f f' (suc k) h =
    omega (arith, sum_more f k, sum_more f' k, sum-least f f' k (λ i l. h i (omega arith)), h k (omega arith))

-- a sum over the list of groups, by their numbers
groups-tab : {A : Type 0} (b : Block) (f : List ℕ → A) (count : ℕ) → count ≡ length (groups b)
    → map f (groups b) ≡ tab (λ g. f (group_at b g)) count
groups-tab b f count e = ap (map f) (sym (tab-get_d [] (groups b) count (sym e))) ∙ map-tab f (λ g. group_at b g) count

-- ---- words that did not change

pub rest-none : (count : ℕ) (words : List ℕ) → SameRest count words words
rest-none count words = record { long = refl; rest = λ g l. refl }

pub rest_then : {count : ℕ} {entry words words' : List ℕ} → SameRest count entry words → SameRest count words words'
    → SameRest count entry words'
rest_then f g = record { long = g.long ∙ f.long; rest = λ i l. g.rest i l ∙ f.rest i l }

pub rest-one : (count : ℕ) (words : List ℕ) (g v : ℕ) → g < count → SameRest count words (set words g v)
rest-one count words g v l =
    record { long = length-set words g v; rest = λ i h. get_or-set_other words g i v 0 (λ e. omega arith) }

-- a group that has as many passes as gates
pub counting-known : {b : Block} {count base g next total : ℕ} {passes : List ℕ}
    → Counting b count base g next passes total → g < length (groups b)
    → length (group_at b g) ≤ get_or passes g 0 → Counting b count base (g + 1) next passes total
counting-known {b} {g = g} {passes = passes} c l k =
    record {
      least = c.least;
      total_is = c.total_is;
      most = c.most;
      before = c.before;
      inside = λ small h m.
          ⊎_elim (λ (i : h ≡ g). rw i
          (λ s bound x. passes-keep-from b (group_at b g) s (length (group_at b g)) (get_or passes g 0) k
          (size-settled b g l s)))
          (λ d. c.inside small h (omega arith)) (eq-or-ne h g);
    }

-- ---- one group

module _ {b : Block} {count : ℕ} {members starts : List ℕ} (listing : Listing b count members starts) (g : ℕ)
    (l : g < count) where
  pub group-there : g < length (groups b)
  group-there = rw (← listing.count_is) l

  pub group-size : length (group_at b g) ≡ get_or starts (g + 1) 0 - get_or starts g 0
  group-size = rw (← listing.group_is g l) (part-long members (get_or starts g 0) (get_or starts (g + 1) 0))

pub starts-few : {b : Block} {count : ℕ} {members starts : List ℕ} → Listing b count members starts
    → StartsFew count starts
starts-few listing g l =
    let few = listing.few in let within = listing.within g l in (omega (arith, listing.ordered g l), omega arith)

module _ {ws graph : List ℕ} {base count : ℕ} {members starts w : List ℕ} (h : BatchHeld ws graph base w)
    (listing : Listing (decode ws) count members starts)
    (g : ℕ) (l : g < count) (turn : Turn) (from : turn.from ≡ get_or starts g 0)
    (end : turn.end ≡ get_or starts (g + 1) 0) (at : turn.base ≡ base) where
  pub turn-group : group_of members turn ≡ group_at (decode ws) g
  turn-group = rw (from, end) (listing.group_is g l)

  -- a group that can be counted
  pub group-batch : GroupBatch ws graph members turn
  group-batch =
      let some : 0 < length (group_at (decode ws) g) = groups-not-empty (decode ws) g (group-there listing g l) in
      let size = group-size listing g l in
      record {
        whole = h.judged.whole;
        decoded = h.decoded;
        aligned = rw at h.judged.aligned;
        settings = rw at h.settings;
        positions =
            record {
              ordered = rw (from, end) (listing.ordered g l);
              within = rw end (listing.within g l);
              inside = λ i a c.
                  groups-below (decode ws) (get_or members i 0) g
                  (rw turn-group at (among-part false members turn.from turn.end i a c));
            };
        some = omega (arith, from, end, listing.ordered g l);
      }

  pub group-ready : {done next : ℕ} {passes : List ℕ} {c : Counted}
      → Counting (decode ws) count base done next passes c.total
      → c.passes ≡ get_or passes g 0 → c.total ≤ max_copies → GroupReady ws graph members turn c w
  unfolding copies_of
  group-ready {passes = passes} {c = c} k made few =
      let copies : ℕ → ℕ = λ i. length (group_at (decode ws) i) * get_or passes i 0 in
      let part : copies g ≤ sum (tab copies count) =
      rw (get_d-tab copies count g 0 l) at (sum-at (tab copies count) g) in
      record {
        batch = group-batch;
        so_far =
            rw turn-group
            (record { least = rw made (k.least g l); copies = rw (made, k.total_is) part; most = omega arith });
        settled = rw at h.judged.settled;
      }

-- ---- all groups

-- so many groups as the block has
pub listing-counted : {b : Block} {count : ℕ} {members starts : List ℕ} → Listing b count members starts
    → Listing b (length (groups b)) members starts
listing-counted r = rw r.count_is at r

pub counting-counted : {b : Block} {count base done next total : ℕ} {passes : List ℕ} → count ≡ length (groups b)
    → Counting b count base done next passes total → Counting b (length (groups b)) base done next passes total
counting-counted e c = rw e at c

-- one group more
module _ {b : Block} {n base count g total : ℕ} {passes : List ℕ} {r : Counted}
    (c : Counting b count base g (base + lanes_of n) passes total)
    (l : g < count) (room : count ≤ length passes) (few : total ≤ max_copies)
    (e : GroupCounted b n base (group_at b g) (record { passes = get_or passes g 0; total = total }) r) where
  here : (h : ℕ) → h ≡ g → get_or (set passes g r.passes) h 0 ≡ r.passes
  here h i = rw i (get_or-set_same passes g r.passes 0 (omega arith))

  elsewhere : (h : ℕ) → (h ≡ g → ⊥) → get_or (set passes g r.passes) h 0 ≡ get_or passes h 0
  elsewhere h d = get_or-set_other passes g h r.passes 0 d

  enough-here : r.total ≤ max_copies → EnoughBelow b (group_at b g) (base + lanes_of n) r.passes
  enough-here small s m x =
      ⊎_elim (λ k. passes-keep-from b (group_at b g) s (get_or passes g 0) r.passes e.more (c.before few g l s k x))
      (λ k. let f : base + (s - base) ≡ s = omega arith in rw f at (e.enough small (s - base) (omega arith) (rw f x)))
      (lt-or-le s base)

  pub counting-next : Counting b count base (g + 1) (base + lanes_of n) (set passes g r.passes) r.total
  unfolding copies_of
  counting-next =
      record {
        least =
            λ h m. ⊎_elim (λ i. rw (here h i, i) e.so_far.least) (λ d. rw (elsewhere h d) (c.least h m))
            (eq-or-ne h g);
        total_is = omega (arith, changed, e.total_is, c.total_is);
        most = e.so_far.most;
        before = λ small h m.
            ⊎_elim (λ i. rw (here h i, i) (λ s k x. enough-here small s (omega arith) x))
            (λ d. rw (elsewhere h d) (c.before few h m)) (eq-or-ne h g);
        inside =
            λ small h m. ⊎_elim (λ i. rw (here h i, i) (enough-here small))
            (λ d. rw (elsewhere h d) (c.inside few h (omega arith))) (eq-or-ne h g);
      }
    where
      copies : ℕ → ℕ
      copies i = length (group_at b i) * get_or passes i 0

      copies' : ℕ → ℕ
      copies' i = length (group_at b i) * get_or (set passes g r.passes) i 0

      changed : sum (tab copies' count) + length (group_at b g) * get_or passes g 0
          ≡ sum (tab copies count) + length (group_at b g) * r.passes
      changed =
          sum-change copies copies' count g l (λ h d. ap (λ (p : ℕ). length (group_at b h) * p) (elsewhere h d))
          ∙ ap (λ (p : ℕ). sum (tab copies count) + length (group_at b g) * p) (here g refl)

module _ {b : Block} {count base done next total : ℕ} {passes : List ℕ}
    (c : Counting b count base done next passes total) where
  -- all groups of the batch, or too many copies
  pub counting-end : (total ≤ max_copies → count ≤ done) → Counting b count next 0 next passes total
  counting-end all =
      record {
        least = c.least;
        total_is = c.total_is;
        most = c.most;
        before = λ few g l. c.inside few g (omega (arith, all few));
        inside = λ few g l. absurd (omega arith);
      }

  pub counting-start : {next' : ℕ} → Counting b count base 0 next' passes total
  counting-start =
      record {
        least = c.least;
        total_is = c.total_is;
        most = c.most;
        before = c.before;
        inside = λ few g l. absurd
            (omega arith);
      }

-- no group needs more, whatever the setting
pub counting-full : {b : Block} {count base total : ℕ} {members starts passes : List ℕ} (next : ℕ)
    → Listing b count members starts
    → Counting b count base 0 base passes total → Full count starts passes → Counting b count next 0 next passes total
counting-full {b} {starts = starts} {passes = passes} next listing c full =
    record {
      least = c.least;
      total_is = c.total_is;
      most = c.most;
      before = λ few g l s bound x.
          passes-keep-from b (group_at b g) s (length (group_at b g)) (get_or passes g 0)
          (omega (arith, group-size listing g l, full g l))
          (size-settled b g (group-there listing g l) s);
      inside = λ few g l. absurd (omega arith);
    }

-- ---- the start

module _ {b : Block} {count : ℕ} {members starts : List ℕ} (listing : Listing b count members starts) {passes : List ℕ}
    (entry : List ℕ)
    (room : count ≤ length entry) (each : ℕ) (are : passes ≡ placed (replicate count each) entry) where
  firsts : List ℕ
  firsts = replicate count each

  firsts-long : length firsts ≡ count
  unfolding firsts
  firsts-long = length-replicate {A = ℕ} count each

  first-each : (g : ℕ) → g < count → get_or passes g 0 ≡ each
  unfolding firsts
  first-each g l =
      rw are (get_or-append firsts (drop (length firsts) entry) 0 g (rw firsts-long l)
      ∙ get_or-replicate {A = ℕ} count g each 0 l)

  pub counting-first : {total : ℕ} → each ≡ 1 → total ≡ gate_count b → Counting b count 0 0 0 passes total
  unfolding copies_of
  counting-first one all =
      record {
        least = λ g l. rw (first-each g l, one) (record { some = omega arith; fewer = inl refl });
        total_is =
            all ∙ listing.members_long
            ∙ ap sum
            (groups-tab b length count listing.count_is
            ∙ tab-ext _ _ count (λ g l. rw (first-each g l, one) (sym (mul-one (length (group_at b g))))));
        most = omega (arith, all, listing.few);
        before = λ few g l s m. absurd (omega arith);
        inside = λ few g l. absurd (omega arith);
      }

  pub rest-first : SameRest count entry passes
  unfolding firsts
  rest-first =
      record {
        long = rw are (length-placed firsts entry (rw firsts-long room));
        rest = λ g l. rw (are, firsts-long) (get_d_past firsts entry count g 0 firsts-long l);
      }

-- ---- the end

-- no group has more passes than it needs
least-most : (b : Block) (g : ℕ) (l : g < length (groups b)) (p : ℕ) → Least b (group_at b g) p
    → p ≤ pass_count b (group_at b g)
least-most b g l p h = ⊎_elim (λ e. omega (arith, pass_count-some b (group_at b g))) more h.fewer
  where
    more : are_enough b (group_at b g) (p - 1) ≡ false → p ≤ pass_count b (group_at b g)
    more f =
        ⊎_elim (λ k. let s = h.some in not-both
        (enough-from b (group_at b g) (pass_count b (group_at b g)) (p - 1) (omega arith) (pass_count-enough b g l)) f)
        (λ k. k) (lt-or-le (pass_count b (group_at b g)) p)

-- All settings, or too many copies.
module _ {b : Block} {count base done next total : ℕ} {passes : List ℕ}
    (c : Counting b count base done next passes total)
    (count_is : count ≡ length (groups b)) (all : total ≤ max_copies → base ≡ setting_count b) where
  needed : ℕ → ℕ
  needed g = pass_count b (group_at b g)

  there : (g : ℕ) → g < count → g < length (groups b)
  there g l = rw (← count_is) l

  needed-copies : copy_count b ≡ sum (tab (λ g. length (group_at b g) * pass_count b (group_at b g)) count)
  unfolding copy_count
  needed-copies = ap sum (groups-tab b (λ g. length g * pass_count b g) count count_is)

  exact : total ≤ max_copies → (g : ℕ) → g < count → get_or passes g 0 ≡ pass_count b (group_at b g)
  exact few g l =
      sym (pass_count-from b g (there g l) (get_or passes g 0) (c.least g l).some
      (at-enough b (group_at b g) (get_or passes g 0) (λ s m. c.before few g l s (rw (all few) m))) (c.least g l).fewer)

  exact-total : total ≤ max_copies → total ≡ copy_count b
  unfolding copies_of
  exact-total few =
      c.total_is ∙ ap sum (tab-ext _ _ count (λ g l. ap (λ (p : ℕ). length (group_at b g) * p) (exact few g l)))
      ∙ sym needed-copies

  total-most : total ≤ copy_count b
  unfolding copies_of
  total-most =
      rw (c.total_is, needed-copies)
      (sum-least (λ g. length (group_at b g) * get_or passes g 0) (λ g. length (group_at b g) * pass_count b (group_at b g))
      count
      (λ g l. mul-le-mul_left (length (group_at b g)) (least-most b g (there g l) (get_or passes g 0) (c.least g l))))

  told : ltb max_copies total ≡ ltb max_copies (copy_count b)
  told =
      ⊎_elim (λ h. rw (lt-ltb max_copies total h, lt-ltb max_copies (copy_count b) (omega (arith, total-most))))
      (λ h. ap (ltb max_copies) (exact-total h))
      (lt-or-le max_copies total)

  exact-passes : {entry : List ℕ} → count ≤ length entry → SameRest count entry passes → total ≤ max_copies
      → passes ≡ placed (map (pass_count b) (groups b)) entry
  unfolding needed
  exact-passes {entry} room same few =
      rw (groups-tab b (pass_count b) count count_is)
      (ext_get_or 0 passes (placed (tab needed count) entry)
      (same.long ∙ sym (length-placed (tab needed count) entry (rw (length-tab needed count) room)))
      (λ g l. ⊎_elim (λ h. exact few g h ∙ sym (placed-tab needed count entry g 0 h))
      (λ h. same.rest g h
      ∙ sym (rw (length-tab needed count)
      (get_d_past (tab needed count) entry count g 0 (length-tab needed count) h))) (lt-or-le g count)))

  pub counting-all : {entry : List ℕ} → count ≤ length entry → SameRest count entry passes
      → AllCounted b entry passes total
  counting-all room same = record { tells = told; total_is = exact-total; passes_are = exact-passes room same }

-- ---- the lowest setting that may come and is not settled

not-false-true : (a : Bool) → not a ≡ false → a ≡ true
not-false-true true h = refl
not-false-true false h = sym h

not-true-is-false : (a : Bool) → not a ≡ true → a ≡ false
not-true-is-false true h = sym h
not-true-is-false false h = refl

module _ {b : Block} where
  -- nothing was looked at yet
  pub lowest-first : {count : ℕ} → count ≡ setting_count b → LowestBelow b 0 count
  lowest-first e =
      record {
        within = omega (arith, e);
        known = λ l. absurd (omega (arith, e));
        before = λ i l. absurd (omega arith);
        found = λ l. absurd (omega (arith, e));
      }

  -- it is known
  pub lowest-known : {base lowest : ℕ} (step : ℕ) → LowestBelow b base lowest → lowest < setting_count b
      → LowestBelow b (base + step) lowest
  lowest-known step h l =
      let k = h.known l in
      record {
        within = h.within;
        known = λ m. omega arith;
        before = λ i m f. h.before i (omega arith) f;
        found = h.found;
      }

  module _ {base lanes lowest word : ℕ} (h : LowestBelow b base lowest) (unknown : setting_count b ≤ lowest)
      (t : Tells lanes base (is_unsound b) word)
      (most : lanes ≤ 64) (fits : base + lanes ≤ setting_count b) where
    -- the settings of the batch up to a lane are sound
    up_to : (r : ℕ) → ((s : ℕ) → s < r → is_sound_at b (base + s) ≡ true) → (i : ℕ) → i < base + r → is_sound_at b i ≡ true
    up_to r inside i l =
        ⊎_elim (λ k. h.before i k (omega arith))
        (λ k. let e : base + (i - base) ≡ i = omega arith in rw e at (inside (i - base) (omega arith)))
        (lt-or-le i base)

    -- there is none in the batch
    pub lowest-none : word ≡ 0 → LowestBelow b (base + lanes) lowest
    unfolding is_unsound
    lowest-none e =
        record {
          within = h.within;
          known = λ l. absurd (omega arith);
          before = λ i l f. up_to lanes (λ s m. not-false-true (is_sound_at b (base + s)) (tells-no-lane t e s m)) i l;
          found = h.found;
        }

    -- there is one
    pub lowest-some : (word ≡ 0 → ⊥) → LowestBelow b (base + lanes) (base + least (has_lane word) 64)
    unfolding is_unsound
    lowest-some d =
        let w = tells-some t d in
        let lo = tells-lowest t most w.0 w.1 w.2 in
        let k = least (has_lane word) 64 in
        record {
          within = omega (arith, lo.0);
          known = λ l. omega (arith, lo.0);
          before = λ i l f. up_to k (λ s m. not-false-true (is_sound_at b (base + s)) (lo.2 s m)) i f;
          found = λ l. not-true-is-false (is_sound_at b (base + k)) lo.1;
        }

  -- all settings were looked at, or it is known
  pub lowest-all : {base lowest : ℕ} → LowestBelow b base lowest → (setting_count b ≤ lowest → setting_count b ≤ base)
      → lowest ≡ lowest_unsettled b
  lowest-all {base} {lowest} h all =
      let w = h.within in
      lowest-found b lowest (setting_count b) refl w (λ i l. h.before i (reached i l) l) h.found
    where
      reached : (i : ℕ) → i < lowest → i < base
      reached i l =
          ⊎_elim (λ k. let m = h.known k in omega arith) (λ k. let m = all k in let w = h.within in omega arith)
          (lt-or-le lowest (setting_count b))

-- ---- how many settings there are

pub settings-are : (ws : List ℕ) {n r : ℕ} → n ≡ get_or ws 0 0 → r ≡ 2 ^ n → r ≡ setting_count (decode ws)
settings-are ws {n} {r} e f = setting-count (decode ws) n r (e ∙ sym (decode-input_count ws)) f
