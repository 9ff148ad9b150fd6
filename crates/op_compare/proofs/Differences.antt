-- What a batch of settings tells of two blocks, and the search over all of them. Cited by `outputs` and `settings`.
--   both-judged                        both blocks' values
--   differing-tells, differing-first   where an output shows another value; where one of the first outputs does
--   marked-lanes                       where the blocks disagree
--   lowest-there                       the lowest output that differs at a lane
--   search-accepted, search-found      no setting disagrees; one does, and no lower one
--   search-passed, search-marked       one batch more; the batch at which the search ends
-- Assumes nothing.
use mathlib.Core.Path.{◌≡◌, refl, sym, ◌∙◌}
use mathlib.Core.Bool.{Bool, true, false}
use mathlib.Core.List.{List}
use Prim.Native.Nat.{ℕ, zero, suc, ◌+◌, ◌^◌, ◌≤◌, ◌<◌}
use native.Mathlib.Omega.{arith}
use lib.Bits.{bit_and}
use lib.ListN.{get_or}
use borrow.Author.Tests.{lt-ltb, le-ltb}
use Rattle.prelude.specs.Lists.{any, up_to, least}
use Rattle.prelude.proofs.Least.{least-le, least-below, least_at, least-is}
use Rattle.std.specs.declared.result.Result.TheVariants.{Ok}
use Rattle.netlist.specs.Netlist.{Block}
use Rattle.netlist.specs.StoredBlock.{decode}
use Rattle.netlist.specs.Rounds.{setting_count, is_counted}
use Rattle.netlist.specs.Answers.{answer_of}
use Rattle.netlist.specs.Compare.{differs, disagrees, lowest_disagreement, lowest_differing, judged_at, compare_blocks}
use Rattle.theory_encoding.proofs.Decoded.{decode-output_count}
use Rattle.lanes_dual_rail.specs.Batches.{lanes_of}
use Rattle.lanes_dual_rail.proofs.Differing.{difference-within, difference-lane}
use Rattle.lanes_dual_rail.proofs.InputLaws.{lanes_of-most}
use Rattle.lanes_dual_rail.specs.Words.{has_lane, Tells}
use Rattle.lanes_dual_rail.proofs.WordLaws.{tells_as, tells_none, tells-and, tells-or, tells-no-lane, tells-some}
use Rattle.lanes_dual_rail.proofs.WordLaws.{tells-lowest}
use Rattle.lanes_settings.proofs.OutputLaws.{output-proper, output-lane, any-first}
use Rattle.lanes_settings.specs.Lanes.{Judged}
use Rattle.op_compare.specs.Words.{port_pair, differing_word, differing_words, differs_at}
use Rattle.lanes_settings.proofs.Batching.{Place, batch-more}
use Rattle.op_compare.specs.Ready.{BlockPair, BothJudged}
use Rattle.op_compare.proofs.Rooms.{setting-count}

-- both blocks are decided
pub both-judged : {ours theirs : List ℕ} {base at : ℕ} {w others : List ℕ} → BlockPair ours theirs → at ≡ base
    → Judged ours (get_or ours 0 0) base w → Judged theirs (get_or theirs 0 0) at others
    → BothJudged ours theirs base w others
both-judged pair same j k = record { pair = pair; our-values = j; their-values = rw (pair.inputs, same) at k }

-- ---- one batch

module _ {ours theirs : List ℕ} {base : ℕ} {w others : List ℕ} (j : BothJudged ours theirs base w others) where
  abbrev a : Block
  a = decode ours

  abbrev b : Block
  b = decode theirs

  abbrev n : ℕ
  n = get_or ours 0 0

  abbrev lanes : ℕ
  lanes = lanes_of n

  pub differing-tells : (o : ℕ) → o < get_or ours 2 0
      → Tells lanes base (λ s. differs a b s o) (differing_word ours theirs n w others o)
  unfolding differing_word port_pair differs
  differing-tells o there =
      let there' : o < get_or theirs 2 0 = rw j.pair.outputs there in
      let first = output-proper j.our-values refl o there in
      let second = output-proper j.their-values refl o there' in
      record {
        within = difference-within first second;
        each = λ s l.
            difference-lane first second s
            ∙ rw (output-lane j.our-values refl o there s l, output-lane j.their-values refl o there' s l);
      }

  differing-first : (k : ℕ) → k ≤ get_or ours 2 0
      → Tells lanes base (λ s. any (differs a b s) (up_to k)) (differing_words ours theirs n w others k)
  unfolding differing_words
  differing-first zero l = tells_as (λ s. refl) tells_none
  differing-first (suc k) l =
      tells_as (λ s. sym (any-first (differs a b s) k))
      (tells-or (differing-first k (omega arith)) (differing-tells k (omega arith)))

  -- at the lanes of settings that count
  pub marked-lanes : {counted word : ℕ} → Tells lanes base (is_counted a) counted
      → word ≡ differing_words ours theirs n w others (get_or ours 2 0)
      → Tells lanes base (disagrees a b) (bit_and counted word)
  unfolding disagrees
  marked-lanes t e =
      rw e (tells_as (λ s. rw (decode-output_count ours)) (tells-and t (differing-first (get_or ours 2 0) (omega arith))))

  -- the lowest output at a lane
  pub lowest-there : {s r : ℕ} → s < lanes → r ≡ least (differs_at ours theirs n w others s) (get_or ours 2 0)
      → r ≡ lowest_differing a b (base + s)
  unfolding lowest_differing differs_at
  lowest-there {s} {r} l e =
      let count = get_or ours 2 0 in
      let test = differs_at ours theirs n w others s in
      let few : r ≤ count = rw e (least-le test count) in
      let alike : (o : ℕ) → o < count → test o ≡ differs a b (base + s) o =
      λ o there. (differing-tells o there).each s l in
      rw (decode-output_count ours)
      (sym (least-is (differs a b (base + s)) count r few
      (λ i below. sym (alike i (omega arith)) ∙ least-below test count i (rw (← e) below))
      (λ there. sym (alike r there) ∙ rw e (least_at test count (rw (← e) there)))))

-- the lowest lane of a word that is not 0
pub marked-lowest : (n : ℕ) {base : ℕ} {test : ℕ → Bool} {w : ℕ} → Tells (lanes_of n) base test w → (w ≡ 0 → ⊥) → let r =
    least (has_lane w) 64 in
    (r < lanes_of n) × (test (base + r) ≡ true) × ((i : ℕ) → i < r → test (base + i) ≡ false)
marked-lowest n t h = let (s, l, p) = tells-some t h in tells-lowest t (lanes_of-most n) s l p

-- ---- all settings

module _ (a b : Block) (s count : ℕ) (e : count ≡ setting_count a)
    (before : (i : ℕ) → i < s → disagrees a b i ≡ false) where
  -- no setting disagrees
  pub search-accepted : s ≤ count → count ≤ s → Ok (record { count = 0; detail = 0 }) ≡ answer_of (compare_blocks a b)
  unfolding compare_blocks judged_at lowest_disagreement answer_of
  search-accepted l m =
      let is : least (disagrees a b) (setting_count a) ≡ setting_count a =
      least-is (disagrees a b) (setting_count a) (setting_count a) (omega arith) (λ i k. before i (omega arith))
      (λ k. absurd (omega arith)) in
      rw (is, le-ltb (setting_count a) (setting_count a) (omega arith)) refl

  -- setting s does, and no lower one
  pub search-found : (o : ℕ) → s < count → disagrees a b s ≡ true → o ≡ lowest_differing a b s
      → Ok (record { count = (o + 1); detail = s }) ≡ answer_of (compare_blocks a b)
  unfolding compare_blocks judged_at lowest_disagreement answer_of
  search-found o l d f =
      let below : s < setting_count a = omega arith in
      let is : least (disagrees a b) (setting_count a) ≡ s =
      least-is (disagrees a b) (setting_count a) s (omega arith) before (λ k. d) in
      rw (is, lt-ltb s (setting_count a) below, f) refl

-- ---- batch by batch

module _ {ours theirs : List ℕ} {n base : ℕ} {w others : List ℕ} {word : ℕ} (j : BothJudged ours theirs base w others)
    (t : Tells (lanes_of (get_or ours 0 0)) base (disagrees (decode ours) (decode theirs)) word) (e : n ≡ get_or ours 0 0)
    (before : (i : ℕ) → i < base → disagrees (decode ours) (decode theirs) i ≡ false) where
  -- no lane of this one
  pub search-passed : {step : ℕ} → step ≡ lanes_of n → word ≡ 0 → (i : ℕ) → i < base + step
      → disagrees (decode ours) (decode theirs) i ≡ false
  search-passed is z =
      batch-more (λ i. disagrees (decode ours) (decode theirs) i ≡ false) (is ∙ rw e) before (tells-no-lane t z)

  -- some: the lowest lane, and there the lowest output
  pub search-marked : (word ≡ 0 → ⊥) → {count lane o : ℕ} → count ≡ 2 ^ n → Place n base → base < count
      → lane ≡ least (has_lane word) 64 → o ≡ least (differs_at ours theirs (get_or ours 0 0) w others lane) (get_or ours 2 0)
      → Ok (record { count = (o + 1); detail = (base + lane) }) ≡ answer_of (compare_blocks (decode ours) (decode theirs))
  search-marked h {count} {lane} {o} many place below is lowest =
      let f = marked-lowest (get_or ours 0 0) t h in
      let there : lane < lanes_of (get_or ours 0 0) = rw is f.0 in
      let room : base + lanes_of n ≤ 2 ^ n = place.whole (rw (← many) below) in
      let there' : lane < lanes_of n = rw e there in
      search-found (decode ours) (decode theirs) (base + lane) count (setting-count ours e many)
      (batch-more (λ i. disagrees (decode ours) (decode theirs) i ≡ false) refl before (λ i l. f.2 i (rw (← is) l))) o
      (omega arith) (rw is f.1)
      (lowest-there j there lowest)
