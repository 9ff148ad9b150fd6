-- Compare answers by the two sentences of the definitions: accepted exactly when all outputs agree under every settled
-- setting of ours, and a disagreement is the lowest. Assumes nothing.
use mathlib.Core.Path.{◌≡◌, refl, ap}
use mathlib.Core.Logic.{⊎_elim}
use mathlib.Core.Bool.{true, false, cond, not}
use mathlib.Core.List.{[]}
use Prim.Native.Nat.{ℕ, ◌+◌, ◌<◌}
use native.Mathlib.Omega.{arith}
use lib.ListN.{get_or}
use lib.Dec.{eqb, ltb}
use borrow.Author.Tests.{eqb-true, eq-eqb, not-false, lt-ltb, le-ltb}
use Rattle.prelude.specs.Lists.{any, up_to, least}
use Rattle.prelude.proofs.Tests.{not-true-false, not-both, and_left, and_right, lt-or-le}
use Rattle.prelude.proofs.Quantifiers.{any_below, below-any}
use Rattle.prelude.proofs.Least.{least-below, least_at, least-is}
use Rattle.netlist.specs.Values.{undefined, code}
use Rattle.netlist.specs.Netlist.{Block, output_count}
use Rattle.netlist.specs.Rounds.{setting_count, outputs_under, is_counted}
use Rattle.netlist.specs.Answers.{Outcome, done}
use Rattle.netlist.specs.Compare.{differs, disagrees, lowest_disagreement, lowest_differing, judged_at, compare_blocks}
use Rattle.netlist.specs.Compare.{Agree, Accepts, Disagreement}
use Rattle.theory_fixpoint.proofs.Values.{code-injective}

module _ (a b : Block) where
  -- ---- one output and one setting

  agree-differs : (s o : ℕ) → Agree a b s o → differs a b s o ≡ false
  unfolding differs
  agree-differs s o h =
      let theirs = code (get_or (outputs_under b s) o undefined) in rw h (ap not (eq-eqb theirs theirs refl))

  differs-agree : (s o : ℕ) → differs a b s o ≡ false → Agree a b s o
  unfolding differs
  differs-agree s o h =
      let ours = get_or (outputs_under a s) o undefined in
      let theirs = get_or (outputs_under b s) o undefined in
      code-injective ours theirs (eqb-true (code ours) (code theirs) (not-false (eqb (code ours) (code theirs)) h))

  quiet-agrees : (s : ℕ) → disagrees a b s ≡ false → is_counted a s ≡ true → (o : ℕ) → o < output_count a → Agree a b s o
  unfolding disagrees
  quiet-agrees s h t o l =
      differs-agree s o
      (not-true-false (differs a b s o)
      (λ d. not-both (below-any (differs a b s) (output_count a) o l d) (rw t at h)))

  agrees-quiet : (s : ℕ) → (is_counted a s ≡ true → (o : ℕ) → o < output_count a → Agree a b s o)
      → disagrees a b s ≡ false
  unfolding disagrees
  agrees-quiet s h =
      not-true-false (disagrees a b s)
      (λ t. let found = and_left (is_counted a s) (any (differs a b s) (up_to (output_count a))) t in
      let (o, l, d) = any_below (differs a b s) (output_count a)
      (and_right (is_counted a s) (any (differs a b s) (up_to (output_count a))) t) in
      not-both d (agree-differs s o (h found o l)))

  -- ---- Accepted exactly when

  pub accepted-from : Accepts a b → compare_blocks a b ≡ done [] 0 0
  unfolding compare_blocks judged_at lowest_disagreement
  accepted-from h =
      let is : least (disagrees a b) (setting_count a) ≡ setting_count a =
      least-is (disagrees a b) (setting_count a) (setting_count a) (omega arith) (λ s l. agrees-quiet s (h s l))
      (λ l. absurd (omega arith)) in
      rw (is, le-ltb (setting_count a) (setting_count a) (omega arith)) refl

  abbrev lowest : ℕ
  lowest = least (disagrees a b) (setting_count a)

  judged : compare_blocks a b
      ≡ cond (ltb lowest (setting_count a)) (done [] (lowest_differing a b lowest + 1) lowest) (done [] 0 0)
  unfolding compare_blocks judged_at lowest_disagreement
  judged = refl

  -- a disagreement tells the lowest setting and output
  lowest-disagrees : lowest < setting_count a → Disagreement a b lowest (lowest_differing a b lowest)
  unfolding lowest_differing disagrees
  lowest-disagrees l =
      let t = least_at (disagrees a b) (setting_count a) l in
      let some = and_right (is_counted a lowest) (any (differs a b lowest) (up_to (output_count a))) t in
      let (o, m, d) = any_below (differs a b lowest) (output_count a) some in
      let low = least (differs a b lowest) (output_count a) in
      let below : low < output_count a =
      ⊎_elim (λ k. k) (λ k. not-both d (least-below (differs a b lowest) (output_count a) o (omega arith)))
      (lt-or-le low (output_count a)) in
      record {
        setting = l;
        counts = and_left (is_counted a lowest) (any (differs a b lowest) (up_to (output_count a))) t;
        output = below;
        other = λ e. not-both (least_at (differs a b lowest) (output_count a) below) (agree-differs lowest low e);
        lower_outputs = λ p k. differs-agree lowest p (least-below (differs a b lowest) (output_count a) p k);
        lower_settings = λ s k. quiet-agrees s (least-below (disagrees a b) (setting_count a) s k);
      }

  -- what Compare answers, and what that says
  pub data Judged : Outcome → Type 0 where
    accepts : Accepts a b → Judged (done [] 0 0)
    disagreeing : (s o : ℕ) → Disagreement a b s o → Judged (done [] (o + 1) s)

  pub compare-judged : Judged (compare_blocks a b)
  compare-judged =
      rw judged
      (⊎_elim
      (λ l. rw (lt-ltb lowest (setting_count a) l)
      (disagreeing lowest (lowest_differing a b lowest) (lowest-disagrees l)))
      (λ l. rw (le-ltb lowest (setting_count a) l)
      (accepts (λ s m. quiet-agrees s (least-below (disagrees a b) (setting_count a) s (omega arith)))))
      (lt-or-le lowest (setting_count a)))

  -- accepted, so the sentence holds
  pub accepted-says : compare_blocks a b ≡ done [] 0 0 → Accepts a b
  accepted-says e = go (compare_blocks a b) compare-judged e
    where
      go : (o : Outcome) → Judged o → o ≡ done [] 0 0 → Accepts a b
      go _ (accepts h) e = h
      go _ (disagreeing s o d) e = let z : o + 1 ≡ 0 = cc in absurd (omega arith)
