-- The comparison behind the refusals answers by the two sentences of the definitions: accepted exactly when all outputs
-- agree under every setting that counts, and a disagreement is the lowest. Assumes nothing.
--   accepted-from, accepted-says    accepted exactly when
--   judged-lowest, lowest-judged    a disagreement is the lowest, and the lowest is told
use mathlib.Core.Path.{◌≡◌, refl, sym, ap, ◌∙◌}
use mathlib.Core.Logic.{⊎_elim}
use mathlib.Core.Bool.{Bool, true, false, cond, not}
use mathlib.Core.List.{List, []}
use Prim.Native.Nat.{ℕ, ◌+◌, ◌≤◌, ◌<◌}
use native.Mathlib.Omega.{arith}
use lib.ListN.{get_or}
use lib.Dec.{eqb, ltb}
use borrow.Author.Tests.{eqb-true, eq-eqb, ne_eqb, not-false, lt-ltb, le-ltb}
use Rattle.prelude.specs.Lists.{any, up_to, least}
use Rattle.prelude.proofs.Tests.{not-true-false, not-both, and_left, and_right, and_intro, lt-or-le}
use Rattle.prelude.proofs.Quantifiers.{any_below, below-any}
use Rattle.prelude.proofs.Least.{least-below, least_at, least-is}
use Rattle.netlist.specs.Values.{undefined, code}
use Rattle.netlist.specs.Netlist.{Block, input_count, output_count}
use Rattle.netlist.specs.Rounds.{setting_count, outputs_under, is_counted}
use Rattle.netlist.specs.Answers.{Outcome, done}
use Rattle.netlist.specs.CompareCells.{cell_shown, cell_differs, cells_disagree, lowest_cell_disagreement}
use Rattle.netlist.specs.CompareCells.{lowest_cell_differing, cells_judged_at, compare_block_cells, CellAgrees, AcceptsCells}
use Rattle.netlist.specs.CompareCells.{CellDisagreement}

module _ (b : Block) (cells shown : List ℕ) where
  abbrev differs : ℕ → ℕ → Bool
  differs = cell_differs b cells shown

  abbrev disagrees : ℕ → Bool
  disagrees = cells_disagree b cells shown

  -- ---- one output and one setting

  agree-differs : (s o : ℕ) → CellAgrees b cells shown s o → differs s o ≡ false
  unfolding cell_differs
  agree-differs s o h = let there = cell_shown (input_count b) cells shown s o in rw h (ap not (eq-eqb there there refl))

  differs-agree : (s o : ℕ) → differs s o ≡ false → CellAgrees b cells shown s o
  unfolding cell_differs
  differs-agree s o h =
      let ours = code (get_or (outputs_under b s) o undefined) in
      let there = cell_shown (input_count b) cells shown s o in
      eqb-true ours there (not-false (eqb ours there) h)

  disagree-differs : (s o : ℕ) → (CellAgrees b cells shown s o → ⊥) → differs s o ≡ true
  unfolding cell_differs
  disagree-differs s o h =
      rw (ne_eqb (code (get_or (outputs_under b s) o undefined)) (cell_shown (input_count b) cells shown s o) h) refl

  quiet-agrees : (s : ℕ) → disagrees s ≡ false → is_counted b s ≡ true → (o : ℕ) → o < output_count b
      → CellAgrees b cells shown s o
  unfolding cells_disagree
  quiet-agrees s h t o l =
      differs-agree s o
      (not-true-false (differs s o) (λ d. not-both (below-any (differs s) (output_count b) o l d) (rw t at h)))

  agrees-quiet : (s : ℕ) → (is_counted b s ≡ true → (o : ℕ) → o < output_count b → CellAgrees b cells shown s o)
      → disagrees s ≡ false
  unfolding cells_disagree
  agrees-quiet s h =
      not-true-false (disagrees s)
      (λ t.
      let (o, l, d) = any_below (differs s) (output_count b)
      (and_right (is_counted b s) (any (differs s) (up_to (output_count b))) t) in
      not-both d (agree-differs s o (h (and_left (is_counted b s) (any (differs s) (up_to (output_count b))) t) o l)))

  -- ---- the lowest

  abbrev lowest : ℕ
  lowest = least disagrees (setting_count b)

  judged : compare_block_cells b cells shown
      ≡ cond (ltb lowest (setting_count b)) (done [] (lowest_cell_differing b cells shown lowest + 1) lowest) (done [] 0 0)
  unfolding compare_block_cells cells_judged_at lowest_cell_disagreement
  judged = refl

  lowest-disagrees : lowest < setting_count b
      → CellDisagreement b cells shown lowest (lowest_cell_differing b cells shown lowest)
  unfolding lowest_cell_differing cells_disagree
  lowest-disagrees l =
      let t = least_at disagrees (setting_count b) l in
      let some = and_right (is_counted b lowest) (any (differs lowest) (up_to (output_count b))) t in
      let (o, m, d) = any_below (differs lowest) (output_count b) some in
      let low = least (differs lowest) (output_count b) in
      let below : low < output_count b =
      ⊎_elim (λ k. k) (λ k. not-both d (least-below (differs lowest) (output_count b) o (omega arith)))
      (lt-or-le low (output_count b)) in
      record {
        setting = l;
        counts = and_left (is_counted b lowest) (any (differs lowest) (up_to (output_count b))) t;
        output = below;
        other = λ e. not-both (least_at (differs lowest) (output_count b) below) (agree-differs lowest low e);
        lower_outputs = λ p k. differs-agree lowest p (least-below (differs lowest) (output_count b) p k);
        lower_settings = λ s k. quiet-agrees s (least-below disagrees (setting_count b) s k);
      }

  -- what the comparison answers, and what that says
  data Judged : Outcome → Type 0 where
    accepts : AcceptsCells b cells shown → Judged (done [] 0 0)
    disagreeing : (s o : ℕ) → CellDisagreement b cells shown s o → Judged (done [] (o + 1) s)

  compare-judged : Judged (compare_block_cells b cells shown)
  compare-judged =
      rw judged
      (⊎_elim
      (λ l. rw (lt-ltb lowest (setting_count b) l)
      (disagreeing lowest (lowest_cell_differing b cells shown lowest) (lowest-disagrees l)))
      (λ l. rw (le-ltb lowest (setting_count b) l)
      (accepts (λ s m. quiet-agrees s (least-below disagrees (setting_count b) s (omega arith)))))
      (lt-or-le lowest (setting_count b)))

  -- ---- accepted exactly when

  pub accepted-from : AcceptsCells b cells shown → compare_block_cells b cells shown ≡ done [] 0 0
  accepted-from h =
      let is : lowest ≡ setting_count b =
      least-is disagrees (setting_count b) (setting_count b) (omega arith) (λ s l. agrees-quiet s (h s l))
      (λ l. absurd (omega arith)) in
      judged ∙ rw (is, le-ltb (setting_count b) (setting_count b) (omega arith)) refl

  pub accepted-says : compare_block_cells b cells shown ≡ done [] 0 0 → AcceptsCells b cells shown
  accepted-says e = go (compare_block_cells b cells shown) compare-judged e
    where
      go : (r : Outcome) → Judged r → r ≡ done [] 0 0 → AcceptsCells b cells shown
      go _ (accepts h) e = h
      go _ (disagreeing s o d) e = let z : o + 1 ≡ 0 = cc in absurd (omega arith)

  -- ---- a disagreement is the lowest, and the lowest is told

  pub judged-lowest : (s o : ℕ) → compare_block_cells b cells shown ≡ done [] (o + 1) s
      → CellDisagreement b cells shown s o
  judged-lowest s o e = go (compare_block_cells b cells shown) compare-judged e
    where
      go : (r : Outcome) → Judged r → r ≡ done [] (o + 1) s → CellDisagreement b cells shown s o
      go _ (accepts h) e = let z : 0 ≡ o + 1 = cc in absurd (omega arith)
      go _ (disagreeing t p d) e =
          let setting : t ≡ s = cc in
          let output : p + 1 ≡ o + 1 = cc in
          let same : p ≡ o = omega arith in
          rw (setting, same) at d

  pub lowest-judged : (s o : ℕ) → CellDisagreement b cells shown s o
      → compare_block_cells b cells shown ≡ done [] (o + 1) s
  unfolding lowest_cell_differing cells_disagree
  lowest-judged s o d =
      let here : differs s o ≡ true = disagree-differs s o d.other in
      let some : any (differs s) (up_to (output_count b)) ≡ true =
      below-any (differs s) (output_count b) o d.output here in
      let setting : lowest ≡ s =
      least-is disagrees (setting_count b) s (omega (arith, d.setting)) (λ t l. agrees-quiet t (d.lower_settings t l))
      (λ l. and_intro (is_counted b s) (any (differs s) (up_to (output_count b))) d.counts some) in
      let output : least (differs s) (output_count b) ≡ o =
      least-is (differs s) (output_count b) o (omega (arith, d.output)) (λ p l. agree-differs s p (d.lower_outputs p l))
      (λ l. here) in
      judged ∙ rw (setting, lt-ltb s (setting_count b) d.setting, output) refl
