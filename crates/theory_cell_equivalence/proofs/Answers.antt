-- The sentences of an answer, behind the refusals. Assumes nothing.
--   answers_by     every answer
--   two-agree      two accepted tables
use mathlib.Core.Path.{◌≡◌, refl, sym, ap, ◌∙◌}
use mathlib.Core.Bool.{Bool, true, false, not}
use mathlib.Core.List.{List, []}
use Prim.Native.Nat.{ℕ, ◌+◌, ◌<◌}
use native.Mathlib.Omega.{arith}
use lib.ListN.{length, get_or}
use lib.Dec.{eqb}
use borrow.Author.Tests.{eqb-true, eq-eqb, ltb-true, lt-ltb}
use Rattle.prelude.specs.Lists.{all}
use Rattle.prelude.proofs.Quantifiers.{all-at, all_from}
use Rattle.netlist.specs.declared.Refusal.TheVariants.{MalformedBlock, InterfaceMismatch}
use Rattle.netlist.specs.Netlist.{input_count, output_count}
use Rattle.netlist.specs.StoredBlock.{decode, is_malformed}
use Rattle.netlist.specs.Answers.{Outcome, done, refuse_if}
use Rattle.netlist.specs.Cells.{are_legal_cells}
use Rattle.netlist.specs.CompareCells.{is_listed, compare_block_cells, compare_cells}
use Rattle.theory_cell_equivalence.specs.Sentences.{Fits, AnswersBy, AgreeWith}
use Rattle.theory_cell_equivalence.proofs.Judged.{accepted-from, accepted-says, judged-lowest, lowest-judged}

-- the four conditions, and what is done where none holds
record Passed (torn legal long listed : Bool) (o : Outcome) (r : Outcome) : Type 0 where
  torn' : torn ≡ false
  legal' : legal ≡ true
  long' : long ≡ true
  listed' : listed ≡ true
  same : o ≡ r

done-passed : (torn legal long listed : Bool) (o : Outcome) {count detail : ℕ}
    → refuse_if torn MalformedBlock (refuse_if (not legal) MalformedBlock
    (refuse_if (not long) InterfaceMismatch (refuse_if (not listed) MalformedBlock o)))
    ≡ done [] count detail → Passed torn legal long listed o (done [] count detail)
unfolding refuse_if
done-passed true legal long listed o e = let z : ◌≡◌ {A = ℕ} 0 1 = cc in absurd (omega arith)
done-passed false false long listed o e = let z : ◌≡◌ {A = ℕ} 0 1 = cc in absurd (omega arith)
done-passed false true false listed o e = let z : ◌≡◌ {A = ℕ} 0 1 = cc in absurd (omega arith)
done-passed false true true false o e = let z : ◌≡◌ {A = ℕ} 0 1 = cc in absurd (omega arith)
done-passed false true true true o e = record { torn' = refl; legal' = refl; long' = refl; listed' = refl; same = e }

module _ (ws cells shown : List ℕ) where
  -- nothing is refused: the comparison answers
  fits-compared : Fits ws cells shown → compare_cells ws cells shown ≡ compare_block_cells (decode ws) cells shown
  unfolding compare_cells refuse_if is_listed
  fits-compared f =
      let n = input_count (decode ws) in
      let listed : all (is_listed n cells) shown ≡ true =
      all_from (is_listed n cells) shown 0 (λ o l. lt-ltb (get_or shown o 0) _ (f.listed o l)) in
      rw (f.block, f.legal, eq-eqb (length shown) (output_count (decode ws)) f.one_each, listed) refl

  -- the comparison answered: nothing was refused
  compared-fits : {count detail : ℕ} → compare_cells ws cells shown ≡ done [] count detail
      → Fits ws cells shown × (compare_block_cells (decode ws) cells shown ≡ done [] count detail)
  unfolding compare_cells is_listed
  compared-fits e =
      let n = input_count (decode ws) in
      let p = done-passed (is_malformed ws) (are_legal_cells n cells) (eqb (length shown) (output_count (decode ws)))
      (all (is_listed n cells) shown) _ e in (
        record {
          block = p.torn';
          legal = p.legal';
          one_each = eqb-true (length shown) (output_count (decode ws)) p.long';
          listed = λ o l. ltb-true (get_or shown o 0) _ (all-at (is_listed n cells) shown o 0 p.listed' l);
        },
        p.same,
      )

  pub answers_by : AnswersBy ws cells shown
  answers_by =
      record {
        accepted = λ f h. fits-compared f ∙ accepted-from (decode ws) cells shown h;
        says = λ e. let (f, same) = compared-fits e in (f, accepted-says (decode ws) cells shown same);
        lowest = λ s o e. let (f, same) = compared-fits e in (f, judged-lowest (decode ws) cells shown s o same);
        told = λ s o f d. fits-compared f ∙ lowest-judged (decode ws) cells shown s o d;
      }

-- Two tables that are accepted for the same block show the same under every setting that counts.
pub two-agree : (ws cells shown others shown_there : List ℕ) → compare_cells ws cells shown ≡ done [] 0 0
    → compare_cells ws others shown_there ≡ done [] 0 0 → AgreeWith ws cells shown others shown_there
two-agree ws cells shown others shown_there e f s l t o k =
    sym (((answers_by ws cells shown).says e).1 s l t o k) ∙ ((answers_by ws others shown_there).says f).1 s l t o k
