-- Whatever Render makes of a block is accepted for it. Assumes nothing.
use mathlib.Core.Path.{◌≡◌, refl, sym, ap, ◌∙◌}
use mathlib.Core.Bool.{not, Bool, true, false}
use mathlib.Core.List.{List, [], map}
use Prim.Native.Nat.{ℕ, ◌≤◌, ◌<◌}
use native.Mathlib.Omega.{arith}
use lib.ListN.{length, get_or}
use lib.Dec.{ltb}
use borrow.Author.Tests.{ltb-false, not-true}
use Rattle.prelude.proofs.Tests.{and_left, and_right}
use Rattle.netlist.specs.declared.Refusal.TheVariants.{MalformedBlock, TooManyCopies, NotSettled}
use Rattle.netlist.specs.Limits.{max_copies}
use Rattle.netlist.specs.Values.{Value, undefined}
use Rattle.netlist.specs.Netlist.{Block, input_count}
use Rattle.netlist.specs.StoredBlock.{encode, decode, is_well_formed, is_malformed}
use Rattle.netlist.specs.Rounds.{setting_of, setting_count, settled_under, outputs_under, is_settled, is_excluded, is_counted}
use Rattle.netlist.specs.Rounds.{lowest_unsettled, output_value}
use Rattle.netlist.specs.Cover.{is_sound}
use Rattle.netlist.specs.Passes.{copy_count}
use Rattle.netlist.specs.Rendering.{rendering, sweep}
use Rattle.netlist.specs.Answers.{done, refuse_if}
use Rattle.netlist.specs.Operations.{counted, render_block, render_words}
use Rattle.netlist.specs.Compare.{ports, same_interface, compare, Accepts}
use Rattle.theory_encoding.proofs.RoundTrip.{decode-encode, whole-well_formed, encode-whole}
use Rattle.theory_fixpoint.proofs.Sweep.{sweep-settled}
use Rattle.theory_unrolling.proofs.Block.{rendering-inputs, rendering-ports, rendering-straight, rendering-well_formed}
use Rattle.theory_unrolling.proofs.Agreement.{outputs-agree}
use Rattle.op_compare.proofs.Interfaces.{eq-same_names}
use Rattle.op_compare.proofs.Accepted.{accepted-from}

module _ (b : Block) where
  -- a sweep of the rendering gives what its outputs show
  rendering-shows : (s : ℕ) → let x = setting_of (input_count b) s in
      outputs_under (rendering b) s ≡ map (output_value x (sweep (rendering b) x)) (rendering b).outputs
  unfolding outputs_under settled_under
  rendering-shows s =
      let n : input_count (rendering b) ≡ input_count b = ap length (rendering-inputs b) in
      rw (n, sweep-settled (rendering b) (setting_of (input_count b) s) (rendering-straight b)) refl

  same-shown : is_well_formed b ≡ true → (s : ℕ) → s < setting_count b → is_excluded b s ≡ false → is_settled b s ≡ true
      → outputs_under b s ≡ outputs_under (rendering b) s
  unfolding outputs_under
  same-shown w s l e h = sym (rendering-shows s ∙ outputs-agree b w s l e h)

  -- under every settled setting that may come all outputs agree
  pub rendering-accepted : is_well_formed b ≡ true → Accepts b (rendering b)
  unfolding is_counted
  rendering-accepted w s l h o k =
      ap (λ (vs : List Value). get_or vs o undefined)
      (same-shown w s l (not-true (is_excluded b s) (and_left (not (is_excluded b s)) (is_settled b s) h))
      (and_right (not (is_excluded b s)) (is_settled b s) h))

  rendering-interface : same_interface b (rendering b) ≡ true
  unfolding same_interface ports
  rendering-interface =
      rw (
        eq-same_names b.inputs (rendering b).inputs (sym (rendering-inputs b)),
        eq-same_names (ports b) (ports (rendering b)) (sym (rendering-ports b)),
      ) refl

-- the words that hold a rendering within the limit are accepted for words that hold the block
words-accepted : (ws : List ℕ) → is_malformed ws ≡ false → copy_count (decode ws) ≤ max_copies
    → compare ws (encode (rendering (decode ws))) ≡ done [] 0 0
unfolding compare refuse_if
words-accepted ws whole few =
    let b = decode ws in
    let w : is_well_formed b ≡ true = whole-well_formed ws whole in
    let r : is_well_formed (rendering b) ≡ true = rendering-well_formed b w few in
    rw (whole, encode-whole (rendering b) r, decode-encode (rendering b) r, rendering-straight b, rendering-interface b)
    (accepted-from b (rendering b) (rendering-accepted b w))

-- What Render answers with number 0 is accepted: count and detail 0.
pub rendered-accepted : (ws out : List ℕ) (count detail : ℕ) → render_words ws ≡ done out count detail
    → compare ws out ≡ done [] 0 0
unfolding render_words render_block counted refuse_if
rendered-accepted ws out count detail e =
    by_tests (is_malformed ws) (ltb max_copies (copy_count (decode ws))) (not (is_sound (decode ws))) refl refl e
  where
    by_tests : (t m s : Bool) → is_malformed ws ≡ t → ltb max_copies (copy_count (decode ws)) ≡ m
        → refuse_if t MalformedBlock (refuse_if m TooManyCopies (refuse_if s (NotSettled (lowest_unsettled (decode ws)))
        (counted (encode (rendering (decode ws)))))) ≡ done out count detail
        → compare ws out ≡ done [] 0 0
    by_tests true m s p q e = let z : ◌≡◌ {A = ℕ} 0 1 = cc in absurd (omega arith)
    by_tests false true s p q e = let z : ◌≡◌ {A = ℕ} 0 1 = cc in absurd (omega arith)
    by_tests false false true p q e = let z : ◌≡◌ {A = ℕ} 0 1 = cc in absurd (omega arith)
    by_tests false false false p q e =
        let is : encode (rendering (decode ws)) ≡ out = cc in
        rw (← is) (words-accepted ws p (ltb-false max_copies (copy_count (decode ws)) q))
