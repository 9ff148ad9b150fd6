-- No group needs more passes than it has gates, so the sum of g × passes is at most that of g × g; what Bring's blocks
-- answer follows from `bring`.
--   fewer-copies      Render's answers on one block
--   brought-answers   every answer on a block that is brought over
-- Assumes nothing.
use Prim.Native.Nat.{ℕ, suc, ◌*◌, ◌≤◌, ◌<◌}
use mathlib.Core.Path.{◌≡◌, refl, ap}
use mathlib.Core.Bool.{false}
use mathlib.Core.List.{List, [], ◌∷◌, map}
use native.Mathlib.Omega.{arith}
use native.Mathlib.Nat.{mul-le-mul_left}
use borrow.Author.Tests.{le-ltb}
use lib.ListN.{length, get_or}
use Rattle.prelude.specs.Lists.{sum}
use Rattle.netlist.specs.Limits.{max_copies}
use Rattle.netlist.specs.Netlist.{Block}
use Rattle.netlist.specs.StoredBlock.{decode}
use Rattle.netlist.specs.Groups.{groups}
use Rattle.netlist.specs.Passes.{pass_count, copy_count}
use Rattle.netlist.specs.Answers.{refuse_if}
use Rattle.netlist.specs.Operations.{render_block, verdict}
use Rattle.netlist.specs.Bring.{brought, is_malformed_before}
use Rattle.theory_unrolling.proofs.PassCount.{pass_count-most}
use Rattle.op_bring.proofs.AsBefore.{brought-back, verdict-before, lowest-before, sound-before}
use Rattle.theory_fewer_passes.specs.FewerPasses.{copies_before, FewerCopies, BroughtAnswers}

-- where each element's number is at most the other, so is the sum
sum-at-most : (f g : List ℕ → ℕ) (xs : List (List ℕ)) → ((i : ℕ) → i < length xs → f (get_or xs i []) ≤ g (get_or xs i []))
    → sum (map f xs) ≤ sum (map g xs)
sum-at-most f g [] h = omega arith
sum-at-most f g (x ∷ xs) h =
    let r = sum-at-most f g xs (λ i l. h (suc i) (omega arith)) in
    let s = h 0 (omega arith) in
    omega arith

module _ (b : Block) where
  copies-fewer : copy_count b ≤ copies_before b
  unfolding copy_count copies_before
  copies-fewer =
      sum-at-most (λ group. length group * pass_count b group) (λ group. length group * length group) (groups b)
      (λ t l. mul-le-mul_left (length (get_or (groups b) t [])) (pass_count-most b t l))

  pub fewer-copies : FewerCopies b
  unfolding render_block refuse_if
  fewer-copies =
      record {
        fewer = copies-fewer;
        too_many_before = λ many. let l = copies-fewer in omega arith;
        answered = λ few. let l = copies-fewer in rw (le-ltb max_copies (copy_count b) (omega arith)) refl;
      }

pub brought-answers : (ws : List ℕ) → is_malformed_before ws ≡ false → BroughtAnswers ws
unfolding verdict refuse_if
brought-answers ws h =
    let back = brought-back ws h in
    let b = decode (brought ws) in
    record {
      whole = back.whole;
      no_lines = back.no_lines;
      words = back.words;
      verdict_is = rw (back.whole, verdict-before b back.no_lines, lowest-before b back.no_lines) refl;
      sound_is = sound-before b back.no_lines;
      renders = fewer-copies b;
    }
