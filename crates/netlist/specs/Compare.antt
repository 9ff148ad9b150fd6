-- SPECIFICATION 7.13: Compare. Is a loop-free block that was made elsewhere ("theirs") as good as the original
-- ("ours")? Nothing is assumed of how it was made; settings of ours that are not settled, or never come, do not count.
-- The never lines of theirs play no part.
use Rattle.std.specs.Prelude.{ℕ, ◌+◌, ◌<◌, ◌≡◌, Bool, true, false, cond, not, ◌&&◌, List, [], ◌∷◌, map, get_or, eqb, ltb}
use Rattle.prelude.specs.Lists.{same, any, up_to, least}
use Rattle.netlist.specs.declared.Refusal.TheVariants.{MalformedBlock, NotStraight, InterfaceMismatch}
use Rattle.netlist.specs.Values.{undefined, code}
use Rattle.netlist.specs.Netlist.{Name, Output, Block, output_count}
use Rattle.netlist.specs.StoredBlock.{decode, is_malformed}
use Rattle.netlist.specs.Rounds.{setting_count, outputs_under, is_counted}
use Rattle.netlist.specs.Rendering.{is_straight}
use Rattle.netlist.specs.Answers.{Outcome, done, refuse_if}

-- ---- 12: other input names or ports, or the same in another order

unfoldable pub same_names : List Name → List Name → Bool
same_names [] [] = true
same_names [] (y ∷ ys) = false
same_names (x ∷ xs) [] = false
same_names (x ∷ xs) (y ∷ ys) = same x y && same_names xs ys

unfoldable pub ports : Block → List Name
ports b = map (λ (o : Output). o.port) b.outputs

unfoldable pub same_interface : Block → Block → Bool
same_interface ours theirs = same_names ours.inputs theirs.inputs && same_names (ports ours) (ports theirs)

-- ---- what the outputs show, by the settled values; of a straight block one sweep gives these (`sweep-settled` in
-- crates/theory_fixpoint)

-- output o shows another value in theirs
unfoldable pub differs : Block → Block → ℕ → ℕ → Bool
differs ours theirs s o =
    not (eqb (code (get_or (outputs_under ours s) o undefined)) (code (get_or (outputs_under theirs s) o undefined)))

-- setting number s counts, and some output shows another value
unfoldable pub disagrees : Block → Block → ℕ → Bool
disagrees ours theirs s = is_counted ours s && any (differs ours theirs s) (up_to (output_count ours))

-- the lowest setting under which they disagree, or the number of settings where there is none; and the lowest output
-- that differs under a setting
unfoldable pub lowest_disagreement : Block → Block → ℕ
lowest_disagreement ours theirs = least (disagrees ours theirs) (setting_count ours)

unfoldable pub lowest_differing : Block → Block → ℕ → ℕ
lowest_differing ours theirs s = least (differs ours theirs s) (output_count ours)

-- ---- Compare (6, 10, 12): nothing is written; count and detail are 0 where theirs is accepted, else the lowest
-- output, counted from 1, and the setting

unfoldable pub judged_at : Block → Block → ℕ → Outcome
judged_at ours theirs s = cond (ltb s (setting_count ours)) (done [] (lowest_differing ours theirs s + 1) s) (done [] 0 0)

unfoldable pub compare_blocks : Block → Block → Outcome
compare_blocks ours theirs = judged_at ours theirs (lowest_disagreement ours theirs)

-- Compare: 6 is of either block, 10 of theirs
unfoldable pub compare : List ℕ → List ℕ → Outcome
compare ours theirs =
    refuse_if (is_malformed ours) MalformedBlock
    (refuse_if (is_malformed theirs) MalformedBlock
    (refuse_if (not (is_straight (decode theirs))) NotStraight
    (refuse_if (not (same_interface (decode ours) (decode theirs))) InterfaceMismatch
    (compare_blocks (decode ours) (decode theirs)))))

-- ---- What Compare answers as sentences over settings and outputs; crates/op_compare shows that the operation answers
-- by them

-- output o shows the same value in both under setting number s
abbrev pub Agree : Block → Block → ℕ → ℕ → Type 0
Agree ours theirs s o = get_or (outputs_under ours s) o undefined ≡ get_or (outputs_under theirs s) o undefined

-- theirs is accepted: under every settled setting of ours that may come all outputs agree
abbrev pub Accepts : Block → Block → Type 0
Accepts ours theirs = (s : ℕ) → s < setting_count ours → is_counted ours s ≡ true → (o : ℕ) → o < output_count ours
    → Agree ours theirs s o

-- theirs is not accepted, and s is the lowest setting, and there o the lowest output, at which they disagree
pub record Disagreement (ours theirs : Block) (s o : ℕ) : Type 0 where
  pub setting : s < setting_count ours
  pub counts : is_counted ours s ≡ true
  pub output : o < output_count ours
  pub other : Agree ours theirs s o → ⊥
  pub lower_outputs : (p : ℕ) → p < o → Agree ours theirs s p
  pub lower_settings : (t : ℕ) → t < s → is_counted ours t ≡ true → (p : ℕ) → p < output_count ours → Agree ours theirs t p
