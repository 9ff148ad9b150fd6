-- What Paper 13 changed. Before it, a loop of g gates was unrolled g times; since then it is unrolled as often as it
-- needs, its unrolling depth. So a block has at most as many copies as it had, and of Render's answers only refusal 8,
-- too many copies, may have become another one. A block that Bring migrates gets today's answers; besides Render's, all
-- are what they were.
--   copies_before    SPECIFICATION 6.1 as document 01 has it: the sum of g × g
--   FewerCopies     Render's answers on one block, before Paper 13 and since
--   BroughtAnswers  every answer on a block that Bring brings over
-- Assumes nothing.
use Rattle.std.specs.Prelude.{ℕ, ◌*◌, ◌≤◌, ◌<◌, ◌≡◌, Bool, false, not, ◌||◌, List, [], map, length}
use Rattle.prelude.specs.Lists.{all, up_to, sum, count_below, least}
use Rattle.netlist.specs.declared.Refusal.TheVariants.{NotSettled}
use Rattle.netlist.specs.Limits.{max_copies}
use Rattle.netlist.specs.Assignments.{Assignment, agrees}
use Rattle.netlist.specs.Netlist.{Block, input_count}
use Rattle.netlist.specs.StoredBlock.{encode, decode, is_malformed}
use Rattle.netlist.specs.Rounds.{is_settled, setting_count, lowest_unsettled}
use Rattle.netlist.specs.Cover.{is_sound, is_sound_under}
use Rattle.netlist.specs.Groups.{groups}
use Rattle.netlist.specs.Passes.{copy_count}
use Rattle.netlist.specs.Rendering.{rendering}
use Rattle.netlist.specs.Answers.{done, refuse_if}
use Rattle.netlist.specs.Operations.{counted, render_block, verdict}
use Rattle.netlist.specs.Bring.{encode_before, brought}

-- a group of g gates gave g passes
unfoldable pub copies_before : Block → ℕ
copies_before b = sum (map (λ group. length group * length group) (groups b))

pub record FewerCopies (b : Block) : Type 0 where
  -- at most as many lines are written
  pub fewer : copy_count b ≤ copies_before b
  -- a block that has too many copies today had too many before
  pub too_many_before : max_copies < copy_count b → max_copies < copies_before b
  -- a block that had not too many copies before is refused with 9 exactly where it was, with the same setting, and is
  -- rendered else
  pub answered : copies_before b ≤ max_copies
      → render_block b ≡ refuse_if (not (is_sound b)) (NotSettled (lowest_unsettled b)) (counted (encode (rendering b)))

pub record BroughtAnswers (ws : List ℕ) : Type 0 where
  -- the words hold the block that was stored, without never lines
  pub whole : is_malformed (brought ws) ≡ false
  pub no_lines : (decode (brought ws)).nevers ≡ []
  pub words : encode_before (decode (brought ws)) ≡ ws
  -- Verdict counts over all settings, and tells the lowest of all
  pub verdict_is : verdict (brought ws)
      ≡ done [] (count_below (is_settled (decode (brought ws))) (setting_count (decode (brought ws))))
      (least (λ s. not (is_settled (decode (brought ws)) s)) (setting_count (decode (brought ws))))
  -- an assignment of Cover is sound when every setting that agrees with it is settled
  pub sound_is : (a : Assignment) → is_sound_under (decode (brought ws)) a
      ≡ all (λ s. not (agrees (input_count (decode (brought ws))) a s) || is_settled (decode (brought ws)) s)
      (up_to (setting_count (decode (brought ws))))
  -- Render may need fewer passes
  pub renders : FewerCopies (decode (brought ws))
