-- What is brought over is the block as it was, without never lines, and every answer on it is the one that was given
-- before there were any.
-- Assumes nothing.
--   brought-back            the words of today hold the block whose old words they were, whole and without never lines
--   verdict-before, lowest-before   Verdict's count and detail: over all settings, as before
--   sound-before            an assignment is sound when every setting that agrees with it is settled, as before
--   rendered-before         the rendering's words of today are its old ones with a fourth count
--   torn-before, crowded-before   a block of more inputs than there were is malformed by the old rules, and its text is
--                                 over a limit
use mathlib.Core.Path.{◌≡◌, refl, sym, ap, fun_ext, ◌∙◌}
use mathlib.Core.Bool.{Bool, true, false, not, ◌||◌}
use mathlib.Core.List.{List, []}
use Prim.Native.Nat.{ℕ, ◌<◌}
use native.Mathlib.Omega.{arith}
use lib.ListN.{length}
use lib.Dec.{leb}
use borrow.Author.Tests.{lt-leb}
use Rattle.prelude.specs.Lists.{all, up_to, count_below, least}
use Rattle.netlist.specs.Assignments.{Assignment, agrees}
use Rattle.netlist.specs.Netlist.{Block, input_count}
use Rattle.netlist.specs.StoredBlock.{encode, decode, is_malformed}
use Rattle.netlist.specs.Rounds.{is_settled, is_excluded, is_counted, is_sound_at, setting_count, settled_settings}
use Rattle.netlist.specs.Rounds.{lowest_unsettled}
use Rattle.netlist.specs.Cover.{is_sound_under}
use Rattle.netlist.specs.Rendering.{rendering}
use Rattle.netlist.specs.Syntax.{Tree}
use Rattle.netlist.specs.Bring.{max_inputs_before, encode_before, brought, is_malformed_before}
use Rattle.theory_encoding.proofs.Decoded.{decode-input_count}
use Rattle.op_bring.proofs.Words.{brought-nevers, encode-brought, whole_before, whole_long, word-before}
use Rattle.op_bring.proofs.Words.{malformed-brought, malformed-inputs}

pub record AsBefore (ws : List ℕ) : Type 0 where
  pub whole : is_malformed (brought ws) ≡ false
  pub no_lines : (decode (brought ws)).nevers ≡ []
  pub words : encode_before (decode (brought ws)) ≡ ws

-- what Bring writes, whenever it answers 0
pub brought-back : (ws : List ℕ) → is_malformed_before ws ≡ false → AsBefore ws
brought-back ws h =
    let long = whole_long ws h in
    let (few, words) = whole_before ws h in
    record {
      whole =
          sym (malformed-brought ws long (rw (decode-input_count (brought ws)
          ∙ sym (word-before ws 0 long (omega arith))) at few)) ∙ h;
      no_lines = brought-nevers ws long;
      words = words;
    }

-- ---- a block without never lines

module _ (b : Block) (e : b.nevers ≡ []) where
  none-excluded : (s : ℕ) → is_excluded b s ≡ false
  unfolding is_excluded
  none-excluded s = rw e refl

  all-counted : (s : ℕ) → is_counted b s ≡ is_settled b s
  unfolding is_counted
  all-counted s = rw (none-excluded s) refl

  all_sound : (s : ℕ) → is_sound_at b s ≡ is_settled b s
  unfolding is_sound_at
  all_sound s = rw (none-excluded s) refl

  pub verdict-before : settled_settings b ≡ count_below (is_settled b) (setting_count b)
  unfolding settled_settings
  verdict-before = ap (λ (p : ℕ → Bool). count_below p (setting_count b)) (fun_ext all-counted)

  pub lowest-before : lowest_unsettled b ≡ least (λ s. not (is_settled b s)) (setting_count b)
  unfolding lowest_unsettled
  lowest-before = ap (λ (p : ℕ → Bool). least (λ s. not (p s)) (setting_count b)) (fun_ext all_sound)

  pub sound-before : (a : Assignment) → is_sound_under b a
      ≡ all (λ s. not (agrees (input_count b) a s) || is_settled b s) (up_to (setting_count b))
  unfolding is_sound_under
  sound-before a =
      ap (λ (p : ℕ → Bool). all (λ s. not (agrees (input_count b) a s) || p s) (up_to (setting_count b)))
      (fun_ext all_sound)

  pub rendered-before : encode (rendering b) ≡ brought (encode_before (rendering b))
  unfolding rendering
  rendered-before = encode-brought (rendering b) e

-- ---- more inputs than there were

-- the old words of such a block are malformed to the old rules
pub torn-before : (b : Block) → max_inputs_before < input_count b → is_malformed_before (encode_before b) ≡ true
unfolding encode_before
torn-before b many = malformed-inputs (encode_before b) (omega arith) many

-- the limit of before refuses the text of a tree with more inputs: this is the first test of 3 with that limit
pub crowded-before : (t : Tree) → max_inputs_before < length t.inputs
    → leb (length t.inputs) max_inputs_before ≡ false
crowded-before t many = lt-leb (length t.inputs) max_inputs_before many
