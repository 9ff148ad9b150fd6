-- The cover of a block is the cover over "never comes or is settled": the definitions are the same text. So the laws of
-- covers hold of blocks.
-- Cited by the operation Cover and by docs/GUARANTEES.md. Assumes nothing.
use mathlib.Core.Path.{◌≡◌, refl, sym, ap, ◌∙◌}
use mathlib.Core.Bool.{Bool, true, false, not, ◌&&◌, ◌||◌}
use mathlib.Core.List.{List, [], ◌∷◌}
use Prim.Native.Nat.{ℕ, ◌^◌, ◌<◌}
use lib.ListN.{length, get_or}
use Rattle.prelude.specs.Lists.{any}
use Rattle.prelude.proofs.Quantifiers.{all-ext}
use Rattle.netlist.specs.Netlist.{Block, input_count}
use Rattle.netlist.specs.Rounds.{is_settled, is_excluded, is_sound_at, setting_count, lowest_unsettled}
use Rattle.netlist.specs.Assignments.{Assignment, fixes, agrees}
use Rattle.netlist.specs.Cover.{without, assignments, is_sound_under, is_sound, is_minimal, cover, cover_entries}
use Rattle.theory_cover.specs.Over.{sound_over, minimal_over, cover_over, assignment_words, nothing}
use Rattle.theory_cover.specs.Over.{EntriesListed, Before}
use Rattle.theory_cover.specs.Tables.{settled_by}
use Rattle.theory_cover.proofs.ListFacts.{keep-ext}
use Rattle.theory_cover.proofs.Cover.{entries-listed, listed-entries, entries-ascend}
use Rattle.theory_cover.proofs.Covered.{covered, nothing-sound-least, least-nothing-sound}
use Rattle.theory_cover.proofs.Covered.{nothing-sound-cover, cover-nothing-sound}

-- two tests that agree on the settings of n inputs have the same cover
module _ (p q : ℕ → Bool) (n : ℕ) (h : (s : ℕ) → s < 2 ^ n → p s ≡ q s) where
  sound-ext : (a : Assignment) → sound_over p n a ≡ sound_over q n a
  unfolding sound_over
  sound-ext a =
      all-ext (λ s. not (agrees n a s) || p s) (λ s. not (agrees n a s) || q s) (2 ^ n)
      (λ s l. ap (λ (b : Bool). not (agrees n a s) || b) (h s l))

  minimal-ext : (a : Assignment) → minimal_over p n a ≡ minimal_over q n a
  unfolding minimal_over
  minimal-ext a =
      all-ext (λ i. not (fixes a i) || not (sound_over p n (without a i)))
      (λ i. not (fixes a i) || not (sound_over q n (without a i))) n
      (λ i l. ap (λ (b : Bool). not (fixes a i) || not b) (sound-ext (without a i)))

  pub cover-ext : cover_over p n ≡ cover_over q n
  unfolding cover_over
  cover-ext =
      keep-ext (λ a. sound_over p n a && minimal_over p n a) (λ a. sound_over q n a && minimal_over q n a)
      (λ a. rw (sound-ext a, minimal-ext a))
      (assignments n)

module _ (b : Block) where
  pub sound_under-over : (a : Assignment) → is_sound_under b a ≡ sound_over (is_sound_at b) (input_count b) a
  unfolding is_sound_under sound_over setting_count
  sound_under-over a = refl

  pub sound-over : is_sound b ≡ sound_over (is_sound_at b) (input_count b) nothing
  unfolding is_sound
  sound-over = sound_under-over nothing

  pub minimal-over : (a : Assignment) → is_minimal b a ≡ minimal_over (is_sound_at b) (input_count b) a
  unfolding is_minimal minimal_over is_sound_under sound_over setting_count
  minimal-over a = refl

  pub cover-over : cover b ≡ cover_over (is_sound_at b) (input_count b)
  unfolding cover cover_over is_minimal minimal_over is_sound_under sound_over setting_count
  cover-over = refl

  pub cover_entries-over : cover_entries b ≡ assignment_words (cover_over (is_sound_at b) (input_count b))
  unfolding cover_entries assignment_words cover cover_over is_minimal minimal_over is_sound_under sound_over setting_count
  cover_entries-over = refl

  pub cover_entries-words : cover_entries b ≡ assignment_words (cover b)
  unfolding cover_entries assignment_words
  cover_entries-words = refl

  -- the cover over a table that is right about every setting is the block's
  pub cover-from : (table : List ℕ) → ((s : ℕ) → s < setting_count b → settled_by table s ≡ is_sound_at b s)
      → cover_over (settled_by table) (input_count b) ≡ cover b
  unfolding setting_count
  cover-from table h = cover-ext (settled_by table) (is_sound_at b) (input_count b) h ∙ sym cover-over

  -- a setting never comes or is settled exactly when it agrees with some entry
  pub settled-covered : (s : ℕ) → s < setting_count b → is_sound_at b s ≡ any (λ a. agrees (input_count b) a s) (cover b)
  unfolding setting_count
  settled-covered s l = rw cover-over (covered (is_sound_at b) (input_count b) s l)

  -- one that may come is settled exactly when it agrees with some entry
  pub counted-covered : (s : ℕ) → s < setting_count b → is_excluded b s ≡ false
      → is_settled b s ≡ any (λ a. agrees (input_count b) a s) (cover b)
  unfolding is_sound_at
  counted-covered s l e = rw e at (settled-covered s l)

  -- a block is sound exactly when its cover is the one entry 0, 0
  pub sound-cover : is_sound b ≡ true → cover b ≡ nothing ∷ []
  sound-cover h = cover-over ∙ nothing-sound-cover (is_sound_at b) (input_count b) (sym sound-over ∙ h)

  pub cover-sound : cover b ≡ nothing ∷ [] → is_sound b ≡ true
  cover-sound e = sound-over ∙ cover-nothing-sound (is_sound_at b) (input_count b) (sym cover-over ∙ e)

  -- .. exactly when no setting fails
  pub sound-lowest : is_sound b ≡ true → lowest_unsettled b ≡ setting_count b
  unfolding lowest_unsettled setting_count
  sound-lowest h = nothing-sound-least (is_sound_at b) (input_count b) (sym sound-over ∙ h)

  pub lowest-sound : lowest_unsettled b ≡ setting_count b → is_sound b ≡ true
  unfolding lowest_unsettled setting_count
  lowest-sound e = sound-over ∙ least-nothing-sound (is_sound_at b) (input_count b) e

  -- the entries are exactly the sound and minimal assignments, and they ascend
  pub cover-listed : (i : ℕ) (d : Assignment) → i < length (cover b)
      → EntriesListed (is_sound_at b) (input_count b) (get_or (cover b) i d)
  cover-listed = rw cover-over (entries-listed (is_sound_at b) (input_count b))

  pub listed-cover : (a d : Assignment) → EntriesListed (is_sound_at b) (input_count b) a
      → (i : ℕ) × (i < length (cover b)) × (get_or (cover b) i d ≡ a)
  listed-cover = rw cover-over (listed-entries (is_sound_at b) (input_count b))

  pub cover-ascends : (i j : ℕ) (d : Assignment) → i < j → j < length (cover b)
      → Before (get_or (cover b) i d) (get_or (cover b) j d)
  cover-ascends = rw cover-over (entries-ascend (is_sound_at b) (input_count b))
