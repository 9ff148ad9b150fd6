-- SPECIFICATION 4: which partial assignments are sound, and the minimal ones, which the field calls prime implicants;
-- settings that never come are its don't-cares.
use Rattle.std.specs.Prelude.{ℕ, ◌-◌, ◌*◌, ◌^◌, Bool, not, ◌&&◌, ◌||◌, List, [], ◌∷◌, map}
use Rattle.prelude.specs.Lists.{all, up_to, keep, joined}
use Rattle.netlist.specs.Netlist.{Block, input_count}
use Rattle.netlist.specs.Assignments.{bit, Assignment, fixes, agrees, is_within}
use Rattle.netlist.specs.Rounds.{is_sound_at, setting_count}

-- an assignment is sound: all settings that agree with it and may come are settled; it need not fix the value of any
-- gate by itself
unfoldable pub is_sound_under : Block → Assignment → Bool
is_sound_under b a = all (λ s. not (agrees (input_count b) a s) || is_sound_at b s) (up_to (setting_count b))

-- a block is sound: all settings that may come are settled. Every setting agrees with the assignment that fixes nothing
unfoldable pub is_sound : Block → Bool
is_sound b = is_sound_under b (record { fixed = 0; ones = 0 })

-- the assignment with input i no longer fixed
unfoldable pub without : Assignment → ℕ → Assignment
without a i = record { fixed = a.fixed - 2 ^ i; ones = a.ones - bit a.ones i * 2 ^ i }

-- a sound assignment is minimal, a prime implicant: left without any one of its fixed inputs, it is sound no longer
unfoldable pub is_minimal : Block → Assignment → Bool
is_minimal b a = all (λ i. not (fixes a i) || not (is_sound_under b (without a i))) (up_to (input_count b))

-- all assignments of n inputs, ascending by the mask of fixed inputs and then by that of those at 1
unfoldable pub assignments_at : ℕ → ℕ → List Assignment
assignments_at n f = map (λ o. record { fixed = f; ones = o }) (keep (is_within n f) (up_to (2 ^ n)))

unfoldable pub assignments : ℕ → List Assignment
assignments n = joined (map (assignments_at n) (up_to (2 ^ n)))

-- every sound and minimal assignment, ascending: the prime implicants of soundness
unfoldable pub cover : Block → List Assignment
cover b = keep (λ a. is_sound_under b a && is_minimal b a) (assignments (input_count b))

-- an entry as its two masks, a word each
unfoldable pub cover_entries : Block → List ℕ
cover_entries b = joined (map (λ (a : Assignment). a.fixed ∷ a.ones ∷ []) (cover b))
