-- The cover (SPECIFICATION 4) over any test p of the settings of n inputs: the definitions of `netlist` with p for "is
-- settled" and n for the block's inputs. In the field's words these are the prime implicants of p (Quine 1952,
-- McCluskey 1956). Cited by the contracts of crates/op_cover. Assumes nothing.
use Rattle.std.specs.Prelude.{ℕ, ◌^◌, ◌<◌, ◌≡◌, ◌⊎◌, Bool, true, not, ◌&&◌, ◌||◌, List, [], ◌∷◌, map}
use Rattle.prelude.specs.Lists.{all, up_to, keep, joined}
use Rattle.netlist.specs.Assignments.{Assignment, fixes, agrees, is_within}
use Rattle.netlist.specs.Cover.{without, assignments}

-- every setting that agrees with the assignment passes the test: it is an implicant
unfoldable pub sound_over : (ℕ → Bool) → ℕ → Assignment → Bool
sound_over p n a = all (λ s. not (agrees n a s) || p s) (up_to (2 ^ n))

-- minimal, that is prime: no single fixed input can be dropped with the rest still sound
unfoldable pub minimal_over : (ℕ → Bool) → ℕ → Assignment → Bool
minimal_over p n a = all (λ i. not (fixes a i) || not (sound_over p n (without a i))) (up_to n)

-- the sound and minimal assignments, by ascending first mask, then second
unfoldable pub cover_over : (ℕ → Bool) → ℕ → List Assignment
cover_over p n = keep (λ a. sound_over p n a && minimal_over p n a) (assignments n)

-- the words of a list of assignments: two masks each
unfoldable pub assignment_words : List Assignment → List ℕ
assignment_words entries = joined (map (λ (a : Assignment). a.fixed ∷ a.ones ∷ []) entries)

-- the assignment with these masks, and the one that fixes no input
abbrev pub masks : ℕ → ℕ → Assignment
masks f o = record { fixed = f; ones = o }

abbrev pub nothing : Assignment
nothing = masks 0 0

-- an assignment of n inputs: both masks are of n bits, and an input at 1 is a fixed one
pub record Consistent (n : ℕ) (a : Assignment) : Type 0 where
  pub fixed-lt : a.fixed < 2 ^ n
  pub ones_lt : a.ones < 2 ^ n
  pub inside : is_within n a.fixed a.ones ≡ true

-- what the cover lists: the sound and minimal assignments of n inputs
pub record EntriesListed (p : ℕ → Bool) (n : ℕ) (a : Assignment) : Type 0 where
  pub legal : Consistent n a
  pub sound : sound_over p n a ≡ true
  pub minimal : minimal_over p n a ≡ true

-- the order of a cover's entries: by first mask, then by second
abbrev pub Before : Assignment → Assignment → Type 0
Before a b = (a.fixed < b.fixed) ⊎ ((a.fixed ≡ b.fixed) × (a.ones < b.ones))
