-- The never lines that Write prints: a pair for each input that an assignment fixes. Cited by the laws of the written
-- tree. Assumes nothing.
--   assignment_of-pairs_of: the assignment of a written line is the one it was written for
--   pairs-some: it has a pair
--   pairs-all: what holds of the pair of every input holds of all its pairs
--   pairs-few: no more pairs than inputs
--   pairs-distinct: no name stands twice in it
use Prim.Native.Nat.{ℕ, ◌^◌, ◌≤◌, ◌<◌}
use mathlib.Core.Path.{◌≡◌, refl, sym, ap, ◌∙◌}
use mathlib.Core.Logic.{◌⊎◌, inl, inr}
use mathlib.Core.Bool.{Bool, true, false, cond, and-eq-true_iff, false≢true}
use mathlib.Core.List.{List, [], ◌∷◌, map, map-map}
use native.Mathlib.Omega.{arith}
use lib.ListN.{length, get_or, length-map}
use lib.Dec.{eqb, leb, ltb}
use borrow.Author.Tests.{eq-eqb, eqb-true, leb-true, ltb-true, lt-ltb}
use Rattle.prelude.specs.Lists.{all, keep, up_to, same, member, member_list, distinct}
use Rattle.prelude.proofs.Tests.{lt-or-le, eq-or-ne, not-true-false, or-neither}
use Rattle.prelude.proofs.Counting.{count_below-le, length-keep}
use Rattle.prelude.proofs.Quantifiers.{all-below, below_all, member-from}
use Rattle.prelude.proofs.Same.{same_refl}
use Rattle.prelude.proofs.Tab.{get_d-tab, length-tab, tab-get_d}
use Rattle.prelude.proofs.Lists.{member-first}
use Rattle.netlist.specs.Values.{Value, undefined, val, is_defined}
use Rattle.netlist.specs.Assignments.{bit, mask_of, is_one, Assignment, fixes, is_within, are_masks}
use Rattle.netlist.specs.Netlist.{Name, Block, input_count}
use Rattle.netlist.specs.StoredBlock.{never_fits}
use Rattle.netlist.specs.Syntax.{Pair}
use Rattle.netlist.specs.Reading.{given_value, assignment_of}
use Rattle.netlist.specs.Writing.{pairs_of}
use Rattle.theory_grammar.proofs.ListFacts.{and3, ne_same, distinct_apart, distinct-parts, tab-map}
use Rattle.theory_encoding.proofs.ListFacts.{get_d_map}
use Rattle.theory_grammar.proofs.Masks.{bit_below, mask-of-bits}

-- the pair of input i
abbrev pub pair_at : Block → Assignment → ℕ → Pair
pair_at b a i = record { name = get_or b.inputs i []; value = eqb (bit a.ones i) 1 }

-- two inputs have two names
names-differ : (xs : List Name) → distinct xs ≡ true → (i j : ℕ) → i < length xs → j < length xs → (i ≡ j → ⊥)
    → same (get_or xs i []) (get_or xs j []) ≡ false
names-differ xs d i j l k n = go (lt-or-le i j) (lt-or-le j i)
  where
    go : (i < j) ⊎ (j ≤ i) → (j < i) ⊎ (i ≤ j) → same (get_or xs i []) (get_or xs j []) ≡ false
    go (inl m) q = ne_same _ _ (distinct_apart xs d i j m k)
    go (inr p) (inl m) = ne_same _ _ (λ e. distinct_apart xs d j i m l (sym e))
    go (inr p) (inr q) = absurd (n (omega arith))

module _ (b : Block) (a : Assignment) (names : distinct b.inputs ≡ true) (i : ℕ) (there : i < input_count b) where
  -- an input that is not fixed is given nothing
  given-none : (js : List ℕ) → all (λ j. ltb j (input_count b)) js ≡ true → fixes a i ≡ false
      → given_value (map (pair_at b a) (keep (fixes a) js)) (get_or b.inputs i []) ≡ undefined
  unfolding given_value
  given-none [] below free = refl
  given-none (j ∷ js) below free =
      let f = (and-eq-true_iff (ltb j (input_count b)) (all (λ j. ltb j (input_count b)) js)).0 below in
      go (fixes a j) refl (ltb-true j (input_count b) f.0) (given-none js f.1 free)
    where
      go : (t : Bool) → fixes a j ≡ t → j < input_count b
          → given_value (map (pair_at b a) (keep (fixes a) js)) (get_or b.inputs i []) ≡ undefined
          → given_value (map (pair_at b a) (cond t (j ∷ keep (fixes a) js) (keep (fixes a) js))) (get_or b.inputs i [])
          ≡ undefined
      go true e l rec = rw (names-differ b.inputs names i j there l
          (λ q. let h : fixes a i ≡ true = rw q e in false≢true (sym free ∙ h))) rec
      go false e l rec = rec

  -- a fixed one is given its value
  given-value : (js : List ℕ) → all (λ j. ltb j (input_count b)) js ≡ true → member i js ≡ true → fixes a i ≡ true
      → given_value (map (pair_at b a) (keep (fixes a) js)) (get_or b.inputs i []) ≡ val (eqb (bit a.ones i) 1)
  unfolding given_value
  given-value [] below m fixed = absurd (false≢true m)
  given-value (j ∷ js) below m fixed =
      let f = (and-eq-true_iff (ltb j (input_count b)) (all (λ j. ltb j (input_count b)) js)).0 below in
      go (eq-or-ne i j) (member-first i j js m) (fixes a j) refl (ltb-true j (input_count b) f.0)
      (λ k. given-value js f.1 k fixed)
    where
      go : (i ≡ j) ⊎ (i ≡ j → ⊥) → (i ≡ j) ⊎ (member i js ≡ true) → (t : Bool) → fixes a j ≡ t → j < input_count b
          → (member i js ≡ true → given_value (map (pair_at b a) (keep (fixes a) js)) (get_or b.inputs i [])
          ≡ val (eqb (bit a.ones i) 1))
          → given_value (map (pair_at b a) (cond t (j ∷ keep (fixes a) js) (keep (fixes a) js))) (get_or b.inputs i [])
          ≡ val (eqb (bit a.ones i) 1)
      go (inl e) q true t l rec = rw (← e, same_refl (get_or b.inputs i []))
      go (inl e) q false t l rec = let h : fixes a i ≡ false = rw e t in absurd (false≢true (sym h ∙ fixed))
      go (inr n) (inl e) t h l rec = absurd (n e)
      go (inr n) (inr m) true t l rec = rw (names-differ b.inputs names i j there l n) (rec m)
      go (inr n) (inr m) false t l rec = rec m

  given : given_value (pairs_of b a) (get_or b.inputs i []) ≡ cond (fixes a i) (val (eqb (bit a.ones i) 1)) undefined
  unfolding pairs_of
  given = go (fixes a i) refl
    where
      below : all (λ j. ltb j (input_count b)) (up_to (input_count b)) ≡ true
      below = below_all (λ j. ltb j (input_count b)) (input_count b) (λ j l. lt-ltb j (input_count b) l)

      is-there : member i (up_to (input_count b)) ≡ true
      is-there = member-from i (up_to (input_count b)) i (rw (length-tab (λ k. k) (input_count b)) there)
          (get_d-tab (λ k. k) (input_count b) i 0 there)

      go : (t : Bool) → fixes a i ≡ t
          → given_value (map (pair_at b a) (keep (fixes a) (up_to (input_count b)))) (get_or b.inputs i [])
          ≡ cond t (val (eqb (bit a.ones i) 1)) undefined
      go true e = given-value (up_to (input_count b)) below is-there e
      go false e = given-none (up_to (input_count b)) below e

-- what the rules say of a never line
pub record NeverFacts (b : Block) (a : Assignment) : Type 0 where
  pub some : 0 < a.fixed
  pub fixed_few : a.fixed < 2 ^ input_count b
  pub ones_few : a.ones < 2 ^ input_count b
  pub within : is_within (input_count b) a.fixed a.ones ≡ true

pub never-facts : (b : Block) (a : Assignment) → never_fits b a ≡ true → NeverFacts b a
unfolding never_fits are_masks
never-facts b a h =
    let f = (and-eq-true_iff (ltb 0 a.fixed) (are_masks (input_count b) a.fixed a.ones)).0 h in
    let g = and3 (ltb a.fixed (2 ^ input_count b)) (ltb a.ones (2 ^ input_count b))
    (is_within (input_count b) a.fixed a.ones) f.1 in
    record {
      some = ltb-true 0 a.fixed f.0;
      fixed_few = ltb-true a.fixed (2 ^ input_count b) g.0;
      ones_few = ltb-true a.ones (2 ^ input_count b) g.1;
      within = g.2;
    }

module _ (b : Block) (a : Assignment) (names : distinct b.inputs ≡ true) (fits : never_fits b a ≡ true) where
  values : List Value
  values = map (given_value (pairs_of b a)) b.inputs

  many : length values ≡ input_count b
  unfolding values
  many = length-map b.inputs (given_value (pairs_of b a))

  -- the value of input i, from the assignment
  value-at : (i : ℕ) → i < length values
      → get_or values i undefined ≡ cond (fixes a i) (val (eqb (bit a.ones i) 1)) undefined
  unfolding values
  value-at i l =
      let m : i < input_count b = rw many at l in
      get_d_map (given_value (pairs_of b a)) b.inputs i [] undefined m ∙ given b a names i m

  -- an input at 1 is a fixed one
  one-fixed : (i : ℕ) → i < input_count b → fixes a i ≡ false → eqb (bit a.ones i) 1 ≡ false
  unfolding fixes is_within
  one-fixed i l free =
      let h = leb-true (bit a.ones i) (bit a.fixed i)
      (all-below (λ i. leb (bit a.ones i) (bit a.fixed i)) (input_count b) i (never-facts b a fits).within l) in
      not-true-false _ λ e. let k = eqb-true (bit a.ones i) 1 e in let m = bit_below a.fixed i in
      false≢true (sym free ∙ eq-eqb (bit a.fixed i) 1 (omega arith))

  fixed_back : mask_of is_defined values ≡ a.fixed
  unfolding fixes is_defined
  fixed_back =
      mask-of-bits is_defined values a.fixed (rw many (never-facts b a fits).fixed_few)
      λ i l. ap is_defined (value-at i l) ∙ go (fixes a i) (eqb (bit a.ones i) 1)
    where
      go : (t v : Bool) → is_defined (cond t (val v) undefined) ≡ t
      go true v = refl
      go false v = refl

  ones-back : mask_of is_one values ≡ a.ones
  unfolding is_one
  ones-back =
      mask-of-bits is_one values a.ones (rw many (never-facts b a fits).ones_few)
      λ i l. ap is_one (value-at i l) ∙ go (fixes a i) (eqb (bit a.ones i) 1) (one-fixed i (rw many at l))
    where
      go : (t v : Bool) → (t ≡ false → v ≡ false) → is_one (cond t (val v) undefined) ≡ v
      go true v h = refl
      go false v h = sym (h refl)

  -- The assignment of a written never line is the one it was written for.
  pub assignment_of-pairs_of : assignment_of b.inputs (pairs_of b a) ≡ a
  unfolding assignment_of values
  assignment_of-pairs_of = λ i. record { fixed = fixed_back i; ones = ones-back i }

  -- It has a pair: without one, nothing would be fixed.
  pub pairs-some : 1 ≤ length (pairs_of b a)
  unfolding values mask_of given_value is_defined
  pairs-some = go (pairs_of b a) refl
    where
      none-given : (xs : List Name) → mask_of is_defined (map (given_value []) xs) ≡ 0
      none-given [] = refl
      none-given (x ∷ xs) = rw (none-given xs)

      go : (ps : List Pair) → pairs_of b a ≡ ps → 1 ≤ length ps
      go [] e =
          let h : mask_of is_defined (map (given_value []) b.inputs) ≡ a.fixed = rw e at fixed_back in
          let k = (never-facts b a fits).some in
          absurd (omega (arith, none-given b.inputs))
      go (p ∷ ps) e = omega arith

-- ---- what holds of every pair, and how many there are

module _ (b : Block) (a : Assignment) where
  kept-all : (test : Pair → Bool) → ((j : ℕ) → j < input_count b → test (pair_at b a j) ≡ true)
      → (js : List ℕ) → all (λ j. ltb j (input_count b)) js ≡ true
      → all test (map (pair_at b a) (keep (fixes a) js)) ≡ true
  kept-all test h [] below = refl
  kept-all test h (j ∷ js) below =
      let f = (and-eq-true_iff (ltb j (input_count b)) (all (λ j. ltb j (input_count b)) js)).0 below in
      go (fixes a j) (h j (ltb-true j (input_count b) f.0)) (kept-all test h js f.1)
    where
      go : (t : Bool) → test (pair_at b a j) ≡ true → all test (map (pair_at b a) (keep (fixes a) js)) ≡ true
          → all test (map (pair_at b a) (cond t (j ∷ keep (fixes a) js) (keep (fixes a) js))) ≡ true
      go true e rec = rw e rec
      go false e rec = rec

  pub pairs-all : (test : Pair → Bool) → ((j : ℕ) → j < input_count b → test (pair_at b a j) ≡ true)
      → all test (pairs_of b a) ≡ true
  unfolding pairs_of
  pairs-all test h = kept-all test h (up_to (input_count b))
      (below_all (λ j. ltb j (input_count b)) (input_count b) (λ j l. lt-ltb j (input_count b) l))

  pub pairs-few : length (pairs_of b a) ≤ input_count b
  unfolding pairs_of
  pairs-few =
      let e = length-map (keep (fixes a) (up_to (input_count b))) (pair_at b a) in
      omega (arith, length-keep (fixes a) (input_count b), count_below-le (fixes a) (input_count b))

-- ---- no name stands twice

not-kept : (f : ℕ → Name) (p : ℕ → Bool) (x : Name) (js : List ℕ) → member_list x (map f js) ≡ false
    → member_list x (map f (keep p js)) ≡ false
not-kept f p x [] h = refl
not-kept f p x (j ∷ js) h =
    let g = or-neither (same x (f j)) (member_list x (map f js)) h in
    go (p j) g.0 (not-kept f p x js g.1)
  where
    go : (t : Bool) → same x (f j) ≡ false → member_list x (map f (keep p js)) ≡ false
        → member_list x (map f (cond t (j ∷ keep p js) (keep p js))) ≡ false
    go true e rec = rw e rec
    go false e rec = rec

distinct-kept : (f : ℕ → Name) (p : ℕ → Bool) (js : List ℕ) → distinct (map f js) ≡ true
    → distinct (map f (keep p js)) ≡ true
distinct-kept f p [] h = refl
distinct-kept f p (j ∷ js) h =
    let g = distinct-parts (f j) (map f js) h in
    go (p j) (not-kept f p (f j) js g.0) (distinct-kept f p js g.1)
  where
    go : (t : Bool) → member_list (f j) (map f (keep p js)) ≡ false → distinct (map f (keep p js)) ≡ true
        → distinct (map f (cond t (j ∷ keep p js) (keep p js))) ≡ true
    go true e rec = rw e rec
    go false e rec = rec

-- No name stands twice in a written never line.
pub pairs-distinct : (b : Block) (a : Assignment) → distinct b.inputs ≡ true
    → distinct (map (λ (p : Pair). p.name) (pairs_of b a)) ≡ true
unfolding pairs_of
pairs-distinct b a names =
    let name : ℕ → Name = λ i. get_or b.inputs i [] in
    let e : map name (up_to (input_count b)) ≡ b.inputs =
    sym (tab-map name (input_count b)) ∙ tab-get_d [] b.inputs (input_count b) refl in
    ap distinct (map-map (λ (p : Pair). p.name) (pair_at b a) (keep (fixes a) (up_to (input_count b))))
    ∙ distinct-kept name (fixes a) (up_to (input_count b)) (ap distinct e ∙ names)
