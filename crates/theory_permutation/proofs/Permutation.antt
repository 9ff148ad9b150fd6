-- Lists that are each number below m once.
--   permutation-each, each-permutation   a list passes the test exactly when it is each number once
--   place-renumbers, inverse-renumbers   the places of such a list, and the list as numbers of its inverse
-- Assumes nothing.
use Prim.Native.Nat.{ℕ, zero, suc, ◌≤◌, ◌<◌}
use mathlib.Core.Path.{◌≡◌, refl, sym, ◌∙◌}
use mathlib.Core.Logic.{◌⊎◌, inl, inr, ⊎_elim}
use mathlib.Core.Bool.{Bool, true, false, false≢true}
use mathlib.Core.List.{List, [], ◌∷◌}
use native.Mathlib.Omega.{arith}
use lib.ListN.{length, get_or}
use lib.Dec.{eqb}
use borrow.Author.Tests.{eqb-true, eq-eqb, ne_eqb}
use Rattle.prelude.specs.Lists.{member, count_below, least}
use Rattle.prelude.proofs.Tests.{bool_cases, same_test, not-true-false, and_left, and_right, and_intro, lt-or-le}
use Rattle.prelude.proofs.Tab.{length-tab, get_d-tab}
use Rattle.prelude.proofs.Least.{least_at}
use Rattle.prelude.proofs.Lists.{member-head, member-rest, member-first}
use Rattle.prelude.proofs.Quantifiers.{all-below, below_all, member-at, member-from}
use Rattle.prelude.proofs.Counting.{count_below-ext, count_below-all, count_below-full, count_below-one}
use Rattle.theory_reach.specs.Orders.{Once}
use Rattle.theory_reach.proofs.ListFacts.{once-get_d, least-at-most}
use Rattle.theory_reach.proofs.Counting.{once-length}
use Rattle.netlist.specs.Gather.{number_at, place_in, is_permutation, inverse}
use Rattle.theory_permutation.specs.Renumbering.{EachOnce, Renumbers}

-- ---- no number twice, by places and by the rest of the list

once-from : (xs : List ℕ) → ((t u : ℕ) → t < length xs → u < length xs → get_or xs t 0 ≡ get_or xs u 0 → t ≡ u) → Once xs
once-from [] h = tt
once-from (x ∷ xs) h = (
  not-true-false (member x xs)
      (λ m. let (i, l, e) = member-at x xs m in
      let z : ◌≡◌ {A = ℕ} 0 (suc i) = h 0 (suc i) (omega arith) (omega arith) (sym e) in omega arith),
  once-from xs (λ t u l k e. let z : suc t ≡ suc u = h (suc t) (suc u) (omega arith) (omega arith) e in omega arith),
)

-- ---- how many numbers below n are in a list

abbrev holds : List ℕ → ℕ → Bool
holds xs k = member k xs

-- a number more counts for none where it is there already, or is not below n,
count-again : (x : ℕ) (xs : List ℕ) (n : ℕ) → (member x xs ≡ true) ⊎ (n ≤ x)
    → count_below (holds (x ∷ xs)) n ≡ count_below (holds xs) n
count-again x xs n h =
    count_below-ext (holds (x ∷ xs)) (holds xs) n
    (λ k l. same_test (member k (x ∷ xs)) (member k xs)
    (λ m. ⊎_elim (λ e. again k l e h) (λ e. e) (member-first k x xs m)) (λ m. member-rest k x xs m))
  where
    again : (k : ℕ) → k < n → k ≡ x → (member x xs ≡ true) ⊎ (n ≤ x) → member k xs ≡ true
    again k l e (inl m) = rw e m
    again k l e (inr c) = absurd (omega arith)

-- a number that is not in the list yet counts for one more
count-new : (x : ℕ) (xs : List ℕ) (n : ℕ) → member x xs ≡ false → x < n
    → count_below (holds (x ∷ xs)) n ≡ suc (count_below (holds xs) n)
count-new x xs n m l =
    count_below-one (holds xs) (holds (x ∷ xs)) n x l m (member-head x xs) (λ k d. rw (ne_eqb k x d) refl)

data Next (x : ℕ) (xs : List ℕ) (n : ℕ) : Type 0 where
  again : count_below (holds (x ∷ xs)) n ≡ count_below (holds xs) n → Next x xs n
  new : member x xs ≡ false → x < n → count_below (holds (x ∷ xs)) n ≡ suc (count_below (holds xs) n) → Next x xs n

next_of : (x : ℕ) (xs : List ℕ) (n : ℕ) → Next x xs n
next_of x xs n =
    ⊎_elim (λ m. again (count-again x xs n (inl m)))
    (λ m. ⊎_elim (λ l. new m l (count-new x xs n m l)) (λ c. again (count-again x xs n (inr c))) (lt-or-le x n))
    (bool_cases (member x xs))

count-few : (xs : List ℕ) (n : ℕ) → count_below (holds xs) n ≤ length xs
count-few [] n = rw (none n) (omega arith)
  where
    none : (n : ℕ) → count_below (λ k. false) n ≡ 0
    none zero = refl
    none (suc n) = let r = none n in omega arith
count-few (x ∷ xs) n = go (next_of x xs n) (count-few xs n)
  where
    go : Next x xs n → count_below (holds xs) n ≤ length xs → count_below (holds (x ∷ xs)) n ≤ suc (length xs)
    go (again e) r = omega arith
    go (new m l e) r = omega arith

-- where a list holds as many numbers below n as it is long, none stands twice and all are below n
count-all : (xs : List ℕ) (n : ℕ) → length xs ≤ count_below (holds xs) n
    → Once xs × ((y : ℕ) → member y xs ≡ true → y < n)
count-all [] n h = (tt, λ y m. absurd (false≢true m))
count-all (x ∷ xs) n h = go (next_of x xs n) (count-few xs n) (count-all xs n)
  where
    go : Next x xs n → count_below (holds xs) n ≤ length xs
        → (length xs ≤ count_below (holds xs) n → Once xs × ((y : ℕ) → member y xs ≡ true → y < n))
        → Once (x ∷ xs) × ((y : ℕ) → member y (x ∷ xs) ≡ true → y < n)
    go (again e) few r = absurd (omega arith)
    go (new m l e) few r =
        let (once, below) = r (omega arith) in
        ((m, once), λ y h. ⊎_elim (λ e. omega arith) (below y) (member-first y x xs h))

-- ---- the test

module _ (m : ℕ) (order : List ℕ) where
  -- a list that passes is each number once,
  pub permutation-each : is_permutation m order ≡ true → EachOnce m order
  unfolding is_permutation number_at
  permutation-each h =
      let long : length order ≡ m = eqb-true (length order) m (and_left (eqb (length order) m) _ h) in
      let full = all-below (λ j. member j order) m in
      let counts : count_below (holds order) m ≡ m =
      count_below-all (holds order) m (λ k l. full k (and_right (eqb (length order) m) _ h) l) in
      let (once, below) = count-all order m (omega arith) in
      record {
        length_is = long;
        below = λ t l. below (get_or order t 0) (member-from (get_or order t 0) order t (omega arith) refl);
        apart = λ t u l k e. once-get_d order once t u (omega arith) (omega arith) e;
      }

  -- a list that is each number below m once passes the test
  pub each-permutation : EachOnce m order → is_permutation m order ≡ true
  unfolding is_permutation number_at
  each-permutation e =
      let long : length order ≡ m = e.length_is in
      let once : Once order = once-from order (λ t u l k. e.apart t u (omega arith) (omega arith)) in
      let below : (x : ℕ) → member x order ≡ true → x < m = λ x h. let (i, l, is) =
      member-at x order h in rw is at (e.below i (omega arith)) in
      let counts : length order ≡ count_below (holds order) m = once-length order m once below in
      and_intro (eqb (length order) m) _ (eq-eqb (length order) m long)
      (below_all (λ j. member j order) m (count_below-full (holds order) m (omega arith)))

  -- ---- places and numbers

  module _ (h : is_permutation m order ≡ true) where
    -- a number's place is there, and it stands there
    place_at : (j : ℕ) → j < m → (place_in order j < m) × (number_at order (place_in order j) ≡ j)
    unfolding is_permutation place_in number_at
    place_at j l =
        let long : length order ≡ m = (permutation-each h).length_is in
        let (i, k, is) =
        member-at j order (all-below (λ j. member j order) m j (and_right (eqb (length order) m) _ h) l) in
        let stands : (t : ℕ) → Bool = λ t. eqb (get_or order t 0) j in
        let first : least stands (length order) ≤ i =
        least-at-most stands (length order) i (eq-eqb (get_or order i 0) j is) in
        (omega arith, eqb-true _ j (least_at stands (length order) (omega arith)))

    pub place-renumbers : Renumbers m order (place_in order)
    place-renumbers =
        let e = permutation-each h in
        record {
          length_is = e.length_is;
          old_below = e.below;
          new_below = λ j l. (place_at j l).0;
          old_of_new = λ j l. (place_at j l).1;
          new_of_old = λ t l. let p = place_at (number_at order t) (e.below t l) in
              e.apart (place_in order (number_at order t)) t p.0 l p.1;
        }

    pub inverse-at : (j : ℕ) → j < m → number_at (inverse order) j ≡ place_in order j
    unfolding inverse number_at
    inverse-at j l = get_d-tab (place_in order) (length order) j 0 (rw (permutation-each h).length_is l)

    length-inverse : length (inverse order) ≡ length order
    unfolding inverse
    length-inverse = length-tab (place_in order) (length order)

    pub inverse-renumbers : Renumbers m (inverse order) (number_at order)
    inverse-renumbers =
        let r = place-renumbers in
        record {
          length_is = length-inverse ∙ r.length_is;
          old_below = λ t l. rw (inverse-at t l) (r.new_below t l);
          new_below = r.old_below;
          old_of_new = λ j l. inverse-at (number_at order j) (r.old_below j l) ∙ r.new_of_old j l;
          new_of_old = λ t l. rw (inverse-at t l) (r.old_of_new t l);
        }
