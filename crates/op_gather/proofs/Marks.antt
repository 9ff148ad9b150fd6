-- The place of each number, marked one after the other: a turn, the two ways out, and the end. Cited by `places`.
-- Assumes nothing.
--   marked-none, marked_next                    nothing is marked; one number more
-- places-high, places-again, places-length    a number that isn't below m, one that is marked already, a list of
-- another length: not each once
--   places-all                                  all are marked
use Prim.Native.Nat.{ℕ, ◌+◌, ◌≤◌, ◌<◌}
use mathlib.Core.Path.{◌≡◌, refl, sym, ap, ◌∙◌}
use mathlib.Core.Logic.{◌⊎◌, inl, inr, ⊎_elim}
use mathlib.Core.Bool.{true, false}
use mathlib.Core.List.{List}
use native.Mathlib.Omega.{arith}
use lib.ListN.{length, get_or, set, length-set, replicate, length-replicate, get_or-replicate, get_or-append}
use lib.Seq.{get_or-set_same, get_or-set_other}
use Rattle.prelude.specs.Lists.{placed}
use Rattle.prelude.proofs.Tests.{eq-or-ne, not-true-false}
use Rattle.prelude.proofs.Slices.{placed-room}
use Rattle.netlist.specs.Gather.{number_at, place_in, is_permutation}
use Rattle.theory_permutation.specs.Renumbering.{Renumbers}
use Rattle.theory_permutation.proofs.Permutation.{permutation-each, each-permutation, place-renumbers}
use Rattle.op_gather.specs.Places.{Places, PlacesMarked}

module _ (m : ℕ) (order : List ℕ) where
  -- a list that isn't each number once has no places
  not-each : {places : List ℕ} → (is_permutation m order ≡ true → ⊥) → Places m order false places
  not-each h = record { told = sym (not-true-false (is_permutation m order) h); stand = λ e. absurd (h e) }

  pub places-length : (places : List ℕ) → (length order ≡ m → ⊥) → Places m order false places
  places-length places h = not-each (λ e. h (permutation-each m order e).length_is)

  pub marked-none : (entry : List ℕ) → PlacesMarked m order 0 (placed (replicate m m) entry)
  marked-none entry =
      record {
        long = placed-room (replicate m m) entry (length-replicate m m);
        listed = λ u l. absurd (omega arith);
        marks = λ u l. absurd (omega arith);
        others =
            λ j l. inl (get_or-append (replicate m m) _ 0 j (rw (length-replicate {A = ℕ} m m) l)
            ∙ get_or-replicate {A = ℕ} m j m 0 l);
      }

  module _ (t : ℕ) (places : List ℕ) (k : PlacesMarked m order t places) (in_List : t < m) where
    -- the next number isn't below m
    pub places-high : m ≤ get_or order t 0 → Places m order false places
    unfolding number_at
    places-high h =
        not-each (λ e. let l : get_or order t 0 < m = (permutation-each m order e).below t in_List in omega arith)

    -- the number is marked already
    pub places-again : get_or order t 0 < m → get_or places (get_or order t 0) 0 < m → Places m order false places
    unfolding number_at
    places-again l h =
        not-each (λ e.
        ⊎_elim (λ none. omega arith)
        (λ (u, is). let same : get_or places (get_or order t 0) 0
        ≡ t = (permutation-each m order e).apart _ t h in_List is in omega arith)
        (k.others (get_or order t 0) l))

    -- the number is marked now
    pub marked_next : get_or order t 0 < m → m ≤ get_or places (get_or order t 0) 0
        → PlacesMarked m order (t + 1) (set places (get_or order t 0) t)
    marked_next l new =
        record {
          long = rw (length-set places (get_or order t 0) t) k.long;
          listed = λ u h. ⊎_elim (λ e. rw e l) (λ ne. k.listed u (omega arith)) (eq-or-ne u t);
          marks = λ u h. ⊎_elim (λ e. rw e here') (λ ne. before u (omega arith)) (eq-or-ne u t);
          others = λ j h.
              ⊎_elim (λ e. rw e (inr (rw here' (omega arith, refl))))
              (λ ne. rw (get_or-set_other places (get_or order t 0) j t 0 ne) (other j h))
              (eq-or-ne j (get_or order t 0));
        }
      where
        here' : get_or (set places (get_or order t 0) t) (get_or order t 0) 0 ≡ t
        here' = get_or-set_same places (get_or order t 0) t 0 (omega (arith, k.long))

        -- an earlier number is another one
        apart : (u : ℕ) → u < t → get_or order u 0 ≡ get_or order t 0 → ⊥
        apart u h e =
            let z : get_or places (get_or order t 0) 0 ≡ u = ap (λ (j : ℕ). get_or places j 0) (sym e) ∙ k.marks u h in
            omega arith

        before : (u : ℕ) → u < t → get_or (set places (get_or order t 0) t) (get_or order u 0) 0 ≡ u
        before u h = get_or-set_other places (get_or order t 0) (get_or order u 0) t 0 (apart u h) ∙ k.marks u h

        other : (j : ℕ) → j < m → (get_or places j 0 ≡ m)
            ⊎ ((get_or places j 0 < t + 1) × (get_or order (get_or places j 0) 0 ≡ j))
        other j h = ⊎_elim inl (λ (u, is). inr (omega arith, is)) (k.others j h)

  -- all are marked
  pub places-all : (places : List ℕ) → length order ≡ m → PlacesMarked m order m places → Places m order true places
  unfolding number_at
  places-all places long k =
      let passes : is_permutation m order ≡ true =
      each-permutation m order
      (record {
        length_is = long;
        below = k.listed;
        apart = λ t u l h e. sym (k.marks t l) ∙ ap (λ (j : ℕ). get_or places j 0) e ∙ k.marks u h;
      }) in
      let r : Renumbers m order (place_in order) = place-renumbers m order passes in
      record {
        told = sym passes;
        stand =
            λ e j l. ap (λ (i : ℕ). get_or places i 0) (sym (r.old_of_new j l))
            ∙ k.marks (place_in order j) (r.new_below j l);
      }
