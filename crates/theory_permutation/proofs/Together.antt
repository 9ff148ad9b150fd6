-- The gates of a group lie side by side in the gathered block, ascending by their old numbers, and the groups stand in
-- their order.
--   Pair, pair_of          where two places of lists put one after the other lie
--   gathered-in-order      a later gate is of no earlier group
--   gathered-together      what lies between two gates of a group is of that group
--   gathered-ascending     of two gates of a group the later has the higher old number
-- Assumes nothing.
use Prim.Native.Nat.{ℕ, suc, ◌+◌, ◌-◌, ◌≤◌, ◌<◌}
use mathlib.Core.Path.{◌≡◌, refl, sym, ◌∙◌}
use mathlib.Core.Logic.{⊎_elim}
use mathlib.Core.Bool.{true}
use mathlib.Core.List.{List, [], ◌∷◌, ◌++◌}
use native.Mathlib.Omega.{arith}
use lib.ListN.{length, get_or, length-append, get_or-append}
use lib.Seq.{get_or-append-add}
use Rattle.prelude.specs.Lists.{joined}
use Rattle.prelude.proofs.Tests.{lt-or-le}
use Rattle.prelude.proofs.Quantifiers.{member-from}
use Rattle.netlist.specs.Netlist.{Block, gate_count}
use Rattle.netlist.specs.StoredBlock.{is_well_formed}
use Rattle.netlist.specs.Groups.{same_group, groups, group_number}
use Rattle.netlist.specs.Gather.{number_at, gathered_order, gathered}
use Rattle.theory_reach.specs.Inside.{Inside}
use Rattle.theory_reach.specs.Orders.{Ascending}
use Rattle.theory_reach.proofs.ListFacts.{ascending-get_d, entry-below}
use Rattle.theory_reach.proofs.Inside.{well_formed-inside}
use Rattle.theory_reach.proofs.SameGroup.{group_of-ascending}
use Rattle.theory_reach.proofs.Order.{groups-entry, length-joined-groups}
use Rattle.theory_reach.proofs.GroupNumber.{group_number-is, group_number-same, same-group_number}
use Rattle.theory_permutation.proofs.Permutation.{place-renumbers}
use Rattle.theory_permutation.proofs.Gathered.{gathered-permutation, gathered-same_group}

-- ---- lists one after the other

-- place t is place i of list g, and place u is place j of list h, which isn't an earlier one
record Pair (xs : List (List ℕ)) (t u : ℕ) : Type 0 where
  g : ℕ
  h : ℕ
  i : ℕ
  j : ℕ
  lists : g ≤ h
  places : g ≡ h → t < u → i < j
  first : i < length (get_or xs g [])
  second : j < length (get_or xs h [])
  first_is : get_or (joined xs) t 0 ≡ get_or (get_or xs g []) i 0
  second_is : get_or (joined xs) u 0 ≡ get_or (get_or xs h []) j 0

get_d-later : (x ys : List ℕ) (t : ℕ) → length x ≤ t → get_or (x ++ ys) t 0 ≡ get_or ys (t - length x) 0
get_d-later x ys t l =
    let e : length x + (t - length x) ≡ t = omega arith in
    rw e at (get_or-append-add x ys (t - length x) 0)

pair_of : (xs : List (List ℕ)) (t u : ℕ) → t ≤ u → u < length (joined xs) → Pair xs t u
pair_of [] t u l k = absurd (omega arith)
pair_of (x ∷ xs) t u l k =
    ⊎_elim here' (λ late. ⊎_elim
    (λ early. across early late (pair_of xs (u - length x) (u - length x) (omega arith) (omega (arith, whole))))
    (λ later. there later (pair_of xs (t - length x) (u - length x) (omega arith) (omega (arith, whole))))
    (lt-or-le t (length x)))
    (lt-or-le u (length x))
  where
    whole : length (joined (x ∷ xs)) ≡ length x + length (joined xs)
    whole = length-append x (joined xs)

    -- both places are in the first list
    here' : u < length x → Pair (x ∷ xs) t u
    here' c =
        record {
          g = 0;
          h = 0;
          i = t;
          j = u;
          lists = omega arith;
          places = λ e a. a;
          first = omega arith;
          second = c;
          first_is = get_or-append x (joined xs) 0 t (omega arith);
          second_is = get_or-append x (joined xs) 0 u c;
        }

    -- only the first is,
    across : t < length x → length x ≤ u → Pair xs (u - length x) (u - length x) → Pair (x ∷ xs) t u
    across c d p =
        record {
          g = 0;
          h = suc p.h;
          i = t;
          j = p.j;
          lists = omega arith;
          places = λ e a. absurd (omega arith);
          first = c;
          second = p.second;
          first_is = get_or-append x (joined xs) 0 t c;
          second_is = get_d-later x (joined xs) u d ∙ p.second_is;
        }

    -- neither place is in the first list
    there : length x ≤ t → Pair xs (t - length x) (u - length x) → Pair (x ∷ xs) t u
    there c p =
        record {
          g = suc p.g;
          h = suc p.h;
          i = p.i;
          j = p.j;
          lists = omega (arith, p.lists);
          places = λ e a. p.places (omega arith) (omega arith);
          first = p.first;
          second = p.second;
          first_is = get_d-later x (joined xs) t c ∙ p.first_is;
          second_is = get_d-later x (joined xs) u (omega arith) ∙ p.second_is;
        }

-- ---- the gathered block

module _ (b : Block) (fits : is_well_formed b ≡ true) where
  -- the group's number of new gate t
  abbrev group_at : ℕ → ℕ
  group_at t = group_number b (number_at (gathered_order b) t)

  inside : Inside b
  inside = well_formed-inside b fits

  old-below : (t : ℕ) → t < gate_count b → number_at (gathered_order b) t < gate_count b
  old-below = (place-renumbers (gate_count b) (gathered_order b) (gathered-permutation b fits)).old_below

  pair-at : (t u : ℕ) → t ≤ u → u < gate_count b → Pair (groups b) t u
  pair-at t u l k = pair_of (groups b) t u l (rw (length-joined-groups b inside) k)

  number_of : (x g i : ℕ) → i < length (get_or (groups b) g []) → x ≡ get_or (get_or (groups b) g []) i 0
      → group_number b x ≡ g
  number_of x g i l e = group_number-is b x g (member-from x (get_or (groups b) g []) i l (sym e))

  first_group : (t u : ℕ) (p : Pair (groups b) t u) → group_at t ≡ p.g
  unfolding gathered_order number_at
  first_group t u p = number_of _ p.g p.i p.first p.first_is

  second_group : (t u : ℕ) (p : Pair (groups b) t u) → group_at u ≡ p.h
  unfolding gathered_order number_at
  second_group t u p = number_of _ p.h p.j p.second p.second_is

  -- a later gate is of no earlier group
  pub gathered-in-order : (t u : ℕ) → t ≤ u → u < gate_count b → group_at t ≤ group_at u
  gathered-in-order t u l k =
      let p = pair-at t u l k in
      omega (arith, first_group t u p, second_group t u p, p.lists)

  same_number : (t u : ℕ) → t < gate_count b → u < gate_count b → same_group (gathered b) t u ≡ true
      → group_at t ≡ group_at u
  same_number t u l k h =
      group_number-same b inside (number_at (gathered_order b) t) (number_at (gathered_order b) u)
      (sym (gathered-same_group b fits t u l k) ∙ h)

  -- what lies between two gates of a group is of that group
  pub gathered-together : (t u v : ℕ) → t ≤ u → u ≤ v → v < gate_count b → same_group (gathered b) t v ≡ true
      → same_group (gathered b) t u ≡ true
  gathered-together t u v l k c h =
      let t-below : t < gate_count b = omega arith in
      let u-below : u < gate_count b = omega arith in
      let equal : group_at t ≡ group_at u =
      omega (arith, same_number t v t-below c h, gathered-in-order t u l u-below, gathered-in-order u v k c) in
      gathered-same_group b fits t u t-below u-below
      ∙ same-group_number b inside (number_at (gathered_order b) t) (number_at (gathered_order b) u) (old-below t t-below)
      (old-below u u-below) equal

  -- of two gates of a group the later has the higher old number
  pub gathered-ascending : (t u : ℕ) → t < u → u < gate_count b → same_group (gathered b) t u ≡ true
      → number_at (gathered_order b) t < number_at (gathered_order b) u
  unfolding gathered_order number_at
  gathered-ascending t u l k h =
      let p = pair-at t u (omega arith) k in
      let same : p.g ≡ p.h =
      omega (arith, first_group t u p, second_group t u p, same_number t u (omega arith) k h) in
      let en = groups-entry b p.h (second-there p) in
      let rises : Ascending (get_or (groups b) p.h []) = rw en.2 (group_of-ascending b en.0) in
      let second : get_or (joined (groups b)) u 0 ≡ get_or (get_or (groups b) p.h []) p.j 0 = p.second_is in
      let first : get_or (joined (groups b)) t 0 ≡ get_or (get_or (groups b) p.h []) p.i 0 = rw same at p.first_is in
      rw (first, second) (ascending-get_d (get_or (groups b) p.h []) rises p.i p.j (p.places same l) p.second)
    where
      second-there : (p : Pair (groups b) t u) → p.h < length (groups b)
      second-there p =
          entry-below (get_or (get_or (groups b) p.h []) p.j 0) (groups b) p.h
          (member-from _ (get_or (groups b) p.h []) p.j p.second refl)
