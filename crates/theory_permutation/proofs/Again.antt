-- The groups of the gathered block are those of the block, renumbered, in the same order; so gathering again changes
-- nothing.
--   ascending-map, ascending-same   ascending lists: mapped, and two with the same members
--   gathered-groups                 the groups of the gathered block
--   gathered-order-again            its list is 0, 1, 2, ..
--   gathered-again                  gathered once more it is as it is
-- Assumes nothing.
use Prim.Native.Nat.{ℕ, ◌+◌, ◌-◌, ◌≤◌, ◌<◌}
use mathlib.Core.Path.{◌≡◌, refl, sym, ap, ap₂, ◌∙◌}
use mathlib.Core.Logic.{◌⊎◌, inl, inr, ⊎_elim}
use mathlib.Core.Bool.{true, false≢true}
use mathlib.Core.List.{List, [], ◌∷◌, ◌++◌, map, map-append, append_assoc}
use native.Mathlib.Omega.{arith}
use lib.ListN.{length, get_or, length-append, length-map, get_or-append}
use lib.Seq.{ext_get_or, get_or-append-add, take-length}
use native.Mathlib.Nat.{add-zero}
use Rattle.prelude.specs.Lists.{joined, member, up_to}
use Rattle.prelude.proofs.Tests.{lt-or-le, eq-or-ne, not-both, not-true-false, same_test}
use Rattle.prelude.proofs.Quantifiers.{member-at, member-from}
use Rattle.prelude.proofs.Lists.{member-head, member-rest, member-first, joined_snoc, joined-append}
use Rattle.prelude.proofs.Least.{least-is}
use Rattle.prelude.proofs.Tab.{length-tab, get_d-tab}
use Rattle.netlist.specs.Netlist.{Block, gate_count}
use Rattle.netlist.specs.StoredBlock.{is_well_formed}
use Rattle.netlist.specs.Groups.{reads, same_group, group_of, is_ready, may_be_next, groups_after, groups}
use Rattle.netlist.specs.Gather.{number_at, place_in, gathered_order, gathered}
use Rattle.theory_reach.specs.Orders.{Ascending}
use Rattle.theory_reach.specs.Numbering.{next_gate, Built, none, next}
use Rattle.theory_reach.proofs.SameGroup.{same_group-sym, same_group-trans, group_of-member, group_of-same, group_of-below}
use Rattle.theory_reach.proofs.SameGroup.{group_of-self, group_of-ascending}
use Rattle.theory_reach.proofs.Next.{ready-reads, ready-intro, may_be_next-intro, may_be_next-left, may_be_next-ready}
use Rattle.theory_reach.proofs.Order.{next_gate-passes}
use Rattle.theory_reach.proofs.Build.{built-rest, built-groups, groups-built}
use Rattle.theory_reach.proofs.Inside.{well_formed-inside}
use Rattle.theory_encoding.proofs.ListFacts.{get_d_map}
use Rattle.theory_permutation.specs.Renumbering.{Renumbers}
use Rattle.theory_permutation.proofs.Groups.{member-map, map-member, reads_old}
use Rattle.theory_permutation.proofs.Gathered.{by-group, gathered-count, gathered-well_formed, gathered-same_group}
use Rattle.theory_permutation.proofs.Gathered.{ordered-gathered}
use Rattle.theory_permutation.proofs.Together.{gathered-ascending}

-- ---- ascending lists

ascending-map : (f : ℕ → ℕ) (xs : List ℕ) → Ascending xs
    → ((x y : ℕ) → member x xs ≡ true → member y xs ≡ true → x < y → f x < f y) → Ascending (map f xs)
ascending-map f [] a h = tt
ascending-map f (x ∷ xs) a h = (
  λ y m. let (z, k, e) = member-map f y xs m in rw e (h x z (member-head x xs) (member-rest z x xs k) (a.0 z k)),
  ascending-map f xs a.1 (λ u v k l. h u v (member-rest u x xs k) (member-rest v x xs l)),
)

-- the first of two with the same members is the same
ascending-same : (xs ys : List ℕ) → Ascending xs → Ascending ys → ((x : ℕ) → member x xs ≡ member x ys) → xs ≡ ys
ascending-same [] [] a b h = refl
ascending-same [] (y ∷ ys) a b h = absurd (false≢true (h y ∙ member-head y ys))
ascending-same (x ∷ xs) [] a b h = absurd (false≢true (sym (h x) ∙ member-head x xs))
ascending-same (x ∷ xs) (y ∷ ys) a b h = ap₂ ◌∷◌ heads (ascending-same xs ys a.1 b.1 rest)
  where
    low : (x ≡ y) ⊎ (member x ys ≡ true)
    low = member-first x y ys (sym (h x) ∙ member-head x xs)

    heads : x ≡ y
    heads =
        ⊎_elim (λ e. e)
        (λ m. ⊎_elim (λ e. sym e) (λ k. let l = b.0 x m in let l' = a.0 y k in absurd (omega arith))
        (member-first y x xs (h y ∙ member-head y ys)))
        low

    rest : (z : ℕ) → member z xs ≡ member z ys
    rest z =
        same_test (member z xs) (member z ys)
        (λ m. ⊎_elim (λ e. let l = a.0 z m in absurd (omega (arith, heads))) (λ k. k)
        (member-first z y ys (sym (h z) ∙ member-rest z x xs m)))
        (λ m. ⊎_elim (λ e. let l = b.0 z m in absurd (omega (arith, heads))) (λ k. k)
        (member-first z x xs (h z ∙ member-rest z y ys m)))

joined-map : (f : ℕ → ℕ) (xs : List (List ℕ)) → joined (map (map f) xs) ≡ map f (joined xs)
joined-map f [] = refl
joined-map f (x ∷ xs) = ap (λ (r : List ℕ). map f x ++ r) (joined-map f xs) ∙ sym (map-append f x (joined xs))

-- ---- the gathered block

module _ (b : Block) (fits : is_well_formed b ≡ true) where
  abbrev order : List ℕ
  order = gathered_order b

  abbrev place : ℕ → ℕ
  place = place_in (gathered_order b)

  abbrev r : Renumbers (gate_count b) (gathered_order b) (place_in (gathered_order b))
  r = by-group b fits

  below : (t : ℕ) → t < gate_count (gathered b) → t < gate_count b
  below t l = rw (gathered-count b fits) at l

  old-reads : (i u : ℕ) → reads (gathered b) i u ≡ true → reads b (number_at order i) (number_at order u) ≡ true
  unfolding gathered
  old-reads = reads_old b (well_formed-inside b fits) order place r

  -- one group more: j's, behind those of gs
  module _ (gs : List (List ℕ)) (built : Built b gs) (h : next_gate b (joined gs) < gate_count b) where
    abbrev j : ℕ
    j = next_gate b (joined gs)

    abbrev k : ℕ
    k = length (joined gs)

    abbrev done : List ℕ
    done = joined (map (map (place_in (gathered_order b))) gs)

    abbrev upto : List (List ℕ)
    upto = gs ++ (group_of b j ∷ [])

    later : List ℕ
    later = joined (groups_after b (gate_count b - length upto) (joined upto))

    split : gathered_order b ≡ joined gs ++ group_of b j ++ later
    unfolding gathered_order later
    split =
        ap joined (built-rest b (next built h))
        ∙ joined-append upto (groups_after b (gate_count b - length upto) (joined upto))
        ∙ ap (λ (l : List ℕ). l ++ later) (joined_snoc gs (group_of b j))

    sizes : gate_count b ≡ k + length (group_of b j) + length later
    sizes =
        sym r.length_is
        ∙ ap length split
        ∙ length-append (joined gs ++ group_of b j) later
        ∙ ap (λ (n : ℕ). n + length later) (length-append (joined gs) (group_of b j))

    some : 0 < length (group_of b j)
    some = let (i, l, e) = member-at j (group_of b j) (group_of-self b j h) in omega arith

    inside : k < gate_count b
    inside = omega (arith, sizes, some)

    -- the gates before place k are those of gs, and place k is the group's first
    at-early : (i : ℕ) → i < k → number_at order i ≡ get_or (joined gs) i 0
    unfolding number_at
    at-early i l =
        let long : i < length (joined gs ++ group_of b j) = rw (length-append (joined gs) (group_of b j)) (omega arith) in
        rw split (get_or-append (joined gs ++ group_of b j) later 0 i long
        ∙ get_or-append (joined gs) (group_of b j) 0 i l)

    early : (i : ℕ) → i < k → member (number_at order i) (joined gs) ≡ true
    early i l = member-from (number_at order i) (joined gs) i l (sym (at-early i l))

    early-place : (x : ℕ) → member x (joined gs) ≡ true → place x < k
    early-place x m =
        let (i, l, e) = member-at x (joined gs) m in
        let is : place x ≡ i = ap place (sym (at-early i l ∙ e)) ∙ r.new_of_old i (omega (arith, inside)) in
        omega arith

    first : member (number_at order k) (group_of b j) ≡ true
    unfolding number_at
    first =
        let at : get_or (gathered_order b) k 0 ≡ get_or (group_of b j) 0 0 =
        rw (split, append_assoc (joined gs) (group_of b j) later)
        ((rw add-zero at (get_or-append-add (joined gs) (group_of b j ++ later) 0 0))
        ∙ get_or-append (group_of b j) later 0 0 some) in
        rw at (member-from (get_or (group_of b j) 0 0) (group_of b j) 0 some refl)

    -- the group of place k in the gathered block
    group-old : (u : ℕ) → u < gate_count b → same_group (gathered b) k u ≡ true
        → member (number_at order u) (group_of b j) ≡ true
    group-old u l s =
        group_of-member b j (number_at order u)
        (same_group-trans b j (number_at order k) (number_at order u) (group_of-same b j (number_at order k) first)
        (sym (gathered-same_group b fits k u inside l) ∙ s))

    group-new : (u : ℕ) → u < gate_count b → member (number_at order u) (group_of b j) ≡ true
        → same_group (gathered b) k u ≡ true
    group-new u l m =
        gathered-same_group b fits k u inside l
        ∙ same_group-trans b (number_at order k) j (number_at order u)
        (same_group-sym b j (number_at order k) (group_of-same b j (number_at order k) first))
        (group_of-same b j (number_at order u) m)

    -- it is the next one
    done-early : (u : ℕ) → u < gate_count b → member (number_at order u) (joined gs) ≡ true → member u done ≡ true
    done-early u l m =
        rw (joined-map place gs) (rw (r.new_of_old u l) at (map-member place (number_at order u) (joined gs) m))

    not_done : member k done ≡ true → ⊥
    not_done m =
        let (y, n, e) = member-map place k (joined gs) (rw (joined-map place gs) at m) in
        let l : place y < k = early-place y n in
        omega arith

    ready : is_ready (gathered b) done (group_of (gathered b) k) ≡ true
    ready =
        ready-intro (gathered b) done (group_of (gathered b) k)
        (λ i u m rd.
        let il : i < gate_count b = below i (group_of-below (gathered b) k i m) in
        let ul : u < gate_count b = below u (well_formed-inside (gathered b) (gathered-well_formed b fits) i u rd) in
        ⊎_elim (λ g. inl (group_of-member (gathered b) k u (group-new u ul g))) (λ g. inr (done-early u ul g))
        (ready-reads b (joined gs) (group_of b j) (may_be_next-ready b (joined gs) j (next_gate-passes b (joined gs) h))
        (number_at order i) (number_at order u)
        (group-old i il (group_of-same (gathered b) k i m)) (old-reads i u rd)))

    next-is : next_gate (gathered b) done ≡ k
    next-is =
        least-is (may_be_next (gathered b) done) (gate_count (gathered b)) k
        (rw (gathered-count b fits) (omega (arith, inside)))
        (λ i l.
        not-true-false _
        (λ p. not-both (done-early i (omega (arith, inside)) (early i l)) (may_be_next-left (gathered b) done i p)))
        (λ _. may_be_next-intro (gathered b) done k (not-true-false _ not_done) ready)

    -- places ascend as the group's gates do
    rises : (x y : ℕ) → member x (group_of b j) ≡ true → member y (group_of b j) ≡ true → x < y → place x < place y
    rises x y mx my l = ⊎_elim (λ c. c) (λ c. absurd (wrong c)) (lt-or-le (place x) (place y))
      where
        xl : x < gate_count b
        xl = group_of-below b j x mx

        yl : y < gate_count b
        yl = group_of-below b j y my

        same : same_group (gathered b) (place y) (place x) ≡ true
        same =
            gathered-same_group b fits (place y) (place x) (r.new_below y yl) (r.new_below x xl)
            ∙ rw (r.old_of_new y yl, r.old_of_new x xl)
            (same_group-trans b y j x (same_group-sym b j y (group_of-same b j y my)) (group_of-same b j x mx))

        wrong : place y ≤ place x → ⊥
        wrong c =
            ⊎_elim (λ e. let z : y ≡ x = sym (r.old_of_new y yl) ∙ ap (number_at order) e ∙ r.old_of_new x xl in
            omega arith)
            (λ ne.
            let z : y < x = rw (r.old_of_new y yl, r.old_of_new x xl) at
            (gathered-ascending b fits (place y) (place x) (omega arith) (r.new_below x xl) same) in
            omega arith)
            (eq-or-ne (place y) (place x))

    group-is : group_of (gathered b) k ≡ map place (group_of b j)
    group-is =
        ascending-same (group_of (gathered b) k) (map place (group_of b j)) (group_of-ascending (gathered b) k)
        (ascending-map place (group_of b j) (group_of-ascending b j) rises)
        (λ z. same_test (member z (group_of (gathered b) k)) (member z (map place (group_of b j)))
        (λ m. let zl : z < gate_count b = below z (group_of-below (gathered b) k z m) in
        rw (r.new_of_old z zl) at (map-member place (number_at order z) (group_of b j)
        (group-old z zl (group_of-same (gathered b) k z m))))
        (λ m. let (y, n, e) = member-map place z (group_of b j) m in
        let yl : y < gate_count b = group_of-below b j y n in
        group_of-member (gathered b) k z
        (rw e (group-new (place y) (r.new_below y yl) (rw (r.old_of_new y yl) n)))))

  built-gathered : {gs : List (List ℕ)} → Built b gs → Built (gathered b) (map (map place) gs)
  built-gathered none = none
  built-gathered (next {gs} w h) =
      let is : group_of (gathered b) (next_gate (gathered b) (joined (map (map place) gs)))
      ≡ map place (group_of b (next_gate b (joined gs))) =
      ap (group_of (gathered b)) (next-is gs w h) ∙ group-is gs w h in
      rw (map-append (map place) gs (group_of b (next_gate b (joined gs)) ∷ []))
      (rw is at (next (built-gathered w) (rw (next-is gs w h, gathered-count b fits) (inside gs w h))))

  places-all : (t : ℕ) → t < gate_count (gathered b) → member t (joined (map (map place) (groups b))) ≡ true
  unfolding gathered_order number_at
  places-all t l =
      rw (joined-map place (groups b))
      (rw (r.new_of_old t (below t l)) at
      (map-member place (number_at order t) (joined (groups b))
      (member-from (number_at order t) (joined (groups b)) t (rw r.length_is (below t l)) refl)))

  -- the groups of the gathered block are the block's groups in their order, renumbered
  pub gathered-groups : groups (gathered b) ≡ map (map (place_in (gathered_order b))) (groups b)
  gathered-groups =
      sym (built-groups (gathered b)
      (built-gathered (rw (take-length (groups b)) at (groups-built b (length (groups b))))) places-all)

  places-in-order : map place order ≡ up_to (gate_count b)
  unfolding number_at
  places-in-order =
      ext_get_or 0 (map place order) (up_to (gate_count b))
      (length-map order place ∙ r.length_is ∙ sym (length-tab (λ k. k) (gate_count b)))
      (λ t l. let l' : t < length order = rw (length-map order place) at l in
      let l'' : t < gate_count b = rw (← r.length_is) l' in
      get_d_map place order t 0 0 l' ∙ r.new_of_old t l'' ∙ sym (get_d-tab (λ k. k) (gate_count b) t 0 l''))

  -- gathered once more: the list is 0, 1, 2, ..
  pub gathered-order-again : gathered_order (gathered b) ≡ up_to (gate_count (gathered b))
  unfolding gathered_order
  gathered-order-again =
      ap joined gathered-groups ∙ joined-map place (groups b) ∙ places-in-order ∙ ap up_to (sym (gathered-count b fits))

  -- gathering a gathered block changes nothing
  pub gathered-again : gathered (gathered b) ≡ gathered b
  gathered-again = ordered-gathered (gathered b) (gathered-well_formed b fits) gathered-order-again
