-- The list of groups: one step of it, its entries, each gate once, and a group reads only itself and earlier ones.
-- Groups, Render's schedule and the agreement cite it.
--   groups_after-found, groups_after-none   one step of the list
--   groups-all, groups-one, groups-once   each gate is in one group, once
--   groups-entry, groups-group            an entry is the group of a gate, and of each of its gates
--   groups-closed, groups-read-back       a group reads only itself and earlier groups
--   length-groups                         no more groups than gates
-- Assumes nothing.
use Prim.Native.Nat.{ℕ, zero, suc, ◌+◌, ◌≤◌, ◌<◌}
use mathlib.Core.Path.{◌≡◌, refl, sym, ap, ◌∙◌}
use mathlib.Core.Logic.{◌⊎◌, inl, inr}
use mathlib.Core.Bool.{Bool, true, ◌||◌, false≢true}
use mathlib.Core.List.{List, [], ◌∷◌, ◌++◌, append_assoc, append-nil}
use native.Mathlib.Omega.{arith}
use lib.ListN.{length, get_or, take, length-take}
use lib.Seq.{get_or-take, take-length}
use borrow.Author.Tests.{lt-ltb, le-ltb}
use Rattle.prelude.specs.Lists.{joined, member, least, count_below}
use Rattle.prelude.proofs.Tests.{lt-or-le}
use Rattle.prelude.proofs.Least.{least_at}
use Rattle.prelude.proofs.Lists.{member-append}
use Rattle.prelude.proofs.Counting.{count_below-full, count_below-all}
use Rattle.netlist.specs.Netlist.{Block, gate_count}
use Rattle.netlist.specs.Groups.{reads, group_of, may_be_next, groups_after, groups}
use Rattle.theory_reach.specs.Orders.{Once}
use Rattle.theory_reach.specs.Inside.{Inside}
use Rattle.theory_reach.specs.Numbering.{Numbered, next_gate}
use Rattle.theory_reach.proofs.ListFacts.{entry-below, member-joined, joined-member, once-joined}
use Rattle.theory_reach.proofs.Counting.{once-length}
use Rattle.theory_reach.proofs.SameGroup.{group_of-same, group_of-self, group_of-equal}
use Rattle.theory_reach.proofs.Next.{may_be_next-same, none_left, numbered-none, numbered_next, next-counts}

module _ (b : Block) where
  -- the next gate, where there is one, may be next
  pub next_gate-passes : (done : List ℕ) → next_gate b done < gate_count b → may_be_next b done (next_gate b done) ≡ true
  next_gate-passes done h = least_at (may_be_next b done) (gate_count b) h

  -- one step of the list where a group may be next
  pub groups_after-found : (more : ℕ) (done : List ℕ) → next_gate b done < gate_count b
      → groups_after b (suc more) done ≡ group_of b (next_gate b done)
      ∷ groups_after b more (done ++ group_of b (next_gate b done))
  unfolding groups_after
  groups_after-found more done h = rw (lt-ltb (next_gate b done) (gate_count b) h)

  -- where no gate may be next, no group follows
  pub groups_after-none : (more : ℕ) (done : List ℕ) → gate_count b ≤ next_gate b done → groups_after b more done ≡ []
  unfolding groups_after
  groups_after-none zero done h = refl
  groups_after-none (suc more) done h = rw (le-ltb (next_gate b done) (gate_count b) h)

  -- the groups that follow depend only on which gates are numbered
  pub groups_after-same : (more : ℕ) (done done' : List ℕ) → ((k : ℕ) → member k done ≡ member k done')
      → groups_after b more done ≡ groups_after b more done'
  unfolding groups_after
  groups_after-same zero done done' f = refl
  groups_after-same (suc more) done done' f =
      let n : next_gate b done ≡ next_gate b done' =
      ap (λ (p : ℕ → Bool). least p (gate_count b)) (may_be_next-same b done done' f) in
      let g = group_of b (next_gate b done') in
      let r : groups_after b more (done ++ g) ≡ groups_after b more (done' ++ g) =
      groups_after-same more (done ++ g) (done' ++ g)
      (λ k. member-append k done g ∙ ap (λ (t : Bool). t || member k g) (f k) ∙ sym (member-append k done' g)) in
      rw (n, r)

  -- what holds in each of the three cases holds of the list
  pub groups_after-elim : (P : ℕ → List ℕ → List (List ℕ) → Type 0) → ((done : List ℕ) → P 0 done [])
      → ((more : ℕ) (done : List ℕ) → next_gate b done < gate_count b
      → P more (done ++ group_of b (next_gate b done)) (groups_after b more (done ++ group_of b (next_gate b done)))
      → P (suc more) done (group_of b (next_gate b done) ∷ groups_after b more (done ++ group_of b (next_gate b done))))
      → ((more : ℕ) (done : List ℕ)
      → gate_count b ≤ next_gate b done → P (suc more) done []) → (more : ℕ) (done : List ℕ)
      → P more done (groups_after b more done)
  unfolding groups_after
  groups_after-elim P z s n zero done = z done
  groups_after-elim P z s n (suc more) done =
      go (lt-or-le (next_gate b done) (gate_count b))
      (groups_after-elim P z s n more (done ++ group_of b (next_gate b done)))
    where
      go : (next_gate b done < gate_count b) ⊎ (gate_count b ≤ next_gate b done)
          → P more (done ++ group_of b (next_gate b done)) (groups_after b more (done ++ group_of b (next_gate b done)))
          → P (suc more) done (groups_after b (suc more) done)
      go (inl l) r = rw (groups_after-found more done l) (s more done l r)
      go (inr l) r = rw (groups_after-none (suc more) done l) (n more done l)

  -- ---- its entries

  -- no more groups than steps
  pub length-groups_after : (more : ℕ) (done : List ℕ) → length (groups_after b more done) ≤ more
  length-groups_after =
      groups_after-elim (λ more done gs. length gs ≤ more) (λ done. omega arith) (λ more done l r. omega arith)
      (λ more done l. omega arith)

  groups_after-entry : (more : ℕ) (done : List ℕ) (g : ℕ) → g < length (groups_after b more done)
      → (j : ℕ) × (j < gate_count b) × (get_or (groups_after b more done) g [] ≡ group_of b j)
  groups_after-entry =
      groups_after-elim
      (λ more done gs. (g : ℕ) → g < length gs → (j : ℕ) × (j < gate_count b) × (get_or gs g [] ≡ group_of b j))
      (λ done g h. absurd (omega arith))
      (λ more done l r g h. first (next_gate b done) l (groups_after b more (done ++ group_of b (next_gate b done))) r g h)
      (λ more done l g h. absurd (omega arith))
    where
      first : (i : ℕ) → i < gate_count b → (gs : List (List ℕ))
          → ((g : ℕ) → g < length gs → (j : ℕ) × (j < gate_count b) × (get_or gs g [] ≡ group_of b j))
          → (g : ℕ) → g < length (group_of b i ∷ gs)
          → (j : ℕ) × (j < gate_count b) × (get_or (group_of b i ∷ gs) g [] ≡ group_of b j)
      first i l gs r zero h = (i, l, refl)
      first i l gs r (suc g) h = r g (omega arith)

  -- what is numbered on the way is closed
  groups_after-numbered : (more : ℕ) (done : List ℕ) (t : ℕ) → Numbered b done
      → Numbered b (done ++ joined (take t (groups_after b more done)))
  groups_after-numbered =
      groups_after-elim
      (λ more done gs. (t : ℕ) → Numbered b done → Numbered b (done ++ joined (take t gs)))
      (λ done t n. nothing done t n)
      (λ more done l r t n. some done (next_gate b done) _
      (numbered_next b done (next_gate b done) n (next_gate-passes done l)) n r t)
      (λ more done l t n. nothing done t n)
    where
      nothing : (done : List ℕ) (t : ℕ) → Numbered b done → Numbered b (done ++ joined (take t []))
      nothing done zero n = rw (append-nil done) n
      nothing done (suc t) n = rw (append-nil done) n

      some : (done : List ℕ) (j : ℕ) (gs : List (List ℕ)) → Numbered b (done ++ group_of b j) → Numbered b done
          → ((t : ℕ) → Numbered b (done ++ group_of b j) → Numbered b (done ++ group_of b j ++ joined (take t gs)))
          → (t : ℕ)
          → Numbered b (done ++ joined (take t (group_of b j ∷ gs)))
      some done j gs n' n r zero = rw (append-nil done) n
      some done j gs n' n r (suc t) = rw (append_assoc done (group_of b j) (joined (take t gs))) at (r t n')

  -- enough steps number every gate
  groups_after-all : Inside b → (more : ℕ) (done : List ℕ) → Numbered b done
      → gate_count b ≤ count_below (λ k. member k done) (gate_count b) + more → (j : ℕ)
      → j < gate_count b → member j (done ++ joined (groups_after b more done)) ≡ true
  groups_after-all inside =
      groups_after-elim
      (λ more done gs. Numbered b done → gate_count b ≤ count_below (λ k. member k done) (gate_count b) + more → (j : ℕ)
      → j < gate_count b
      → member j (done ++ joined gs) ≡ true)
      (λ done n c j h. rw (append-nil done) (count_below-full (λ k. member k done) (gate_count b) (omega arith) j h))
      (λ more done l r n c j h.
      let p = next_gate-passes done l in
      let u = next-counts b done (next_gate b done) l p in
      rw (append_assoc done (group_of b (next_gate b done))
      (joined (groups_after b more (done ++ group_of b (next_gate b done))))) at
      (r (numbered_next b done (next_gate b done) n p) (omega arith) j h))
      (λ more done l n c j h. rw (append-nil done) (none_left b inside done l j h))

  -- ---- the whole list

  -- there are at most as many groups as gates
  pub length-groups : length (groups b) ≤ gate_count b
  unfolding groups
  length-groups = length-groups_after (gate_count b) []

  -- each entry is the group of a gate
  pub groups-entry : (g : ℕ) → g < length (groups b)
      → (j : ℕ) × (j < gate_count b) × (get_or (groups b) g [] ≡ group_of b j)
  unfolding groups
  groups-entry = groups_after-entry (gate_count b) []

  -- none is empty
  pub groups-not-empty : (g : ℕ) → g < length (groups b) → 0 < length (get_or (groups b) g [])
  groups-not-empty g h =
      let e = groups-entry g h in
      some (get_or (groups b) g []) e.0 (rw e.2 (group_of-self b e.0 e.1))
    where
      some : (xs : List ℕ) (x : ℕ) → member x xs ≡ true → 0 < length xs
      some [] x m = absurd (false≢true m)
      some (y ∷ xs) x m = omega arith

  -- the gates of the first groups are whole groups, each gate once, and read only each other
  pub groups-numbered : (t : ℕ) → Numbered b (joined (take t (groups b)))
  unfolding groups
  groups-numbered t = groups_after-numbered (gate_count b) [] t (numbered-none b)

  -- the gates of all groups are numbered
  pub groups-all-numbered : Numbered b (joined (groups b))
  groups-all-numbered = rw (take-length (groups b)) at (groups-numbered (length (groups b)))

  -- every gate that is there is in the list
  pub groups-all : Inside b → (j : ℕ) → j < gate_count b → member j (joined (groups b)) ≡ true
  unfolding groups
  groups-all inside = groups_after-all inside (gate_count b) [] (numbered-none b) (omega arith)

  -- every gate is in one of the groups
  pub groups-some : Inside b → (j : ℕ) → j < gate_count b
      → (g : ℕ) × (g < length (groups b)) × (member j (get_or (groups b) g []) ≡ true)
  groups-some inside j h = joined-member j (groups b) (groups-all inside j h)

  -- in one only
  pub groups-one : (j g h : ℕ) → member j (get_or (groups b) g []) ≡ true → member j (get_or (groups b) h []) ≡ true → g ≡ h
  groups-one j g h = once-joined (groups b) groups-all-numbered.once j g h

  -- only gates that are there are in a group
  pub groups-below : (j g : ℕ) → member j (get_or (groups b) g []) ≡ true → j < gate_count b
  groups-below j g m = groups-all-numbered.below j (member-joined j (groups b) g m)

  -- no gate stands twice,
  pub groups-once : Once (joined (groups b))
  groups-once = groups-all-numbered.once

  -- the groups together have as many gates as the block
  pub length-joined-groups : Inside b → length (joined (groups b)) ≡ gate_count b
  length-joined-groups inside =
      once-length (joined (groups b)) (gate_count b) groups-once groups-all-numbered.below
      ∙ count_below-all (λ k. member k (joined (groups b))) (gate_count b) (groups-all inside)

  -- the entry that holds gate j is its group
  pub groups-group : (j g : ℕ) → member j (get_or (groups b) g []) ≡ true → get_or (groups b) g [] ≡ group_of b j
  groups-group j g m =
      let e = groups-entry g (entry-below j (groups b) g m) in
      e.2 ∙ group_of-equal b e.0 j (group_of-same b e.0 j (rw e.2 at m))

  -- the first groups read only each other
  pub groups-closed : (t i k : ℕ) → member i (joined (take t (groups b))) ≡ true → reads b i k ≡ true
      → member k (joined (take t (groups b))) ≡ true
  groups-closed t = (groups-numbered t).closed

  -- a group reads only itself and earlier groups
  pub groups-read-back : (g i k : ℕ) → member i (get_or (groups b) g []) ≡ true → reads b i k ≡ true
      → (h : ℕ) × (h ≤ g) × (member k (get_or (groups b) h []) ≡ true)
  groups-read-back g i k m r =
      let first : get_or (take (suc g) (groups b)) g [] ≡ get_or (groups b) g [] =
      get_or-take (suc g) (groups b) g [] (omega arith) in
      let inside = member-joined i (take (suc g) (groups b)) g (rw first m) in
      let w = joined-member k (take (suc g) (groups b)) (groups-closed (suc g) i k inside r) in
      let l = w.1 in
      let len = length-take (suc g) (groups b) in
      let u : w.0 < suc g = omega arith in
      (w.0, omega arith, rw (get_or-take (suc g) (groups b) w.0 [] u) at w.2)
