-- Which group may be numbered next, that there is one while a gate is left, and that numbering it keeps what is
-- numbered closed. The order of the groups and the code of Groups cite it.
--   ready-reads, ready-intro     a gate is ready: all that its group reads has a number or is in it
--   may_be_next-*                  what may be next, taken apart and put together
--   some_next, none_left         while a gate has no number some gate may be next
--   numbered_next, next-counts   numbering its group keeps the list closed, and longer
-- Assumes nothing.
use Prim.Native.Nat.{ℕ, zero, suc, ◌≤◌, ◌<◌}
use mathlib.Core.Path.{◌≡◌, ap, fun_ext}
use mathlib.Core.Logic.{◌⊎◌, inl, inr, ⊎_elim}
use mathlib.Core.Bool.{Bool, true, false, not, ◌&&◌, ◌||◌, false≢true}
use mathlib.Core.List.{List, [], ◌++◌}
use native.Mathlib.Omega.{arith}
use borrow.Author.Tests.{not-true}
use Rattle.prelude.specs.Lists.{all, member, least, count_below}
use Rattle.prelude.proofs.Tests.{bool_cases, not-both, and_intro, and_left, and_right, or_left, or_right, or_cases}
use Rattle.prelude.proofs.Tests.{not-true-false, or-neither}
use Rattle.prelude.proofs.Lists.{member-left, member_right, member-cases}
use Rattle.prelude.proofs.Counting.{count_below-less}
use Rattle.netlist.specs.Netlist.{Block, gate_count}
use Rattle.netlist.specs.Groups.{read_by, reads, reaches, same_group, group_of, is_ready, may_be_next}
use Rattle.theory_reach.specs.Inside.{Inside}
use Rattle.theory_reach.specs.Numbering.{Numbered}
use Rattle.theory_reach.proofs.ListFacts.{all-member, all-intro, all-fails, once-append, least-at-most}
use Rattle.theory_reach.proofs.Reach.{reaches-refl, reaches-trans, reaches-below, reaches-reads}
use Rattle.theory_reach.proofs.SameGroup.{same_group-sym, same_group-trans, group_of-member, group_of-same}
use Rattle.theory_reach.proofs.SameGroup.{group_of-below, group_of-self, group_of-once}

module _ (b : Block) where
  -- a ready group reads itself and what is numbered
  pub ready-reads : (done group : List ℕ) → is_ready b done group ≡ true → (i k : ℕ) → member i group ≡ true
      → reads b i k ≡ true
      → (member k group ≡ true) ⊎ (member k done ≡ true)
  unfolding is_ready reads
  ready-reads done group h i k m r =
      or_cases _ _ (all-member (λ k. member k group || member k done) (read_by b i) (all-member _ group h i m) k r)

  -- a group is ready if all that it reads is in it or done
  pub ready-intro : (done group : List ℕ)
      → ((i k : ℕ) → member i group ≡ true → reads b i k ≡ true → (member k group ≡ true) ⊎ (member k done ≡ true))
      → is_ready b done group ≡ true
  unfolding is_ready reads
  ready-intro done group f =
      all-intro _ group λ i m. all-intro _ (read_by b i) λ k r. ⊎_elim (or_left _ _) (or_right (member k group) _)
      (f i k m r)

  -- a group that is not ready reads a gate that is neither its own nor numbered
  ready-fails : (done group : List ℕ) → is_ready b done group ≡ false
      → (i k : ℕ) × (member i group ≡ true) × (reads b i k ≡ true) × (member k group ≡ false) × (member k done ≡ false)
  unfolding is_ready reads
  ready-fails done group h =
      let r = all-fails _ group h in
      let s = all-fails _ (read_by b r.0) r.2 in
      let e = or-neither (member s.0 group) (member s.0 done) s.2 in
      (r.0, s.0, r.1, s.1, e.0, e.1)

  -- a gate may be next when it is not numbered and its group is ready
  pub may_be_next-intro : (done : List ℕ) (j : ℕ) → member j done ≡ false → is_ready b done (group_of b j) ≡ true
      → may_be_next b done j ≡ true
  unfolding may_be_next
  may_be_next-intro done j e h = and_intro _ _ (ap not e) h

  -- only then: it is not numbered,
  pub may_be_next-left : (done : List ℕ) (j : ℕ) → may_be_next b done j ≡ true → member j done ≡ false
  unfolding may_be_next
  may_be_next-left done j h = not-true _ (and_left _ _ h)

  -- the group of a gate that may be next is ready
  pub may_be_next-ready : (done : List ℕ) (j : ℕ) → may_be_next b done j ≡ true → is_ready b done (group_of b j) ≡ true
  unfolding may_be_next
  may_be_next-ready done j h = and_right (not (member j done)) _ h

  -- whether a gate may be next depends only on which gates are numbered
  pub may_be_next-same : (done done' : List ℕ) → ((k : ℕ) → member k done ≡ member k done')
      → may_be_next b done ≡ may_be_next b done'
  unfolding may_be_next is_ready
  may_be_next-same done done' f =
      fun_ext λ j.
      ap (λ (in' : ℕ → Bool). not (in' j) && all (λ i. all (λ k. member k (group_of b j) || in' k) (read_by b i))
      (group_of b j)) (fun_ext f)

  -- ---- there is a next one

  reach-less : (j k : ℕ) → j < gate_count b → reaches b j k ≡ true → reaches b k j ≡ false
      → count_below (reaches b k) (gate_count b) < count_below (reaches b j) (gate_count b)
  reach-less j k h r e =
      count_below-less (reaches b k) (reaches b j) (gate_count b) (λ i l. reaches-trans b j k i r) j h e
      (reaches-refl b j h)

  reach-outside : (i j k : ℕ) → Inside b → member i (group_of b j) ≡ true → reads b i k ≡ true
      → member k (group_of b j) ≡ false
      → (reaches b j k ≡ true) × (reaches b k j ≡ false)
  unfolding same_group
  reach-outside i j k inside m r e =
      let to-k = reaches-reads b j i k (and_left _ _ (group_of-same b j i m)) r (inside i k r) in
      (to-k, not-true-false _ (λ back. not-both (group_of-member b j k (and_intro _ _ to-k back)) e))

  next-within : Inside b → (done : List ℕ) (n j : ℕ) → count_below (reaches b j) (gate_count b) < n → j < gate_count b
      → member j done ≡ false
      → (k : ℕ) × (k < gate_count b) × (may_be_next b done k ≡ true)
  next-within inside done zero j c h e = absurd (omega arith)
  next-within inside done (suc n) j c h e = go (bool_cases (is_ready b done (group_of b j))) (next-within inside done n)
    where
      go : (is_ready b done (group_of b j) ≡ true) ⊎ (is_ready b done (group_of b j) ≡ false)
          → ((k : ℕ) → count_below (reaches b k) (gate_count b) < n → k < gate_count b → member k done ≡ false
          → (k : ℕ) × (k < gate_count b) × (may_be_next b done k ≡ true))
          → (k : ℕ) × (k < gate_count b) × (may_be_next b done k ≡ true)
      go (inl u) f = (j, h, may_be_next-intro done j e u)
      go (inr u) f =
          let w = ready-fails done (group_of b j) u in
          let o = reach-outside w.0 j w.1 inside w.2 w.3 w.4 in
          let l = reach-less j w.1 h o.0 o.1 in
          f w.1 (omega arith) (reaches-below b j w.1 o.0) w.5

  -- while a gate is left, a group may be numbered next: take the gate left whose reach is smallest
  pub some_next : Inside b → (done : List ℕ) (j : ℕ) → j < gate_count b → member j done ≡ false
      → least (may_be_next b done) (gate_count b) < gate_count b
  some_next inside done j h e =
      let r = next-within inside done (suc (count_below (reaches b j) (gate_count b))) j (omega arith) h e in
      let l = least-at-most (may_be_next b done) (gate_count b) r.0 r.2 in
      let u = r.1 in
      omega arith

  -- where no group may be next, every gate is numbered
  pub none_left : Inside b → (done : List ℕ) → gate_count b ≤ least (may_be_next b done) (gate_count b) → (j : ℕ)
      → j < gate_count b → member j done ≡ true
  none_left inside done l j h =
      ⊎_elim (λ e. e) (λ e. absurd (let u = some_next inside done j h e in omega arith)) (bool_cases (member j done))

  -- ---- numbering it

  -- at first nothing is numbered
  pub numbered-none : Numbered b []
  numbered-none =
      record {
        below = λ j m. absurd (false≢true m);
        once = tt;
        whole = λ i j m e. m;
        closed = λ i k m r. m;
      }

  -- the group next is new
  pub next-new : (done : List ℕ) → Numbered b done → (j k : ℕ) → member j done ≡ false → member k (group_of b j) ≡ true
      → member k done ≡ false
  next-new done n j k e m =
      not-true-false _ λ h. not-both (n.whole k j h (same_group-sym b j k (group_of-same b j k m))) e

  -- with it, what is numbered is still whole groups, each gate once, and all that they read
  pub numbered_next : (done : List ℕ) (j : ℕ) → Numbered b done → may_be_next b done j ≡ true
      → Numbered b (done ++ group_of b j)
  numbered_next done j n h =
      record {
        below = λ k m. ⊎_elim (n.below k) (group_of-below b j k) (member-cases k done (group_of b j) m);
        once =
            once-append done (group_of b j) n.once (group_of-once b j)
            (λ k m. not-true-false _ (λ g. not-both m (next-new done n j k (may_be_next-left done j h) g)));
        whole = λ i k m e.
            ⊎_elim
            (λ u. member-left k done (group_of b j) (n.whole i k u e))
            (λ u. member_right k done (group_of b j)
            (group_of-member b j k (same_group-trans b j i k (group_of-same b j i u) e)))
            (member-cases i done (group_of b j) m);
        closed = λ i k m r.
            ⊎_elim
            (λ u. member-left k done (group_of b j) (n.closed i k u r))
            (λ u.
            ⊎_elim
            (member_right k done (group_of b j))
            (member-left k done (group_of b j))
            (ready-reads done (group_of b j) (may_be_next-ready done j h) i k u r))
            (member-cases i done (group_of b j) m);
      }

  -- numbering a group numbers at least one gate more
  pub next-counts : (done : List ℕ) (j : ℕ) → j < gate_count b → may_be_next b done j ≡ true
      → count_below (λ k. member k done) (gate_count b) < count_below (λ k. member k (done ++ group_of b j)) (gate_count b)
  next-counts done j h e =
      count_below-less (λ k. member k done) (λ k. member k (done ++ group_of b j)) (gate_count b)
      (λ k l m. member-left k done (group_of b j) m)
      j h (may_be_next-left done j e) (member_right j done (group_of b j) (group_of-self b j h))
