-- What `reach` computes: gate i reaches gate j exactly when there is a path. Growing m times is enough, by counting.
-- The other files of this crate cite it.
--   grown-*, grown_times-*         a step, and many: nothing is lost, and what is read is added
--   path-reaches, reaches-path    `reaches` tells whether there is a path
--   reaches-refl, reaches-trans   it is reflexive and transitive
-- Assumes nothing.
use Prim.Native.Nat.{ℕ, zero, suc, ◌≤◌, ◌<◌}
use mathlib.Core.Path.{◌≡◌, refl, sym, ◌∙◌}
use mathlib.Core.Logic.{◌⊎◌, inl, inr, ⊎_elim}
use mathlib.Core.Bool.{Bool, true, false, ◌&&◌, ◌||◌, true≢false}
use mathlib.Core.List.{List, []}
use native.Mathlib.Omega.{arith}
use lib.ListN.{length, get_or-eq_default}
use lib.Dec.{eqb}
use borrow.Author.Tests.{eqb-true, eq-eqb}
use Rattle.prelude.specs.Lists.{any, tab, up_to, count_below}
use Rattle.prelude.proofs.Tests.{bool_cases, not-both, and_intro, and_left, and_right, or_left, or_right, or_cases}
use Rattle.prelude.proofs.Tests.{lt-or-le}
use Rattle.prelude.proofs.Tab.{length-tab, get_d-tab}
use Rattle.prelude.proofs.Quantifiers.{any_below, below-any}
use Rattle.prelude.proofs.Counting.{count_below-less, count_below-full}
use Rattle.netlist.specs.Netlist.{Block, gate_count}
use Rattle.netlist.specs.Groups.{read_by, reads, OperandPath, stay, step, has, grown, grown_times, reach, reaches}
use Rattle.theory_reach.specs.Inside.{Closed}

-- only a gate that is there reads
pub reads-below : (b : Block) (i k : ℕ) → reads b i k ≡ true → i < gate_count b
unfolding reads read_by
reads-below b i k h = go (lt-or-le i (gate_count b))
  where
    go : (i < gate_count b) ⊎ (gate_count b ≤ i) → i < gate_count b
    go (inl e) = e
    go (inr e) =
        let d = get_or-eq_default b.gates (record { kind = 0; operands = [] }) e in
        absurd (true≢false (sym (rw d at h)))

-- paths follow one another
pub path-append : {b : Block} {i j k : ℕ} → OperandPath b i j → OperandPath b j k → OperandPath b i k
path-append stay q = q
path-append (step h p) q = step h (path-append p q)

-- ---- growing

module _ (b : Block) where
  -- a set's entry past the gates is false
  pub has-below : (set : List Bool) (j : ℕ) → length set ≡ gate_count b → has set j ≡ true → j < gate_count b
  unfolding has
  has-below set j e h = go (lt-or-le j (gate_count b))
    where
      go : (j < gate_count b) ⊎ (gate_count b ≤ j) → j < gate_count b
      go (inl l) = l
      go (inr l) =
          let u : length set ≤ j = omega arith in
          not-both h (get_or-eq_default set false u)

  -- a grown set has an entry for each gate
  pub length-grown : (set : List Bool) → length (grown b set) ≡ gate_count b
  unfolding grown
  length-grown set = length-tab _ (gate_count b)

  -- as often as it grows
  pub length-grown_times : (t : ℕ) (set : List Bool) → length set ≡ gate_count b
      → length (grown_times b t set) ≡ gate_count b
  unfolding grown_times
  length-grown_times zero set e = e
  length-grown_times (suc t) set e = length-grown (grown_times b t set)

  has-grown : (set : List Bool) (j : ℕ) → j < gate_count b
      → has (grown b set) j ≡ (has set j || any (λ i. has set i && reads b i j) (up_to (gate_count b)))
  unfolding grown has
  has-grown set j h = get_d-tab _ (gate_count b) j false h

  -- `grown` only adds
  pub grown-keeps : (set : List Bool) (j : ℕ) → j < gate_count b → has set j ≡ true → has (grown b set) j ≡ true
  grown-keeps set j h e = has-grown set j h ∙ or_left _ _ e

  -- growing a set adds what its gates read
  pub grown-reads : (set : List Bool) (i j : ℕ) → j < gate_count b → has set i ≡ true → reads b i j ≡ true
      → has (grown b set) j ≡ true
  grown-reads set i j h e r =
      has-grown set j h
      ∙ or_right (has set j) _
      (below-any (λ i. has set i && reads b i j) (gate_count b) i (reads-below b i j r) (and_intro _ _ e r))

  -- growing a set adds nothing else
  pub grown-cases : (set : List Bool) (j : ℕ) → j < gate_count b → has (grown b set) j ≡ true
      → (has set j ≡ true) ⊎ ((i : ℕ) × (has set i ≡ true) × (reads b i j ≡ true))
  grown-cases set j h e = go (or_cases _ _ (sym (has-grown set j h) ∙ e))
    where
      go : (has set j ≡ true) ⊎ (any (λ i. has set i && reads b i j) (up_to (gate_count b)) ≡ true)
          → (has set j ≡ true) ⊎ ((i : ℕ) × (has set i ≡ true) × (reads b i j ≡ true))
      go (inl u) = inl u
      go (inr u) =
          let r = any_below (λ i. has set i && reads b i j) (gate_count b) u in
          inr (r.0, and_left _ _ r.2, and_right (has set r.0) _ r.2)

  -- however often it grows, a set keeps what it has
  pub grown_times-keeps : (t : ℕ) (set : List Bool) (j : ℕ) → j < gate_count b → has set j ≡ true
      → has (grown_times b t set) j ≡ true
  unfolding grown_times
  grown_times-keeps zero set j h e = e
  grown_times-keeps (suc t) set j h e = grown-keeps (grown_times b t set) j h (grown_times-keeps t set j h e)

  -- ---- counting

  size : List Bool → ℕ
  size set = count_below (has set) (gate_count b)

  grown-closed : (set : List Bool) → Closed b set → Closed b (grown b set)
  grown-closed set c i j hi hj e r = grown-keeps set j hj (c i j hi hj (go (grown-cases set i hi e)) r)
    where
      go : (has set i ≡ true) ⊎ ((k : ℕ) × (has set k ≡ true) × (reads b k i ≡ true)) → has set i ≡ true
      go (inl u) = u
      go (inr u) = c u.0 i (reads-below b _ i u.2) hi u.1 u.2

  -- a growth that changes nothing: the set is closed; one that does adds a gate
  closed-or-more : (set : List Bool) → Closed b set ⊎ (size set < size (grown b set))
  unfolding size
  closed-or-more set = go (lt-or-le (size set) (size (grown b set)))
    where
      go : (size set < size (grown b set)) ⊎ (size (grown b set) ≤ size set)
          → Closed b set ⊎ (size set < size (grown b set))
      go (inl u) = inr u
      go (inr u) = inl (λ i j hi hj e r. ⊎_elim (λ v. v) (λ v. absurd (more i j hj e r v)) (bool_cases (has set j)))
        where
          more : (i j : ℕ) → j < gate_count b → has set i ≡ true → reads b i j ≡ true → has set j ≡ false → ⊥
          more i j hj e r v =
              let l = count_below-less (has set) (has (grown b set)) (gate_count b) (grown-keeps set) j hj v
              (grown-reads set i j hj e r) in
              omega arith

  closed-or-many : (t : ℕ) (set : List Bool) → Closed b (grown_times b t set) ⊎ (t ≤ size (grown_times b t set))
  unfolding grown_times
  closed-or-many zero set = inr (omega arith)
  closed-or-many (suc t) set = go (closed-or-many t set)
    where
      go : Closed b (grown_times b t set) ⊎ (t ≤ size (grown_times b t set))
          → Closed b (grown b (grown_times b t set)) ⊎ (suc t ≤ size (grown b (grown_times b t set)))
      go (inl c) = inl (grown-closed _ c)
      go (inr l) = ⊎_elim (λ c. inl (grown-closed _ c)) (λ u. inr (omega arith)) (closed-or-more (grown_times b t set))

  -- grown m times, a set is closed under operands
  pub grown_times-closed : (set : List Bool) → Closed b (grown_times b (gate_count b) set)
  unfolding size
  grown_times-closed set = go (closed-or-many (gate_count b) set)
    where
      go : Closed b (grown_times b (gate_count b) set) ⊎ (gate_count b ≤ size (grown_times b (gate_count b) set))
          → Closed b (grown_times b (gate_count b) set)
      go (inl c) = c
      go (inr l) = λ i j hi hj e r. count_below-full (has (grown_times b (gate_count b) set)) (gate_count b) l j hj

  -- ---- reach

  -- the reach of a gate has an entry for each gate
  pub length-reach : (i : ℕ) → length (reach b i) ≡ gate_count b
  unfolding reach
  length-reach i = length-grown_times (gate_count b) _ (length-tab _ (gate_count b))

  -- only gates that are there are reached
  pub reaches-below : (i j : ℕ) → reaches b i j ≡ true → j < gate_count b
  unfolding reaches
  reaches-below i j h = has-below (reach b i) j (length-reach i) h

  -- a gate reaches itself
  pub reaches-refl : (i : ℕ) → i < gate_count b → reaches b i i ≡ true
  unfolding reaches reach has
  reaches-refl i h =
      grown_times-keeps (gate_count b) (tab (eqb i) (gate_count b)) i h
      (get_d-tab (eqb i) (gate_count b) i false h ∙ eq-eqb i i refl)

  -- what a reached gate reads is reached
  pub reaches-reads : (i j k : ℕ) → reaches b i j ≡ true → reads b j k ≡ true → k < gate_count b → reaches b i k ≡ true
  unfolding reaches reach
  reaches-reads i j k h r l = grown_times-closed _ j k (reads-below b j k r) l h r

  -- a path leads only through gates that are there
  path-below : {j k : ℕ} → OperandPath b j k → k < gate_count b → j < gate_count b
  path-below stay h = h
  path-below (step {i} {j} r p) h = reads-below b i j r

  reaches-along : {j k : ℕ} (i : ℕ) → reaches b i j ≡ true → OperandPath b j k → k < gate_count b → reaches b i k ≡ true
  reaches-along i e stay h = e
  reaches-along i e (step {j} {k} r p) h = reaches-along i (reaches-reads i _ _ e r (path-below p h)) p h

  -- where there is a path, the gate is reached
  pub path-reaches : (i j : ℕ) → j < gate_count b → OperandPath b i j → reaches b i j ≡ true
  path-reaches i j h p = reaches-along i (reaches-refl i (path-below p h)) p h

  grown-path : (i t j : ℕ) → has (grown_times b t (tab (eqb i) (gate_count b))) j ≡ true
      → OperandPath b i j × (i < gate_count b)
  unfolding grown_times has
  grown-path i zero j h =
      let l = has-below (tab (eqb i) (gate_count b)) j (length-tab _ (gate_count b)) h in
      let e = eqb-true i j (sym (get_d-tab (eqb i) (gate_count b) j false l) ∙ h) in
      rw e (stay, l)
  grown-path i (suc t) j h = go (grown-cases set j (has-below (grown b set) j (length-grown set) h) h) (grown-path i t)
    where
      set : List Bool
      set = grown_times b t (tab (eqb i) (gate_count b))

      go : (has set j ≡ true) ⊎ ((k : ℕ) × (has set k ≡ true) × (reads b k j ≡ true))
          → ((k : ℕ) → has set k ≡ true → OperandPath b i k × (i < gate_count b))
          → OperandPath b i j × (i < gate_count b)
      go (inl u) f = f j u
      go (inr u) f = let r = f u.0 u.1 in (path-append r.0 (step u.2 stay), r.1)

  -- where a gate is reached, there is a path
  pub reaches-path : (i j : ℕ) → reaches b i j ≡ true → OperandPath b i j
  unfolding reaches reach
  reaches-path i j h = (grown-path i (gate_count b) j h).0

  -- what a reached gate reaches is reached
  pub reaches-trans : (i j k : ℕ) → reaches b i j ≡ true → reaches b j k ≡ true → reaches b i k ≡ true
  reaches-trans i j k h g =
      path-reaches i k (reaches-below j k g) (path-append (reaches-path i j h) (reaches-path j k g))

  -- ---- reach, recognised

  closed-path : {i j : ℕ} (set : List Bool) → Closed b set → has set i ≡ true → OperandPath b i j → j < gate_count b
      → has set j ≡ true
  closed-path set c e stay h = e
  closed-path set c e (step {i} {j} r p) h = closed-path set c (c i j (reads-below b i j r) (path-below p h) e r) p h
