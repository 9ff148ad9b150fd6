-- How many passes a group needs. Render's number of copies, its code and the agreement cite it.
--   settled-state, state-settled   a group is settled exactly when the whole state is
--   passes-keep, -from             further passes change nothing then
--   size-settled, size-enough      as many passes as the group has gates are enough
--   pass_count-some, -most, -enough   the number of passes is at least one, at most the group's size, and enough
--   pass_count-least, -one-fewer    every smaller number fails: under a setting that may come, at a gate of the group
--   pass_count-from                 what is enough, when one fewer is not, is the number
--   pass_count-one                  a lone gate needs one pass
-- Assumes nothing.
use Prim.Native.Nat.{ℕ, zero, suc, ◌-◌, ◌≤◌, ◌<◌}
use mathlib.Core.Path.{◌≡◌, refl, sym, ap, ◌∙◌}
use mathlib.Core.Logic.{◌⊎◌, inl, inr, ⊎_elim}
use mathlib.Core.Bool.{Bool, true, false, cond, ◌||◌, false≢true}
use mathlib.Core.List.{List}
use native.Mathlib.Omega.{arith}
use borrow.Author.Tests.{eqb-true, eqb-false, eq-eqb}
use lib.Dec.{eqb}
use lib.ListN.{length, get_or, get_or-eq_default}
use lib.Seq.{ext_get_or}
use Rattle.prelude.specs.Lists.{repeated, up_to, member, least}
use Rattle.prelude.proofs.Tests.{bool_cases, lt-or-le, not-both, not-true-false, or_left, or_right, or_cases}
use Rattle.prelude.proofs.Tests.{or-neither}
use Rattle.prelude.proofs.Quantifiers.{all-below, below_all}
use Rattle.prelude.proofs.Tab.{length-tab, get_d-tab}
use Rattle.prelude.proofs.Least.{least-below, least_at, least-is}
use Rattle.netlist.specs.Values.{Value, undefined, code}
use Rattle.netlist.specs.Netlist.{Block, input_count, gate_count}
use Rattle.netlist.specs.Rounds.{settled, setting_of, setting_count, settled_under, is_excluded}
use Rattle.netlist.specs.Groups.{groups}
use Rattle.netlist.specs.Steps.{run}
use Rattle.netlist.specs.Passes.{before_passes, after_passes, are_settled, are_enough, pass_count}
use Rattle.theory_fixpoint.specs.Order.{Below, BelowOn, BelowAll, Listed}
use Rattle.theory_fixpoint.proofs.Values.{code-injective, undefined-below, below-refl, below-of-eq, below-antisym}
use Rattle.theory_fixpoint.proofs.ListFacts.{member-repeated}
use Rattle.theory_fixpoint.proofs.States.{states-antisym}
use Rattle.theory_fixpoint.proofs.Rounds.{length-settled, evaluated-settled}
use Rattle.theory_fixpoint.proofs.AnyOrder.{length_run, run-append, run-elsewhere, run-below-settled}
use Rattle.theory_fixpoint.proofs.InPlace.{run-grows}
use Rattle.theory_fixpoint.proofs.Passes.{passes-above-settled}
use Rattle.theory_reach.proofs.ListFacts.{all-member, all-intro, all-fails, up_to-below, least-at-most}
use Rattle.theory_reach.proofs.Order.{groups-not-empty}
use Rattle.theory_unrolling.specs.Copies.{group_at, gates_before}
use Rattle.theory_unrolling.specs.Minimal.{FailsAfter}
use Rattle.theory_unrolling.proofs.Follows.{group-follows}

-- ---- any list of gates, under one setting

-- Steps from the settled values leave them.
pub run_settled : (b : Block) (x : List Value) (js : List ℕ) → run b x js (settled b x) ≡ settled b x
run_settled b x js =
    states-antisym (run b x js (settled b x)) (settled b x) (length_run b x js (settled b x))
    (run-below-settled b x js (settled b x) (λ j. below-refl (get_or (settled b x) j undefined)))
    (run-grows b x js (settled b x) (λ j. below-of-eq (sym (evaluated-settled b x j))))

module _ (b : Block) (group : List ℕ) (s : ℕ) where
  pub length_before : length (before_passes b group s) ≡ gate_count b
  unfolding before_passes
  length_before = length-tab (λ j. cond (member j group) undefined (get_or (settled_under b s) j undefined)) (gate_count b)

  -- Before the passes the group's gates are undefined, and every other gate is settled.
  pub before_at : (j : ℕ) → get_or (before_passes b group s) j undefined
      ≡ cond (member j group) undefined (get_or (settled_under b s) j undefined)
  unfolding before_passes settled_under
  before_at j = go (lt-or-le j (gate_count b))
    where
      undefined-both : (m : Bool) → undefined ≡ cond m undefined undefined
      undefined-both true = refl
      undefined-both false = refl

      go : (j < gate_count b) ⊎ (gate_count b ≤ j)
          → get_or (before_passes b group s) j undefined
          ≡ cond (member j group) undefined (get_or (settled_under b s) j undefined)
      go (inl l) = get_d-tab (λ j. cond (member j group) undefined (get_or (settled_under b s) j undefined)) (gate_count b) j
          undefined l
      go (inr l) =
          let e : get_or (before_passes b group s) j undefined ≡ undefined =
          get_or-eq_default (before_passes b group s) undefined {n = j} (rw length_before l) in
          let f : get_or (settled_under b s) j undefined ≡ undefined =
          get_or-eq_default (settled_under b s) undefined {n = j}
          (rw (length-settled b (setting_of (input_count b) s)) l) in
          e ∙ undefined-both (member j group) ∙ ap (cond (member j group) undefined) (sym f)

  pub before-inside : (j : ℕ) → member j group ≡ true → get_or (before_passes b group s) j undefined ≡ undefined
  before-inside j m = before_at j ∙ rw m refl

  pub before-outside : (j : ℕ) → member j group ≡ false
      → get_or (before_passes b group s) j undefined ≡ get_or (settled_under b s) j undefined
  before-outside j m = before_at j ∙ rw m refl

  -- That is below the settled values,
  pub before-below : BelowAll (before_passes b group s) (settled_under b s)
  before-below j = rw (before_at j) (go (member j group))
    where
      go : (m : Bool)
          → Below (cond m undefined (get_or (settled_under b s) j undefined)) (get_or (settled_under b s) j undefined)
      go true = undefined-below (get_or (settled_under b s) j undefined)
      go false = below-refl (get_or (settled_under b s) j undefined)

  pub length-after : (p : ℕ) → length (after_passes b group s p) ≡ gate_count b
  unfolding after_passes
  length-after p = length_run b (setting_of (input_count b) s) (repeated p group) (before_passes b group s) ∙ length_before

  -- Every state after passes is below the settled one.
  pub after-below : (p : ℕ) → BelowAll (after_passes b group s p) (settled_under b s)
  unfolding after_passes settled_under
  after-below p =
      run-below-settled b (setting_of (input_count b) s) (repeated p group) (before_passes b group s) before-below

  -- Every other gate stays settled.
  pub after-outside : (p j : ℕ) → member j group ≡ false
      → get_or (after_passes b group s p) j undefined ≡ get_or (settled_under b s) j undefined
  unfolding after_passes
  after-outside p j m =
      run-elsewhere b (setting_of (input_count b) s) (repeated p group) (before_passes b group s) j
      (not-true-false (member j (repeated p group)) (λ h. false≢true (sym m ∙ member-repeated j p group h)))
      ∙ before-outside j m

  -- A group is settled exactly when the whole state is.
  pub settled_at : (p : ℕ) → are_settled b group s p ≡ true → (j : ℕ) → member j group ≡ true
      → get_or (after_passes b group s p) j undefined ≡ get_or (settled_under b s) j undefined
  unfolding are_settled
  settled_at p h j m =
      code-injective (get_or (after_passes b group s p) j undefined) (get_or (settled_under b s) j undefined)
      (eqb-true _ _
      (all-member (λ j. eqb (code (get_or (after_passes b group s p) j undefined))
      (code (get_or (settled_under b s) j undefined))) group h j m))

  pub at-settled : (p : ℕ)
      → ((j : ℕ) → member j group ≡ true
      → get_or (after_passes b group s p) j undefined ≡ get_or (settled_under b s) j undefined)
      → are_settled b group s p ≡ true
  unfolding are_settled
  at-settled p h =
      all-intro (λ j. eqb (code (get_or (after_passes b group s p) j undefined))
      (code (get_or (settled_under b s) j undefined))) group
      (λ j m. eq-eqb _ _ (ap code (h j m)))

  pub settled-state : (p : ℕ) → are_settled b group s p ≡ true → after_passes b group s p ≡ settled_under b s
  unfolding settled_under
  settled-state p h =
      ext_get_or undefined (after_passes b group s p) (settled_under b s)
      (length-after p ∙ sym (length-settled b (setting_of (input_count b) s)))
      (λ j l. ⊎_elim (settled_at p h j) (after-outside p j) (bool_cases (member j group)))

  pub state-settled : (p : ℕ) → after_passes b group s p ≡ settled_under b s → are_settled b group s p ≡ true
  state-settled p e = at-settled p (λ j m. ap (λ (v : List Value). get_or v j undefined) e)

  -- A further pass is a run over the group.
  pub after_next : (p : ℕ) → after_passes b group s (suc p)
      ≡ run b (setting_of (input_count b) s) group (after_passes b group s p)
  unfolding after_passes
  after_next p = run-append b (setting_of (input_count b) s) (repeated p group) group (before_passes b group s)

  -- Over settled values it changes nothing.
  pub passes-keep : (p : ℕ) → are_settled b group s p ≡ true → are_settled b group s (suc p) ≡ true
  unfolding settled_under
  passes-keep p h =
      state-settled (suc p)
      (after_next p ∙ ap (run b (setting_of (input_count b) s) group) (settled-state p h)
      ∙ run_settled b (setting_of (input_count b) s) group)

  pub passes-keep-from : (p q : ℕ) → p ≤ q → are_settled b group s p ≡ true → are_settled b group s q ≡ true
  passes-keep-from p zero l h = let e : p ≡ 0 = omega arith in rw e at h
  passes-keep-from p (suc q) l h = go (lt-or-le p (suc q)) (passes-keep-from p q)
    where
      go : (p < suc q) ⊎ (suc q ≤ p) → (p ≤ q → are_settled b group s p ≡ true → are_settled b group s q ≡ true)
          → are_settled b group s (suc q) ≡ true
      go (inl k) r = passes-keep q (r (omega arith) h)
      go (inr k) r = let e : p ≡ suc q = omega arith in rw e at h

-- ---- any list of gates, under every setting that may come

module _ (b : Block) (group : List ℕ) where
  at : ℕ → ℕ → Bool
  at p s = is_excluded b s || are_settled b group s p

  -- what is enough settles the group under a setting that may come,
  pub enough-at : (p : ℕ) → are_enough b group p ≡ true → (s : ℕ) → s < setting_count b → is_excluded b s ≡ false
      → are_settled b group s p ≡ true
  unfolding are_enough at
  enough-at p h s l e =
      ⊎_elim (λ x. not-both x e) (λ k. k)
      (or_cases (is_excluded b s) (are_settled b group s p) (all-below (at p) (setting_count b) s h l))

  -- Passes that settle a group under each setting that may come are enough.
  pub at-enough : (p : ℕ) → ((s : ℕ) → s < setting_count b → is_excluded b s ≡ false → are_settled b group s p ≡ true)
      → are_enough b group p ≡ true
  unfolding are_enough at
  at-enough p h = below_all (at p) (setting_count b) (λ s l. go s l (bool_cases (is_excluded b s)))
    where
      go : (s : ℕ) → s < setting_count b → (is_excluded b s ≡ true) ⊎ (is_excluded b s ≡ false) → at p s ≡ true
      go s l (inl e) = or_left (is_excluded b s) (are_settled b group s p) e
      go s l (inr e) = or_right (is_excluded b s) (are_settled b group s p) (h s l e)

  -- More than enough is enough.
  pub enough-from : (p q : ℕ) → p ≤ q → are_enough b group p ≡ true → are_enough b group q ≡ true
  enough-from p q l h = at-enough q (λ s k e. passes-keep-from b group s p q l (enough-at p h s k e))

  -- What is not enough fails under a setting that may come, at a gate of the group.
  pub not-enough : (p : ℕ) → are_enough b group p ≡ false → FailsAfter b group p
  unfolding are_enough at are_settled
  not-enough p h =
      let f : (s : ℕ) × (member s (up_to (setting_count b)) ≡ true) × (at p s ≡ false) =
      all-fails (at p) (up_to (setting_count b)) h in
      let o = or-neither (is_excluded b f.0) (are_settled b group f.0 p) f.2 in
      let test : ℕ → Bool =
      λ j. eqb (code (get_or (after_passes b group f.0 p) j undefined))
      (code (get_or (settled_under b f.0) j undefined)) in
      let g : (j : ℕ) × (member j group ≡ true) × (test j ≡ false) = all-fails test group o.1 in
      record {
        setting = f.0;
        is_setting = up_to-below f.0 (setting_count b) f.1;
        may_come = o.0;
        gate = g.0;
        in_group = g.1;
        not_yet = λ e. eqb-false _ _ g.2 (ap code e);
      }

  -- At least one pass is made.
  pub pass_count-some : 1 ≤ pass_count b group
  unfolding pass_count
  pass_count-some = omega arith

-- ---- the block's groups

module _ (b : Block) (t : ℕ) (there : t < length (groups b)) where
  -- As many passes as the group has gates settle it, under every setting.
  pub size-settled : (s : ℕ) → are_settled b (group_at b t) s (length (group_at b t)) ≡ true
  unfolding after_passes settled_under
  size-settled s =
      at-settled b (group_at b t) s (length (group_at b t))
      (λ j m. below-antisym (get_or (after_passes b (group_at b t) s (length (group_at b t))) j undefined)
      (get_or (settled_under b s) j undefined)
      (after-below b (group_at b t) s (length (group_at b t)) j)
      (passes-above-settled b (setting_of (input_count b) s) (Listed (gates_before b t)) (group_at b t)
      (group-follows b t there)
      (before_passes b (group_at b t) s) (length_before b (group_at b t) s) earlier j m))
    where
      earlier : BelowOn (Listed (gates_before b t)) (settled_under b s) (before_passes b (group_at b t) s)
      earlier j m =
          below-of-eq
          (sym (before-outside b (group_at b t) s j
          (not-true-false (member j (group_at b t)) ((group-follows b t there).apart j m))))

  pub size-enough : are_enough b (group_at b t) (length (group_at b t)) ≡ true
  size-enough = at-enough b (group_at b t) (length (group_at b t)) (λ s l e. size-settled s)

  searched : ℕ → Bool
  searched p = are_enough b (group_at b t) (suc p)

  -- The number of passes is at most the group's size,
  pub pass_count-most : pass_count b (group_at b t) ≤ length (group_at b t)
  unfolding pass_count searched
  pass_count-most =
      let k = groups-not-empty b t there in
      let e : suc (length (group_at b t) - 1) ≡ length (group_at b t) = omega arith in
      let l : least searched (length (group_at b t)) ≤ length (group_at b t) - 1 =
      least-at-most searched (length (group_at b t)) (length (group_at b t) - 1) (rw e size-enough) in
      omega arith

  -- The unrolling depth is enough.
  pub pass_count-enough : are_enough b (group_at b t) (pass_count b (group_at b t)) ≡ true
  unfolding pass_count searched
  pass_count-enough = let l = pass_count-most in least_at searched (length (group_at b t)) (omega arith)

  -- Every smaller number from 1 on fails: the theorem of minimality.
  pub pass_count-least : (p : ℕ) → 1 ≤ p → p < pass_count b (group_at b t) → FailsAfter b (group_at b t) p
  unfolding pass_count searched
  pass_count-least zero h l = absurd (omega arith)
  pass_count-least (suc p) h l =
      not-enough b (group_at b t) (suc p) (least-below searched (length (group_at b t)) p (omega arith))

  -- Where more than one pass is used, one fewer fails.
  pub pass_count-one-fewer : 1 < pass_count b (group_at b t) → FailsAfter b (group_at b t) (pass_count b (group_at b t) - 1)
  pass_count-one-fewer h = pass_count-least (pass_count b (group_at b t) - 1) (omega arith) (omega arith)

  -- What is enough, when it is 1 or one fewer is not enough, is the number of passes.
  pub pass_count-from : (p : ℕ) → 1 ≤ p → are_enough b (group_at b t) p ≡ true
      → (p ≡ 1) ⊎ (are_enough b (group_at b t) (p - 1) ≡ false)
      → pass_count b (group_at b t) ≡ p
  unfolding pass_count searched
  pass_count-from zero h enough c = absurd (omega arith)
  pass_count-from (suc p) h enough c = ap suc (least-is searched (length (group_at b t)) p small before (λ l. enough))
    where
      -- what is at most p is not enough, unless p is 0
      fewer : (q : ℕ) → q ≤ p → are_enough b (group_at b t) q ≡ true → p ≡ 0
      fewer q l k = go c
        where
          go : (suc p ≡ 1) ⊎ (are_enough b (group_at b t) (suc p - 1) ≡ false) → p ≡ 0
          go (inl e) = omega arith
          go (inr f) = let e : suc p - 1 ≡ p = omega arith in not-both (enough-from b (group_at b t) q p l k) (rw e at f)

      small : p ≤ length (group_at b t)
      small = go (lt-or-le (length (group_at b t)) p)
        where
          go : (length (group_at b t) < p) ⊎ (p ≤ length (group_at b t)) → p ≤ length (group_at b t)
          go (inl l) = let e = fewer (length (group_at b t)) (omega arith) size-enough in omega arith
          go (inr l) = l

      before : (i : ℕ) → i < p → searched i ≡ false
      before i l = not-true-false (searched i) (λ k. let e = fewer (suc i) l k in omega arith)

  -- A lone gate needs one pass.
  pub pass_count-one : length (group_at b t) ≡ 1 → pass_count b (group_at b t) ≡ 1
  pass_count-one e = let l = pass_count-most in let k = pass_count-some b (group_at b t) in omega arith
