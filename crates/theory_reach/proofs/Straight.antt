-- Straight blocks: every group is one gate, and the order is 0, 1, 2, .. The law that a straight block renders to
-- itself cites it.
--   straight-reads, straight-inside     a straight block's gates read lower gates
--   straight-loopless                   no gate reaches itself
--   straight-group_of, straight-groups   each group is one gate, in order
-- Assumes nothing.
use Prim.Native.Nat.{ℕ, zero, suc, ◌≤◌, ◌<◌}
use mathlib.Core.Path.{◌≡◌, refl, sym, ap, ◌∙◌}
use mathlib.Core.Logic.{inr}
use mathlib.Core.Bool.{true}
use mathlib.Core.List.{List, [], ◌∷◌, ◌++◌}
use native.Mathlib.Omega.{arith}
use lib.ListN.{length, get_or}
use lib.Dec.{ltb}
use borrow.Author.Tests.{ltb-true}
use Rattle.prelude.specs.Lists.{tab, joined, up_to}
use Rattle.prelude.proofs.Tests.{not-both, and_left, and_right, not-true-false}
use Rattle.prelude.proofs.Least.{least-is}
use Rattle.prelude.proofs.Lists.{joined_snoc, member-one}
use Rattle.netlist.specs.Netlist.{Block, gate_count}
use Rattle.netlist.specs.Groups.{read_by, reads, OperandPath, stay, step, reaches, same_group, group_of, may_be_next, groups}
use Rattle.netlist.specs.Rendering.{is_straight}
use Rattle.theory_reach.specs.Inside.{Inside, Loopless}
use Rattle.theory_reach.specs.Numbering.{next_gate, Built, none, next}
use Rattle.theory_reach.proofs.ListFacts.{all-member, member-up_to, up_to-below, keep_one}
use Rattle.theory_reach.proofs.Reach.{reads-below, reaches-path}
use Rattle.theory_reach.proofs.SameGroup.{same_group-refl}
use Rattle.theory_reach.proofs.Next.{ready-intro, may_be_next-intro, may_be_next-left}
use Rattle.theory_reach.proofs.Order.{groups-entry}
use Rattle.theory_reach.proofs.Build.{built-groups}

-- a gate that is in a group with no other is its group
pub group_of-single : (b : Block) (j : ℕ) → j < gate_count b → ((k : ℕ) → same_group b j k ≡ true → k ≡ j)
    → group_of b j ≡ j ∷ []
unfolding group_of
group_of-single b j h f = keep_one (same_group b j) (gate_count b) j h (same_group-refl b j h) f

-- without loops each group is one gate
pub groups-single : (b : Block) → Loopless b → (g : ℕ) → g < length (groups b)
    → (j : ℕ) × (j < gate_count b) × (get_or (groups b) g [] ≡ j ∷ [])
groups-single b f g h =
    let e = groups-entry b g h in
    (e.0, e.1, e.2 ∙ group_of-single b e.0 e.1 (λ k s. sym (f e.0 k s)))

joined-ones : (t : ℕ) → joined (tab (λ j. j ∷ []) t) ≡ up_to t
joined-ones zero = refl
joined-ones (suc t) = joined_snoc (tab (λ j. j ∷ []) t) (t ∷ []) ∙ ap (λ (l : List ℕ). l ++ (t ∷ [])) (joined-ones t)

module _ (b : Block) (s : is_straight b ≡ true) where
  -- a gate reads lower gates only,
  pub straight-reads : (i k : ℕ) → reads b i k ≡ true → k < i
  unfolding is_straight reads
  straight-reads i k r =
      ltb-true k i (all-member (λ k. ltb k i) (read_by b i)
      (all-member _ (up_to (gate_count b)) s i (member-up_to i _ (reads-below b i k r))) k r)

  -- every gate that a straight block's gate reads is there
  pub straight-inside : Inside b
  straight-inside i k r = let l = straight-reads i k r in let m = reads-below b i k r in omega arith

  -- reaches lower ones and itself only,
  pub straight-path : {i j : ℕ} → OperandPath b i j → j ≤ i
  straight-path stay = omega arith
  straight-path (step {i} {j} r p) = let l = straight-reads i j r in let m = straight-path p in omega arith

  -- no gate of a straight block reaches itself through another
  pub straight-loopless : Loopless b
  unfolding same_group
  straight-loopless i j h =
      let l = straight-path (reaches-path b i j (and_left _ _ h)) in
      let m = straight-path (reaches-path b j i (and_right (reaches b i j) _ h)) in
      omega arith

  -- a gate of a straight block is its own group
  pub straight-group_of : (j : ℕ) → j < gate_count b → group_of b j ≡ j ∷ []
  straight-group_of j h = group_of-single b j h (λ k e. sym (straight-loopless j k e))

  -- when the gates below t are numbered, t is next
  straight-next : (t : ℕ) → t < gate_count b → next_gate b (up_to t) ≡ t
  straight-next t h =
      let may : may_be_next b (up_to t) t ≡ true =
      may_be_next-intro b (up_to t) t (not-true-false _ (λ m. let l = up_to-below t t m in omega arith))
      (ready-intro b (up_to t) (group_of b t)
      (λ i k m r.
      let e = member-one i t (rw (straight-group_of t h) at m) in
      inr (member-up_to k t (let l = straight-reads i k r in omega arith)))) in
      least-is (may_be_next b (up_to t)) (gate_count b) t (omega arith)
      (λ i l. not-true-false _ (λ p. not-both (member-up_to i t l) (may_be_next-left b (up_to t) i p)))
      (λ _. may)

  straight-built : (t : ℕ) → t ≤ gate_count b → Built b (tab (λ j. j ∷ []) t)
  straight-built zero h = none
  straight-built (suc t) h =
      let e : next_gate b (joined (tab (λ j. j ∷ []) t)) ≡ t = ap (next_gate b) (joined-ones t) ∙ straight-next t h in
      let g : group_of b (next_gate b (joined (tab (λ j. j ∷ []) t))) ≡ t ∷ [] =
      ap (group_of b) e ∙ straight-group_of t h in
      rw g at (next (straight-built t (omega arith)) (rw e h))

  -- a straight block's groups are its gates, one by one
  pub straight-groups : groups b ≡ tab (λ j. j ∷ []) (gate_count b)
  straight-groups =
      sym
      (built-groups b (straight-built (gate_count b) (omega arith))
      (λ j h. rw (joined-ones (gate_count b)) (member-up_to j (gate_count b) h)))
