-- Layers that are certified are the strongly connected components. Cited by the functions of `certified` and by
-- `lead_with`. Assumes nothing.
--   last-same, last-other, last-facts   the last position of a layer
--   from_last, to_last                  a layer's last gate reaches every gate of the layer, and is reached by it
--   never-later                         along a path the layer's last position never grows
--   keyed                               so gates of one group, and no others, have one last position
use Prim.Native.Nat.{ℕ, zero, suc, ◌+◌, ◌-◌, ◌≤◌, ◌<◌}
use mathlib.Core.Path.{◌≡◌, refl, sym, ◌∙◌}
use mathlib.Core.Logic.{◌⊎◌, inl, inr, ⊎_elim}
use mathlib.Core.Bool.{true}
use mathlib.Core.List.{List}
use native.Mathlib.Omega.{arith}
use lib.ListN.{get_or}
use borrow.Author.Tests.{eq-eqb, ne_eqb}
use Rattle.prelude.proofs.Tests.{and_intro, and_left, and_right, lt-or-le}
use Rattle.netlist.specs.Netlist.{gate_count}
use Rattle.netlist.specs.Groups.{OperandPath, stay, step, reads, reaches, same_group}
use Rattle.theory_reach.proofs.Reach.{path-append, path-reaches, reaches-path}
use Rattle.graph_gates.specs.Graph.{network}
use Rattle.graph_gates.proofs.Network.{network-count}
use Rattle.graph_scc.specs.Layers.{LoopEnd, Layers}
use Rattle.graph_scc.specs.Leaders.{last_of, distance_at, HasParent, Certified}
use Rattle.graph_scc.specs.Leaders.{layer_key, Keyed}
use Rattle.graph_scc.proofs.Slots.{read-inside}
use Rattle.graph_scc.proofs.Layered.{layered}

pub last-same : (ends : List ℕ) (i : ℕ) → get_or ends i 0 ≡ i → last_of ends i ≡ i
unfolding last_of
last-same ends i e = rw (eq-eqb (get_or ends i 0) i e) refl

pub last-other : (ends : List ℕ) (i : ℕ) → (get_or ends i 0 ≡ i → ⊥) → last_of ends i ≡ get_or ends i 0 - 1
unfolding last_of
last-other ends i n = rw (ne_eqb (get_or ends i 0) i n) refl

-- ---- the last position of a layer

module _ {m : ℕ} {graph order ends : List ℕ} (l : Layers m graph order ends) where
  last-behind : (i : ℕ) → i < m → i ≤ last_of ends i
  last-behind i il = go (l.end i il).cases
    where
      go : (get_or ends i 0 ≡ i) ⊎ LoopEnd m ends i → i ≤ last_of ends i
      go (inl e) = omega (arith, last-same ends i e)
      go (inr e) = omega (arith, last-other ends i (λ q. omega (arith, e.behind)), e.behind)

  pub last-below : (i : ℕ) → i < m → last_of ends i < m
  last-below i il = go (l.end i il).cases
    where
      go : (get_or ends i 0 ≡ i) ⊎ LoopEnd m ends i → last_of ends i < m
      go (inl e) = omega (arith, last-same ends i e)
      go (inr e) = omega (arith, last-other ends i (λ q. omega (arith, e.behind)), e.behind, e.within)

  -- the positions up to the last one have the same
  last-through : (i k : ℕ) → i < m → i ≤ k → k ≤ last_of ends i → last_of ends k ≡ last_of ends i
  last-through i k il ik kl = go (l.end i il).cases
    where
      go : (get_or ends i 0 ≡ i) ⊎ LoopEnd m ends i → last_of ends k ≡ last_of ends i
      go (inl e) = let q : k ≡ i = omega (arith, last-same ends i e) in rw q refl
      go (inr e) =
          let a = last-other ends i (λ q. omega (arith, e.behind)) in
          let s = e.same k ik (omega (arith, e.behind)) in
          last-other ends k (λ q. omega (arith, e.behind)) ∙ rw s (sym a)

  last-reads : (i k : ℕ) → i < m → k < m → reads (network m graph) (get_or order i 0) (get_or order k 0) ≡ true
      → k ≤ last_of ends i
  last-reads i k il kl r = go (l.end i il).cases (l.reads i k il kl r)
    where
      go : (get_or ends i 0 ≡ i) ⊎ LoopEnd m ends i → k < get_or ends i 0 → k ≤ last_of ends i
      go (inl e) h = omega (arith, last-same ends i e)
      go (inr e) h = omega (arith, last-other ends i (λ q. omega (arith, e.behind)))

  -- a position at or before the last one has its last one at or before it
  last-before : (i k : ℕ) → i < m → k < m → k ≤ last_of ends i → last_of ends k ≤ last_of ends i
  last-before i k il kl h = ⊎_elim below (λ ik. let e = last-through i k il ik h in omega arith) (lt-or-le k i)
    where
      below : k < i → last_of ends k ≤ last_of ends i
      below ki =
          ⊎_elim (λ near. let e = last-behind i il in omega arith)
          (λ far. let e = last-through k i kl (omega arith) far in omega arith)
          (lt-or-le (last_of ends k) i)

-- ---- paths

module _ {m : ℕ} {graph order ends positions notes : List ℕ} (c : Certified m graph order ends positions notes) where
  layers : Layers m graph order ends
  layers = layered c.layered

  from_last : (left i : ℕ) → i < m → m ≤ i + left
      → OperandPath (network m graph) (get_or order (last_of ends i) 0) (get_or order i 0)
  from_last zero i il near = absurd (omega arith)
  from_last (suc left) i il near =
      ⊎_elim (λ e. rw e stay) (λ t. go t.0 (λ l n. from_last left t.0.from l n)) (c.certified_at i il).cases
    where
      go : (t : HasParent m graph order ends i)
          → (t.from < m → m ≤ t.from + left
          → OperandPath (network m graph) (get_or order (last_of ends t.from) 0) (get_or order t.from 0))
          → OperandPath (network m graph) (get_or order (last_of ends i) 0) (get_or order i 0)
      go t rest =
          let w = last-below layers i il in
          let same = last-through layers i t.from il (omega (arith, t.behind)) t.within in
          path-append (rw same at (rest (omega (arith, t.within)) (omega (arith, t.behind)))) (step t.reading stay)

  to_last : (most i : ℕ) → i < m → distance_at order notes i ≤ most
      → OperandPath (network m graph) (get_or order i 0) (get_or order (last_of ends i) 0)
  to_last zero i il near =
      ⊎_elim (λ e. rw e stay) (λ t. absurd (omega (arith, t.1.nearer))) (c.certified_at i il).cases
  to_last (suc most) i il near =
      ⊎_elim (λ e. rw e stay)
      (λ t. step t.1.reading (rw t.1.same at (to_last most t.1.to t.1.below
      (omega (arith, t.1.nearer)))))
      (c.certified_at i il).cases

  -- where gate j stands
  place : ℕ → ℕ
  place j = get_or positions j 0

  stands : (j : ℕ) → j < m → get_or order (get_or positions j 0) 0 ≡ j
  stands j l = (c.layered.steps j l).listed.stands

  there : (j : ℕ) → j < m → get_or positions j 0 < m
  there j l = (c.layered.steps j l).listed.below

  never-later : {i j : ℕ} → i < m → OperandPath (network m graph) i j
      → layer_key ends positions j ≤ layer_key ends positions i
  never-later {i} l stay = omega arith
  never-later {i} {j} l (step {j = k} r p) =
      let kl = read-inside c.layered.legal i l k r in
      let rest = never-later kl p in
      let seen = last-reads layers (get_or positions i 0) (get_or positions k 0) (there i l) (there k kl)
      (rw (stands i l, stands k kl) r) in
      let first = last-before layers (get_or positions i 0) (get_or positions k 0) (there i l) (there k kl) seen in
      omega arith

  in-network : {j : ℕ} → j < m → j < gate_count (network m graph)
  in-network l = rw (network-count m graph) l

  pub keyed : Keyed (network m graph) m (layer_key ends positions)
  unfolding same_group
  keyed =
      record {
        below = λ j l. last-below layers (get_or positions j 0) (there j l);
        same = λ i j il jl s.
            let p = never-later il (reaches-path (network m graph) i j
            (and_left (reaches (network m graph) i j) (reaches (network m graph) j i) s)) in
            let q = never-later jl (reaches-path (network m graph) j i
            (and_right (reaches (network m graph) i j) (reaches (network m graph) j i) s)) in
            omega arith;
        back = λ i j il jl e.
            and_intro (reaches (network m graph) i j) (reaches (network m graph) j i)
            (path-reaches (network m graph) i j (in-network jl) (way i j il jl e))
            (path-reaches (network m graph) j i (in-network il) (way j i jl il (sym e)));
      }
    where
      way : (i j : ℕ) → i < m → j < m → layer_key ends positions i ≡ layer_key ends positions j
          → OperandPath (network m graph) i j
      way i j il jl e =
          let up = to_last (distance_at order notes (get_or positions i 0)) (get_or positions i 0) (there i il)
          (omega arith) in
          let down = from_last m (get_or positions j 0) (there j jl) (omega arith) in
          path-append (rw (stands i il, e) at up) (rw (stands j jl) at down)
