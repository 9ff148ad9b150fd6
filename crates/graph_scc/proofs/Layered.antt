-- What the check of every position shows, and that one loop of all gates is always right. Cited by `are_layers` and
-- `layer_with`. Assumes nothing.
--   layer-end    from position to position the ends of a loop are the same
--   layered      so the positions are layers
--   one-layer    all gates as one loop
use Prim.Native.Nat.{ℕ, zero, suc, ◌+◌, ◌≤◌, ◌<◌}
use mathlib.Core.Path.{◌≡◌, refl, sym, ◌∙◌}
use mathlib.Core.Logic.{◌⊎◌, inl, inr, ⊎_elim}
use mathlib.Core.List.{List}
use native.Mathlib.Omega.{arith}
use lib.ListN.{get_or}
use Rattle.prelude.proofs.Tests.{eq-or-ne}
use Rattle.graph_scc.specs.Layers.{LoopEnd, LayerEnd, Layers}
use Rattle.graph_scc.specs.Search.{EndStep, OneLayer}
use Rattle.graph_scc.specs.Search.{Layered}
use Rattle.graph_scc.proofs.Slots.{read-slot}

module _ (m : ℕ) (ends : List ℕ) (fits : (i : ℕ) → i < m → EndStep m ends i) where
  -- the positions up to the end of a loop, `left` of them
  same_ends : (left i e : ℕ) → e ≡ get_or ends i 0 → i < e → e ≤ m → e ≤ i + left → (k : ℕ) → i ≤ k → k < e
      → get_or ends k 0 ≡ e
  same_ends zero i e is behind within near k il ke = absurd (omega arith)
  same_ends (suc left) i e is behind within near k il ke =
      ⊎_elim (λ q. rw q (sym is))
      (λ n. go (λ q l. same_ends left (i + 1) e (is ∙ sym q) l within (omega arith) k (omega (arith, n)) ke)
      (fits i (omega arith)) (omega (arith, n)))
      (eq-or-ne k i)
    where
      go : (get_or ends (i + 1) 0 ≡ get_or ends i 0 → i + 1 < e → get_or ends k 0 ≡ e) → EndStep m ends i → i < k
          → get_or ends k 0 ≡ e
      go rest (inl q) l = absurd (omega arith)
      go rest (inr (a, b, inl q)) l = absurd (omega arith)
      go rest (inr (a, b, inr q)) l = rest q (omega arith)

  pub layer-end : (i : ℕ) → i < m → LayerEnd m ends i
  layer-end i l = record { cases = go (fits i l) }
    where
      go : EndStep m ends i → (get_or ends i 0 ≡ i) ⊎ LoopEnd m ends i
      go (inl q) = inl q
      go (inr (a, b, q)) =
          inr (record {
            behind = a;
            within = b;
            same = λ k il ke. same_ends m i (get_or ends i 0) refl a b (omega arith) k
                il ke;
          })

pub layered : {m : ℕ} {graph order ends positions : List ℕ} → Layered m graph order ends positions
    → Layers m graph order ends
layered {m} {graph} {order} {ends} {positions} r =
    let g = r.legal in
    let steps = r.steps in
    record {
      inside = λ i l. (steps i l).listed.inside;
      every = λ j l. (get_or positions j 0, (steps j l).listed.below, (steps j l).listed.stands);
      once = λ i k il kl e. sym (steps i il).listed.found ∙ rw e (steps k kl).listed.found;
      end = layer-end m ends (λ i l. (steps i l).end);
      reads = λ i k il kl r.
          let s = read-slot g (get_or order i 0) (steps i il).listed.inside (get_or order k 0) r in
          rw (steps k kl).listed.found at (((steps i il).before s.0 s.1).before (get_or order k 0) s.2);
    }

pub one-layer : {m : ℕ} {graph order ends : List ℕ} → OneLayer m m order ends → Layers m graph order ends
one-layer {m} {graph} {order} {ends} o =
    record {
      inside = λ i l. rw (o.as_they_come i l) l;
      every = λ j l. (j, l, o.as_they_come j l);
      once = λ i k il kl e. sym (o.as_they_come i il) ∙ e ∙ o.as_they_come k kl;
      end = λ i l. record {
        cases = inr (record {
          behind = rw (o.all_end i l) l;
          within = omega (arith, o.all_end i l);
          same = λ k il ke. o.all_end k (omega (arith, o.all_end i l)) ∙ sym (o.all_end i l);
        });
      };
      reads = λ i k il kl r. rw (o.all_end i il) kl;
    }
