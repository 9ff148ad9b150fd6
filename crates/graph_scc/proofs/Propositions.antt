-- What specs/Layers.antt says of an order has one proof, so that a struct may hold it. Cited by whoever writes such a
-- struct. Assumes nothing.
use mathlib.Core.Path.{◌≡◌, sym, ap, ◌∙◌}
use mathlib.Core.HLevel.{Σ_prop_path}
use mathlib.Core.Logic.{◌⊎◌, inl, inr}
use mathlib.Core.List.{List}
use Prim.Native.Nat.{ℕ, ◌<◌}
use native.Mathlib.Omega.{arith}
use lib.ListN.{get_or}
use Rattle.std.proofs.Props.{props}
use Rattle.graph_scc.specs.Layers.{LoopEnd, Layers}

-- a gate stands at one position
place-prop : (m : ℕ) (order : List ℕ) → ((i k : ℕ) → i < m → k < m → get_or order i 0 ≡ get_or order k 0 → i ≡ k)
    → (j : ℕ) → IsProp ((i : ℕ) × (i < m) × (get_or order i 0 ≡ j))
place-prop m order once j x y =
    let at : (i : ℕ) → IsProp ((i < m) × (get_or order i 0 ≡ j)) = hlevel props in
    ap (λ (t : (i : ℕ) × ((i < m) × (get_or order i 0 ≡ j))). (t.0, t.1.0, t.1.1))
    (Σ_prop_path at {u = (x.0, (x.1, x.2))} {v = (y.0, (y.1, y.2))} (once x.0 y.0 x.1 y.1 (x.2 ∙ sym y.2)))

-- a layer is a gate or a loop, and not both
LoopEnd-prop : (m i : ℕ) (ends : List ℕ) → IsProp (LoopEnd m ends i)
LoopEnd-prop m i ends = hlevel props

cases-prop : (m i : ℕ) (ends : List ℕ) → IsProp ((get_or ends i 0 ≡ i) ⊎ LoopEnd m ends i)
cases-prop m i ends (inl e) (inl f) = let p : IsProp (get_or ends i 0 ≡ i) = hlevel props in ap inl (p e f)
cases-prop m i ends (inl e) (inr l) = let b = l.behind in absurd (omega arith)
cases-prop m i ends (inr l) (inl e) = let b = l.behind in absurd (omega arith)
cases-prop m i ends (inr l) (inr k) = ap inr (LoopEnd-prop m i ends l k)

pub Layers-prop : {m : ℕ} {graph order ends : List ℕ} → IsProp (Layers m graph order ends)
Layers-prop {m} {graph} {order} {ends} x y =
    let p : IsProp (Layers m graph order ends) = hlevel (props, place-prop m order x.once, cases-prop) in
    p x y
