-- One gate: its value grows with its operands' values, and is 0 or 1 where they all are. Everything else in this crate
-- cites these laws and never opens the rule of the kinds.
--   TwoValued                           a row whose controlling and forced values are 0 or 1
--   gate_value-mono, gate_value-defined   the two laws
-- Assumes nothing.
use Prim.Native.Nat.{ℕ, zero, suc, ◌-◌, ◌%◌, ◌<◌}
use mathlib.Core.Path.{◌≡◌, refl, ap, ◌∙◌}
use mathlib.Core.Bool.{Bool, true, false, cond, ◌||◌}
use mathlib.Core.Logic.{◌⊎◌, inl, inr}
use mathlib.Core.List.{List, [], ◌∷◌}
use native.Mathlib.Omega.{arith}
use borrow.Author.Tests.{eqb-true}
use lib.ListN.{length, get_or}
use lib.Dec.{eqb}
use Rattle.prelude.specs.Lists.{all, any, ascii}
use Rattle.prelude.proofs.Tests.{and_left, and_right, or_cases, or_left, or_right}
use Rattle.netlist.specs.Values.{Value, undefined, val, code, value_of, invert, is_defined}
use Rattle.netlist.specs.declared.Row.{Row}
use Rattle.netlist.specs.Kinds.{row, rows, row_of, is_not, is_xor, is_xnor, ruled, ones, parity, gate_value}
use Rattle.theory_fixpoint.specs.Order.{Below, BelowEach, none, more}
use Rattle.theory_fixpoint.proofs.Values.{undefined-not-val, below-defined, below-refl}

-- the controlling and the forced value of each row are 0 or 1
record TwoValued (r : Row) : Type 0 where
  pub controlling : r.controlling < 2
  pub forced : r.forced < 2

row_of-two-valued : (k : ℕ) → TwoValued (row_of k)
unfolding row_of rows row
row_of-two-valued k = go (k - 1)
  where
    go : (n : ℕ)
        → TwoValued
        (get_or rows n (record { fewest = 0; most = 0; controlling = 0; forced = 0; keyword = ascii "\0\0\0\0" }))
    go zero = record { controlling = omega arith; forced = omega arith }
    go (suc zero) = record { controlling = omega arith; forced = omega arith }
    go (suc (suc zero)) = record { controlling = omega arith; forced = omega arith }
    go (suc (suc (suc zero))) = record { controlling = omega arith; forced = omega arith }
    go (suc (suc (suc (suc n)))) = record { controlling = omega arith; forced = omega arith }

-- a value coded 0 or 1 stays when it grows
controlling-stays : (c : ℕ) (v w : Value) → c < 2 → Below v w → eqb (code v) c ≡ true → eqb (code w) c ≡ true
unfolding code
controlling-stays c undefined w h l e = absurd (omega (arith, eqb-true 2 c e))
controlling-stays c (val b) w h l e = rw (l b refl) e

any-controlling-stays : (c : ℕ) {vs ws : List Value} → c < 2 → BelowEach vs ws
    → any (λ v. eqb (code v) c) vs ≡ true → any (λ v. eqb (code v) c) ws ≡ true
any-controlling-stays c h none e = e
any-controlling-stays c h (more {v} {w} {vs} {ws} l ls) e =
    go (or_cases (eqb (code v) c) (any (λ v. eqb (code v) c) vs) e) (any-controlling-stays c h ls)
  where
    go : (eqb (code v) c ≡ true) ⊎ (any (λ v. eqb (code v) c) vs ≡ true)
        → (any (λ v. eqb (code v) c) vs ≡ true → any (λ v. eqb (code v) c) ws ≡ true)
        → eqb (code w) c || any (λ v. eqb (code v) c) ws ≡ true
    go (inl p) rest = or_left (eqb (code w) c) _ (controlling-stays c v w h l p)
    go (inr p) rest = or_right (eqb (code w) c) _ (rest p)

-- above a list of values 0 or 1 there is only itself
each-below-defined : {vs ws : List Value} → BelowEach vs ws → all is_defined vs ≡ true → vs ≡ ws
each-below-defined none d = refl
each-below-defined (more {v} {w} {vs} {ws} l ls) d =
    let p : v ≡ w = below-defined v w l (and_left (is_defined v) (all is_defined vs) d) in
    let q : vs ≡ ws = each-below-defined ls (and_right (is_defined v) (all is_defined vs) d) in
    cc

ruled-mono : (r : Row) {vs ws : List Value} → r.controlling < 2 → BelowEach vs ws → Below (ruled r vs) (ruled r ws)
unfolding ruled
ruled-mono r {vs} {ws} h l b = go (any controls vs) (all is_defined vs) refl refl
  where
    controls : Value → Bool
    controls v = eqb (code v) r.controlling

    go : (a d : Bool) → any controls vs ≡ a → all is_defined vs ≡ d
        → cond a (value_of r.forced) (cond d (invert (value_of r.forced)) undefined) ≡ val b → ruled r ws ≡ val b
    go true d p q e = rw (any-controlling-stays r.controlling h l p) e
    go false true p q e = rw (← each-below-defined l q, p, q) e
    go false false p q e = absurd (undefined-not-val e)

invert-mono : (v w : Value) → Below v w → Below (invert v) (invert w)
unfolding invert
invert-mono undefined w l b e = absurd (undefined-not-val e)
invert-mono (val c) w l b e = ap invert (l c refl) ∙ e

first_below : {vs ws : List Value} → BelowEach vs ws → Below (get_or vs 0 undefined) (get_or ws 0 undefined)
first_below none = below-refl undefined
first_below (more l ls) = l

parity-mono : {vs ws : List Value} → BelowEach vs ws → Below (parity vs) (parity ws)
unfolding parity
parity-mono {vs} {ws} l b = go (all is_defined vs) refl
  where
    go : (d : Bool) → all is_defined vs ≡ d → cond d (value_of (ones vs % 2)) undefined ≡ val b → parity ws ≡ val b
    go true q e = rw (← each-below-defined l q, q) e
    go false q e = absurd (undefined-not-val e)

-- A gate's value grows with its operands' values.
pub gate_value-mono : (k : ℕ) {vs ws : List Value} → BelowEach vs ws → Below (gate_value k vs) (gate_value k ws)
unfolding gate_value
gate_value-mono k {vs} {ws} l = go (is_not k) (is_xor k) (is_xnor k)
  where
    by : Bool → Bool → Bool → List Value → Value
    by t x y us =
        cond t (invert (get_or us 0 undefined)) (cond x (parity us) (cond y (invert (parity us)) (ruled (row_of k) us)))

    go : (t x y : Bool) → Below (by t x y vs) (by t x y ws)
    go true x y = invert-mono (get_or vs 0 undefined) (get_or ws 0 undefined) (first_below l)
    go false true y = parity-mono l
    go false false true = invert-mono (parity vs) (parity ws) (parity-mono l)
    go false false false = ruled-mono (row_of k) (row_of-two-valued k).controlling l

invert-defined : (v : Value) → is_defined v ≡ true → is_defined (invert v) ≡ true
unfolding is_defined invert
invert-defined undefined d = d
invert-defined (val b) d = refl

value_of-defined : (n : ℕ) → n < 2 → is_defined (value_of n) ≡ true
unfolding is_defined value_of
value_of-defined zero h = refl
value_of-defined (suc zero) h = refl
value_of-defined (suc (suc n)) h = absurd (omega arith)

ruled-defined : (r : Row) (vs : List Value) → r.forced < 2 → all is_defined vs ≡ true → is_defined (ruled r vs) ≡ true
unfolding ruled
ruled-defined r vs h d = rw d (go (any (λ v. eqb (code v) r.controlling) vs))
  where
    go : (a : Bool) → is_defined (cond a (value_of r.forced) (invert (value_of r.forced))) ≡ true
    go true = value_of-defined r.forced h
    go false = invert-defined (value_of r.forced) (value_of-defined r.forced h)

parity-defined : (vs : List Value) → all is_defined vs ≡ true → is_defined (parity vs) ≡ true
unfolding parity
parity-defined vs d = rw d (value_of-defined (ones vs % 2) (omega arith))

-- Operands that are each 0 or 1, at least one of them, give 0 or 1.
pub gate_value-defined : (k : ℕ) (vs : List Value) → 0 < length vs → all is_defined vs ≡ true
    → is_defined (gate_value k vs) ≡ true
unfolding gate_value
gate_value-defined k [] h d = absurd (omega arith)
gate_value-defined k (v ∷ vs) h d = go (is_not k) (is_xor k) (is_xnor k)
  where
    go : (t x y : Bool)
        → is_defined (cond t (invert v)
        (cond x (parity (v ∷ vs)) (cond y (invert (parity (v ∷ vs))) (ruled (row_of k) (v ∷ vs))))) ≡ true
    go true x y = invert-defined v (and_left (is_defined v) (all is_defined vs) d)
    go false true y = parity-defined (v ∷ vs) d
    go false false true = invert-defined (parity (v ∷ vs)) (parity-defined (v ∷ vs) d)
    go false false false = ruled-defined (row_of k) (v ∷ vs) (row_of-two-valued k).forced d
