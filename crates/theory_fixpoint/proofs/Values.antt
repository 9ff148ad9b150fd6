-- Values, their codes and the information order. Every file of this crate cites it.
--   value_of-code, code-injective, code-le   values and their codes
--   below-refl, -trans, -antisym            the order
--   below-defined                           what is above 0 or 1 is equal to it
-- Assumes nothing.
use Prim.Native.Nat.{ℕ, ◌≤◌}
use mathlib.Core.Path.{◌≡◌, refl, ap, ◌∙◌, sym}
use mathlib.Core.Bool.{Bool, true, false}
use mathlib.Core.List.{List, [], ◌∷◌, map}
use native.Mathlib.Omega.{arith}
use Rattle.netlist.specs.Values.{Value, undefined, val, code, value_of, is_defined}
use Rattle.theory_fixpoint.specs.Order.{Below}

-- the code names the value
pub value_of-code : (v : Value) → value_of (code v) ≡ v
unfolding code value_of
value_of-code undefined = refl
value_of-code (val false) = refl
value_of-code (val true) = refl

-- the codes of a state name its values
pub values-codes : (s : List Value) → map value_of (map code s) ≡ s
values-codes [] = refl
values-codes (v ∷ s) = rw (value_of-code v, values-codes s)

-- two values with one code are one
pub code-injective : (v w : Value) → code v ≡ code w → v ≡ w
code-injective v w e = sym (value_of-code v) ∙ ap value_of e ∙ value_of-code w

-- the codes are 0, 1 and 2
pub code-le : (v : Value) → code v ≤ 2
unfolding code
code-le undefined = omega arith
code-le (val false) = omega arith
code-le (val true) = omega arith

-- undefined is no value 0 or 1
pub undefined-not-val : {b : Bool} → undefined ≡ val b → ⊥
undefined-not-val e = let z : ◌≡◌ {A = ℕ} 0 1 = cc in omega arith

-- undefined is below every value
pub undefined-below : (w : Value) → Below undefined w
undefined-below w b e = absurd (undefined-not-val e)

-- what is undefined is below every value
pub below-of-undefined : {v : Value} (w : Value) → v ≡ undefined → Below v w
below-of-undefined w e b f = absurd (undefined-not-val (sym e ∙ f))

pub below-refl : (v : Value) → Below v v
below-refl v b e = e

-- equal values are below each other
pub below-of-eq : {v w : Value} → v ≡ w → Below v w
below-of-eq e b f = sym e ∙ f

pub below-trans : {u v w : Value} → Below u v → Below v w → Below u w
below-trans h k b e = k b (h b e)

pub below-antisym : (v w : Value) → Below v w → Below w v → v ≡ w
below-antisym undefined undefined h k = refl
below-antisym undefined (val b) h k = k b refl
below-antisym (val b) w h k = sym (h b refl)

-- above a value 0 or 1 there is only itself
pub below-defined : (v w : Value) → Below v w → is_defined v ≡ true → v ≡ w
unfolding is_defined
below-defined undefined w h d = let z : ◌≡◌ {A = ℕ} 0 1 = cc in absurd (omega arith)
below-defined (val b) w h d = sym (h b refl)
