-- What the functions answer, way by way. Assumes nothing.
use mathlib.Core.Path.{◌≡◌, refl, ap, ◌∙◌}
use native.Mathlib.Omega.{arith}
use Rattle.prelude.specs.Lists.{IfBelow}
use Rattle.text_names.proofs.Packing.{front-is}
use mathlib.Core.List.{List}
use Prim.Native.Nat.{ℕ, ◌-◌}
use lib.ListN.{length, get_or, take}
use Rattle.std.specs.declared.option.Option.{Option}
use Rattle.std.specs.declared.option.Option.TheVariants.{None, Some}
use Rattle.std.specs.Option.{option_or}
use borrow.Author.Tests.{ne_eqb, lt-ltb, le-ltb}
use Rattle.text_names.specs.Packed.{packed, name_front}
use Rattle.text_names.specs.Search.{index_of}
use Rattle.text_expressions.specs.declared.leaves.Leaf.{Leaf}
use Rattle.text_expressions.specs.Leaves.{name_length, index_here, name_here, constant_here, leaf_here}

pub or-none : (u : Option ℕ) → option_or u None ≡ u
or-none None = refl
or-none (Some k) = refl

pub or-assoc : (u v w : Option ℕ) → option_or (option_or u v) w ≡ option_or u (option_or v w)
or-assoc None v w = refl
or-assoc (Some k) v w = refl

module _ (s names words : List ℕ) (unknown : Option ℕ) where
  pub leaf-0 : get_or s 0 0 ≡ 48 → constant_here s 65534 unknown ≡ leaf_here s names words unknown
  unfolding leaf_here
  leaf-0 e = rw e

  pub leaf-1 : get_or s 0 0 ≡ 49 → constant_here s 65535 unknown ≡ leaf_here s names words unknown
  unfolding leaf_here
  leaf-1 e = rw e

  pub leaf-name : (get_or s 0 0 ≡ 48 → ⊥) → (get_or s 0 0 ≡ 49 → ⊥)
      → name_here s names words unknown ≡ leaf_here s names words unknown
  unfolding leaf_here
  leaf-name a b = rw (ne_eqb (get_or s 0 0) 48 a, ne_eqb (get_or s 0 0) 49 b)

  module _ {l p : ℕ} (a : l ≡ length (name_front 8 s)) (b : p ≡ packed (take l s)) where
    here : p ≡ packed (name_front 8 s)
    here = b ∙ ap packed (ap (λ k. take k s) a ∙ front-is 8 s)

    pub name-found : {i : ℕ} → IfBelow (index_of names (length names) p) (length names) (Some i)
        → ◌≡◌ {A = Leaf} (record { left = length s - l; word = get_or words i 0; unknown = unknown })
        (name_here s names words unknown)
    unfolding name_here name_length index_here
    name-found (h, d) = rw (a, ← here, d, lt-ltb (index_of names (length names) p) (length names) h, or-none unknown)

    pub name-unknown : {u : Option ℕ} → IfBelow (index_of names (length names) p) (length names) None
        → u ≡ option_or unknown (Some (length s))
        → ◌≡◌ {A = Leaf} (record { left = length s - l; word = 65534; unknown = u }) (name_here s names words unknown)
    unfolding name_here name_length index_here
    name-unknown h e =
        rw (e, a, ← here, le-ltb (index_of names (length names) p) (length names) (omega (arith, h)))
