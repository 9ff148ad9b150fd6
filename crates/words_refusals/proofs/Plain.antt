-- The refusals that tell no place and no setting. Assumes nothing.
use mathlib.Core.Path.{◌≡◌, refl}
use Prim.Native.Nat.{ℕ}
use Rattle.netlist.specs.declared.Refusal.{Refusal}
use Rattle.netlist.specs.declared.Refusal.TheVariants.{TextTooLong, SyntaxError, OverLimit, DuplicateDeclaration}
use Rattle.netlist.specs.declared.Refusal.TheVariants.{UndeclaredName, MalformedBlock}
use Rattle.netlist.specs.declared.Refusal.TheVariants.{BadSetting, TooManyCopies, NotSettled, NotStraight, NoRoom}
use Rattle.netlist.specs.declared.Refusal.TheVariants.{InterfaceMismatch, NotAPermutation}
use Rattle.netlist.specs.Answers.{refusal_detail}

-- of the four that tell something, none is left
pub detail-none : (r : Refusal) → ((p : ℕ) → r ≡ SyntaxError p → ⊥) → ((p : ℕ) → r ≡ DuplicateDeclaration p → ⊥)
    → ((p : ℕ) → r ≡ UndeclaredName p → ⊥)
    → ((p : ℕ) → r ≡ NotSettled p → ⊥)
    → 0 ≡ refusal_detail r
unfolding refusal_detail
detail-none TextTooLong s d u n = refl
detail-none (SyntaxError p) s d u n = absurd (s p refl)
detail-none OverLimit s d u n = refl
detail-none (DuplicateDeclaration p) s d u n = absurd (d p refl)
detail-none (UndeclaredName p) s d u n = absurd (u p refl)
detail-none MalformedBlock s d u n = refl
detail-none BadSetting s d u n = refl
detail-none TooManyCopies s d u n = refl
detail-none (NotSettled p) s d u n = absurd (n p refl)
detail-none NotStraight s d u n = refl
detail-none NoRoom s d u n = refl
detail-none InterfaceMismatch s d u n = refl
detail-none NotAPermutation s d u n = refl
