-- Chains of iterators over the numbers below a bound, `(0..n)`, and over slices: what `all` and the like answer, in the
-- words of specs/Lists.antt. Assumes nothing.
use mathlib.Core.Path.{◌≡◌, refl, sym, ap, subst, ◌∙◌}
use mathlib.Core.Bool.{Bool, true, false, ◌&&◌, cond}
use mathlib.Core.List.{List, [], ◌∷◌, ◌++◌}
use Prim.Native.Nat.{ℕ, zero, suc, ◌+◌}
use native.Mathlib.Omega.{arith}
use Rattle.std.specs.declared.ops.Range.{Range}
use Rattle.std.proofs.iter.Yields.{nat_range_steps}
use denote.Param.Members.{Mut}
use Rattle.std.specs.List.{list_all, FoldsTo, range_with_len, find}
use Rattle.std.specs.declared.option.Option.{Option}
use Rattle.std.specs.Option.{MatchOption, unwrap_or, option_map}
use Rattle.std.specs.Bool.{⊤}
use Rattle.std.specs.declared.option.Option.TheVariants.{None, Some}
use Rattle.std.specs.Fn.{Called, CalledAt}
use denote.Ref.{Bor}
use Rattle.std.specs.Iterator.{YieldsThen}
use Rattle.std.proofs.lemmas.Iterator.{YieldsList-from_range}
use Rattle.std.proofs.lemmas.Iterator.Search.{all_from_yields_List, find_from_yields_List}
use Rattle.std.proofs.lemmas.List.{map-id}
use Rattle.std.proofs.lemmas.List.FromFn.{map-range_with_len_more}
use Rattle.prelude.specs.Lists.{all, up_to, least, least_from}

-- the library's test of a whole list is ours
pub list_all-all : {A : Type 0} (p : A → Bool) (xs : List A) → list_all p xs ≡ all p xs
list_all-all p [] = refl
list_all-all p (x ∷ xs) = ap (λ b. p x && b) (list_all-all p xs)

-- the numbers below a bound, as the library lists them
pub range-up_to : (n : ℕ) → range_with_len 0 n ≡ up_to n
range-up_to zero = refl
range-up_to (suc n) =
    let e : n + 1 ≡ suc n = omega arith in
    subst (λ k. range_with_len 0 k ≡ up_to n ++ n ∷ []) e
    (sym (map-id (range_with_len 0 (n + 1))) ∙ map-range_with_len_more (λ k. k) 0 n n (omega arith)
    ∙ ap (λ xs. xs ++ n ∷ []) (map-id (range_with_len 0 n) ∙ range-up_to n))

-- `(0..n).all(..)`, where the closure computes the test p of each number
pub all-of_range : {F : Type 0} {g : Mut F (ℕ × Unit {0}) Bool} {u : Range ℕ} {f : F} {r : Bool} (p : ℕ → Bool) (n : ℕ)
    → (xs : List ℕ) × (o : Option ℕ) × (j : F) × YieldsThen nat_range_steps (record { start = 0; end = n }) xs o u
    × FoldsTo (λ p x q. Called g p (x, tt) true q) f xs j
    × MatchOption o (r ≡ true) (λ x. (r ≡ false) × ((h : F) × Called g j (x, tt) false h))
    → ((x : ℕ) (b : Bool) (q : F) → Called g f (x, tt) b q → (q ≡ f) × (b ≡ p x))
    → r ≡ all p (up_to n)
all-of_range {u = u} {f = f} {r = r} p n ran computes =
    all_from_yields_List p u f r ran (YieldsList-from_range 0 n n refl (omega arith)) computes
    ∙ list_all-all p (range_with_len 0 n) ∙ ap (all p) (range-up_to n)

-- the first of the numbers from k on that passes, or their end, as the library's `find` and `unwrap_or` give it
found-turn : (b : Bool) (k x : ℕ) (o : Option ℕ) (e : ℕ) → unwrap_or o e ≡ x
    → unwrap_or (cond b (Some k) o) e ≡ cond b k x
found-turn true k x o e h = refl
found-turn false k x o e h = h

found-least : (p : ℕ → Bool) (k n e : ℕ) → k + n ≡ e → unwrap_or (find p (range_with_len k n)) e ≡ least_from p k n
found-least p k zero e h = omega (arith, h)
found-least p k (suc n) e h =
    let s : k + 1 ≡ suc k = omega arith in
    found-turn (p k) k (least_from p (suc k) n) (find p (range_with_len (k + 1) n)) e
    (subst (λ j. unwrap_or (find p (range_with_len (k + 1) n)) e ≡ least_from p j n) s
    (found-least p (k + 1) n e (omega (arith, h))))

pub same-option : (r : Option ℕ) {o : Option ℕ} → option_map (λ x. x) r ≡ o → r ≡ o
same-option None h = h
same-option (Some x) h = h

-- `(0..n).find(..).unwrap_or(n)`, where the closure computes the test p of each number
pub least-of_range : {F : Type 0} {g : Mut F (Bor ℕ × Unit {0}) Bool} (u : Range ℕ) {f : F} (r : Option ℕ) (p : ℕ → Bool)
    (n : ℕ)
    → (xs : List ℕ) × (j : F) × YieldsThen nat_range_steps (record { start = 0; end = n }) xs r u
    × FoldsTo (λ p x q. CalledAt g p x false q) f xs j
    × MatchOption r ⊤ (λ x. (h : F) × CalledAt g j x true h)
    → ((x : ℕ) (b : Bool) (q : F) → CalledAt g f x b q → (q ≡ f) × (b ≡ p x))
    → unwrap_or r n ≡ least p n
least-of_range u {f = f} r p n ran computes =
    let same : r ≡ find p (range_with_len 0 n) =
    same-option r (find_from_yields_List p u f r ran (YieldsList-from_range 0 n n refl (omega arith)) computes) in
    ap (λ o. unwrap_or o n) same ∙ found-least p 0 n n (omega arith)
