-- Chains of iterators over the numbers below a bound, `(0..n)`: what holds of each number where `all` answers true,
-- and of what `find_map` answers. Assumes nothing.
use mathlib.Core.Path.{◌≡◌, refl, ap, subst, ◌∙◌}
use mathlib.Core.Bool.{Bool, true, false}
use mathlib.Core.List.{List}
use Prim.Native.Nat.{ℕ, ◌+◌, ◌-◌, ◌<◌}
use native.Mathlib.Nat.{zero-add}
use native.Mathlib.Omega.{arith}
use lib.ListN.{length}
use denote.Param.Members.{Mut}
use Rattle.std.specs.declared.ops.Range.{Range}
use Rattle.std.specs.declared.option.Option.{Option}
use Rattle.std.specs.declared.option.Option.TheVariants.{None, Some}
use Rattle.std.specs.Option.{MatchOption, IfSome, IsSomeAnd, option_map, unwrap_or}
use Rattle.std.specs.Bool.{IsTrue}
use Rattle.std.specs.List.{FoldsTo, AllWithin}
use Rattle.std.specs.Fn.{Called}
use Rattle.std.specs.Iterator.{YieldsThen}
use Rattle.std.specs.Iterator.Runs.{SomeRun, AllItemsGive, IsFirstToGive, CallKeepsClosure}
use Rattle.std.proofs.iter.Yields.{nat_range_steps}
use Rattle.std.proofs.iter.runs.Sources.{range_runs}
use Rattle.std.proofs.lemmas.Iterator.{cases_from_all, YieldsList-from_range}
use Rattle.prelude.specs.Lists.{up_to}
use Rattle.prelude.proofs.Ranges.{range-up_to}
use Rattle.prelude.proofs.Tab.{length-tab, get_d-tab}

-- `(0..n).all(..)`, where the closure answers true at x only if P holds of x
pub each-of_range : {F : Type 0} {g : Mut F (ℕ × Unit {0}) Bool} {u : Range ℕ} {f : F} {r : Bool} (P : ℕ → Type 0)
    (n : ℕ)
    → (xs : List ℕ) × (o : Option ℕ) × (j : F) × YieldsThen nat_range_steps (record { start = 0; end = n }) xs o u
    × FoldsTo (λ p x q. Called g p (x, tt) true q) f xs j
    × MatchOption o (r ≡ true) (λ x. (r ≡ false) × ((h : F) × Called g j (x, tt) false h))
    → ((x : ℕ) (q : F) → Called g f (x, tt) true q → (q ≡ f) × P x)
    → r ≡ true → (x : ℕ) → x < n → P x
each-of_range {u = u} {f = f} {r = r} P n ran holds e x l =
    let found =
    cases_from_all u f r P (λ x. Unit {0}) ran (YieldsList-from_range 0 n n refl (omega arith)) holds (λ x q k. tt) in
    let within : AllWithin P (up_to n) 0 (length (up_to n)) = rw (e, range-up_to n) at found in
    rw (get_d-tab (λ k. k) n x 0 l) at (within x 0 (omega arith) (rw (length-tab (λ k. k) n) l))

none-some : {n : ℕ} → None ≡ Some n → ⊥
none-some e = cc

some-same : {z x : ℕ} → Some z ≡ Some (0 + x) → z ≡ x
some-same {x = x} e = ap (λ o. unwrap_or o 0) e ∙ zero-add x

-- `(0..n).find_map(..)`, where the closure answers `None` at x only if No holds of x, and `Some y` only if Yes holds
-- of y
pub find_map-of_range : {F B : Type 0} {g : Mut F (ℕ × Unit {0}) (Option B)} {f : F} (r : Option B) (No : ℕ → Type 0)
    (Yes : B → Type 0) (n : ℕ)
    → SomeRun nat_range_steps (record { start = 0; end = n })
    (λ p. MatchOption r (IsTrue p.whole × AllItemsGive p g f None)
    (λ y. (i : ℕ) × (i < p.len) × (p.len ≡ i + 1) × IsFirstToGive p g f (Some y) None i))
    → CallKeepsClosure g f
    → ((x : ℕ) (q : F) → Called g f (x, tt) None q → No x)
    → ((x : ℕ) (y : B) (q : F) → Called g f (x, tt) (Some y) q → Yes y)
    → MatchOption r ((x : ℕ) → x < n → No x) Yes
find_map-of_range {g = g} {f = f} None No Yes n run keeps misses hits =
    λ x l.
    let up = range_runs run.0 run.0.seen in
    let long : run.0.len ≡ n - 0 = rw run.1 at (up.1 run.2.0) in
    let at_x : option_map (λ y. y) (run.0.at x) ≡ Some (0 + x) = rw run.1 at (up.3 x (omega arith)) in
    here x (run.0.at x) at_x (run.2.1 keeps x)
  where
    here : (x : ℕ) (o : Option ℕ) → option_map (λ y. y) o ≡ Some (0 + x) → IfSome o (λ x. Called g f (x, tt) None f)
        → No x
    here x None e k = absurd (none-some e)
    here x (Some z) e k = subst No (some-same e) (misses z f k)
find_map-of_range {g = g} {f = f} (Some y) No Yes n run keeps misses hits =
    here (run.0.at run.2.0) (run.2.3 keeps).0
  where
    here : (o : Option ℕ) → IsSomeAnd o (λ x. Called g f (x, tt) (Some y) f) → Yes y
    here None k = absurd k
    here (Some z) k = hits z y f k
