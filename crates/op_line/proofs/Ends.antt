-- The two ends of a line: what one byte more tells of each, and that they lie in order inside the text. Assumes
-- nothing.
use mathlib.Core.Path.{◌≡◌, refl, sym, ap, ◌∙◌}
use mathlib.Core.Bool.{Bool, true, false, cond}
use mathlib.Core.List.{List, [], ◌∷◌}
use Prim.Native.Nat.{ℕ, zero, suc, ◌+◌, ◌-◌, ◌≤◌, ◌<◌}
use native.Mathlib.Omega.{arith}
use lib.ListN.{length, drop, get_or, length-drop}
use lib.Seq.{drop-cons}
use lib.Dec.{eqb, ltb}
use borrow.Author.Tests.{eq-eqb, ne_eqb, ltb-false}
use Rattle.std.specs.declared.option.Option.{Option}
use Rattle.std.specs.declared.option.Option.TheVariants.{None, Some}
use Rattle.std.specs.Option.{unwrap_or}
use Rattle.std.specs.List.{position_or_len}
use Rattle.std.proofs.lemmas.List.Recursion.{is_position_or_len}
use Rattle.netlist.specs.Line.{lf, clamped, start_before, until_lf, line_start, line_end}

-- ---- a part without an LF

-- no LF among the first `n` bytes from `at` on
abbrev pub NoLf : List ℕ → ℕ → ℕ → Type 0
NoLf text at n = (k : ℕ) → k < n → get_or text (at + k) 0 ≡ lf → ⊥

-- ---- the start

module _ (text : List ℕ) where
  pub start-at : (at : ℕ) → 0 < at → get_or text (at - 1) 0 ≡ lf → start_before text at ≡ at
  unfolding start_before
  start-at at h e =
      let d : at ≡ suc (at - 1) = omega arith in
      ap (start_before text) d ∙ rw (eq-eqb (get_or text (at - 1) 0) lf e) (sym d)

  pub start-before : (at : ℕ) → 0 < at → (get_or text (at - 1) 0 ≡ lf → ⊥)
      → start_before text at ≡ start_before text (at - 1)
  unfolding start_before
  start-before at h e =
      let d : at ≡ suc (at - 1) = omega arith in
      ap (start_before text) d ∙ rw (ne_eqb (get_or text (at - 1) 0) lf e)

  -- a part without an LF, from b on
  pub start-skip : (b n : ℕ) → NoLf text b n → start_before text (b + n) ≡ start_before text b
  start-skip b zero none = ap (start_before text) (omega arith)
  start-skip b (suc n) none =
      let e : b + suc n - 1 ≡ b + n = omega arith in
      start-before (b + suc n) (omega arith) (λ h. none n (omega arith) (rw e at h))
      ∙ ap (start_before text) e
      ∙ start-skip b n (λ k l. none k (omega arith))

  pub start-le : (p : ℕ) → start_before text p ≤ p
  unfolding start_before
  start-le zero = omega arith
  start-le (suc p) = go (eqb (get_or text p 0) lf) (start-le p)
    where
      go : (b : Bool) → start_before text p ≤ p → cond b (suc p) (start_before text p) ≤ suc p
      go true h = omega arith
      go false h = omega arith

  -- ---- the end

  pub end-behind : (at : ℕ) → at < length text → (get_or text at 0 ≡ lf → ⊥)
      → at + until_lf (drop at text) ≡ suc at + until_lf (drop (suc at) text)
  unfolding until_lf
  end-behind at h e = rw (drop-cons text at 0 h, ne_eqb (get_or text at 0) lf e) (omega arith)

  -- a part without an LF
  pub end-skip : (at n : ℕ) → at + n ≤ length text → NoLf text at n
      → at + until_lf (drop at text) ≡ at + n + until_lf (drop (at + n) text)
  end-skip at zero l none = let e : at ≡ at + 0 = omega arith in ap (λ (k : ℕ). k + until_lf (drop k text)) e
  end-skip at (suc n) l none =
      let e : suc (at + n) ≡ at + suc n = omega arith in
      end-skip at n (omega arith) (λ k h. none k (omega arith))
      ∙ end-behind (at + n) (omega arith) (none n (omega arith))
      ∙ ap (λ (k : ℕ). k + until_lf (drop k text)) e

pub until-le : (s : List ℕ) → until_lf s ≤ length s
unfolding until_lf
until-le [] = omega arith
until-le (c ∷ s) = go (eqb c lf) (until-le s)
  where
    go : (b : Bool) → until_lf s ≤ length s → cond b 0 (suc (until_lf s)) ≤ suc (length s)
    go true h = omega arith
    go false h = omega arith

-- the first LF, as the library's `position` gives it
until-position : (s : List ℕ) → position_or_len (λ b. eqb b lf) s ≡ until_lf s
unfolding until_lf
until-position s = sym (is_position_or_len until_lf (λ b. eqb b lf) refl more s)
  where
    more : (x : ℕ) (xs : List ℕ) → until_lf (x ∷ xs) ≡ cond (eqb x lf) 0 (1 + until_lf xs)
    more x xs = let e : suc (until_lf xs) ≡ 1 + until_lf xs = omega arith in ap (λ (k : ℕ). cond (eqb x lf) 0 k) e

pub until-found : (s : List ℕ) (r : Option ℕ)
    → r ≡ cond (ltb (position_or_len (λ b. eqb b lf) s) (length s)) (Some (position_or_len (λ b. eqb b lf) s)) None
    → unwrap_or r (length s) ≡ until_lf s
until-found s r e = rw e (rw (until-position s) (go (ltb (until_lf s) (length s)) refl))
  where
    go : (b : Bool) → ltb (until_lf s) (length s) ≡ b → unwrap_or (cond b (Some (until_lf s)) None) (length s) ≡ until_lf s
    go true h = refl
    go false h = omega (arith, ltb-false (until_lf s) (length s) h, until-le s)

-- ---- both

module _ (text : List ℕ) (place : ℕ) where
  pub clamped-le : clamped text place ≤ length text
  unfolding clamped
  clamped-le = omega arith

  pub ends-in-order : line_start text place ≤ line_end text place
  unfolding line_start line_end
  ends-in-order = omega (arith, start-le text (clamped text place))

  pub end-inside : line_end text place ≤ length text
  unfolding line_end
  end-inside =
      omega (arith, clamped-le, until-le (drop (clamped text place) text), length-drop (clamped text place) text)
