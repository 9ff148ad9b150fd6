-- A gate's value is found operand by operand: the three-valued rule of every kind is a fold of an operation of two
-- values. Pairs of words are folded the same way, lane by lane (LaneLaws).
--   both, either, differing   the operations of `and`, `or` and `xor`
--   combined_value             a kind's operation; folded_value, finished_value   its fold, and what is inverted at the
--                             end
--   gate_value-folded          a gate's value is the fold
-- Assumes nothing.
use mathlib.Core.Path.{◌≡◌, refl, sym, ap, ◌∙◌}
use mathlib.Core.Bool.{Bool, true, false, cond, ◌&&◌, ◌||◌, not}
use mathlib.Core.List.{List, [], ◌∷◌}
use Prim.Native.Nat.{ℕ, zero, suc, ◌%◌, ◌≤◌}
use native.Mathlib.Omega.{arith}
use lib.Dec.{eqb}
use lib.ListN.{length}
use Rattle.prelude.specs.Lists.{all, any}
use Rattle.netlist.specs.Values.{Value, undefined, val, code, value_of, invert, is_defined}
use Rattle.netlist.specs.Kinds.{row_of, rows, row, is_not, is_xor, is_xnor, ruled, ones, parity, gate_value}
use Rattle.lanes_dual_rail.specs.Pairs.{is_conjunction, is_parity, inverts}

unfoldable pub both : Value → Value → Value
both (val false) w = val false
both (val true) w = w
both undefined (val false) = val false
both undefined (val true) = undefined
both undefined undefined = undefined

unfoldable pub either : Value → Value → Value
either (val true) w = val true
either (val false) w = w
either undefined (val true) = val true
either undefined (val false) = undefined
either undefined undefined = undefined

unfoldable pub differing : Value → Value → Value
differing undefined w = undefined
differing (val b) undefined = undefined
differing (val true) (val c) = val (not c)
differing (val false) (val c) = val c

unfoldable pub combined_value : ℕ → Value → Value → Value
combined_value k v w = cond (is_conjunction k) (both v w) (cond (is_parity k) (differing v w) (either v w))

unfoldable pub folded_value : ℕ → List Value → Value
folded_value k [] = val (is_conjunction k)
folded_value k (v ∷ vs) = combined_value k v (folded_value k vs)

unfoldable pub finished_value : ℕ → Value → Value
finished_value k v = cond (inverts k) (invert v) v

-- ---- each kind's rule is its fold

-- a value that the rule with controlling value c and forced value f gives, from "some operand is controlling" and "all
-- are defined"
unfoldable answered : Bool → Bool → Bool → Value
answered forced some every = cond some (val forced) (cond every (val (not forced)) undefined)

both-answered : (v : Value) (some every : Bool)
    → answered false (eqb (code v) 0 || some) (is_defined v && every) ≡ both v (answered false some every)
unfolding answered both code is_defined
both-answered undefined true every = refl
both-answered undefined false true = refl
both-answered undefined false false = refl
both-answered (val false) some every = refl
both-answered (val true) some every = refl

either-answered : (v : Value) (some every : Bool)
    → answered true (eqb (code v) 1 || some) (is_defined v && every) ≡ either v (answered true some every)
unfolding answered either code is_defined
either-answered undefined true every = refl
either-answered undefined false true = refl
either-answered undefined false false = refl
either-answered (val false) some every = refl
either-answered (val true) some every = refl

conjunction : List Value → Value
conjunction vs = answered false (any (λ v. eqb (code v) 0) vs) (all is_defined vs)

disjunction : List Value → Value
disjunction vs = answered true (any (λ v. eqb (code v) 1) vs) (all is_defined vs)

module _ (k : ℕ) where
  conjunction-folded : is_conjunction k ≡ true → (vs : List Value) → conjunction vs ≡ folded_value k vs
  unfolding conjunction answered folded_value combined_value
  conjunction-folded c [] = rw c
  conjunction-folded c (v ∷ vs) =
      both-answered v (any (λ v. eqb (code v) 0) vs) (all is_defined vs) ∙ rw (c, conjunction-folded c vs)

  disjunction-folded : is_conjunction k ≡ false → is_parity k ≡ false → (vs : List Value)
      → disjunction vs ≡ folded_value k vs
  unfolding disjunction answered folded_value combined_value
  disjunction-folded c p [] = rw c
  disjunction-folded c p (v ∷ vs) =
      either-answered v (any (λ v. eqb (code v) 1) vs) (all is_defined vs) ∙ rw (c, p, disjunction-folded c p vs)

-- parity: one more 1 turns it around
odd-next : (n : ℕ) → value_of (suc n % 2) ≡ invert (value_of (n % 2))
unfolding value_of invert
odd-next n = go (n % 2) (omega arith) refl
  where
    go : (r : ℕ) → r ≤ 1 → n % 2 ≡ r → value_of (suc n % 2) ≡ invert (value_of r)
    go zero l e = let f : suc n % 2 ≡ 1 = omega arith in rw f
    go (suc zero) l e = let f : suc n % 2 ≡ 0 = omega arith in rw f
    go (suc (suc r)) l e = absurd (omega arith)

differing-invert : (v : Value) → differing (val true) v ≡ invert v
unfolding differing invert
differing-invert undefined = refl
differing-invert (val b) = refl

differing-none : (v : Value) → differing (val false) v ≡ v
unfolding differing
differing-none undefined = refl
differing-none (val b) = refl

parity-next : (v : Value) (vs : List Value) → parity (v ∷ vs) ≡ differing v (parity vs)
unfolding parity ones is_defined code differing
parity-next undefined vs = refl
parity-next (val false) vs = sym (differing-none (parity vs))
parity-next (val true) vs = go (all is_defined vs)
  where
    go : (every : Bool)
        → cond every (value_of (suc (ones vs) % 2)) undefined
        ≡ differing (val true) (cond every (value_of (ones vs % 2)) undefined)
    go true = odd-next (ones vs) ∙ sym (differing-invert (value_of (ones vs % 2)))
    go false = refl

parity-folded : (k : ℕ) → is_conjunction k ≡ false → is_parity k ≡ true → (vs : List Value) → parity vs ≡ folded_value k vs
unfolding folded_value combined_value parity ones value_of
parity-folded k c p [] = rw c
parity-folded k c p (v ∷ vs) = parity-next v vs ∙ rw (c, p, parity-folded k c p vs)

-- ---- a gate's value

-- the rows that invert
nand-rule : (vs : List Value) → ruled (row_of 3) vs ≡ invert (conjunction vs)
unfolding ruled row_of rows row conjunction answered invert value_of
nand-rule vs = go (any (λ v. eqb (code v) 0) vs) (all is_defined vs)
  where
    go : (some every : Bool)
        → cond some (val true) (cond every (val false) undefined) ≡ invert (answered false some every)
    go true every = refl
    go false true = refl
    go false false = refl

nor-rule : (vs : List Value) → ruled (row_of 4) vs ≡ invert (disjunction vs)
unfolding ruled row_of rows row disjunction answered invert value_of
nor-rule vs = go (any (λ v. eqb (code v) 1) vs) (all is_defined vs)
  where
    go : (some every : Bool)
        → cond some (val false) (cond every (val true) undefined) ≡ invert (answered true some every)
    go true every = refl
    go false true = refl
    go false false = refl

either-none : (v : Value) → v ≡ either v (val false)
unfolding either
either-none undefined = refl
either-none (val true) = refl
either-none (val false) = refl

-- `not` is `nor` of its one operand
not-folded : (vs : List Value) → length vs ≡ 1 → gate_value 0 vs ≡ invert (folded_value 0 vs)
unfolding gate_value is_not folded_value combined_value is_conjunction is_parity
not-folded [] h = absurd (omega arith)
not-folded (v ∷ []) h = ap invert (either-none v)
not-folded (v ∷ w ∷ vs) h = absurd (omega arith)

-- of every kind
pub gate_value-folded : (k : ℕ) (vs : List Value) → k ≤ 6 → (k ≡ 0 → length vs ≡ 1)
    → gate_value k vs ≡ finished_value k (folded_value k vs)
unfolding gate_value is_not is_xor is_xnor finished_value inverts is_conjunction is_parity ruled row_of rows row value_of invert
    conjunction disjunction answered
gate_value-folded zero vs l h = not-folded vs (h refl)
gate_value-folded (suc zero) vs l h = conjunction-folded 1 refl vs
gate_value-folded (suc (suc zero)) vs l h = disjunction-folded 2 refl refl vs
gate_value-folded (suc (suc (suc zero))) vs l h = nand-rule vs ∙ ap invert (conjunction-folded 3 refl vs)
gate_value-folded (suc (suc (suc (suc zero)))) vs l h = nor-rule vs ∙ ap invert (disjunction-folded 4 refl refl vs)
gate_value-folded (suc (suc (suc (suc (suc zero))))) vs l h = parity-folded 5 refl refl vs
gate_value-folded (suc (suc (suc (suc (suc (suc zero)))))) vs l h = ap invert (parity-folded 6 refl refl vs)
gate_value-folded (suc (suc (suc (suc (suc (suc (suc k))))))) vs l h = absurd (omega arith)
