-- Never lines at all lanes of a batch.
--   free-tells, one-tells, zero-tells   an input that is not fixed, fixed at 1, fixed at 0
--   agrees-none, agrees-more            one input more of an assignment
--   lines_none, lines_more, lines-all   one never line more of a block
--   coming-tells                        the settings that may come
-- Assumes nothing.
use mathlib.Core.Path.{◌≡◌, refl, sym, ◌∙◌}
use mathlib.Core.Bool.{Bool, true, false, not, ◌&&◌, ◌||◌}
use mathlib.Core.List.{List, [], ◌∷◌}
use Prim.Native.Nat.{ℕ, zero, suc, ◌+◌, ◌*◌, ◌%◌, ◌<◌, min}
use native.Mathlib.Numerals.{add-one}
use native.Mathlib.Omega.{arith}
use lib.Bits.{bit_and, bit_or, bit_xor, and_le_r}
use lib.Dec.{eqb}
use lib.ListN.{get_or}
use lib.Pow.{ones_lt}
use borrow.Author.Tests.{ne_eqb}
use Rattle.prelude.specs.Lists.{any, tab, up_to}
use Rattle.prelude.proofs.Quantifiers.{all_append, any_append}
use Rattle.netlist.specs.Assignments.{bit, Assignment, fixes, agrees}
use Rattle.netlist.specs.Netlist.{Block}
use Rattle.netlist.specs.StoredBlock.{never_size, nevers_at, never_at, decode}
use Rattle.netlist.specs.Rounds.{is_excluded}
use Rattle.theory_encoding.proofs.Decoded.{decode-input_count}
use Rattle.lanes_dual_rail.specs.Pairs.{full}
use Rattle.lanes_dual_rail.specs.Batches.{lanes_of, pattern, input_pair}
use Rattle.lanes_dual_rail.proofs.BitLaws.{bit-low, bit-and, bit-full}
use Rattle.lanes_dual_rail.proofs.InputLaws.{lanes_of-most, pattern-bit}
use Rattle.lanes_dual_rail.specs.Words.{has_lane, Tells}
use Rattle.lanes_settings.specs.Nevers.{agrees_at, may_come}
use Rattle.lanes_dual_rail.proofs.WordLaws.{tells_as, tells_all, tells_none, tells-and, tells-or, tells-not}

-- ---- one input

cut-one : (b : ℕ) → b < 2 → min b 1 ≡ b
cut-one zero h = refl
cut-one (suc zero) h = refl
cut-one (suc (suc b)) h = absurd (omega arith)

module _ (n base : ℕ) (aligned : base % 64 ≡ 0) (i : ℕ) where
  input-ones : Tells (lanes_of n) base (λ s. eqb (bit s i) 1) (input_pair n base i).ones
  unfolding input_pair has_lane full
  input-ones =
      record {
        within = omega (arith, and_le_r (pattern base i) (full (lanes_of n)), ones_lt (lanes_of n));
        each = λ s l.
            let few : s < 64 = omega (arith, lanes_of-most n) in
            let both = bit-and (pattern base i) (full (lanes_of n)) s in
            let cut = cut-one (bit (base + s) i) (bit-low (base + s) i) in
            rw (both, bit-full (lanes_of n) s l, pattern-bit base s i aligned few, cut);
      }

  input-zeros : Tells (lanes_of n) base (λ s. not (eqb (bit s i) 1)) (input_pair n base i).zeros
  unfolding input_pair
  input-zeros = tells-not input-ones

  module _ (a : Assignment) where
    pub free-tells : (bit a.fixed i ≡ 1 → ⊥) → Tells (lanes_of n) base (agrees_at a i) (full (lanes_of n))
    unfolding agrees_at fixes
    free-tells h = tells_as (λ s. rw (ne_eqb _ _ h)) tells_all

    pub one-tells : bit a.fixed i ≡ 1 → bit a.ones i ≡ 1
        → Tells (lanes_of n) base (agrees_at a i) (input_pair n base i).ones
    unfolding agrees_at fixes
    one-tells h e = tells_as (λ s. rw (h, e)) input-ones

    pub zero-tells : bit a.fixed i ≡ 1 → (bit a.ones i ≡ 1 → ⊥)
        → Tells (lanes_of n) base (agrees_at a i) (input_pair n base i).zeros
    unfolding agrees_at fixes
    zero-tells h e =
        let z : bit a.ones i ≡ 0 = omega (arith, bit-low a.ones i, e) in
        tells_as (λ s. rw (h, z) (other (bit s i) (bit-low s i))) input-zeros
      where
        other : (d : ℕ) → d < 2 → not (eqb d 1) ≡ eqb d 0
        other zero l = refl
        other (suc zero) l = refl
        other (suc (suc d)) l = absurd (omega arith)

-- ---- one input more

and-end : (a b : Bool) → a && b ≡ a && (b && true)
and-end a true = refl
and-end a false = refl

or-end : (a b : Bool) → a || b ≡ a || (b || false)
or-end a true = refl
or-end a false = refl

module _ {lanes base : ℕ} where
  pub agrees-none : (a : Assignment) → Tells lanes base (agrees 0 a) (full lanes)
  unfolding agrees
  agrees-none a = tells_as (λ s. refl) tells_all

  pub agrees-more : (a : Assignment) (i : ℕ) {v w : ℕ} → Tells lanes base (agrees i a) v
      → Tells lanes base (agrees_at a i) w
      → Tells lanes base (agrees (i + 1) a) (bit_and v w)
  unfolding agrees agrees_at
  agrees-more a i t u =
      tells_as
      (λ s. rw (add-one i)
      (and-end (agrees i a s) (agrees_at a i s) ∙ sym (all_append (λ k. agrees_at a k s) (up_to i) (i ∷ [])))) (tells-and t
      u)

-- ---- one line more

module _ (ws : List ℕ) where
  unfoldable pub line_at : ℕ → Assignment
  line_at i = never_at ws (nevers_at (get_or ws 0 0) + never_size * i)

  -- setting number s agrees with one of the first lines
  unfoldable pub excluded_by : ℕ → ℕ → Bool
  excluded_by i s = any (λ a. agrees (get_or ws 0 0) a s) (tab line_at i)

  module _ {lanes base : ℕ} where
    pub lines_none : Tells lanes base (excluded_by 0) 0
    unfolding excluded_by
    lines_none = tells_as (λ s. refl) tells_none

    pub lines_more : (i : ℕ) {n v w : ℕ} → n ≡ get_or ws 0 0 → Tells lanes base (excluded_by i) v
        → Tells lanes base (agrees n (line_at i)) w
        → Tells lanes base (excluded_by (i + 1)) (bit_or v w)
    unfolding excluded_by
    lines_more i e t u =
        tells_as
        (λ s. rw (add-one i)
        (or-end (excluded_by i s) (agrees (get_or ws 0 0) (line_at i) s)
        ∙ sym (any_append (λ a. agrees (get_or ws 0 0) a s) (tab line_at i) (line_at i ∷ []))))
        (tells-or t (rw e at u))

    pub lines-all : {w : ℕ} → Tells lanes base (excluded_by (get_or ws 3 0)) w
        → Tells lanes base (is_excluded (decode ws)) w
    unfolding excluded_by is_excluded decode line_at
    lines-all t = tells_as (λ s. rw (decode-input_count ws)) t

-- the others may come
pub coming-tells : {lanes base : ℕ} (b : Block) {w : ℕ} → Tells lanes base (is_excluded b) w
    → Tells lanes base (may_come b) (bit_xor (full lanes) w)
unfolding may_come
coming-tells b t = tells_as (λ s. refl) (tells-not t)
