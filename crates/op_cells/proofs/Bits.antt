-- Bits that a run reads and writes: as values, and as the place in a truth word that four operands choose.
--   bit-most, bits-more, bits_of      a bit is at most 1; one bit more; bytes that passed the test
--   value_read, codes-of              bits and the values they stand for
--   place-low, place-bit              the place that four bits choose
-- Assumes nothing.
use mathlib.Core.Path.{◌≡◌, refl, sym, ◌∙◌}
use mathlib.Core.Logic.{⊎_elim}
use mathlib.Core.Bool.{true}
use mathlib.Core.List.{List, [], ◌∷◌, ◌++◌, map}
use Prim.Native.Nat.{ℕ, zero, suc, ◌≤◌, ◌<◌}
use native.Mathlib.Omega.{arith}
use lib.ListN.{length, get_or, get_or-eq_default}
use lib.Dec.{eqb, leb}
use borrow.Author.Tests.{leb-true}
use Rattle.prelude.specs.Lists.{all}
use Rattle.prelude.proofs.Tests.{lt-or-le}
use Rattle.prelude.proofs.Quantifiers.{all-at}
use Rattle.netlist.specs.Values.{undefined, val, code, value_of}
use Rattle.netlist.specs.Assignments.{bit}
use Rattle.netlist.specs.Cells.{number_of_bits}
use Rattle.theory_encoding.proofs.ListFacts.{get_d_map}
use Rattle.graph_simulation.proofs.Codes.{code-low}
use Rattle.op_cells.specs.Runs.{Bits}

pub bit-most : (m i : ℕ) → bit m i ≤ 1
unfolding bit
bit-most m i = omega arith

-- one bit more
pub bits-more : (vs : List ℕ) (v : ℕ) → Bits vs → v ≤ 1 → Bits (vs ++ (v ∷ []))
bits-more [] v h l zero = l
bits-more [] v h l (suc i) = omega arith
bits-more (w ∷ vs) v h l zero = h 0
bits-more (w ∷ vs) v h l (suc i) = bits-more vs v (λ i. h (suc i)) l i

-- bytes that are all at most 1 are bits
pub bits_of : (vs : List ℕ) → all (λ v. leb v 1) vs ≡ true → Bits vs
bits_of vs h i =
    ⊎_elim (λ l. leb-true (get_or vs i 0) 1 (all-at (λ v. leb v 1) vs i 0 h l))
    (λ l. let e : get_or vs i 0 ≡ 0 = get_or-eq_default vs 0 l in omega arith)
    (lt-or-le i (length vs))

-- ---- bits and values

pub low_value : (v : ℕ) → v ≤ 1 → val (eqb v 1) ≡ value_of v
unfolding value_of
low_value zero h = refl
low_value (suc zero) h = refl
low_value (suc (suc v)) h = absurd (omega arith)

-- what is read of bits that are there
pub value_read : (vs : List ℕ) → Bits vs → (i : ℕ) → i < length vs
    → val (eqb (get_or vs i 0) 1) ≡ get_or (map value_of vs) i undefined
value_read vs h i l = low_value (get_or vs i 0) (h i) ∙ sym (get_d_map value_of vs i 0 undefined l)

-- bits are the codes of their values
pub codes-of : (vs : List ℕ) → Bits vs → vs ≡ map code (map value_of vs)
codes-of [] h = refl
codes-of (v ∷ vs) h = rw (code-low v (omega (arith, h 0)), ← codes-of vs (λ i. h (suc i)))

-- ---- the place in a truth word

module _ (a b c d : ℕ) (ha : a ≤ 1) (hb : b ≤ 1) (hc : c ≤ 1) (hd : d ≤ 1) where
  abbrev four : List ℕ
  four = a ∷ b ∷ c ∷ d ∷ []

  pub place-low : number_of_bits four < 16
  unfolding number_of_bits
  place-low = omega arith

  pub place-bit : (i : ℕ) → i < 4 → bit (number_of_bits four) i ≡ get_or four i 0
  unfolding number_of_bits bit
  place-bit zero l = omega arith
  place-bit (suc zero) l = omega arith
  place-bit (suc (suc zero)) l = omega arith
  place-bit (suc (suc (suc zero))) l = omega arith
  place-bit (suc (suc (suc (suc i)))) l = absurd (omega arith)
