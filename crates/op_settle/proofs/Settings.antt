-- Which settings are bad, by length and bytes, and what a setting that passes has. Assumes nothing.
use mathlib.Core.Path.{◌≡◌, refl, sym, ap, ◌∙◌}
use mathlib.Core.Logic.{⊎_elim}
use mathlib.Core.Bool.{Bool, true, false, not}
use mathlib.Core.List.{List}
use Prim.Native.Nat.{ℕ, ◌≤◌}
use native.Mathlib.Omega.{arith}
use lib.ListN.{length, get_or, get_or-eq_default}
use lib.Dec.{eqb}
use borrow.Author.Tests.{eq-eqb, ne_eqb, leb-true, eqb-true}
use Rattle.prelude.specs.Lists.{all}
use Rattle.prelude.proofs.Tests.{lt-or-le, or-neither}
use Rattle.prelude.proofs.Quantifiers.{all-at}
use Rattle.netlist.specs.Limits.{max_inputs}
use Rattle.netlist.specs.StoredBlock.{decode, is_malformed}
use Rattle.netlist.specs.Operations.{is_bad_setting}
use Rattle.theory_encoding.proofs.Decoded.{decode-input_count}
use Rattle.theory_encoding.proofs.Readers.{whole_parts}
use Rattle.graph_simulation.specs.Rounded.{Bytes}
use Rattle.op_settle.specs.Tests.{at_most, is_bad_bytes}

module _ (n most : ℕ) (setting : List ℕ) where
  -- not one byte for each input
  pub bad-length : (length setting ≡ n → ⊥) → is_bad_bytes n most setting ≡ true
  unfolding is_bad_bytes
  bad-length h = rw (ne_eqb (length setting) n h)

  -- a byte that is too high
  pub bad-bytes : length setting ≡ n → is_bad_bytes n most setting ≡ not (all (at_most most) setting)
  unfolding is_bad_bytes
  bad-bytes e = rw (eq-eqb (length setting) n e)

-- the setting of a block, in three values
pub bad-setting : (ws setting : List ℕ) → is_bad_setting (decode ws) setting ≡ is_bad_bytes (get_or ws 0 0) 2 setting
unfolding is_bad_setting is_bad_bytes
bad-setting ws setting = ap (λ (n : ℕ). is_bad_bytes n 2 setting) (decode-input_count ws)

-- what the test of a setting says
pub good-bytes : (n : ℕ) (setting : List ℕ) → n ≤ max_inputs → is_bad_bytes n 2 setting ≡ false → Bytes setting
unfolding is_bad_bytes
good-bytes n setting few h =
    let both = or-neither (not (eqb (length setting) n)) (not (all (at_most 2) setting)) h in
    let long : length setting ≡ n = eqb-true (length setting) n (not-not _ both.0) in
    record { few = omega arith; most = most (not-not _ both.1) }
  where
    not-not : (b : Bool) → not b ≡ false → b ≡ true
    not-not true e = refl
    not-not false e = sym e

    most : all (at_most 2) setting ≡ true → (i : ℕ) → get_or setting i 0 ≤ 2
    most a i =
        ⊎_elim
        (λ l. leb-true (get_or setting i 0) 2 (all-at (at_most 2) setting i 0 a l))
        (λ l. let e : get_or setting i 0 ≡ 0 = get_or-eq_default setting 0 l in omega arith)
        (lt-or-le i (length setting))

-- of a block that is not malformed
pub good-setting : (ws setting : List ℕ) → is_malformed ws ≡ false → is_bad_setting (decode ws) setting ≡ false
    → Bytes setting
good-setting ws setting whole h =
    good-bytes (get_or ws 0 0) setting (whole_parts ws whole).few_inputs (sym (bad-setting ws setting) ∙ h)
