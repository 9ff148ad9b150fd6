-- The table of all gates: what stands at each index, and which entry a gate reads.
--   table_is                an array that passes the test is the table
--   table_at                what the table holds at an index
--   operand-code-le, operand-code-at, operand-code-past   the code of an operand: its bound, a present one's, an absent
--                           one's
--   gate-entry              the entry of a gate is its value by the three-valued rule, over the kind and the operand
--                           count
--   row-entry, not_entry    the same by the row of `and`, `or`, `nand`, `nor`, and by the remainder for `not`
-- Assumes nothing.
use mathlib.Core.Path.{◌≡◌, refl, sym, ap, ◌∙◌}
use mathlib.Core.Logic.{⊎_elim}
use mathlib.Core.Bool.{Bool, true, false, ◌&&◌}
use mathlib.Core.List.{List, [], ◌∷◌, map}
use Prim.Native.Nat.{ℕ, zero, suc, ◌+◌, ◌*◌, ◌/◌, ◌%◌, ◌≤◌, ◌<◌}
use native.Mathlib.Nat.{add-zero, zero-add, not-suc-le-zero, le_of_suc-le-suc}
use native.Mathlib.Omega.{arith}
use lib.ListN.{length, get_or, get_or-eq_default}
use lib.Seq.{ext_get_or}
use lib.Dec.{eqb, leb}
use borrow.Author.Tests.{eqb-true, leb-true, ne_eqb}
use Rattle.prelude.specs.Lists.{any, keep, tab}
use Rattle.prelude.proofs.Tests.{and_left, and_right, eq-or-ne}
use Rattle.prelude.proofs.Tab.{length-tab, get_d-tab, map-tab}
use Rattle.netlist.specs.Values.{Value, undefined, val, code}
use Rattle.netlist.specs.Kinds.{row_of, is_not, is_xor, is_xnor, fewest_operands, most_operands, arity_fits, ruled, gate_value}
use Rattle.netlist.specs.GateTable.{absent, table_index, kind_at, codes_at, table_size, is_present, has_gap, present_values}
use Rattle.netlist.specs.GateTable.{entry_of, table_entry}
use Rattle.netlist.specs.GateTable.{gate_table, operand_code, gate_index}
use Rattle.words_layout.proofs.KindLaws.{not-counts, other-counts}
use Rattle.theory_fixpoint.proofs.Values.{values-codes}
use Rattle.graph_simulation.proofs.Codes.{code-most, remainder-swaps}

-- ---- the table, by one test of all its entries

-- the numbers are f i, f (i + 1), and so on
abbrev pub holds : (ℕ → ℕ) → ℕ → List ℕ → Bool
holds f i [] = true
holds f i (x ∷ xs) = eqb x (f i) && holds f (suc i) xs

holds_at : (f : ℕ → ℕ) (i : ℕ) (xs : List ℕ) → holds f i xs ≡ true → (k : ℕ) → k < length xs → get_or xs k 0 ≡ f (i + k)
holds_at f i [] t k h = absurd (not-suc-le-zero h)
holds_at f i (x ∷ xs) t zero h = rw (add-zero i) (eqb-true x (f i) (and_left (eqb x (f i)) _ t))
holds_at f i (x ∷ xs) t (suc k) h =
    holds_at f (suc i) xs (and_right (eqb x (f i)) _ t) k (le_of_suc-le-suc h) ∙ ap f (omega arith)

holds-tab : (f : ℕ → ℕ) (xs : List ℕ) (n : ℕ) → length xs ≡ n → holds f 0 xs ≡ true → xs ≡ tab f n
holds-tab f xs n l t =
    ext_get_or 0 xs (tab f n) (l ∙ sym (length-tab f n))
    (λ k h. holds_at f 0 xs t k h ∙ rw (zero-add k, get_d-tab f n k 0 (rw l at h)))

-- an array that passes the test is the table
pub table_is : (xs : List ℕ) → length xs ≡ table_size → holds table_entry 0 xs ≡ true → xs ≡ gate_table
unfolding gate_table
table_is xs l t = holds-tab table_entry xs table_size l t

pub table_at : (i : ℕ) → i < table_size → get_or gate_table i 0 ≡ table_entry i
unfolding gate_table
table_at i h = get_d-tab table_entry table_size i 0 h

-- ---- the codes of a gate's operands

pub operand-code-le : (vs : List Value) (p : ℕ) → operand_code vs p ≤ 3
unfolding operand_code
operand-code-le [] p = omega arith
operand-code-le (v ∷ vs) zero = omega (arith, code-most v)
operand-code-le (v ∷ vs) (suc p) = operand-code-le vs p

module _ (f : ℕ → Value) (count p : ℕ) where
  pub operand-code-at : p < count → operand_code (tab f count) p ≡ code (f p)
  unfolding operand_code
  operand-code-at h = rw (map-tab code f count) (get_d-tab (λ i. code (f i)) count p absent h)

  pub operand-code-past : count ≤ p → operand_code (tab f count) p ≡ absent
  unfolding operand_code
  operand-code-past h =
      rw (map-tab code f count) (get_or-eq_default (tab (λ i. code (f i)) count) absent
      (rw (length-tab (λ i. code (f i)) count) h))

-- ---- from a gate to its entry

-- n codes, absent behind the last of a list
padded : ℕ → List ℕ → List ℕ
padded zero cs = []
padded (suc n) [] = absent ∷ padded n []
padded (suc n) (c ∷ cs) = c ∷ padded n cs

four-padded : (cs : List ℕ) → get_or cs 0 absent ∷ get_or cs 1 absent ∷ get_or cs 2 absent ∷ get_or cs 3 absent ∷ []
    ≡ padded 4 cs
unfolding padded
four-padded [] = refl
four-padded (a ∷ []) = refl
four-padded (a ∷ b ∷ []) = refl
four-padded (a ∷ b ∷ c ∷ []) = refl
four-padded (a ∷ b ∷ c ∷ d ∷ cs) = refl

code-present : (v : Value) → is_present (code v) ≡ true
unfolding is_present code
code-present undefined = refl
code-present (val false) = refl
code-present (val true) = refl

none-present : (n : ℕ) → any is_present (padded n []) ≡ false
unfolding padded is_present
none-present zero = refl
none-present (suc n) = none-present n

none_kept : (n : ℕ) → keep is_present (padded n []) ≡ []
unfolding padded is_present
none_kept zero = refl
none_kept (suc n) = none_kept n

-- the operands of a gate have no gap
padded-gapless : (vs : List Value) (n : ℕ) → has_gap (padded n (map code vs)) ≡ false
unfolding padded has_gap is_present
padded-gapless vs zero = refl
padded-gapless [] (suc n) = none-present n
padded-gapless (v ∷ vs) (suc n) = rw (code-present v) (padded-gapless vs n)

-- the present codes of a padded list are all of the list
padded-kept : (vs : List Value) (n : ℕ) → length vs ≤ n → keep is_present (padded n (map code vs)) ≡ map code vs
unfolding padded
padded-kept [] n h = none_kept n
padded-kept (v ∷ vs) zero h = absurd (not-suc-le-zero h)
padded-kept (v ∷ vs) (suc n) h = rw (code-present v, padded-kept vs n (le_of_suc-le-suc h))

-- no kind has more than four operands
at-most-four : (k count : ℕ) → k ≤ 6 → arity_fits k count ≡ true → count ≤ 4
unfolding arity_fits
at-most-four k count l h = ⊎_elim none some (eq-or-ne k 0)
  where
    most : count ≤ most_operands k
    most = leb-true _ _ (and_right (leb (fewest_operands k) count) _ h)

    none : k ≡ 0 → count ≤ 4
    none e = let m : count ≤ 1 = rw (e, not-counts.1) at most in omega arith

    some : (k ≡ 0 → ⊥) → count ≤ 4
    some ne = let t = other-counts k (omega arith) l in rw t.1 at most

-- an index names its kind and its codes
index-kind : (k a b c d : ℕ) → a ≤ 3 → b ≤ 3 → c ≤ 3 → d ≤ 3 → kind_at (table_index k a b c d) ≡ k
unfolding kind_at table_index
index-kind k a b c d ha hb hc hd = omega arith

index-codes : (k a b c d : ℕ) → a ≤ 3 → b ≤ 3 → c ≤ 3 → d ≤ 3 → codes_at (table_index k a b c d) ≡ a ∷ b ∷ c ∷ d ∷ []
unfolding codes_at table_index
index-codes k a b c d ha hb hc hd =
    let i = 256 * k + a + 4 * b + 16 * c + 64 * d in
    let qb : i / 4 ≡ b + 4 * (c + 4 * d + 16 * k) = omega arith in
    let qc : i / 16 ≡ c + 4 * (d + 4 * k) = omega arith in
    let qd : i / 64 ≡ d + 4 * k = omega arith in
    let ea : i % 4 ≡ a = omega arith in
    let eb : (b + 4 * (c + 4 * d + 16 * k)) % 4 ≡ b = omega arith in
    let ec : (c + 4 * (d + 4 * k)) % 4 ≡ c = omega arith in
    let ed : (d + 4 * k) % 4 ≡ d = omega arith in
    rw (ea, qb, qc, qd, eb, ec, ed)

module _ (k : ℕ) (vs : List Value) (l : k ≤ 6) (h : arity_fits k (length vs) ≡ true) where
  padded-entry : entry_of k (padded 4 (map code vs)) ≡ code (gate_value k vs)
  unfolding entry_of present_values
  padded-entry = rw (padded-gapless vs 4, padded-kept vs 4 (at-most-four k (length vs) l h), values-codes vs, h)

  pub gate-entry : table_entry (gate_index k vs) ≡ code (gate_value k vs)
  unfolding table_entry gate_index operand_code
  gate-entry =
      let cs = map code vs in
      rw (
        index-kind k (get_or cs 0 absent) (get_or cs 1 absent) (get_or cs 2 absent) (get_or cs 3 absent) (operand-code-le vs 0)
            (operand-code-le vs 1)
            (operand-code-le vs 2) (operand-code-le vs 3),
        index-codes k (get_or cs 0 absent) (get_or cs 1 absent) (get_or cs 2 absent) (get_or cs 3 absent) (operand-code-le vs 0)
            (operand-code-le vs 1)
            (operand-code-le vs 2) (operand-code-le vs 3),
        four-padded cs,
      )
      padded-entry

  -- the four rows say the entries of their kinds
  pub row-entry : 1 ≤ k → k ≤ 4 → table_entry (gate_index k vs) ≡ code (ruled (row_of k) vs)
  unfolding gate_value is_not is_xor is_xnor
  row-entry lo hi =
      let z : eqb k 0 ≡ false = ne_eqb k 0 (omega arith) in
      let x : eqb k 5 ≡ false = ne_eqb k 5 (omega arith) in
      let y : eqb k 6 ≡ false = ne_eqb k 6 (omega arith) in
      gate-entry ∙ rw (z, x, y) refl

-- the remainder rule of Paper 4 gives the entries of `not`
pub not_entry : (v : Value) → table_entry (gate_index 0 (v ∷ [])) ≡ (2 * code v + 1) % 3
unfolding gate_value is_not arity_fits fewest_operands most_operands
not_entry v = gate-entry 0 (v ∷ []) (omega arith) (rw (not-counts.0, not-counts.1) refl) ∙ sym (remainder-swaps v)
