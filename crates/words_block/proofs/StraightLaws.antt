-- A block that is not malformed is straight exactly when each gate keeps its rule with only the inputs and the lower
-- gates as nodes. Assumes nothing.
use mathlib.Core.Path.{◌≡◌, refl, sym, ap, ◌∙◌}
use mathlib.Core.Logic.{⊎_elim}
use mathlib.Core.Bool.{Bool, true, false, ◌&&◌, ◌||◌}
use mathlib.Core.List.{List, map}
use Prim.Native.Nat.{ℕ, ◌+◌, ◌-◌, ◌*◌, ◌/◌, ◌≤◌, ◌<◌}
use native.Mathlib.Omega.{arith}
use lib.ListN.{get_or}
use lib.Dec.{eqb, ltb}
use borrow.Author.Tests.{lt-ltb, le-ltb, eq-eqb, ne_eqb}
use Rattle.prelude.specs.Lists.{all, up_to, tab, joined}
use Rattle.prelude.proofs.Tests.{same_test, lt-or-le, eq-or-ne}
use Rattle.prelude.proofs.Tab.{map-tab}
use Rattle.prelude.proofs.Quantifiers.{all-below, below_all, all-ext}
use Rattle.prelude.proofs.Lists.{all-joined}
use Rattle.netlist.specs.Netlist.{Operand}
use Rattle.netlist.specs.StoredBlock.{gate_size, operand_words, gates_at, operand_of, gate_at, decode, is_malformed}
use Rattle.netlist.specs.Groups.{gate_operand, read_by}
use Rattle.netlist.specs.Rendering.{is_straight}
use Rattle.theory_encoding.specs.Rules.{node_rule, operand_rule, gate_rule}
use Rattle.theory_encoding.proofs.ListFacts.{all-tab}
use Rattle.theory_encoding.proofs.Readers.{GateWhole, gate_rule-parts, whole_parts}
use Rattle.theory_encoding.proofs.Decoded.{decode-gate, decode-gate_count}
use Rattle.words_block.specs.GateSteps.{slot_rule, lower_rule_at, lower_rule}

-- gate j reads, in an operand word, no gate but a lower one
unfoldable pub lower : ℕ → ℕ → Bool
lower j i = ltb i j

pub lower-operand : (n j w : ℕ) → all (lower j) (gate_operand (operand_of n w)) ≡ operand_rule (n + j) w
unfolding lower gate_operand operand_of operand_rule node_rule
lower-operand n j w =
    ⊎_elim (λ (l : w < n). rw (lt-ltb w n l, lt-ltb w (n + j) (omega arith)))
    (λ (g : n ≤ w).
    ⊎_elim (λ (e : w ≡ 65534). rw (le-ltb w n g, eq-eqb w 65534 e) (sym (or-true (ltb w (n + j)) (eqb w 65535))))
    (λ (ne : w ≡ 65534 → ⊥).
    ⊎_elim (λ (e : w ≡ 65535). rw (le-ltb w n g, ne_eqb w 65534 ne, eq-eqb w 65535 e) (sym (or-last (ltb w (n + j)))))
    (λ (ne' : w ≡ 65535 → ⊥). rw (le-ltb w n g, ne_eqb w 65534 ne, ne_eqb w 65535 ne')
    (gate-below g ∙ sym (no-constant (ltb w (n + j)))))
    (eq-or-ne w 65535))
    (eq-or-ne w 65534))
    (lt-or-le w n)
  where
    or-true : (a b : Bool) → a || true || b ≡ true
    or-true true b = refl
    or-true false b = refl

    or-last : (a : Bool) → a || false || true ≡ true
    or-last true = refl
    or-last false = refl

    no-constant : (a : Bool) → a || false || false ≡ a
    no-constant true = refl
    no-constant false = refl

    gate-below : n ≤ w → ltb (w - n) j && true ≡ ltb w (n + j)
    gate-below g =
        ⊎_elim (λ (l : w < n + j). rw (lt-ltb w (n + j) l, lt-ltb (w - n) j (omega arith)))
        (λ (l : n + j ≤ w). rw (le-ltb w (n + j) l, le-ltb (w - n) j (omega arith))) (lt-or-le w (n + j))

-- gate j reads only lower gates exactly when its operands do
lower-gate : (n j : ℕ) (ws : List ℕ) (at : ℕ) →
    all (lower j) (joined (map gate_operand (gate_at n ws at).operands))
    ≡ all (λ i. operand_rule (n + j) (get_or ws (at + 1 + i) 0)) (up_to (get_or ws at 0 / 8))
unfolding gate_at
lower-gate n j ws at =
    all-joined (lower j) (map gate_operand (tab operand count))
    ∙ ap (all (all (lower j))) (map-tab gate_operand operand count)
    ∙ all-tab (all (lower j)) (λ i. gate_operand (operand i)) count
    ∙ all-ext (λ i. all (lower j) (gate_operand (operand i))) (λ i. operand_rule (n + j) (word i)) count
    (λ i l. lower-operand n j (word i))
  where
    word : ℕ → ℕ
    word i = get_or ws (at + 1 + i) 0

    operand : ℕ → Operand
    operand i = operand_of n (word i)

    count : ℕ
    count = get_or ws at 0 / 8

-- the rule of a gate of legal kind and count whose unused words are 0 is the rule of its operands
gate-operands : (ws : List ℕ) (nodes all-nodes at : ℕ) → gate_rule ws all-nodes at ≡ true →
    gate_rule ws nodes at ≡ all (λ i. operand_rule nodes (get_or ws (at + 1 + i) 0)) (up_to (get_or ws at 0 / 8))
unfolding gate_rule
gate-operands ws nodes all-nodes at h =
    rw (w.known, w.arity)
    (same_test (all slot (up_to operand_words)) (all operand (up_to count))
    (λ a. below_all operand count (λ i l.
    rw (lt-ltb i count l) at (all-below slot operand_words i a (omega (arith, w.count)))))
    (λ a. below_all slot operand_words (λ i l. ⊎_elim (used a i) (unused i l) (lt-or-le i count))))
  where
    w : GateWhole ws all-nodes at
    w = gate_rule-parts ws all-nodes at h

    count : ℕ
    count = get_or ws at 0 / 8

    slot : ℕ → Bool
    slot = slot_rule ws nodes at count

    operand : ℕ → Bool
    operand i = operand_rule nodes (get_or ws (at + 1 + i) 0)

    used : all operand (up_to count) ≡ true → (i : ℕ) → i < count → slot i ≡ true
    used a i l = rw (lt-ltb i count l) (all-below operand count i a l)

    unused : (i : ℕ) → i < operand_words → count ≤ i → slot i ≡ true
    unused i l g = rw (le-ltb i count g) (eq-eqb (get_or ws (at + 1 + i) 0) 0 (w.unused i g l))

-- the test of the words says "straight"
pub straight-is : (ws : List ℕ) → is_malformed ws ≡ false
    → lower_rule ws (get_or ws 0 0) (gates_at (get_or ws 0 0) (get_or ws 3 0)) (get_or ws 1 0) ≡ is_straight (decode ws)
unfolding is_straight read_by lower
straight-is ws h =
    all-ext (lower_rule_at ws n first) reads-lower m agree
    ∙ sym (ap (λ (k : ℕ). all reads-lower (up_to k)) (decode-gate_count ws))
  where
    n : ℕ
    n = get_or ws 0 0

    m : ℕ
    m = get_or ws 1 0

    first : ℕ
    first = gates_at n (get_or ws 3 0)

    reads-lower : ℕ → Bool
    reads-lower j = all (lower j) (read_by (decode ws) j)

    agree : (j : ℕ) → j < m → lower_rule_at ws n first j ≡ reads-lower j
    agree j l =
        gate-operands ws (n + j) (n + m) (first + gate_size * j) ((whole_parts ws h).gates j l)
        ∙ sym (lower-gate n j ws (first + gate_size * j))
        ∙ rw (decode-gate ws j l)
