-- Gates in the stored block: the rule on five words is "the gate fits and its unused operand words are 0", and a gate
-- and its words are each other's. Cited by Outputs, RoundTrip, Readers. Assumes nothing.
use mathlib.Core.Path.{◌≡◌, refl, sym, ap, ap₂, ◌∙◌}
use mathlib.Core.Logic.{⊎_elim}
use mathlib.Core.Bool.{Bool, true, false, cond, ◌&&◌}
use mathlib.Core.List.{List, ◌∷◌, map}
use Prim.Native.Nat.{ℕ, zero, suc, ◌+◌, ◌*◌, ◌/◌, ◌%◌, ◌≤◌, ◌<◌}
use native.Mathlib.Nat.{add-zero, add_assoc}
use native.Mathlib.Omega.{arith}
use lib.ListN.{length, get_or, length-map, get_or-eq_default}
use lib.Dec.{eqb, leb, ltb}
use borrow.Author.Tests.{eqb-true, leb-true, lt-ltb, le-ltb, eq-eqb}
use Rattle.prelude.specs.Lists.{all, tab, up_to}
use Rattle.prelude.proofs.Tests.{and_left, and_right, and_intro, lt-or-le}
use Rattle.prelude.proofs.Tab.{length-tab, get_d-tab, tab-ext, map-tab, tab-add}
use Rattle.prelude.proofs.Quantifiers.{all-at, all-tab-at, all-tab-from, all-below, below_all}
use Rattle.netlist.specs.Kinds.{is_kind, arity_fits, most_operands, fewest_operands, signature_of}
use Rattle.netlist.specs.Netlist.{Operand, constant, Gate, Block, input_count, gate_count}
use Rattle.netlist.specs.StoredBlock.{gate_size, operand_words, node_word, operand_of, gate_words, gate_at, is_operand}
use Rattle.netlist.specs.StoredBlock.{gate_fits}
use Rattle.theory_encoding.specs.Rules.{operand_rule, gate_rule}
use Rattle.theory_encoding.proofs.ListFacts.{tab-is, get_d_map}
use Rattle.theory_encoding.proofs.Nodes.{node_word-operand_of, operand_of-node_word, is_operand-operand_of}

-- ---- kinds and counts

pub kind-small : (k : ℕ) → is_kind k ≡ true → k ≤ 6
unfolding is_kind
kind-small k h = leb-true k 6 h

-- what holds of each kind holds of all
pub by_kind : (P : ℕ → Type 0) → P 0 → P 1 → P 2 → P 3 → P 4 → P 5 → P 6 → (k : ℕ) → is_kind k ≡ true → P k
by_kind P not and or nand nor xor xnor zero h = not
by_kind P not and or nand nor xor xnor (suc zero) h = and
by_kind P not and or nand nor xor xnor (suc (suc zero)) h = or
by_kind P not and or nand nor xor xnor (suc (suc (suc zero))) h = nand
by_kind P not and or nand nor xor xnor (suc (suc (suc (suc zero)))) h = nor
by_kind P not and or nand nor xor xnor (suc (suc (suc (suc (suc zero))))) h = xor
by_kind P not and or nand nor xor xnor (suc (suc (suc (suc (suc (suc zero)))))) h = xnor
by_kind P not and or nand nor xor xnor (suc (suc (suc (suc (suc (suc (suc k))))))) h =
    absurd (omega (arith, kind-small (suc (suc (suc (suc (suc (suc (suc k))))))) h))

pub most-four : (k : ℕ) → most_operands k ≤ operand_words
unfolding most_operands signature_of
most-four zero = omega arith
most-four (suc zero) = omega arith
most-four (suc (suc zero)) = omega arith
most-four (suc (suc (suc zero))) = omega arith
most-four (suc (suc (suc (suc zero)))) = omega arith
most-four (suc (suc (suc (suc (suc zero))))) = omega arith
most-four (suc (suc (suc (suc (suc (suc zero)))))) = omega arith
most-four (suc (suc (suc (suc (suc (suc (suc k))))))) = omega arith

-- no gate has more than four operands
pub arity-four : (k count : ℕ) → arity_fits k count ≡ true → count ≤ operand_words
unfolding arity_fits
arity-four k count h = omega (
  arith,
  most-four k,
  leb-true count (most_operands k) (and_right (leb (fewest_operands k) count) (leb count (most_operands k)) h),
)

-- `not` has one operand
pub arity-not : (count : ℕ) → arity_fits 0 count ≡ true → count ≡ 1
unfolding arity_fits most_operands fewest_operands signature_of
arity-not count h = omega (
  arith,
  leb-true 1 count (and_left (leb 1 count) (leb count 1) h),
  leb-true count 1 (and_right (leb 1 count) (leb count 1) h),
)

fewest-two : (k : ℕ) → is_kind k ≡ true → 1 ≤ k → fewest_operands k ≡ 2
unfolding fewest_operands signature_of
fewest-two =
    by_kind (λ k. 1 ≤ k → fewest_operands k ≡ 2) (λ l. absurd (omega arith)) (λ _. refl) (λ _. refl) (λ _. refl)
    (λ _. refl) (λ _. refl)
    (λ _. refl)

-- the other kinds have two at least
pub arity-others : (k count : ℕ) → is_kind k ≡ true → 1 ≤ k → arity_fits k count ≡ true → 2 ≤ count
unfolding arity_fits
arity-others k count h l e =
    omega (
      arith,
      fewest-two k h l,
      leb-true (fewest_operands k) count (and_left (leb (fewest_operands k) count) (leb count (most_operands k)) e),
    )

-- ---- a gate's five words

pub length-gate_words : (n : ℕ) (g : Gate) → length (gate_words n g) ≡ gate_size
unfolding gate_words
length-gate_words n g = refl

-- the operand words that the count leaves out are 0
abbrev pub Unused : List ℕ → ℕ → Type 0
Unused ws at = (i : ℕ) → get_or ws at 0 / 8 ≤ i → i < operand_words → get_or ws (at + 1 + i) 0 ≡ 0

-- past the last operand the word is 0
pub no-operand-word : (n : ℕ) (os : List Operand) (i : ℕ) → length os ≤ i → get_or (map (node_word n) os) i 0 ≡ 0
no-operand-word n os i l = get_or-eq_default (map (node_word n) os) 0 (rw (length-map os (node_word n)) l)

-- the words of a gate read from words are those words, if the unused ones are 0
pub gate_words-gate_at : (n : ℕ) (ws : List ℕ) (at : ℕ)
    → Unused ws at → gate_words n (gate_at n ws at) ≡ tab (λ i. get_or ws (at + i) 0) gate_size
unfolding gate_words gate_at
gate_words-gate_at n ws at unused =
    ap₂ ◌∷◌ head (tab-ext (λ i. get_or (map (node_word n) (tab operand count)) i 0) (λ i. get_or ws (at + (1 + i)) 0)
    operand_words tail)
    ∙ sym (tab-add (λ i. get_or ws (at + i) 0) 1 operand_words)
  where
    count : ℕ
    count = get_or ws at 0 / 8

    operand : ℕ → Operand
    operand i = operand_of n (get_or ws (at + 1 + i) 0)

    head : get_or ws at 0 % 8 + 8 * length (tab operand count) ≡ get_or ws (at + 0) 0
    head = rw (length-tab operand count, add-zero at) (omega arith)

    tail : (i : ℕ) → i < operand_words → get_or (map (node_word n) (tab operand count)) i 0 ≡ get_or ws (at + (1 + i)) 0
    tail i l =
        ⊎_elim
        (λ k. rw (
          map-tab (node_word n) operand count,
          get_d-tab (λ i. node_word n (operand i)) count i 0 k,
          node_word-operand_of n (get_or ws (at + 1 + i) 0),
          add_assoc at 1 i,
        ))
        (λ k. no-operand-word n (tab operand count) i (rw (length-tab operand count) k) ∙ sym (unused i k l)
        ∙ rw (add_assoc at 1 i))
        (lt-or-le i count)

-- a gate's words stand at `at`
abbrev pub GateStands : ℕ → List ℕ → ℕ → Gate → Type 0
GateStands n ws at g = (i : ℕ) → i < gate_size → get_or ws (at + i) 0 ≡ get_or (gate_words n g) i 0

module _ (n : ℕ) (ws : List ℕ) (at : ℕ) (g : Gate) (standing : GateStands n ws at g) where
  head-word : get_or ws at 0 ≡ g.kind + 8 * length g.operands
  unfolding gate_words
  head-word = ap (λ (p : ℕ). get_or ws p 0) (sym (add-zero at)) ∙ standing 0 (omega arith)

  tail-word : (i : ℕ) → i < operand_words → get_or ws (at + 1 + i) 0 ≡ get_or (map (node_word n) g.operands) i 0
  unfolding gate_words
  tail-word i l =
      let next : 1 + i ≡ suc i = omega arith in
      rw (add_assoc at 1 i)
      (standing (1 + i) (omega arith)
      ∙ rw next (get_d-tab (λ i. get_or (map (node_word n) g.operands) i 0) operand_words i 0 l))

-- where a gate read from words has these words, the unused ones are 0
pub stands-unused : (n : ℕ) (ws : List ℕ) (at : ℕ) → GateStands n ws at (gate_at n ws at) → Unused ws at
unfolding gate_at
stands-unused n ws at standing i few l =
    tail-word n ws at (gate_at n ws at) standing i l
    ∙ no-operand-word n (gate_at n ws at).operands i
    (rw (length-tab (λ i. operand_of n (get_or ws (at + 1 + i) 0)) (get_or ws at 0 / 8)) few)

-- ---- the parts of "the gate fits"

module _ (b : Block) (g : Gate) (fits : gate_fits b g ≡ true) where
  pub fits-kind : is_kind g.kind ≡ true
  unfolding gate_fits
  fits-kind =
      and_left (is_kind g.kind) (arity_fits g.kind (length g.operands))
      (and_left (is_kind g.kind && arity_fits g.kind (length g.operands)) (all (is_operand b) g.operands) fits)

  pub fits-arity : arity_fits g.kind (length g.operands) ≡ true
  unfolding gate_fits
  fits-arity =
      and_right (is_kind g.kind) (arity_fits g.kind (length g.operands))
      (and_left (is_kind g.kind && arity_fits g.kind (length g.operands)) (all (is_operand b) g.operands) fits)

  pub fits-operands : all (is_operand b) g.operands ≡ true
  unfolding gate_fits
  fits-operands =
      and_right (is_kind g.kind && arity_fits g.kind (length g.operands)) (all (is_operand b) g.operands) fits

pub fits-from : (b : Block) (g : Gate) → is_kind g.kind ≡ true → arity_fits g.kind (length g.operands) ≡ true
    → all (is_operand b) g.operands ≡ true
    → gate_fits b g ≡ true
unfolding gate_fits
fits-from b g k a o =
    and_intro (is_kind g.kind && arity_fits g.kind (length g.operands)) (all (is_operand b) g.operands)
    (and_intro (is_kind g.kind) (arity_fits g.kind (length g.operands)) k a)
    o

-- where a fitting gate's words stand, that gate is read
pub gate_at-gate_words : (b : Block) (ws : List ℕ) (at : ℕ) (g : Gate) → input_count b + gate_count b ≤ 65534
    → gate_fits b g ≡ true
    → GateStands (input_count b) ws at g → gate_at (input_count b) ws at ≡ g
unfolding gate_at
gate_at-gate_words b ws at g few fits standing = λ i. record { kind = kind-is i; operands = operands-are i }
  where
    n : ℕ
    n = input_count b

    small : g.kind ≤ 6
    small = kind-small g.kind (fits-kind b g fits)

    kind-is : get_or ws at 0 % 8 ≡ g.kind
    kind-is = rw (head-word n ws at g standing) (omega (arith, small))

    count-is : get_or ws at 0 / 8 ≡ length g.operands
    count-is = rw (head-word n ws at g standing) (omega (arith, small))

    operand-is : (i : ℕ) → i < length g.operands
        → operand_of n (get_or ws (at + 1 + i) 0) ≡ get_or g.operands i (constant false)
    operand-is i l =
        ap (operand_of n)
        (tail-word n ws at g standing i
        (omega (arith, arity-four g.kind (length g.operands) (fits-arity b g fits)))
        ∙ get_d_map (node_word n) g.operands i (constant false) 0 l)
        ∙ operand_of-node_word b (get_or g.operands i (constant false)) few
        (all-at (is_operand b) g.operands i (constant false) (fits-operands b g fits) l)

    operands-are : tab (λ i. operand_of n (get_or ws (at + 1 + i) 0)) (get_or ws at 0 / 8) ≡ g.operands
    operands-are =
        rw count-is (tab-is (λ i. operand_of n (get_or ws (at + 1 + i) 0)) g.operands (constant false) operand-is)

-- ---- the rule on the words

-- the tests of the rule: of the first word, and of operand word i
header-test : List ℕ → ℕ → Bool
header-test ws at = is_kind (get_or ws at 0 % 8) && arity_fits (get_or ws at 0 % 8) (get_or ws at 0 / 8)

operand-test : List ℕ → ℕ → ℕ → ℕ → Bool
operand-test ws nodes at i =
    cond (ltb i (get_or ws at 0 / 8)) (operand_rule nodes (get_or ws (at + 1 + i) 0)) (eqb (get_or ws (at + 1 + i) 0) 0)

module _ (ws : List ℕ) (nodes at : ℕ) (rule : gate_rule ws nodes at ≡ true) where
  header : header-test ws at ≡ true
  unfolding gate_rule operand-test header-test
  header = and_left (header-test ws at) (all (operand-test ws nodes at) (up_to operand_words)) rule

  operand-words : all (operand-test ws nodes at) (up_to operand_words) ≡ true
  unfolding gate_rule operand-test header-test
  operand-words = and_right (header-test ws at) (all (operand-test ws nodes at) (up_to operand_words)) rule

  pub gate_rule-kind : is_kind (get_or ws at 0 % 8) ≡ true
  unfolding header-test
  gate_rule-kind = and_left (is_kind (get_or ws at 0 % 8)) (arity_fits (get_or ws at 0 % 8) (get_or ws at 0 / 8)) header

  pub gate_rule-arity : arity_fits (get_or ws at 0 % 8) (get_or ws at 0 / 8) ≡ true
  unfolding header-test
  gate_rule-arity = and_right (is_kind (get_or ws at 0 % 8)) (arity_fits (get_or ws at 0 % 8) (get_or ws at 0 / 8)) header

  pub gate_rule-operand : (i : ℕ) → i < get_or ws at 0 / 8 → operand_rule nodes (get_or ws (at + 1 + i) 0) ≡ true
  unfolding operand-test
  gate_rule-operand i l =
      rw (lt-ltb i (get_or ws at 0 / 8) l)
      at (all-below (operand-test ws nodes at) operand_words i operand-words
      (omega (arith, arity-four (get_or ws at 0 % 8) (get_or ws at 0 / 8) gate_rule-arity)))

  pub gate_rule-unused : Unused ws at
  unfolding operand-test
  gate_rule-unused i k l =
      eqb-true (get_or ws (at + 1 + i) 0) 0
      (rw (le-ltb i (get_or ws at 0 / 8) k) at (all-below (operand-test ws nodes at) operand_words i operand-words l))

module _ (ws : List ℕ) (at : ℕ) (b : Block) (n m : ℕ) (inputs : input_count b ≡ n) (gates : gate_count b ≡ m) where
  operand : ℕ → Operand
  operand i = operand_of n (get_or ws (at + 1 + i) 0)

  -- the rule on the words gives a gate that fits
  pub gate_rule-fits : gate_rule ws (n + m) at ≡ true → gate_fits b (gate_at n ws at) ≡ true
  unfolding gate_at operand
  gate_rule-fits h =
      fits-from b (gate_at n ws at) (gate_rule-kind ws (n + m) at h)
      (rw (length-tab operand (get_or ws at 0 / 8)) (gate_rule-arity ws (n + m) at h))
      (all-tab-from (is_operand b) operand (get_or ws at 0 / 8)
      (λ i l. is_operand-operand_of b n m (get_or ws (at + 1 + i) 0) inputs gates ∙ gate_rule-operand ws (n + m) at h i l))

  -- a gate that fits, with its unused operand words 0, passes the rule
  pub gate_rule-from : gate_fits b (gate_at n ws at) ≡ true → Unused ws at → gate_rule ws (n + m) at ≡ true
  unfolding gate_rule gate_at operand-test header-test operand
  gate_rule-from fits unused =
      and_intro (header-test ws at) (all (operand-test ws (n + m) at) (up_to operand_words))
      (and_intro (is_kind (get_or ws at 0 % 8)) (arity_fits (get_or ws at 0 % 8) (get_or ws at 0 / 8))
      (fits-kind b (gate_at n ws at) fits)
      (rw (length-tab operand (get_or ws at 0 / 8)) at (fits-arity b (gate_at n ws at) fits)))
      (below_all (operand-test ws (n + m) at) operand_words
      (λ i l. ⊎_elim
      (λ k. rw (lt-ltb i (get_or ws at 0 / 8) k)
      (sym (is_operand-operand_of b n m (get_or ws (at + 1 + i) 0) inputs gates)
      ∙ all-tab-at (is_operand b) operand (get_or ws at 0 / 8) i (fits-operands b (gate_at n ws at) fits) k))
      (λ k. rw (le-ltb i (get_or ws at 0 / 8) k) (eq-eqb (get_or ws (at + 1 + i) 0) 0 (unused i k l)))
      (lt-or-le i (get_or ws at 0 / 8))))
