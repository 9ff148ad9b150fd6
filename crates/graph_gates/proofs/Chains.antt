-- The lists of a fan-out: a slot more in front of one, and what they hold when all slots are in. Cited by this crate's
-- functions and by whoever walks along a list.
--   chain-step, chain-end, chain-le   the walk along a list
--   linking-next                      one slot more
--   reading-found                     whoever reads a gate has a slot in its list
-- Assumes nothing.
use mathlib.Core.Path.{◌≡◌, refl, sym, ap, ◌∙◌}
use mathlib.Core.Logic.{◌⊎◌, inl, inr, ⊎_elim}
use mathlib.Core.Bool.{true, false}
use mathlib.Core.List.{List, [], ◌∷◌, map}
use Prim.Native.Nat.{ℕ, suc, ◌+◌, ◌-◌, ◌*◌, ◌/◌, ◌≤◌, ◌<◌}
use native.Mathlib.Omega.{arith}
use lib.ListN.{length, get_or, set, length-set}
use lib.Seq.{get_or-set_same, get_or-set_other}
use lib.Dec.{leb}
use borrow.Author.Tests.{le-leb, lt-leb, leb-true, ne_eqb, lt-ltb, le-ltb}
use Rattle.prelude.specs.Lists.{member, joined}
use Rattle.prelude.proofs.Tests.{lt-or-le, eq-or-ne, and_right}
use Rattle.prelude.proofs.Lists.{member-first}
use Rattle.prelude.proofs.Tab.{get_d-tab, length-tab}
use Rattle.netlist.specs.Limits.{max_gates}
use Rattle.netlist.specs.Kinds.{is_kind, fewest_operands, most_operands, arity_fits}
use Rattle.netlist.specs.Netlist.{Operand, input, gate, constant, gate_of}
use Rattle.netlist.specs.Groups.{gate_operand, read_by, reads}
use Rattle.words_layout.proofs.KindLaws.{not-counts, other-counts, kind-last}
use Rattle.graph_gates.specs.Places.{first_input, first_gate, operand_at}
use Rattle.graph_gates.specs.Graph.{slots, kind_at, count_at, place_at, gate_at, gates_in, network, Graph}
use Rattle.graph_gates.specs.Fanout.{slot_place, Chain, at, behind, Descends, Fanout, Linked}
use Rattle.graph_gates.specs.Fanout.{Linking}

-- a list that is not at its end: the slot in front, or one behind it
pub chain-step : {fanout : List ℕ} {p q : ℕ} → Chain fanout p q
    → (p ≡ q) ⊎ Chain fanout p (get_or fanout (max_gates + (q - 1)) 0)
chain-step at = inl refl
chain-step {fanout} {p} (behind {q = q} c) = let same : suc q - 1 ≡ q = omega arith in inr (rw same c)

-- there is nothing at the end
pub chain-end : {fanout : List ℕ} {e q : ℕ} → Chain fanout (suc e) q → q ≤ 0 → ⊥
chain-end at l = omega arith
chain-end (behind c) l = omega arith

-- what is in a list is no higher than its start
pub chain-le : {fanout : List ℕ} {p q : ℕ} → Descends fanout → Chain fanout p q → p ≤ q
chain-le d at = omega arith
chain-le d (behind {q = q} c) = omega (arith, chain-le d c, d q)

-- lists of which no word behind a slot below e differs
chain-kept : {fanout fanout' : List ℕ} {p q : ℕ} (e : ℕ)
    → ((d : ℕ) → d < e → get_or fanout' (max_gates + d) 0 ≡ get_or fanout (max_gates + d) 0)
    → Descends fanout → Chain fanout p q → q ≤ e → Chain fanout' p q
chain-kept e same d at l = at
chain-kept {fanout} {fanout'} {p} e same d (behind {q = q} c) l =
    behind {q = q} (rw (same q (omega arith)) (chain-kept e same d c (omega (arith, d q))))

module _ {graph fanout : List ℕ} (e : ℕ) (h : Linking graph fanout e) where
  -- a slot that reads no gate
  linking-over : slot_place graph e < first_gate → Linking graph fanout (e + 1)
  linking-over none =
      record {
        long = h.long;
        descends = h.descends;
        starts = λ k l. omega (arith, h.starts k l);
        found = λ d k l kl is. ⊎_elim
            (λ dl. h.found d k dl kl is)
            (λ dl. let last : d ≡ e = omega arith in absurd (omega (arith, rw last at is)))
            (lt-or-le d e);
        only = h.only;
      }

  -- a slot that reads gate g
  module _ (g : ℕ) (gl : g < max_gates) (reads-it : slot_place graph e ≡ first_gate + g) (below : e < slots * max_gates)
    where
      abbrev after : List ℕ
      after = set (set fanout (max_gates + e) (get_or fanout g 0)) g (suc e)

      at_first : get_or after g 0 ≡ suc e
      at_first =
          get_or-set_same (set fanout (max_gates + e) (get_or fanout g 0)) g (suc e) 0
          (rw (length-set fanout (max_gates + e) (get_or fanout g 0)) (omega (arith, h.long)))

      at_next : get_or after (max_gates + e) 0 ≡ get_or fanout g 0
      at_next =
          get_or-set_other (set fanout (max_gates + e) (get_or fanout g 0)) g (max_gates + e) (suc e) 0 (λ s. omega arith)
          ∙ get_or-set_same fanout (max_gates + e) (get_or fanout g 0) 0 (omega (arith, h.long))

      elsewhere : (k : ℕ) → (k ≡ g → ⊥) → (k ≡ max_gates + e → ⊥) → get_or after k 0 ≡ get_or fanout k 0
      elsewhere k ne me =
          get_or-set_other (set fanout (max_gates + e) (get_or fanout g 0)) g k (suc e) 0 ne
          ∙ get_or-set_other fanout (max_gates + e) k (get_or fanout g 0) 0 me

      behind-same : (d : ℕ) → d < e → get_or after (max_gates + d) 0 ≡ get_or fanout (max_gates + d) 0
      behind-same d l = elsewhere (max_gates + d) (λ s. omega arith) (λ s. omega arith)

      down : Descends after
      down d = ⊎_elim same other (eq-or-ne d e)
        where
          same : d ≡ e → get_or after (max_gates + d) 0 ≤ d
          same is = rw is (omega (arith, at_next, h.starts g gl))

          other : (d ≡ e → ⊥) → get_or after (max_gates + d) 0 ≤ d
          other ne = rw (elsewhere (max_gates + d) (λ s. omega arith) (λ s. ne (omega arith))) (h.descends d)

      first-other : (k : ℕ) → k < max_gates → (k ≡ g → ⊥) → get_or after k 0 ≡ get_or fanout k 0
      first-other k kl ne = elsewhere k ne (λ s. omega arith)

      low : (k : ℕ) → k < max_gates → get_or after k 0 ≤ e + 1
      low k kl = ⊎_elim same other (eq-or-ne k g)
        where
          same : k ≡ g → get_or after k 0 ≤ e + 1
          same is = rw is (omega (arith, at_first))

          other : (k ≡ g → ⊥) → get_or after k 0 ≤ e + 1
          other ne = rw (first-other k kl ne) (omega (arith, h.starts k kl))

      -- what was in a list still is
      still : (p k : ℕ) → k < max_gates → Chain fanout p (get_or fanout k 0) → Chain after p (get_or after k 0)
      still p k kl c = ⊎_elim same other (eq-or-ne k g)
        where
          kept : Chain after p (get_or fanout k 0)
          kept = chain-kept e behind-same h.descends c (h.starts k kl)

          same : k ≡ g → Chain after p (get_or after k 0)
          same is = rw (is, at_first) (behind {q = e} (rw at_next (rw is at kept)))

          other : (k ≡ g → ⊥) → Chain after p (get_or after k 0)
          other ne = rw (first-other k kl ne) kept

      -- and nothing else but the new slot is
      back : (p k : ℕ) → k < max_gates → Chain after p (get_or fanout k 0) → Chain fanout p (get_or fanout k 0)
      back p k kl c = chain-kept e (λ d l. sym (behind-same d l)) down c (h.starts k kl)

      were : (d k : ℕ) → k < max_gates → Chain after (suc d) (get_or after k 0) → slot_place graph d ≡ first_gate + k
      were d k kl c = ⊎_elim same other (eq-or-ne k g)
        where
          new : suc d ≡ suc e → slot_place graph d ≡ first_gate + g
          new is = let last : d ≡ e = omega arith in rw last reads-it

          older : Chain after (suc d) (get_or after (max_gates + (suc e - 1)) 0) → slot_place graph d ≡ first_gate + g
          older r = let one : suc e - 1 ≡ e = omega arith in h.only d g gl (back (suc d) g gl (rw (one, at_next) at r))

          same : k ≡ g → slot_place graph d ≡ first_gate + k
          same is = rw is (⊎_elim new older (chain-step (rw (is, at_first) at c)))

          other : (k ≡ g → ⊥) → slot_place graph d ≡ first_gate + k
          other ne = h.only d k kl (back (suc d) k kl (rw (first-other k kl ne) at c))

      linking-more : Linking graph after (e + 1)
      linking-more =
          record {
            long =
                length-set (set fanout (max_gates + e) (get_or fanout g 0)) g (suc e)
                ∙ length-set fanout (max_gates + e) (get_or fanout g 0) ∙ h.long;
            descends = down;
            starts = low;
            found = λ d k l kl is. ⊎_elim
                (λ dl. still (suc d) k kl (h.found d k dl kl is))
                (λ dl. let last : d ≡ e = omega arith in
                let to : k ≡ g = omega (arith, rw last at is) in
                rw (to, at_first, last) at)
                (lt-or-le d e);
            only = were;
          }

-- either way
pub linking-next : {graph fanout fanout' : List ℕ} (e : ℕ) → Linking graph fanout e → e < slots * max_gates
    → slot_place graph e < first_gate + max_gates
    → Linked (slot_place graph e) e fanout fanout' → Linking graph fanout' (e + 1)
linking-next {graph} {fanout} {fanout'} e h below inside d = ⊎_elim none some (lt-or-le (slot_place graph e) first_gate)
  where
    none : slot_place graph e < first_gate → Linking graph fanout' (e + 1)
    none l = rw (d.is, lt-leb first_gate (slot_place graph e) l) (linking-over e h l)

    some : first_gate ≤ slot_place graph e → Linking graph fanout' (e + 1)
    some l =
        rw (d.is, le-leb first_gate (slot_place graph e) l)
        (linking-more e h (slot_place graph e - first_gate) (omega arith) (omega arith) below)

-- slot i of gate j
pub slot_of : (graph : List ℕ) (j i : ℕ) → i < slots → slot_place graph (slots * j + i) ≡ place_at graph j i
unfolding slot_place place_at
slot_of graph j i l = ap (λ (w : ℕ). get_or graph w 0) (omega arith)

-- of a graph: what a slot of one of its gates reads is there
pub slot-inside : {m : ℕ} {graph : List ℕ} → Graph m graph → (e : ℕ) → e < slots * m → slot_place graph e < first_gate + m
slot-inside {m} {graph} g e l =
    let i : e - slots * (e / slots) < slots = omega arith in
    let j : e / slots < m = omega arith in
    let is : slots * (e / slots) + (e - slots * (e / slots)) ≡ e = omega arith in
    rw is at (rw (← slot_of graph (e / slots) (e - slots * (e / slots)) i) at ((g.node (e / slots) j).inside
    (e - slots * (e / slots)) i))

-- no kind has more than four operands
pub count_most : (k count : ℕ) → is_kind k ≡ true → arity_fits k count ≡ true → count ≤ slots
unfolding arity_fits
count_most k count is h = ⊎_elim none some (eq-or-ne k 0)
  where
    most : count ≤ most_operands k
    most = leb-true _ _ (and_right (leb (fewest_operands k) count) _ h)

    none : k ≡ 0 → count ≤ slots
    none e = let m : count ≤ 1 = rw (e, not-counts.1) at most in omega arith

    some : (k ≡ 0 → ⊥) → count ≤ slots
    some ne = let t = other-counts k (omega arith) (kind-last k is) in rw t.1 at most

-- an operand that is a gate
gate-operand : (os : List Operand) (k : ℕ) → member k (joined (map gate_operand os)) ≡ true
    → (i : ℕ) × (i < length os) × ((d : Operand) → get_or os i d ≡ gate k)
unfolding gate_operand
gate-operand [] k h = absurd (let z : ◌≡◌ {A = ℕ} 0 1 = cc in omega arith)
gate-operand (input x ∷ os) k h = let r = gate-operand os k h in (suc r.0, omega (arith, r.1), r.2)
gate-operand (constant x ∷ os) k h = let r = gate-operand os k h in (suc r.0, omega (arith, r.1), r.2)
gate-operand (gate x ∷ os) k h =
    ⊎_elim
    (λ e. (0, omega arith, λ d. ap gate (sym e)))
    (λ m. let r = gate-operand os k m in (suc r.0, omega (arith, r.1), r.2))
    (member-first k x (joined (map gate_operand os)) h)

-- the place at which a gate stands
gate-place : (p k : ℕ) → operand_at p ≡ gate k → p ≡ first_gate + k
unfolding operand_at
gate-place p k h =
    ⊎_elim
    (λ e. absurd (let z : constant false ≡ gate k = sym (rw e refl) ∙ h in let w : ◌≡◌ {A = ℕ} 0 1 = cc in omega arith))
    (λ ne. ⊎_elim
    (λ e. absurd (let z : constant true ≡ gate k = sym (rw e refl) ∙ h in let w : ◌≡◌ {A = ℕ} 0 1 = cc in omega arith))
    (λ nf. ⊎_elim
    (λ l. absurd (let z : input (p - first_input) ≡ gate k = rw
    (ne_eqb p 0 ne, ne_eqb p 1 nf, lt-ltb p first_gate l) at h in let w : ◌≡◌ {A = ℕ} 0 1 = cc in omega arith))
    (λ l. let z : gate (p - first_gate) ≡ gate
    k = rw (ne_eqb p 0 ne, ne_eqb p 1 nf, le-ltb p first_gate l) at h in let w : p - first_gate ≡ k = cc in omega arith)
    (lt-or-le p first_gate))
    (eq-or-ne p 1))
    (eq-or-ne p 0)

module _ {m : ℕ} {graph : List ℕ} (g : Graph m graph) (j k : ℕ) (jl : j < m) (r : reads (network m graph) j k ≡ true)
  where
    -- the slot by which gate j reads gate k
    pub reading-slot : (i : ℕ) × (i < slots) × (place_at graph j i ≡ first_gate + k)
    unfolding reads read_by network gates_in gate_at
    reading-slot =
        let is : gate_of (network m graph) j ≡ gate_at graph j =
        get_d-tab (gate_at graph) m j (record { kind = 0; operands = [] }) jl in
        let o = gate-operand (gate_at graph j).operands k (rw is at r) in
        let n = g.node j jl in
        let few : o.0 < count_at graph j = rw (length-tab (λ i. operand_at (place_at graph j i))
        (count_at graph j)) at o.1 in
        let there : operand_at (place_at graph j o.0) ≡ gate k =
        sym (get_d-tab (λ i. operand_at (place_at graph j i)) (count_at graph j) o.0 (gate k) few) ∙ o.2 (gate k) in (
          o.0,
          omega (arith, count_most (kind_at graph j) (count_at graph j) n.kind n.count),
          gate-place (place_at graph j o.0) k there,
        )

    pub reading-below : k < m
    reading-below = let s = reading-slot in omega (arith, s.2, (g.node j jl).inside s.0 s.1)

    -- which is in gate k's list
    pub reading-found : {fanout : List ℕ} → Fanout m graph fanout
        → (e : ℕ) × (e / slots ≡ j) × Chain fanout (suc e) (get_or fanout k 0)
    reading-found f =
        let s = reading-slot in
        let e = slots * j + s.0 in (
          e,
          omega (arith, s.1),
          f.found e k (omega (arith, s.1)) (omega (arith, reading-below, g.few))
              (slot_of graph j s.0 s.1 ∙ s.2),
        )
