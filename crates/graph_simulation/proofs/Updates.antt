-- Rounds that evaluate only what can change: gates one by one, and from one round to the next. Cited by this crate's
-- functions.
--   one-new, updated-then     one gate that changes, one after the other
--   updated-done, updated-ready   what was found stays, and what is asked holds on
--   copied_next               the values that are copied
--   round-first, round-next   the first round, and a further one
-- Assumes nothing.
use mathlib.Core.Path.{◌≡◌, refl, sym, ap, ◌∙◌}
use mathlib.Core.Logic.{◌⊎◌, inl, inr, ⊎_elim}
use mathlib.Core.Bool.{Bool, true, false, not, ◌&&◌}
use mathlib.Core.List.{List}
use Prim.Native.Nat.{ℕ, zero, suc, ◌+◌, ◌-◌, ◌*◌, ◌/◌, ◌≤◌, ◌<◌}
use native.Mathlib.Omega.{arith}
use native.Mathlib.Nat.{ℕ_set}
use native.Mathlib.Bridge.{le_prop}
use lib.ListN.{length, get_or, set, replicate, length-set, length-replicate, get_or-replicate}
use lib.Seq.{get_or-set_same, get_or-set_other, ext_get_or}
use lib.Dec.{eqb}
use borrow.Author.Tests.{eq-eqb, ne_eqb, eqb-false, not-true}
use Rattle.std.proofs.Math.Logic.{∥∥₁_elim}
use Rattle.prelude.specs.Lists.{any, up_to}
use Rattle.prelude.proofs.Tests.{lt-or-le, eq-or-ne, bool_cases, and_left, and_right, and_intro, not-both}
use Rattle.prelude.proofs.Tab.{get_d-tab, length-tab, tab-ext}
use Rattle.prelude.proofs.Quantifiers.{any_below, below-any}
use Rattle.prelude.proofs.Counting.{count_below-ext, count_below-le, count_below-one}
use Rattle.netlist.specs.Limits.{max_inputs, max_gates}
use Rattle.netlist.specs.Values.{Value, undefined, val, code, value_of}
use Rattle.netlist.specs.Netlist.{Block, gate_of}
use Rattle.netlist.specs.Groups.{reads}
use Rattle.netlist.specs.Rounds.{evaluated, round}
use Rattle.theory_fixpoint.specs.Order.{BelowAll}
use Rattle.theory_fixpoint.proofs.Values.{value_of-code}
use Rattle.theory_fixpoint.proofs.Evaluation.{evaluated-mono-all, evaluated-agree}
use Rattle.theory_fixpoint.proofs.States.{start-below}
use Rattle.theory_fixpoint.proofs.Rounds.{length-round, get_d-round, round_mono}
use Rattle.graph_gates.specs.Places.{first_input, first_gate}
use Rattle.graph_gates.specs.Graph.{slots, network, Graph}
use Rattle.graph_gates.specs.Fanout.{Chain, Descends, Fanout}
use Rattle.graph_gates.proofs.Network.{network-count}
use Rattle.graph_gates.proofs.Chains.{chain-le, chain-step, reading-below, reading-found}
use Rattle.graph_simulation.specs.State.{Coded, inputs_in, state_in, gate_code}
use Rattle.graph_simulation.proofs.Codes.{code-most, code_same}
use Rattle.graph_simulation.proofs.State.{evaluated-at}
use Rattle.graph_simulation.specs.Rounded.{Unsettled}
use Rattle.graph_simulation.specs.Changes.{defined_from, QueuedIn, Done, Steady, UpdateReady, Updated, UpdatedOne}
use Rattle.graph_simulation.specs.Changes.{UpdatedList, UpdatedAll, Pending, ListReady}
use Rattle.graph_simulation.specs.Changes.{CopyReady, Copied, Round, Turned}

-- ---- how many gates are 0 or 1

abbrev is_defined_at : ℕ → List ℕ → ℕ → Bool
is_defined_at p codes j = not (eqb (get_or codes (p + j) 0) 2)

pub defined-le : (p : ℕ) (codes : List ℕ) (m : ℕ) → defined_from p codes m ≤ m
unfolding defined_from
defined-le p codes m = count_below-le (is_defined_at p codes) m

pub defined_more : (codes : List ℕ) (m j v : ℕ) → j < m → m ≤ length codes → get_or codes j 0 ≡ 2 → (v ≡ 2 → ⊥)
    → defined_from 0 (set codes j v) m ≡ suc (defined_from 0 codes m)
unfolding defined_from
defined_more codes m j v l fits was is =
    let z : 0 + j ≡ j = omega arith in
    let before : is_defined_at 0 codes j ≡ false = rw (z, eq-eqb (get_or codes j 0) 2 was) refl in
    let after : is_defined_at 0 (set codes j v) j ≡ true =
    rw (z, get_or-set_same codes j v 0 (omega arith), ne_eqb v 2 is) refl in
    count_below-one (is_defined_at 0 codes) (is_defined_at 0 (set codes j v)) m j l before after
    (λ k ne. rw (get_or-set_other codes j (0 + k) v 0 (λ e. ne (omega arith))) refl)

pub defined-same : (p : ℕ) (u : List ℕ) (q : ℕ) (w : List ℕ) (m : ℕ)
    → ((j : ℕ) → j < m → get_or u (p + j) 0 ≡ get_or w (q + j) 0)
    → defined_from p u m ≡ defined_from q w m
unfolding defined_from
defined-same p u q w m h = count_below-ext (is_defined_at p u) (is_defined_at q w) m (λ j l. rw (h j l) refl)

pub none-defined : (p : ℕ) (codes : List ℕ) (m : ℕ) → ((j : ℕ) → j < m → get_or codes (p + j) 0 ≡ 2)
    → defined_from p codes m ≡ 0
unfolding defined_from
none-defined p codes zero h = refl
none-defined p codes (suc m) h = rw (none-defined p codes m (λ j l. h j (omega arith)), h m (omega arith)) refl

-- ---- gates evaluated

module _ {m : ℕ} {graph values : List ℕ} where
  module _ {found queue : List ℕ} {end : ℕ} (r : UpdateReady m graph values found queue end) (j : ℕ) (l : j < m) where
    module _ (v : ℕ) (was : get_or found j 0 ≡ 2) (some : v ≡ 2 → ⊥) where
      more : defined_from 0 (set found j v) m ≡ suc (defined_from 0 found m)
      more = defined_more found m j v l (omega (arith, r.legal.few, r.found_room)) was some

      -- there is room for a gate that gets one,
      pub one-room : end < m
      one-room = omega (arith, more, defined-le 0 (set found j v) m, r.counted)

      -- a gate that gets a value is queued
      pub one-new : v ≡ gate_code graph values j
          → UpdatedOne m graph values found queue end j (set found j v) (set queue end j) (end + 1)
      one-new is =
          record {
            updated =
                record {
                  found_long = length-set found j v;
                  queue_long = length-set queue end j;
                  each = λ k kl. ⊎_elim (changed k) (λ ne. inl (get_or-set_other found j k v 0 ne)) (eq-or-ne k j);
                  front = λ q ql. get_or-set_other queue end q j 0 (λ e. omega arith);
                  inside = λ q lo hi. let last : q ≡ end = omega arith in rw (last, there) l;
                  ordered = omega arith;
                  counted = rw more (omega arith);
                };
            done = now;
          }
        where
          now : get_or (set found j v) j 0 ≡ gate_code graph values j
          now = get_or-set_same found j v 0 (omega (arith, r.found_room, r.legal.few)) ∙ is

          there : get_or (set queue end j) end 0 ≡ j
          there = get_or-set_same queue end j 0 (omega (arith, one-room, r.queue_room, r.legal.few))

          changed : (k : ℕ) → k ≡ j
              → (get_or (set found j v) k 0 ≡ get_or found k 0)
              ⊎ (Done graph values (set found j v) k × QueuedIn (set queue end j) end (end + 1) k)
          changed k e = inr (rw e now, (end, omega arith, omega arith, rw e there))

  -- what has its value keeps it
  pub updated-done : {found queue : List ℕ} {end : ℕ} {found' queue' : List ℕ} {end' : ℕ}
      → Updated m graph values found queue end found' queue' end'
      → (j : ℕ) → j < m → Done graph values found j → Done graph values found' j
  updated-done u j l d = ⊎_elim (λ e. e ∙ d) (λ n. n.0) (u.each j l)

  -- what is asked holds on
  pub updated-ready : {found queue : List ℕ} {end : ℕ} {found' queue' : List ℕ} {end' : ℕ}
      → UpdateReady m graph values found queue end
      → Updated m graph values found queue end found' queue' end' → UpdateReady m graph values found' queue' end'
  updated-ready {found} {queue} {end} {found'} r u =
      record {
        legal = r.legal;
        coded = r.coded;
        found_room = u.found_long ∙ r.found_room;
        queue_room = u.queue_long ∙ r.queue_room;
        steady = steady';
        counted = omega (arith, r.counted, u.counted);
      }
    where
      steady' : Steady m graph values found'
      steady' j l =
          ⊎_elim (λ q. ⊎_elim (λ z. inl (q ∙ z)) (λ d. inr (q ∙ d)) (r.steady j l)) (λ d. inr d.0) (u.each j l)

  -- one after the other
  pub updated-then : {found queue : List ℕ} {end : ℕ} {found₁ queue₁ : List ℕ} {end₁ : ℕ} {found₂ queue₂ : List ℕ}
      {end₂ : ℕ}
      → Updated m graph values found queue end found₁ queue₁ end₁
      → Updated m graph values found₁ queue₁ end₁ found₂ queue₂ end₂
      → Updated m graph values found queue end found₂ queue₂ end₂
  updated-then {found} {queue} {end} {found₁} {queue₁} {end₁} {found₂} {queue₂} {end₂} u w =
      record {
        found_long = w.found_long ∙ u.found_long;
        queue_long = w.queue_long ∙ u.queue_long;
        each = each';
        front = λ q l. w.front q (omega (arith, u.ordered)) ∙ u.front q l;
        inside = inside';
        ordered = omega (arith, u.ordered, w.ordered);
        counted = omega (arith, u.counted, w.counted);
      }
    where
      widen : (j : ℕ) → QueuedIn queue₂ end₁ end₂ j → QueuedIn queue₂ end end₂ j
      widen j q = (q.0, omega (arith, u.ordered, q.1), q.2, q.3)

      keep : (j : ℕ) → QueuedIn queue₁ end end₁ j → QueuedIn queue₂ end end₂ j
      keep j q = (q.0, q.1, omega (arith, w.ordered, q.2), w.front q.0 q.2 ∙ q.3)

      each' : (j : ℕ) → j < m → (get_or found₂ j 0 ≡ get_or found j 0)
          ⊎ (Done graph values found₂ j × QueuedIn queue₂ end end₂ j)
      each' j l =
          ⊎_elim
          (λ e. ⊎_elim (λ f. inl (e ∙ f)) (λ d. inr (e ∙ d.0, keep j d.1)) (u.each j l))
          (λ d. inr (d.0, widen j d.1))
          (w.each j l)

      inside' : (q : ℕ) → end ≤ q → q < end₂ → get_or queue₂ q 0 < m
      inside' q lo hi = ⊎_elim (λ l. rw (w.front q l) (u.inside q lo l)) (λ l. w.inside q l hi) (lt-or-le q end₁)

-- ---- all gates, the fan-out of one gate, and the fan-out of all queued gates

-- the gates below j have their values
abbrev pub DoneBelow : List ℕ → List ℕ → List ℕ → ℕ → Type 0
DoneBelow graph values found j = (i : ℕ) → i < j → Done graph values found i

-- whoever is in the list that starts at `from` has its value, or is in the rest of it, which starts at p
abbrev pub Awaiting : List ℕ → List ℕ → List ℕ → List ℕ → ℕ → ℕ → Type 0
Awaiting graph fanout values found from p =
    (e : ℕ) → Chain fanout (suc e) from → Done graph values found (e / slots) ⊎ Chain fanout (suc e) p

module _ {m : ℕ} {graph values found queue : List ℕ} {end : ℕ} {found' queue' : List ℕ} {end' : ℕ} where
  -- one gate more
  pub below_next : {j : ℕ} → DoneBelow graph values found j → j < m
      → UpdatedOne m graph values found queue end j found' queue' end'
      → DoneBelow graph values found' (j + 1)
  below_next {j} h l u i il =
      ⊎_elim same (λ ne. updated-done u.updated i (omega arith) (h i (omega arith))) (eq-or-ne i j)
    where
      same : i ≡ j → Done graph values found' i
      same e = rw e u.done

  -- one reader more
  pub awaiting-next : {fanout : List ℕ} {from p p' : ℕ} → Descends fanout → from ≤ slots * m
      → Awaiting graph fanout values found from p
      → UpdatedOne m graph values found queue end ((p - 1) / slots) found' queue' end'
      → p' ≡ get_or fanout (max_gates + (p - 1)) 0
      → Awaiting graph fanout values found' from p'
  awaiting-next {fanout} {from} {p} {p'} d few h u is e c =
      ⊎_elim (λ v. inl (updated-done u.updated (e / slots) there v)) step (h e c)
    where
      there : e / slots < m
      there = omega (arith, chain-le d c)

      first : suc e ≡ p → Done graph values found' (e / slots)
      first q = let same : e ≡ p - 1 = omega arith in rw same u.done

      step : Chain fanout (suc e) p → Done graph values found' (e / slots) ⊎ Chain fanout (suc e) p'
      step r = ⊎_elim (λ q. inl (first q)) (λ s. inr (rw is s)) (chain-step r)

  -- one queued gate more
  pub pending_next : {fanout : List ℕ} (front : List ℕ) {q tail : ℕ} → Graph m graph → ∥ Fanout m graph fanout ∥₁
      → Pending m graph values found front q tail
      → UpdatedList m graph fanout values found queue end (get_or fanout (get_or front q 0) 0) found' queue' end'
      → Pending m graph values found' front (q + 1) tail
  pending_next {fanout} front {q} {tail} g f h u j l = ⊎_elim (λ v. inl (updated-done u.updated j l v)) step (h j l)
    where
      now : (k : ℕ) → reads (network m graph) j k ≡ true → get_or front q 0 ≡ k → Done graph values found' j
      now k reading is =
          ∥∥₁_elim f (ℕ_set _ _) (λ linked. let s = reading-found g j k l reading linked in
          let done : Done graph values found' (s.0 / slots) = u.done s.0 (rw is s.2) in
          rw s.1 at done)

      step : ((k : ℕ) × (reads (network m graph) j k ≡ true) × QueuedIn front q tail k)
          → Done graph values found' j ⊎ ((k : ℕ) × (reads (network m graph) j k ≡ true)
          × QueuedIn front (q + 1) tail k)
      step s =
          ⊎_elim
          (λ e. inl (now s.0 s.1 (rw e at s.2.3)))
          (λ ne. inr (s.0, s.1, (s.2.0, omega (arith, s.2.1), s.2.2, s.2.3)))
          (eq-or-ne s.2.0 q)

-- a gate's list in a fan-out that is made
pub list-of : {m : ℕ} {graph fanout : List ℕ} {k : ℕ} → ∥ Fanout m graph fanout ∥₁ → k < max_gates
    → ListReady m fanout (get_or fanout k 0)
list-of f l =
    record {
      descends = λ e. ∥∥₁_elim f le_prop (λ linked. linked.descends e);
      starts = ∥∥₁_elim f le_prop (λ linked. linked.starts _ l);
    }

-- ---- values copied

pub copied_next : {found queue : List ℕ} {head q : ℕ} {values values' : List ℕ}
    → Copied found queue head q values values' → head ≤ q
    → first_gate + get_or queue q 0 < length values
    → Copied found queue head (q + 1) values (set values' (first_gate + get_or queue q 0) (get_or found (get_or queue q 0) 0))
copied_next {found} {queue} {head} {q} {values} {values'} h lo l =
    record {
      long = length-set values' (first_gate + k) (get_or found k 0) ∙ h.long;
      low = λ p pl. get_or-set_other values' (first_gate + k) p (get_or found k 0) 0 (λ e. omega arith) ∙ h.low p pl;
      each = λ j. ⊎_elim (new j) (other j) (eq-or-ne j k);
    }
  where
    k : ℕ
    k = get_or queue q 0

    after : List ℕ
    after = set values' (first_gate + k) (get_or found k 0)

    Each : ℕ → Type 0
    Each j =
        (QueuedIn queue head (q + 1) j × (get_or after (first_gate + j) 0 ≡ get_or found j 0))
        ⊎ ((QueuedIn queue head (q + 1) j → ⊥) × (get_or after (first_gate + j) 0 ≡ get_or values (first_gate + j) 0))

    new : (j : ℕ) → j ≡ k → Each j
    new j e =
        inl (
          (q, lo, omega arith, sym e),
          rw e
              (get_or-set_same values' (first_gate + k) (get_or found k 0) 0 (omega (arith, h.long))),
        )

    other : (j : ℕ) → (j ≡ k → ⊥) → Each j
    other j ne =
        let kept : get_or after (first_gate + j) 0 ≡ get_or values' (first_gate + j) 0 =
        get_or-set_other values' (first_gate + k) (first_gate + j) (get_or found k 0) 0 (λ e. ne (omega arith)) in
        ⊎_elim (λ s. inl (longer s.0, kept ∙ s.1)) (λ s. inr (still s.0, kept ∙ s.1)) (h.each j)
      where
        longer : QueuedIn queue head q j → QueuedIn queue head (q + 1) j
        longer s = (s.0, s.1, omega (arith, s.2), s.3)

        still : (QueuedIn queue head q j → ⊥) → QueuedIn queue head (q + 1) j → ⊥
        still free s =
            ⊎_elim
            (λ e. ne (sym (rw e at s.3)))
            (λ n. free (s.0, s.1, omega (arith, s.2), s.3))
            (eq-or-ne s.0 q)

-- ---- from one round to the next

-- a gate's code in an array of values
module _ (m : ℕ) {values : List ℕ} (c : Coded values) where
  pub state-at : (j : ℕ) → j < m → get_or (state_in m values) j undefined ≡ value_of (get_or values (first_gate + j) 0)
  unfolding state_in
  state-at j l = get_d-tab (λ j. value_of (get_or values (first_gate + j) 0)) m j undefined l

  pub code-at : (j : ℕ) → j < m → code (get_or (state_in m values) j undefined) ≡ get_or values (first_gate + j) 0
  code-at j l = ap code (state-at j l) ∙ code_same (get_or values (first_gate + j) 0) (c.most (first_gate + j))

pub length-state_in : (m : ℕ) (values : List ℕ) → length (state_in m values) ≡ m
unfolding state_in
length-state_in m values = length-tab (λ j. value_of (get_or values (first_gate + j) 0)) m

-- the inputs of an array that has the same below the gates
pub inputs-same : (u w : List ℕ) → ((p : ℕ) → p < first_gate → get_or u p 0 ≡ get_or w p 0) → inputs_in u ≡ inputs_in w
unfolding inputs_in
inputs-same u w h =
    tab-ext (λ i. value_of (get_or u (first_input + i) 0)) (λ i. value_of (get_or w (first_input + i) 0)) max_inputs
    (λ i l. ap value_of (h (first_input + i) (omega arith)))

module _ {m : ℕ} {graph : List ℕ} (g : Graph m graph) where
  abbrev b : Block
  b = network m graph

  -- what was found is a round
  pub found-is : {values : List ℕ} (found : List ℕ) → Coded values → (j : ℕ) → j < m → Done graph values found j
      → get_or found j 0 ≡ code (get_or (round b (inputs_in values) (state_in m values)) j undefined)
  found-is {values} found c j l d =
      d ∙ evaluated-at g c j l ∙ ap code (sym (get_d-round b (inputs_in values) (state_in m values) j))

  -- what evaluating gates leaves, if all have their values and `values` has the codes from before
  pub round-from : {values found queue : List ℕ} {tail : ℕ} {found' queue' : List ℕ} {end : ℕ} → Coded values
      → length found ≡ max_gates → length queue ≡ max_gates
      → ((j : ℕ) → j < m → get_or found j 0 ≡ get_or values (first_gate + j) 0)
      → tail ≡ defined_from 0 found m → ((q : ℕ) → q < tail → get_or queue q 0 < m)
      → UpdatedAll m graph values found queue tail found' queue' end
      → BelowAll (state_in m values) (round b (inputs_in values) (state_in m values))
      → Round m graph values found' queue' tail end
  round-from {values} {found} {queue} {tail} {found'} {queue'} {end} c fl ql were many inside u grows =
      record {
        coded = c;
        found_room = u.updated.found_long ∙ fl;
        queue_room = u.updated.queue_long ∙ ql;
        done = u.done;
        grows = grows;
        told = λ j l. ⊎_elim (λ e. inl (e ∙ were j l)) (λ d. inr d.1) (u.updated.each j l);
        inside = λ q l. ⊎_elim (earlier q) (λ lo. u.updated.inside q lo l) (lt-or-le q tail);
        ordered = u.updated.ordered;
        before =
            many ∙ defined-same 0 found first_gate values m (λ j l. let z : 0 + j ≡ j = omega arith in rw z (were j l));
        counted = omega (arith, many, u.updated.counted);
      }
    where
      earlier : (q : ℕ) → q < tail → get_or queue' q 0 < m
      earlier q l = rw (u.updated.front q l) (inside q l)

  -- ---- the first

  module _ {values : List ℕ} (found : List ℕ) (n : Unsettled values) (none : (j : ℕ) → j < m → get_or found j 0 ≡ 2)
      (fl : length found ≡ max_gates) where
    nothing : defined_from 0 found m ≡ 0
    nothing = none-defined 0 found m (λ j l. let z : 0 + j ≡ j = omega arith in rw z (none j l))

    -- every gate can be evaluated
    pub first-ready : {queue : List ℕ} → length queue ≡ max_gates → UpdateReady m graph values found queue 0
    first-ready ql =
        record {
          legal = g;
          coded = n.coded;
          found_room = fl;
          queue_room = ql;
          steady = λ j l. inl (none j l);
          counted = sym nothing;
        }

    pub first-state : state_in m values ≡ replicate m undefined
    unfolding state_in value_of
    first-state =
        ext_get_or undefined (state_in m values) (replicate m undefined)
        (length-state_in m values ∙ sym (length-replicate m undefined))
        (λ j l. let below : j < m = rw (length-state_in m values) at l in
        state-at m n.coded j below ∙ ap value_of (n.none j (omega (arith, g.few)))
        ∙ sym (get_or-replicate m j undefined undefined below))

    -- the first round is made
    pub round-first : {queue found' queue' : List ℕ} {end : ℕ} → length queue ≡ max_gates
        → UpdatedAll m graph values found queue 0 found' queue' end
        → Round m graph values found' queue' 0 end
    round-first ql u =
        round-from n.coded fl ql (λ j l. none j l ∙ sym (n.none j (omega (arith, g.few)))) (sym nothing)
        (λ q l. absurd (omega arith)) u
        (rw first-state (start-below m (round b (inputs_in values) (replicate m undefined))))

  -- ---- a further one

  module _ {values found queue : List ℕ} {head tail : ℕ} (r : Round m graph values found queue head tail) where
    abbrev x : List Value
    x = inputs_in values

    abbrev v : List Value
    v = state_in m values

    -- the queued gates are there
    pub copy-ready : CopyReady queue tail values
    copy-ready =
        record {
          long = sym r.coded.long;
          queued = omega (arith, r.counted, defined-le 0 found m, g.few);
          inside = λ q l. omega (arith, r.inside q l, g.few);
        }

    module _ {values' : List ℕ} (c : Copied found queue head tail values values') where
      -- each gate has what was found
      copied_at : (j : ℕ) → j < m → get_or values' (first_gate + j) 0 ≡ get_or found j 0
      copied_at j l =
          ⊎_elim (λ s. s.1) (λ s. s.1 ∙ ⊎_elim (λ e. sym e) (λ q. absurd (s.0 q)) (r.told j l)) (c.each j)

      same_inputs : inputs_in values' ≡ x
      same_inputs = inputs-same values' values c.low

      -- a code at each place
      most : (p : ℕ) → get_or values' p 0 ≤ 2
      most p = ⊎_elim (λ l. rw (c.low p l) (r.coded.most p)) gates (lt-or-le p first_gate)
        where
          gates : first_gate ≤ p → get_or values' p 0 ≤ 2
          gates l =
              let back : first_gate + (p - first_gate) ≡ p = omega arith in
              ⊎_elim
              (λ s. let there : p - first_gate < m = rw s.0.3 at (r.inside s.0.0 s.0.2) in
              let e : get_or values' p 0 ≡ gate_code graph values (p - first_gate) =
              rw back at s.1 ∙ r.done (p - first_gate) there in
              rw (e, evaluated-at g r.coded (p - first_gate) there) (code-most _))
              (λ s. let e : get_or values' p 0 ≡ get_or values p 0 = rw back at s.1 in rw e (r.coded.most p))
              (c.each (p - first_gate))

      pub copied-coded : Coded values'
      copied-coded =
          record {
            long = c.long ∙ r.coded.long;
            zero = c.low 0 (omega arith) ∙ r.coded.zero;
            one = c.low 1 (omega arith) ∙ r.coded.one;
            most = most;
          }

      -- the queued gates are still there
      pub copied-ready : CopyReady queue tail values'
      copied-ready =
          record { long = copy-ready.long ∙ sym c.long; queued = copy-ready.queued; inside = copy-ready.inside }

      -- the state is a round further
      pub copied-state : state_in m values' ≡ round b x v
      copied-state =
          ext_get_or undefined (state_in m values') (round b x v)
          (length-state_in m values' ∙ sym (length-round b x v ∙ network-count m graph))
          (λ j l. let below : j < m = rw (length-state_in m values') at l in
          state-at m copied-coded j below
          ∙ ap value_of (copied_at j below ∙ found-is found r.coded j below (r.done j below))
          ∙ value_of-code (get_or (round b x v) j undefined))

      abbrev v' : List Value
      v' = state_in m values'

      grown : BelowAll v v'
      grown = rw copied-state r.grows

      code-from : (j : ℕ) → j < m → gate_code graph values' j ≡ code (evaluated x v' (gate_of b j))
      code-from j l = rw (← same_inputs) (evaluated-at g copied-coded j l)

      -- a gate that is 0 or 1 stays so
      still-steady : Steady m graph values' found
      unfolding code
      still-steady j l = go (evaluated x v (gate_of b j)) refl
        where
          was : get_or found j 0 ≡ code (evaluated x v (gate_of b j))
          was = r.done j l ∙ evaluated-at g r.coded j l

          go : (a : Value) → evaluated x v (gate_of b j) ≡ a → (get_or found j 0 ≡ 2) ⊎ Done graph values' found j
          go undefined e = inl (was ∙ ap code e)
          go (val d) e =
              inr (was ∙ ap code (e ∙ sym (evaluated-mono-all x v v' (gate_of b j) grown d e)) ∙ sym (code-from j l))

      -- a gate that reads no gate that changed keeps its value
      pub next-pending : Pending m graph values' found queue head tail
      next-pending j l = ⊎_elim reading resting (bool_cases (any changes (up_to m)))
        where
          changes : ℕ → Bool
          changes k = reads b j k && not (eqb (get_or found k 0) (get_or values (first_gate + k) 0))

          reading : any changes (up_to m) ≡ true
              → Done graph values' found j ⊎ ((k : ℕ) × (reads b j k ≡ true) × QueuedIn queue head tail k)
          reading h =
              let f = any_below changes m h in
              let k = f.0 in
              let differs : eqb (get_or found k 0) (get_or values (first_gate + k) 0) ≡ false =
              not-true _ (and_right (reads b j k) _ f.2) in
              inr (
                k,
                and_left (reads b j k) _ f.2,
                ⊎_elim (λ e. absurd (eqb-false (get_or found k 0) (get_or values (first_gate + k) 0) differs e)) (λ q. q)
                    (r.told k f.1),
              )

          same_code : any changes (up_to m) ≡ false → (k : ℕ) → k < m → reads b j k ≡ true
              → (get_or found k 0 ≡ get_or values (first_gate + k) 0) ⊎ (get_or found k 0 ≡ get_or values (first_gate + k) 0 → ⊥)
              → get_or values (first_gate + k) 0 ≡ get_or values' (first_gate + k) 0
          same_code h k below reads-it (inl e) = sym e ∙ sym (copied_at k below)
          same_code h k below reads-it (inr ne) =
              not-both
              (below-any changes m k below
              (and_intro (reads b j k) (not (eqb (get_or found k 0) (get_or values (first_gate + k) 0))) reads-it
              (rw (ne_eqb (get_or found k 0) (get_or values (first_gate + k) 0) ne) refl)))
              h

          resting : any changes (up_to m) ≡ false
              → Done graph values' found j ⊎ ((k : ℕ) × (reads b j k ≡ true) × QueuedIn queue head tail k)
          resting h =
              inl
              (r.done j l ∙ evaluated-at g r.coded j l
              ∙ ap code
              (evaluated-agree x v v' b j
              (λ k reads-it. let below : k < m = reading-below g j k l reads-it in
              state-at m r.coded k below
              ∙ ap value_of (same_code h k below reads-it (eq-or-ne (get_or found k 0) (get_or values (first_gate + k) 0)))
              ∙ sym (state-at m copied-coded k below)))
              ∙ sym (code-from j l))

      -- the fan-out of what changed can be evaluated
      pub next-ready : UpdateReady m graph values' found queue tail
      next-ready =
          record {
            legal = g;
            coded = copied-coded;
            found_room = r.found_room;
            queue_room = r.queue_room;
            steady = still-steady;
            counted = r.counted;
          }

      -- one round more is made
      pub round-next : {found' queue' : List ℕ} {end : ℕ}
          → UpdatedAll m graph values' found queue tail found' queue' end
          → Turned m graph values values' found' queue' tail end
      round-next u =
          record {
            made =
                round-from copied-coded r.found_room r.queue_room (λ j l. sym (copied_at j l)) r.counted
                r.inside u
                (rw (same_inputs, copied-state) (round_mono b x v (round b x v) r.grows));
            inputs = same_inputs;
            state = copied-state;
          }
