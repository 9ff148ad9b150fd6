-- Counts of held slots, through each step of the code.
--   counting-none, counting_more              the first counts
--   waiting-start                             the groups that wait for nothing are ready
--   waiting-as, count-down-some, -stays, -ready, -skip   a slot is counted down
--   number-one                                a gate gets its number
--   taken_out, taken_in                       a group is taken out of the set, and has its number
--   set_next, lowest-next, none-next   the set holds the groups that may be next
-- Assumes nothing.
use mathlib.Core.Path.{◌≡◌, refl, sym, ◌∙◌, subst}
use mathlib.Core.Logic.{inl, inr, ⊎_elim}
use mathlib.Core.Bool.{Bool, true, false, not, cond, ◌&&◌, ◌||◌, or-true, or-false, and-true, and-false}
use mathlib.Core.List.{List}
use Prim.Native.Nat.{ℕ, zero, suc, ◌+◌, ◌-◌, ◌*◌, ◌/◌, ◌%◌, ◌≤◌, ◌<◌}
use native.Mathlib.Omega.{arith}
use native.Mathlib.Nat.{not-suc-le-zero}
use native.Mathlib.Numerals.{add-one}
use lib.ListN.{length, get_or, set, length-set}
use lib.Seq.{get_or-set_same, get_or-set_other}
use lib.Dec.{eqb, ltb, leb}
use borrow.Author.Tests.{eqb-true, eqb-false, eq-eqb, ne_eqb, leb-true, le-leb, lt-leb, lt-ltb, le-ltb}
use borrow.Author.Tests.{not-true, not-false}
use Rattle.prelude.specs.Lists.{count_below, least}
use Rattle.prelude.proofs.Tests.{and_left, and_right, and_intro, or_cases, not-both, lt-or-le, eq-or-ne}
use Rattle.prelude.proofs.Tests.{not-true-false, same_test}
use Rattle.prelude.proofs.Counting.{count_below-ext, count_below-one, count_below-le, count_below-less}
use Rattle.prelude.proofs.Least.{least-below, least_at, least-is}
use Rattle.netlist.specs.Limits.{max_gates}
use Rattle.netlist.specs.Groups.{reads, may_be_next}
use Rattle.theory_reach.proofs.Next.{may_be_next-left}
use Rattle.graph_gates.specs.Places.{first_gate}
use Rattle.graph_gates.specs.Graph.{slots, network}
use Rattle.graph_gates.specs.Fanout.{slot_place, Chain, at, behind, Fanout}
use Rattle.graph_gates.proofs.Chains.{chain-le, slot_of, slot-inside}
use Rattle.graph_scc.proofs.Slots.{read-slot, slot_read}
use Rattle.op_groups.specs.Numbering.{no_number, unnumbered, numbered_gates, leads_next, NumberReady}
use Rattle.op_groups.specs.Ready.{in_set, Added, Removed}
use Rattle.op_groups.specs.Waiting.{slot_gate, crosses, is_open, all_open, count_of, IsReady, Waiting, Counting}
use Rattle.op_groups.specs.Waiting.{ReadyBelow, CountDownReady}
use Rattle.op_groups.proofs.Leading.{done-member, lead-le, lead-self, waits, free}

-- ---- counts

count_below-none : (p : ℕ → Bool) (n : ℕ) → ((k : ℕ) → k < n → p k ≡ false) → count_below p n ≡ 0
count_below-none p zero h = refl
count_below-none p (suc n) h = rw (count_below-none p n (λ k l. h k (omega arith)), h n (omega arith)) refl

none-counted : (p : ℕ → Bool) (n : ℕ) → count_below p n ≡ 0 → (k : ℕ) → k < n → p k ≡ false
none-counted p n z k l =
    not-true-false (p k) (λ t.
    let some = count_below-less (λ j. false) p n (λ j jl h. absurd (let q : ◌≡◌ {A = ℕ} 0 1 = cc in omega arith)) k l
    refl t in
    omega (arith, count_below-none (λ j. false) n (λ j jl. refl)))

count-as : (leaders : List ℕ) (held held' : ℕ → Bool) (l n : ℕ) → ((e : ℕ) → e < n → held e ≡ held' e)
    → count_of leaders held l n ≡ count_of leaders held' l n
unfolding count_of
count-as leaders held held' l n same =
    count_below-ext (λ e. eqb (get_or leaders (e / slots) 0) l && held e)
    (λ e. eqb (get_or leaders (e / slots) 0) l && held' e) n
    (λ e el. rw (same e el) refl)

-- one slot less
module _ (leaders : List ℕ) (held held' : ℕ → Bool) (n e : ℕ) (el : e < n) (was : held e ≡ true)
    (gone : held' e ≡ false)
    (others : (x : ℕ) → (x ≡ e → ⊥) → held x ≡ held' x) where
  count-here : (l : ℕ) → get_or leaders (e / slots) 0 ≡ l → count_of leaders held l n ≡ suc (count_of leaders held' l n)
  unfolding count_of
  count-here l is =
      count_below-one (λ x. eqb (get_or leaders (x / slots) 0) l && held' x)
      (λ x. eqb (get_or leaders (x / slots) 0) l && held x) n e el
      (rw gone (and-false (eqb (get_or leaders (e / slots) 0) l)))
      (rw (was, eq-eqb (get_or leaders (e / slots) 0) l is) refl)
      (λ x ne. rw (others x ne) refl)

  count-there : (l : ℕ) → (get_or leaders (e / slots) 0 ≡ l → ⊥) → count_of leaders held l n ≡ count_of leaders held' l n
  unfolding count_of
  count-there l apart =
      count_below-ext (λ x. eqb (get_or leaders (x / slots) 0) l && held x)
      (λ x. eqb (get_or leaders (x / slots) 0) l && held' x) n
      (λ x xl. ⊎_elim (λ q. let no' : eqb (get_or leaders (x / slots) 0) l
      ≡ false = rw q (ne_eqb (get_or leaders (e / slots) 0) l apart) in rw no' refl)
      (λ ne. rw (others x ne) refl) (eq-or-ne x e))

-- ---- the first counts

count_next : (leaders : List ℕ) (held : ℕ → Bool) (l e : ℕ)
    → count_of leaders held l (e + 1) ≡ count_of leaders held l e
    + cond (eqb (get_or leaders (e / slots) 0) l && held e) 1 0
unfolding count_of
count_next leaders held l e = rw add-one refl

pub counting-none : {m : ℕ} {graph leaders counts : List ℕ} → NumberReady m graph leaders → length counts ≡ max_gates
    → ((l : ℕ) → l < m → get_or counts l 0 ≡ 0) → Counting m graph leaders 0 counts
unfolding count_of
counting-none r room none = record { prepared = r; room = room; each = λ l lm. none l lm }

module _ {m : ℕ} {graph leaders : List ℕ} {e : ℕ} {counts : List ℕ} (c : Counting m graph leaders e counts) where
  -- at most one a slot
  pub counting-small : (l : ℕ) → l < m → get_or counts l 0 ≤ e
  unfolding count_of
  counting-small l lm = rw (c.each l lm) (count_below-le _ e)

  pub counting-skip : crosses graph leaders e ≡ false → Counting m graph leaders (e + 1) counts
  counting-skip h =
      record {
        prepared = c.prepared;
        room = c.room;
        each = λ l lm.
            c.each l lm ∙ sym (count_next leaders (crosses graph leaders) l e
            ∙ rw (h, and-false (eqb (get_or leaders (e / slots) 0) l)) (omega arith));
      }

  pub counting_more : crosses graph leaders e ≡ true → (l : ℕ) → l ≡ get_or leaders (e / slots) 0 → l < m → m ≤ max_gates
      → Counting m graph leaders (e + 1) (set counts l (get_or counts l 0 + 1))
  counting_more h l is lm few =
      record {
        prepared = c.prepared;
        room = length-set counts l (get_or counts l 0 + 1) ∙ c.room;
        each = λ i im. ⊎_elim (here i) (there i im) (eq-or-ne i l);
      }
    where
      here : (i : ℕ) → i ≡ l → get_or (set counts l (get_or counts l 0 + 1)) i 0
          ≡ count_of leaders (crosses graph leaders) i (e + 1)
      here i q =
          rw (
            q,
            get_or-set_same counts l (get_or counts l 0 + 1) 0 (omega (arith, c.room)),
            c.each l lm,
            count_next leaders (crosses graph leaders) l e,
            h,
            eq-eqb (get_or leaders (e / slots) 0) l (sym is),
          ) refl

      there : (i : ℕ) → i < m → (i ≡ l → ⊥)
          → get_or (set counts l (get_or counts l 0 + 1)) i 0 ≡ count_of leaders (crosses graph leaders) i (e + 1)
      there i im n =
          rw (
            get_or-set_other counts l i (get_or counts l 0 + 1) 0 n,
            c.each i im,
            count_next leaders (crosses graph leaders) i e,
            h,
            ne_eqb (get_or leaders (e / slots) 0) i (λ q. n (sym q ∙ sym is)),
          ) (omega arith)

-- whether a slot crosses, by its place and the leaders
module _ (graph leaders : List ℕ) (e : ℕ) where
  pub crosses-no-gate : slot_place graph e < first_gate → crosses graph leaders e ≡ false
  unfolding crosses
  crosses-no-gate l = rw (lt-leb first_gate (slot_place graph e) l) refl

  pub crosses-same : get_or leaders (slot_gate graph e) 0 ≡ get_or leaders (e / slots) 0 → crosses graph leaders e ≡ false
  unfolding crosses
  crosses-same q =
      rw (eq-eqb (get_or leaders (slot_gate graph e) 0) (get_or leaders (e / slots) 0) q)
      (and-false (leb first_gate (slot_place graph e)))

  pub crosses-other : first_gate ≤ slot_place graph e
      → (get_or leaders (slot_gate graph e) 0 ≡ get_or leaders (e / slots) 0 → ⊥) → crosses graph leaders e ≡ true
  unfolding crosses
  crosses-other l n =
      rw (
        le-leb first_gate (slot_place graph e) l,
        ne_eqb (get_or leaders (slot_gate graph e) 0) (get_or leaders (e / slots) 0) n,
      ) refl

-- what a slot that crosses says
pub crossing : (graph leaders : List ℕ) (e : ℕ) → crosses graph leaders e ≡ true
    → (first_gate ≤ slot_place graph e) × (get_or leaders (slot_gate graph e) 0 ≡ get_or leaders (e / slots) 0 → ⊥)
unfolding crosses
crossing graph leaders e h = (
  leb-true first_gate (slot_place graph e) (and_left (leb first_gate (slot_place graph e)) _ h),
  eqb-false (get_or leaders (slot_gate graph e) 0) (get_or leaders (e / slots) 0)
      (not-true _ (and_right (leb first_gate (slot_place graph e)) _ h)),
)

-- ---- the groups that are ready at first

pub ready-none : {leaders counts ready : List ℕ} → length ready ≡ 16 → ((i : ℕ) → in_set ready i ≡ false)
    → ReadyBelow 0 leaders counts ready
ready-none room none =
    record { room = room; sound = λ i t. not-both t (none i); complete = λ i l. absurd (not-suc-le-zero l) }

module _ {l : ℕ} {leaders counts ready : List ℕ} (r : ReadyBelow l leaders counts ready) where
  pub ready-skip : (get_or leaders l 0 ≡ l → get_or counts l 0 ≡ 0 → ⊥) → ReadyBelow (l + 1) leaders counts ready
  ready-skip no' =
      record {
        room = r.room;
        sound = λ i t. let s = r.sound i t in (omega (arith, s.0), s.1, s.2);
        complete =
            λ i il a z. ⊎_elim (λ q. absurd (no' (rw q at a) (rw q at z))) (λ n. r.complete i (omega (arith, n)) a z)
            (eq-or-ne i l);
      }

  pub ready-more : {ready' : List ℕ} → length ready' ≡ length ready → Added l ready ready' → get_or leaders l 0 ≡ l
      → get_or counts l 0 ≡ 0
      → ReadyBelow (l + 1) leaders counts ready'
  ready-more {ready'} long add leads z =
      record {
        room = long ∙ r.room;
        sound = λ i t. ⊎_elim (λ s. let q = r.sound i s in (omega (arith, q.0), q.1, q.2))
            (λ e. let q = eqb-true i l e in (omega arith, rw q leads, rw q z))
            (or_cases (in_set ready i) (eqb i l) (sym (add i) ∙ t));
        complete = λ i il a c. add i ∙ ⊎_elim (λ q. rw (eq-eqb i l q) (or-true (in_set ready i)))
            (λ n. rw (r.complete i (omega (arith, n)) a c) refl) (eq-or-ne i l);
      }

-- the state when no gate has a number
pub waiting-start : {m : ℕ} {graph leaders numbers counts ready : List ℕ}
    → ((j : ℕ) → j < m → unnumbered numbers j ≡ true)
    → Counting m graph leaders (slots * m) counts → ReadyBelow m leaders counts ready
    → Waiting m leaders numbers m (all_open graph leaders numbers) counts ready
unfolding all_open
waiting-start {m} {graph} {leaders} {numbers} bare c r =
    record {
      count_room = c.room;
      ready_room = r.room;
      counted = λ l lm. c.each l lm ∙ count-as leaders (crosses graph leaders) _ l (slots * m) same;
      emptied = λ l lm a u. not-both (bare l lm) u;
      taken = λ h. absurd (omega arith);
      sound = λ l t. let s = r.sound l t in
          record {
            below = s.0;
            other = λ q. absurd (omega (arith, s.0));
            leads = s.1;
            bare = bare l s.0;
            zero = s.2;
          };
      complete = λ l s. r.complete l s.below s.leads s.zero;
    }
  where
    same : (e : ℕ) → e < slots * m → crosses graph leaders e
        ≡ crosses graph leaders e && unnumbered numbers (slot_gate graph e)
    same e el =
        ⊎_elim gate (λ l. rw (crosses-no-gate graph leaders e l) refl)
        (⊎_elim (λ a. inr a) (λ a. inl a) (lt-or-le (slot_place graph e) first_gate))
      where
        gate : first_gate ≤ slot_place graph e
            → crosses graph leaders e ≡ crosses graph leaders e && unnumbered numbers (slot_gate graph e)
        gate l =
            let small = slot-inside c.prepared.legal e el in
            rw (bare (slot_gate graph e) (omega arith)) (sym (and-true (crosses graph leaders e)))

-- ---- a slot is counted down

module _ {m : ℕ} {leaders numbers : List ℕ} {h : ℕ} {held held' : ℕ → Bool} {counts ready : List ℕ}
    (w : Waiting m leaders numbers h held counts ready) where
  pub waiting-as : ((e : ℕ) → e < slots * m → held e ≡ held' e) → Waiting m leaders numbers h held' counts ready
  waiting-as same =
      record {
        count_room = w.count_room;
        ready_room = w.ready_room;
        counted = λ l lm. w.counted l lm ∙ count-as leaders held held' l (slots * m) same;
        emptied = w.emptied;
        taken = w.taken;
        sound = w.sound;
        complete = w.complete;
      }

  module _ (few : m ≤ max_gates) {e : ℕ} (el : e < slots * m) (was : held e ≡ true) (gone : held' e ≡ false)
      (others : (x : ℕ) → (x ≡ e → ⊥) → held x ≡ held' x) {l : ℕ} (is : l ≡ get_or leaders (e / slots) 0) (lm : l < m)
      (leads : get_or leaders l 0 ≡ l) where
    abbrev left : ℕ
    left = get_or counts l 0 - 1

    pub count-down-some : 0 < get_or counts l 0
    count-down-some =
        omega (arith, w.counted l lm, count-here leaders held held' (slots * m) e el was gone others l (sym is))

    abbrev counts' : List ℕ
    counts' = set counts l left

    here : get_or counts' l 0 ≡ left
    here = get_or-set_same counts l left 0 (omega (arith, w.count_room))

    there : (i : ℕ) → (i ≡ l → ⊥) → get_or counts' i 0 ≡ get_or counts i 0
    there i n = get_or-set_other counts l i left 0 n

    counted : (i : ℕ) → i < m → get_or counts' i 0 ≡ count_of leaders held' i (slots * m)
    counted i im =
        ⊎_elim
        (λ q. subst (λ (x : ℕ). get_or counts' x 0 ≡ count_of leaders held' x (slots * m)) (sym q)
        (let less = count-here leaders held held' (slots * m) e el was gone others l (sym is) in here
        ∙ omega (arith, w.counted l lm)))
        (λ n. there i n ∙ w.counted i im ∙ count-there leaders held held' (slots * m) e el was gone others i
        (λ q. n (sym q ∙ sym is)))
        (eq-or-ne i l)

    -- the slot's group waited for something: it has no number, and is not the one that gets it
    other : l ≡ h → ⊥
    other q = omega (arith, count-down-some, rw (← q) at (w.taken (rw (← q) lm)))

    bare : unnumbered numbers l ≡ true
    bare =
        not-false (unnumbered numbers l)
        (not-true-false (not (unnumbered numbers l))
        (λ t. omega (arith, count-down-some, w.emptied l lm leads (not-true (unnumbered numbers l) t))))

    emptied : (i : ℕ) → i < m → get_or leaders i 0 ≡ i → unnumbered numbers i ≡ false → get_or counts' i 0 ≡ 0
    emptied i im a u =
        ⊎_elim (λ q. not-both bare (rw (← q) u)) (λ n. there i n ∙ w.emptied i im a u) (eq-or-ne i l)

    taken : h < m → get_or counts' h 0 ≡ 0
    taken hm = there h (λ q. other (sym q)) ∙ w.taken hm

    -- the slot's group waits for more
    pub count-down-stays : (left ≡ 0 → ⊥) → Waiting m leaders numbers h held' counts' ready
    count-down-stays more =
        record {
          count_room = length-set counts l left ∙ w.count_room;
          ready_room = w.ready_room;
          counted = counted;
          emptied = emptied;
          taken = taken;
          sound = λ i t.
              let r = w.sound i t in
              let n : i ≡ l → ⊥ = λ q. omega (arith, count-down-some, rw q at r.zero) in
              record {
                below = r.below;
                other = r.other;
                leads = r.leads;
                bare = r.bare;
                zero = there i n
                    ∙ r.zero;
              };
          complete = λ i r.
              let n : i ≡ l → ⊥ = λ q. more (sym here ∙ (rw q at r.zero)) in
              w.complete i (record {
                below = r.below;
                other = r.other;
                leads = r.leads;
                bare = r.bare;
                zero = sym
                    (there i n) ∙ r.zero;
              });
        }

    -- the slot's group is ready
    pub count-down-ready : left ≡ 0 → {ready' : List ℕ} → length ready' ≡ length ready → Added l ready ready'
        → Waiting m leaders numbers h held' counts' ready'
    count-down-ready none {ready'} long add =
        record {
          count_room = length-set counts l left ∙ w.count_room;
          ready_room = long ∙ w.ready_room;
          counted = counted;
          emptied = emptied;
          taken = taken;
          sound =
              λ i t. ⊎_elim (old i) (λ q. new i (eqb-true i l q))
              (or_cases (in_set ready i) (eqb i l) (sym (add i) ∙ t));
          complete = λ i r. add i ∙ ⊎_elim (λ q. rw (eq-eqb i l q) (or-true (in_set ready i)))
              (λ n. rw (w.complete i
              (record {
                below = r.below;
                other = r.other;
                leads = r.leads;
                bare = r.bare;
                zero = sym (there i n)
                    ∙ r.zero;
              })) refl)
              (eq-or-ne i l);
        }
      where
        old : (i : ℕ) → in_set ready i ≡ true → IsReady m h leaders numbers counts' i
        old i t =
            let r = w.sound i t in
            let n : i ≡ l → ⊥ = λ q. omega (arith, count-down-some, rw q at r.zero) in
            record { below = r.below; other = r.other; leads = r.leads; bare = r.bare; zero = there i n ∙ r.zero }

        new : (i : ℕ) → i ≡ l → IsReady m h leaders numbers counts' i
        new i q = rw q (record { below = lm; other = other; leads = leads; bare = bare; zero = here ∙ none })

-- ---- the slots that read one gate

module _ (graph leaders numbers : List ℕ) (k : ℕ) (numbered : unnumbered numbers k ≡ false) where
  -- a slot that reads gate k is waited for exactly if it crosses and is still to be counted down
  open-reading : (upto e : ℕ) → slot_place graph e ≡ first_gate + k
      → is_open graph leaders numbers k upto e ≡ crosses graph leaders e && ltb e upto
  unfolding is_open
  open-reading upto e is =
      let q : slot_gate graph e ≡ k = omega (arith, is) in
      rw (q, numbered, eq-eqb k k refl) refl

  -- any other slot does not depend on how many are still to be counted down
  open-other : (upto upto' e : ℕ) → (slot_place graph e ≡ first_gate + k → ⊥)
      → is_open graph leaders numbers k upto e ≡ is_open graph leaders numbers k upto' e
  unfolding is_open
  open-other upto upto' e n = ⊎_elim none gate (lt-or-le (slot_place graph e) first_gate)
    where
      none : slot_place graph e < first_gate
          → crosses graph leaders e && (unnumbered numbers (slot_gate graph e)
          || (eqb (slot_gate graph e) k && ltb e upto))
          ≡ crosses graph leaders e && (unnumbered numbers (slot_gate graph e)
          || (eqb (slot_gate graph e) k && ltb e upto'))
      none l = rw (crosses-no-gate graph leaders e l) refl

      gate : first_gate ≤ slot_place graph e
          → crosses graph leaders e && (unnumbered numbers (slot_gate graph e)
          || (eqb (slot_gate graph e) k && ltb e upto))
          ≡ crosses graph leaders e && (unnumbered numbers (slot_gate graph e)
          || (eqb (slot_gate graph e) k && ltb e upto'))
      gate l = rw (ne_eqb (slot_gate graph e) k (λ q. n (omega arith))) refl

  -- from one slot down to the next that reads gate k
  open-down : (upto upto' : ℕ) → upto' ≤ upto → ((e : ℕ) → slot_place graph e ≡ first_gate + k → e < upto → e < upto')
      → (e : ℕ) → is_open graph leaders numbers k upto e ≡ is_open graph leaders numbers k upto' e
  open-down upto upto' le none e =
      ⊎_elim reading (open-other upto upto' e) (eq-or-ne (slot_place graph e) (first_gate + k))
    where
      reading : slot_place graph e ≡ first_gate + k
          → is_open graph leaders numbers k upto e ≡ is_open graph leaders numbers k upto' e
      reading is =
          rw (open-reading upto e is, open-reading upto' e is)
          (⊎_elim (λ l. rw (lt-ltb e upto l, lt-ltb e upto' (none e is l)) refl)
          (λ l. rw (le-ltb e upto l, le-ltb e upto' (omega arith)) refl) (lt-or-le e upto))

  -- no slot is left to be counted down
  pub open-end : (e : ℕ) → is_open graph leaders numbers k 0 e ≡ all_open graph leaders numbers e
  unfolding is_open all_open
  open-end e =
      rw (
        le-ltb e 0 (omega arith),
        and-false (eqb (slot_gate graph e) k),
        or-false (unnumbered numbers (slot_gate graph e)),
      ) refl

-- one slot that reads gate k is counted down
module _ {m : ℕ} {graph : List ℕ} {e k : ℕ} {leaders numbers counts ready : List ℕ}
    (s : CountDownReady m graph e k leaders numbers counts ready) where
  slot-gone : is_open graph leaders numbers k e e ≡ false
  slot-gone =
      rw (open-reading graph leaders numbers k s.numbered e e s.reads, le-ltb e e (omega arith))
      (and-false (crosses graph leaders e))

  slot-was : crosses graph leaders e ≡ true → is_open graph leaders numbers k (e + 1) e ≡ true
  slot-was c =
      rw (open-reading graph leaders numbers k s.numbered (e + 1) e s.reads, lt-ltb e (e + 1) (omega arith), c)
      refl

  slot-others : (x : ℕ) → (x ≡ e → ⊥) → is_open graph leaders numbers k (e + 1) x ≡ is_open graph leaders numbers k e x
  slot-others x n =
      ⊎_elim reading (open-other graph leaders numbers k s.numbered (e + 1) e x)
      (eq-or-ne (slot_place graph x) (first_gate + k))
    where
      reading : slot_place graph x ≡ first_gate + k
          → is_open graph leaders numbers k (e + 1) x ≡ is_open graph leaders numbers k e x
      reading is =
          rw (
            open-reading graph leaders numbers k s.numbered (e + 1) x is,
            open-reading graph leaders numbers k s.numbered e x is,
          )
          (⊎_elim (λ l. rw (lt-ltb x (e + 1) (omega arith), lt-ltb x e l) refl)
          (λ l. rw (le-ltb x (e + 1) (omega (arith, n)), le-ltb x e l) refl) (lt-or-le x e))

  within : e / slots < m
  within = omega (arith, s.slot)

  module _ {leader : ℕ} (is : leader ≡ get_or leaders (e / slots) 0) where
    pub leader-below : leader < m
    leader-below = omega (arith, is, lead-le s.prepared (e / slots) within, within)

    leads : get_or leaders leader 0 ≡ leader
    leads = rw is (lead-self s.prepared (e / slots) within)

    gate-is : slot_gate graph e ≡ k
    gate-is = omega (arith, s.reads)

    -- gate k is of the group of the gate that reads it
    pub count-down-skip : get_or leaders k 0 ≡ leader
        → Waiting m leaders numbers (get_or leaders k 0) (is_open graph leaders numbers k e) counts ready
    count-down-skip q =
        let no' : crosses graph leaders e ≡ false = crosses-same graph leaders e (rw gate-is (q ∙ is)) in
        let was : is_open graph leaders numbers k (e + 1) e ≡ false =
        open-reading graph leaders numbers k s.numbered (e + 1) e s.reads ∙ rw no' refl in
        waiting-as s.waiting
        (λ x xl. ⊎_elim
        (λ h. subst (λ (y : ℕ). is_open graph leaders numbers k (e + 1) y ≡ is_open graph leaders numbers k e y) (sym h)
        (was ∙ sym slot-gone))
        (slot-others x) (eq-or-ne x e))

    module _ (apart : get_or leaders k 0 ≡ leader → ⊥) where
      cross : crosses graph leaders e ≡ true
      cross =
          crosses-other graph leaders e (omega (arith, s.reads))
          (λ q. apart (subst (λ (x : ℕ). get_or leaders x 0 ≡ leader) gate-is (q ∙ sym is)))

      pub slot-some : 0 < get_or counts leader 0
      slot-some =
          count-down-some s.waiting s.prepared.legal.few s.slot (slot-was cross) slot-gone slot-others is
          leader-below leads

      pub slot-stays : (get_or counts leader 0 - 1 ≡ 0 → ⊥)
          → Waiting m leaders numbers (get_or leaders k 0) (is_open graph leaders numbers k e)
          (set counts leader (get_or counts leader 0 - 1)) ready
      slot-stays =
          count-down-stays s.waiting s.prepared.legal.few s.slot (slot-was cross) slot-gone slot-others is
          leader-below leads

      pub slot-ready : get_or counts leader 0 - 1 ≡ 0 → {ready' : List ℕ} → length ready' ≡ length ready
          → Added leader ready ready'
          → Waiting m leaders numbers (get_or leaders k 0) (is_open graph leaders numbers k e)
          (set counts leader (get_or counts leader 0 - 1)) ready'
      slot-ready =
          count-down-ready s.waiting s.prepared.legal.few s.slot (slot-was cross) slot-gone slot-others is
          leader-below leads

-- ---- a gate gets its number

module _ {m : ℕ} {graph leaders numbers : List ℕ} {k g : ℕ} {fanout counts ready : List ℕ}
    (r : NumberReady m graph leaders) (f : Fanout m graph fanout)
    (l : k < m) (bare : unnumbered numbers k ≡ true) (fits : g < max_gates) (room : length numbers ≡ max_gates)
    (w : Waiting m leaders numbers (get_or leaders k 0) (all_open graph leaders numbers) counts ready) where
  at-it : get_or (set numbers k g) k 0 ≡ g
  at-it = get_or-set_same numbers k g 0 (omega (arith, room, r.legal.few))

  pub has-number : unnumbered (set numbers k g) k ≡ false
  unfolding unnumbered
  has-number = rw at-it (ne_eqb g no_number (λ q. omega arith))

  same-other : (j : ℕ) → (j ≡ k → ⊥) → unnumbered (set numbers k g) j ≡ unnumbered numbers j
  unfolding unnumbered
  same-other j n = rw (get_or-set_other numbers k j g 0 n) refl

  still : (e : ℕ) → e < slots * m → all_open graph leaders numbers e
      ≡ is_open graph leaders (set numbers k g) k (get_or fanout k 0) e
  unfolding all_open is_open
  still e el = ⊎_elim reading others (eq-or-ne (slot_place graph e) (first_gate + k))
    where
      reading : slot_place graph e ≡ first_gate + k
          → all_open graph leaders numbers e ≡ is_open graph leaders (set numbers k g) k (get_or fanout k 0) e
      reading is =
          let q : slot_gate graph e ≡ k = omega (arith, is) in
          let low : e < get_or fanout k 0 = chain-le f.descends (f.found e k el (omega (arith, r.legal.few)) is) in
          rw (
            open-reading graph leaders (set numbers k g) k has-number (get_or fanout k 0) e is,
            lt-ltb e (get_or fanout k 0) low,
            q,
            bare,
          ) refl

      others : (slot_place graph e ≡ first_gate + k → ⊥)
          → all_open graph leaders numbers e ≡ is_open graph leaders (set numbers k g) k (get_or fanout k 0) e
      others n =
          ⊎_elim (λ h. no-gate h) (λ h. rw (
            open-other graph leaders (set numbers k g) k has-number (get_or fanout k 0) 0 e n,
            open-end graph leaders (set numbers k g) k has-number e,
          ) (gate h))
          (lt-or-le (slot_place graph e) first_gate)
        where
          no-gate : slot_place graph e < first_gate
              → all_open graph leaders numbers e ≡ is_open graph leaders (set numbers k g) k (get_or fanout k 0) e
          no-gate h = rw (crosses-no-gate graph leaders e h) refl

          gate : first_gate ≤ slot_place graph e
              → all_open graph leaders numbers e ≡ all_open graph leaders (set numbers k g) e
          gate h = rw (same-other (slot_gate graph e) (λ q. n (omega arith))) refl

  pub number-one : Waiting m leaders (set numbers k g) (get_or leaders k 0)
      (is_open graph leaders (set numbers k g) k (get_or fanout k 0)) counts ready
  number-one =
      record {
        count_room = w.count_room;
        ready_room = w.ready_room;
        counted = λ i im. w.counted i im ∙ count-as leaders (all_open graph leaders numbers) _ i (slots * m) still;
        emptied = λ i im a u. ⊎_elim
            (λ q. let h : i ≡ get_or leaders k 0 = sym a ∙ rw q refl in rw h (w.taken (omega (arith, lead-le r k l))))
            (λ n. w.emptied i im a (sym (same-other i n) ∙ u)) (eq-or-ne i k);
        taken = w.taken;
        sound = λ i t. let s = w.sound i t in
            record {
              below = s.below;
              other = s.other;
              leads = s.leads;
              zero = s.zero;
              bare = same-other i (apart i s.leads s.other) ∙ s.bare;
            };
        complete = λ i s. w.complete i
            (record {
              below = s.below;
              other = s.other;
              leads = s.leads;
              zero = s.zero;
              bare = sym (same-other i (apart i s.leads s.other)) ∙ s.bare;
            });
      }
    where
      apart : (i : ℕ) → get_or leaders i 0 ≡ i → (i ≡ get_or leaders k 0 → ⊥) → i ≡ k → ⊥
      apart i a n q = n (sym a ∙ rw q refl)

-- ---- the fan-out of a gate, down its list

-- `at` is behind a slot that reads gate k and is to be counted down next, or 0; the slots below it that read gate k are
-- in the list from it on
pub record CountingDown (m : ℕ) (graph : List ℕ) (k : ℕ) (fanout : List ℕ) (at : ℕ) : Type 0 where
  pub within : at ≤ slots * m
  pub listed : Chain fanout at (get_or fanout k 0)
  pub below : (e : ℕ) → slot_place graph e ≡ first_gate + k → e < at → Chain fanout (suc e) at

-- behind a slot of a list stands one of it
chain_next : {fanout : List ℕ} {e s : ℕ} → Chain fanout (suc e) s → Chain fanout (get_or fanout (max_gates + e) 0) s
chain_next at = behind at
chain_next (behind c) = behind (chain_next c)

module _ {m : ℕ} {graph fanout : List ℕ} (f : Fanout m graph fanout) {k : ℕ} (l : k < m) (few : m ≤ max_gates) where
  pub counting-down-first : CountingDown m graph k fanout (get_or fanout k 0)
  counting-down-first =
      record {
        within = f.starts k (omega arith);
        listed = at;
        below = λ e is h. f.found e k (omega (arith, f.starts k (omega arith))) (omega arith) is;
      }

  module _ {e : ℕ} (w : CountingDown m graph k fanout (suc e)) where
    pub counting-down-reads : slot_place graph e ≡ first_gate + k
    counting-down-reads = f.only e k (omega arith) w.listed

    -- the slots that read gate k go on from the next one
    lower : (x : ℕ) → slot_place graph x ≡ first_gate + k → x < e → Chain fanout (suc x) (get_or fanout (max_gates + e) 0)
    lower x is h = go (w.below x is (omega arith)) refl h
      where
        go : {q : ℕ} → Chain fanout (suc x) q → {y : ℕ} → q ≡ suc y → x < y
            → Chain fanout (suc x) (get_or fanout (max_gates + y) 0)
        go at {y} q h = absurd (omega arith)
        go (behind {q = z} c) {y} q h = let same : z ≡ y = omega arith in rw same at c

    pub counting-down-next : CountingDown m graph k fanout (get_or fanout (max_gates + e) 0)
    counting-down-next =
        record {
          within = omega (arith, f.descends e, w.within);
          listed = chain_next w.listed;
          below = λ x is h. lower x is (omega (arith, f.descends e));
        }

    -- none of them is passed over
    pub counting-down-down : {leaders numbers counts ready : List ℕ} {h : ℕ} → unnumbered numbers k ≡ false
        → Waiting m leaders numbers h (is_open graph leaders numbers k e) counts ready
        → Waiting m leaders numbers h (is_open graph leaders numbers k (get_or fanout (max_gates + e) 0)) counts ready
    counting-down-down {leaders} {numbers} numbered s =
        waiting-as s
        (λ x xl. open-down graph leaders numbers k numbered e (get_or fanout (max_gates + e) 0) (f.descends e)
        (λ y is h. chain-le f.descends (lower y is h)) x)

-- ---- a group is taken

module _ {m : ℕ} {leaders numbers : List ℕ} {held : ℕ → Bool} {counts ready : List ℕ} where
  pub taken_out : Waiting m leaders numbers m held counts ready → (h : ℕ) → in_set ready h ≡ true → {ready' : List ℕ}
      → length ready' ≡ length ready
      → Removed h ready ready' → Waiting m leaders numbers h held counts ready'
  taken_out w h chosen {ready'} long out =
      record {
        count_room = w.count_room;
        ready_room = long ∙ w.ready_room;
        counted = w.counted;
        emptied = w.emptied;
        taken = λ l. (w.sound h chosen).zero;
        sound = λ i t.
            let r = w.sound i (and_left (in_set ready i) (not (eqb i h)) (sym (out i) ∙ t)) in
            let n = not-true (eqb i h) (and_right (in_set ready i) (not (eqb i h)) (sym (out i) ∙ t)) in
            record { below = r.below; other = eqb-false i h n; leads = r.leads; bare = r.bare; zero = r.zero };
        complete = λ i r. out i ∙ and_intro (in_set ready i) (not (eqb i h))
            (w.complete i (record {
              below = r.below;
              other = λ q. absurd (omega (arith, r.below));
              leads = r.leads;
              bare = r.bare;
              zero = r.zero;
            }))
            (rw (ne_eqb i h r.other) refl);
      }

  -- the group that was taken out of the set has its number
  pub taken_in : {h : ℕ} → Waiting m leaders numbers h held counts ready → unnumbered numbers h ≡ false
      → Waiting m leaders numbers m held counts ready
  taken_in {h} w has =
      record {
        count_room = w.count_room;
        ready_room = w.ready_room;
        counted = w.counted;
        emptied = w.emptied;
        taken = λ l. absurd (omega arith);
        sound = λ i t. let r = w.sound i t in
            record {
              below = r.below;
              other = λ q. absurd (omega (arith, r.below));
              leads = r.leads;
              bare = r.bare;
              zero = r.zero;
            };
        complete = λ i r. w.complete i
            (record {
              below = r.below;
              other = λ q. not-both r.bare (rw q has);
              leads = r.leads;
              bare = r.bare;
              zero = r.zero;
            });
      }

-- ---- the groups that may be next

module _ {m : ℕ} {graph leaders numbers counts ready : List ℕ} (r : NumberReady m graph leaders)
    (w : Waiting m leaders numbers m (all_open graph leaders numbers) counts ready) where
  -- a slot of gate i that reads gate k
  slot-reading : (i k : ℕ) → i < m → reads (network m graph) i k ≡ true
      → (e : ℕ) × (e < slots * m) × (e / slots ≡ i) × (slot_place graph e ≡ first_gate + k)
  slot-reading i k il h =
      let s = read-slot r.legal i il k h in
      (slots * i + s.0, omega (arith, s.1), omega (arith, s.1), slot_of graph i s.0 s.1 ∙ s.2)

  -- the gate of slot e reads gate k
  reading-slot : (e k : ℕ) → e < slots * m → slot_place graph e ≡ first_gate + k
      → reads (network m graph) (e / slots) k ≡ true
  reading-slot e k el is =
      let parts : slots * (e / slots) + e % slots ≡ e = omega arith in
      slot_read r.legal (e / slots) (omega arith) (e % slots) k (omega arith)
      (sym (slot_of graph (e / slots) (e % slots) (omega arith)) ∙ rw parts is)

  -- a group that waits for nothing reads no gate without a number outside it
  none_read : (l : ℕ) → l < m → get_or counts l 0 ≡ 0 → (i k : ℕ) → i < m → get_or leaders i 0 ≡ l
      → reads (network m graph) i k ≡ true
      → unnumbered numbers k ≡ true → get_or leaders k 0 ≡ l
  unfolding count_of all_open
  none_read l lm z i k il led read u =
      ⊎_elim (λ q. q) (λ n. absurd (not-both (open' n) closed)) (eq-or-ne (get_or leaders k 0) l)
    where
      s : (e : ℕ) × (e < slots * m) × (e / slots ≡ i) × (slot_place graph e ≡ first_gate + k)
      s = slot-reading i k il read

      gate : slot_gate graph s.0 ≡ k
      gate = omega (arith, s.3)

      closed : eqb (get_or leaders (s.0 / slots) 0) l && (crosses graph leaders s.0
          && unnumbered numbers (slot_gate graph s.0)) ≡ false
      closed =
          none-counted (λ e. eqb (get_or leaders (e / slots) 0) l
          && (crosses graph leaders e && unnumbered numbers (slot_gate graph e))) (slots * m)
          (sym (w.counted l lm) ∙ z) s.0 s.1

      open' : (get_or leaders k 0 ≡ l → ⊥)
          → eqb (get_or leaders (s.0 / slots) 0) l
          && (crosses graph leaders s.0 && unnumbered numbers (slot_gate graph s.0)) ≡ true
      open' n =
          let c = crosses-other graph leaders s.0 (omega (arith, s.3)) (λ q. n (rw gate at q ∙ rw s.2 led)) in
          rw (s.2, eq-eqb (get_or leaders i 0) l led, c, gate, u) refl

  -- a group that waits for a slot reads one
  some_read : (l : ℕ) → l < m → (get_or counts l 0 ≡ 0 → ⊥) → get_or leaders l 0 ≡ l
      → may_be_next (network m graph) (numbered_gates m numbers) l ≡ false
  unfolding count_of all_open
  some_read l lm n leads =
      not-true-false (may_be_next (network m graph) (numbered_gates m numbers) l)
      (λ t. n (w.counted l lm ∙ count_below-none _ (slots * m)
      (λ e el. not-true-false _ (λ o. not-both t (found e el o)))))
    where
      found : (e : ℕ) → e < slots * m → eqb (get_or leaders (e / slots) 0) l && (crosses graph leaders e
          && unnumbered numbers (slot_gate graph e)) ≡ true
          → may_be_next (network m graph) (numbered_gates m numbers) l ≡ false
      found e el o =
          let led = eqb-true (get_or leaders (e / slots) 0) l (and_left (eqb (get_or leaders (e / slots) 0) l) _ o) in
          let both = and_right (eqb (get_or leaders (e / slots) 0) l) _ o in
          let cross = and_left (crosses graph leaders e) (unnumbered numbers (slot_gate graph e)) both in
          let u = and_right (crosses graph leaders e) (unnumbered numbers (slot_gate graph e)) both in
          let parts = crossing graph leaders e cross in
          waits r numbers l lm leads (e / slots) (slot_gate graph e) (omega arith) led
          (reading-slot e (slot_gate graph e) el (omega (arith, parts.0))) u (λ q. parts.1 (q ∙ sym led))

  set_next : (l : ℕ) → l < m → in_set ready l ≡ leads_next (network m graph) m numbers leaders l
  unfolding leads_next
  set_next l lm =
      same_test (in_set ready l) (eqb (get_or leaders l 0) l && may_be_next (network m graph) (numbered_gates m numbers) l)
      forth back
    where
      forth : in_set ready l ≡ true → eqb (get_or leaders l 0) l && may_be_next (network m graph) (numbered_gates m numbers) l
          ≡ true
      forth t =
          let q = w.sound l t in
          and_intro (eqb (get_or leaders l 0) l) (may_be_next (network m graph) (numbered_gates m numbers) l)
          (eq-eqb (get_or leaders l 0) l q.leads)
          (free r numbers l lm q.leads q.bare (none_read l lm q.zero))

      back : eqb (get_or leaders l 0) l && may_be_next (network m graph) (numbered_gates m numbers) l ≡ true
          → in_set ready l ≡ true
      back t =
          let leads : get_or leaders l 0 ≡ l = eqb-true (get_or leaders l 0) l (and_left (eqb (get_or leaders l 0) l) _ t) in
          let may : may_be_next (network m graph) (numbered_gates m numbers) l ≡ true =
          and_right (eqb (get_or leaders l 0) l) _ t in
          w.complete l
          (record {
            below = lm;
            other = λ e. absurd (omega arith);
            leads = leads;
            bare = not-false (unnumbered numbers l)
                (sym (done-member m numbers l lm) ∙ may_be_next-left (network m graph) (numbered_gates m numbers) l may);
            zero = ⊎_elim (λ z. z) (λ n. not-both may (some_read l lm n leads)) (eq-or-ne (get_or counts l 0) 0);
          })

  module _ {j : ℕ} (some : least (in_set ready) (64 * length ready) < 64 * length ready)
      (is : j ≡ least (in_set ready) (64 * length ready)) where
    -- the lowest gate is in the set, and so a gate
    pub lowest-in : in_set ready j ≡ true
    lowest-in = rw is (least_at (in_set ready) (64 * length ready) some)

    pub lowest-gate : j < m
    lowest-gate = (w.sound j lowest-in).below

    -- and it is the next
    pub lowest-next : j ≡ least (leads_next (network m graph) m numbers leaders) m
    lowest-next =
        sym (least-is (leads_next (network m graph) m numbers leaders) m j (omega (arith, lowest-gate))
        (λ i il. sym (set_next i (omega (arith, il, lowest-gate)))
        ∙ least-below (in_set ready) (64 * length ready) i (rw (← is) il))
        (λ jl. sym (set_next j lowest-gate) ∙ lowest-in))

  -- an empty set has none
  pub none-next : (least (in_set ready) (64 * length ready) < 64 * length ready → ⊥)
      → m ≡ least (leads_next (network m graph) m numbers leaders) m
  none-next none =
      sym (least-is (leads_next (network m graph) m numbers leaders) m m (omega arith)
      (λ i il. sym (set_next i il) ∙ least-below (in_set ready) (64 * length ready) i (past i il))
      (λ q. absurd (omega arith)))
    where
      past : (i : ℕ) → i < m → i < least (in_set ready) (64 * length ready)
      past i il =
          ⊎_elim (λ b. absurd (none b)) (λ b. omega (arith, b, w.ready_room, r.legal.few))
          (lt-or-le (least (in_set ready) (64 * length ready)) (64 * length ready))
