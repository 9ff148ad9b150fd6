-- A group's leader, and the walk over the gates that finds the lowest gate of each group. Cited by `lead_layers` and by
-- `op_groups`. Assumes nothing.
--   leader-below .. leader-le       a leader is the lowest gate of its group
--   leading-none, leading-on        gate after gate gets its leader
use mathlib.Core.Path.{◌≡◌, refl, sym, ◌∙◌}
use mathlib.Core.Logic.{inl, inr, ⊎_elim}
use mathlib.Core.Bool.{Bool, true}
use mathlib.Core.List.{List}
use Prim.Native.Nat.{ℕ, ◌+◌, ◌≤◌, ◌<◌}
use native.Mathlib.Nat.{not-suc-le-zero}
use lib.ListN.{length, get_or, set, drop, replicate, length-set, length-replicate, get_or-replicate, get_or-append}
use lib.Seq.{get_or-set_same, get_or-set_other}
use native.Mathlib.Omega.{arith}
use lib.Dec.{eqb}
use borrow.Author.Tests.{eqb-true, eq-eqb}
use Rattle.prelude.specs.Lists.{placed, least}
use Rattle.prelude.proofs.Slices.{length-placed}
use Rattle.prelude.proofs.Tests.{same_test, not-both, not-true-false, lt-or-le, eq-or-ne}
use Rattle.prelude.proofs.Least.{least-is, least-le, least-below, least_at, least_first}
use Rattle.netlist.specs.Limits.{max_gates}
use Rattle.netlist.specs.Netlist.{Block, gate_count}
use Rattle.netlist.specs.Groups.{same_group}
use Rattle.theory_reach.proofs.SameGroup.{same_group-refl, same_group-sym, same_group-trans}
use Rattle.graph_scc.specs.Leaders.{leader_of, no_gate, Keyed, FirstWith, FirstOf, LeadingOn}

-- searches with tests that agree find the same
pub least-cong : (p q : ℕ → Bool) (n : ℕ) → ((k : ℕ) → k < n → p k ≡ q k) → least p n ≡ least q n
least-cong p q n h =
    least-is p n (least q n) (least-le q n)
    (λ i il. let t : least q n ≤ n = least-le q n in h i (omega arith) ∙ least-below q n i il)
    (λ lt. h (least q n) lt ∙ least_at q n lt)

pub leader-below : (b : Block) (j : ℕ) → j < gate_count b → leader_of b j < gate_count b
unfolding leader_of
leader-below b j l =
    ⊎_elim (λ h. h) (λ h. not-both (same_group-refl b j l) (least-below (same_group b j) (gate_count b) j (omega arith)))
    (lt-or-le (leader_of b j) (gate_count b))

pub leader-same : (b : Block) (j : ℕ) → j < gate_count b → same_group b j (leader_of b j) ≡ true
unfolding leader_of
leader-same b j l = least_at (same_group b j) (gate_count b) (leader-below b j l)

pub same-leader : (b : Block) (i j : ℕ) → same_group b i j ≡ true → leader_of b i ≡ leader_of b j
unfolding leader_of
same-leader b i j h =
    least-cong (same_group b i) (same_group b j) (gate_count b)
    (λ k kl. same_test (same_group b i k) (same_group b j k) (λ ik. same_group-trans b j i k (same_group-sym b i j h) ik)
    (λ jk. same_group-trans b i j k h jk))

-- gates have one leader exactly when they are in one group
pub leaders-same : (b : Block) (i j : ℕ) → i < gate_count b → j < gate_count b
    → eqb (leader_of b i) (leader_of b j) ≡ same_group b i j
leaders-same b i j il jl =
    same_test (eqb (leader_of b i) (leader_of b j)) (same_group b i j)
    (λ h. same_group-trans b i (leader_of b i) j (leader-same b i il)
    (same_group-sym b j (leader_of b i) (rw (eqb-true (leader_of b i) (leader_of b j) h) (leader-same b j jl))))
    (λ h. eq-eqb (leader_of b i) (leader_of b j) (same-leader b i j h))

-- no gate of a group is below its leader
pub leader-le : (b : Block) (j : ℕ) → j < gate_count b → leader_of b j ≤ j
unfolding leader_of
leader-le b j l =
    ⊎_elim (λ h. h) (λ h. let n : leader_of b j ≤ gate_count b = least-le (same_group b j) (gate_count b) in omega arith)
    (least_first (same_group b j) (gate_count b) j (same_group-refl b j l))

-- ---- the walk over the gates

-- what a filled array holds
pub filled : (m v : ℕ) (entry : List ℕ) {exit : List ℕ} → m ≤ length entry → exit ≡ placed (replicate m v) entry
    → (length exit ≡ length entry) × ((e : ℕ) → e < m → get_or exit e 0 ≡ v)
filled m v entry fits is =
    let long : length (replicate m v) ≡ m = length-replicate {A = ℕ} m v in (
      rw is (length-placed (replicate m v) entry (omega arith)),
      λ e l. rw is (get_or-append (replicate m v) (drop (length (replicate m v)) entry) 0 e (rw long l)
          ∙ get_or-replicate m e v 0 l),
    )

-- at first no key has a gate
pub leading-none : (b : Block) (m : ℕ) (key : ℕ → ℕ) (firsts leaders : List ℕ) → length firsts ≡ max_gates
    → length leaders ≡ max_gates
    → ((e : ℕ) → e < m → get_or firsts e 0 ≡ no_gate) → LeadingOn b m key 0 firsts leaders
leading-none b m key firsts leaders fr lr none =
    record {
      first_room = fr;
      leader_room = lr;
      lowest = λ e l. record { cases = inl (none e l, λ j jl. absurd (not-suc-le-zero jl)) };
      leads = λ j l. absurd (not-suc-le-zero l);
    }

-- f is the first gate with gate k's key
lowest-is : (b : Block) (m : ℕ) (key : ℕ → ℕ) → gate_count b ≡ m → Keyed b m key → (k f : ℕ) → k < m → f ≤ k
    → key f ≡ key k
    → ((j : ℕ) → j < f → key j ≡ key k → ⊥) → f ≡ leader_of b k
unfolding leader_of
lowest-is b m key count keyed k f kl fk same none =
    sym (least-is (same_group b k) (gate_count b) f (rw count (omega arith))
    (λ i il. not-true-false (same_group b k i) (λ h. none i il (sym (keyed.same k i kl (omega arith) h))))
    (λ l. keyed.back k f kl (omega arith) (sym same)))

-- gate k gets its leader
module _ {b : Block} {m : ℕ} {key : ℕ → ℕ} (count : gate_count b ≡ m) (few : m ≤ max_gates) (keyed : Keyed b m key)
    {k : ℕ} (kl : k < m)
    {firsts firsts' leaders : List ℕ} (on : LeadingOn b m key k firsts leaders) {r : ℕ}
    (did : FirstOf (key k) k firsts firsts' r) where
  room : length firsts' ≡ max_gates
  room =
      ⊎_elim (λ h. rw h.1 (length-set firsts (key k) k ∙ on.first_room)) (λ h. rw h.1 on.first_room)
      did.cases

  -- what is known of k's key
  known : FirstWith key k (key k) (get_or firsts (key k) 0)
  known = on.lowest (key k) (keyed.below k kl)

  pub led : r ≡ leader_of b k
  led = ⊎_elim new old did.cases
    where
      new : (get_or firsts (key k) 0 ≡ no_gate) × (firsts' ≡ set firsts (key k) k) × (r ≡ k) → r ≡ leader_of b k
      new h =
          rw h.2
          (lowest-is b m key count keyed k k kl (omega arith) refl
          (⊎_elim (λ w. w.1) (λ w. absurd (omega (arith, w.0, h.0))) known.cases))

      old : (get_or firsts (key k) 0 ≡ no_gate → ⊥) × (firsts' ≡ firsts) × (r ≡ get_or firsts (key k) 0) → r ≡ leader_of b k
      old h =
          rw h.2
          (⊎_elim (λ w. absurd (h.0 w.0))
          (λ w. lowest-is b m key count keyed k (get_or firsts (key k) 0) kl (omega (arith, w.0)) w.1 w.2)
          known.cases)

  -- the first gates among one gate more
  first_more : (e : ℕ) → e < m → FirstWith key (k + 1) e (get_or firsts' e 0)
  first_more e el = ⊎_elim new old did.cases
    where
      kept : get_or firsts' e 0 ≡ get_or firsts e 0 → (key k ≡ e → ⊥) → FirstWith key (k + 1) e (get_or firsts' e 0)
      kept is other =
          rw is
          (record {
            cases = ⊎_elim
                (λ w. inl (
                  w.0,
                  λ j jl q. ⊎_elim (λ s. other (rw s at q)) (λ n. w.1 j (omega (arith, n)) q)
                      (eq-or-ne j k),
                ))
                (λ w. inr (omega (arith, w.0), w.1, w.2))
                (on.lowest e el).cases;
          })

      new : (get_or firsts (key k) 0 ≡ no_gate) × (firsts' ≡ set firsts (key k) k) × (r ≡ k)
          → FirstWith key (k + 1) e (get_or firsts' e 0)
      new h =
          ⊎_elim mine (λ n. kept (rw h.1 (get_or-set_other firsts (key k) e k 0 n)) (λ q. n (sym q)))
          (eq-or-ne e (key k))
        where
          mine : e ≡ key k → FirstWith key (k + 1) e (get_or firsts' e 0)
          mine q =
              let small : key k < length firsts = omega (arith, keyed.below k kl, on.first_room) in
              let is : get_or firsts' e 0 ≡ k = rw (h.1, q) (get_or-set_same firsts (key k) k 0 small) in
              rw is
              (record {
                cases =
                    inr (
                      omega arith,
                      sym q,
                      rw q (⊎_elim (λ w. w.1) (λ w. absurd (omega (arith, w.0, h.0)))
                          known.cases),
                    );
              })

      old : (get_or firsts (key k) 0 ≡ no_gate → ⊥) × (firsts' ≡ firsts) × (r ≡ get_or firsts (key k) 0)
          → FirstWith key (k + 1) e (get_or firsts' e 0)
      old h = ⊎_elim mine (λ n. kept (rw h.1 refl) (λ q. n (sym q))) (eq-or-ne e (key k))
        where
          mine : e ≡ key k → FirstWith key (k + 1) e (get_or firsts' e 0)
          mine q =
              rw (h.1, q)
              (record {
                cases = ⊎_elim (λ w. absurd (h.0 w.0)) (λ w. inr (omega (arith, w.0), w.1, w.2))
                    known.cases;
              })

  pub leading-on : LeadingOn b m key (k + 1) firsts' (set leaders k r)
  leading-on =
      record {
        first_room = room;
        leader_room = length-set leaders k r ∙ on.leader_room;
        lowest = first_more;
        leads = λ j l.
            ⊎_elim (λ e. rw e (get_or-set_same leaders k r 0 (omega (arith, on.leader_room)) ∙ led))
            (λ n. get_or-set_other leaders k j r 0 n ∙ on.leads j (omega (arith, n))) (eq-or-ne j k);
      }
