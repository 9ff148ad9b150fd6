-- Sets that grow along reads, or against them, until no gate can be added: then they are the gates that a gate reaches,
-- or that reach it. Cited by the functions of `closure`. Assumes nothing.
--   growing-start, growing-more    the first gate, and one gate more
--   reached                        when none can be added
--   leader-found                   the lowest gate in both sets is the leader
use Prim.Native.Nat.{ℕ, ◌+◌, ◌≤◌, ◌<◌}
use mathlib.Core.Path.{◌≡◌, refl, sym, ◌∙◌}
use mathlib.Core.Logic.{⊎_elim}
use mathlib.Core.Bool.{Bool, true, false, not}
use mathlib.Core.List.{List}
use native.Mathlib.Omega.{arith}
use lib.ListN.{length, get_or, set, length-set}
use lib.Seq.{get_or-set_same, get_or-set_other}
use lib.Dec.{eqb}
use borrow.Author.Tests.{eqb-true, eq-eqb, ne_eqb}
use Rattle.std.specs.declared.option.Option.{Option}
use Rattle.std.specs.declared.option.Option.TheVariants.{None, Some}
use Rattle.prelude.specs.Lists.{least}
use Rattle.prelude.proofs.Tests.{eq-or-ne, same_test, and_intro, and_left, and_right}
use Rattle.prelude.proofs.Counting.{count_below-one}
use Rattle.netlist.specs.Limits.{max_gates}
use Rattle.netlist.specs.Netlist.{Block}
use Rattle.netlist.specs.Groups.{OperandPath, stay, step, reads, reaches, same_group}
use Rattle.theory_reach.proofs.Reach.{path-append, path-reaches, reaches-path}
use Rattle.graph_gates.specs.Places.{first_gate}
use Rattle.graph_gates.specs.Graph.{slots, place_at, network, Graph}
use Rattle.graph_gates.proofs.Network.{network-count}
use Rattle.graph_scc.specs.Leaders.{leader_of}
use Rattle.graph_scc.specs.Closure.{Walk, Edge, Open, Shut, Added, SlotShut, GateShut, SlotTarget, Growing, outside}
use Rattle.graph_scc.specs.Closure.{Reached, in_both, LeaderFound, LeadingEach}
use Rattle.graph_scc.proofs.Slots.{read-slot, slot_read, read-inside}
use Rattle.graph_scc.proofs.Leader.{least-cong, leader-below}

walk-stay : (b : Block) (back : Bool) (i : ℕ) → Walk b back i i
unfolding Walk
walk-stay b false i = stay
walk-stay b true i = stay

walk_more : (b : Block) (back : Bool) (i k j : ℕ) → Walk b back i k → Edge b back k j → Walk b back i j
unfolding Walk Edge
walk_more b false i k j p e = path-append p (step e stay)
walk_more b true i k j p e = step e p

-- ---- a slot's read

module _ {m : ℕ} {graph : List ℕ} (legal : Graph m graph) (k : ℕ) (kl : k < m) (s : ℕ) (sl : s < slots) (j : ℕ)
    (is : place_at graph k s ≡ first_gate + j) where
  below : j < m
  below = omega (arith, (legal.node k kl).inside s sl, is)

  pub target_ahead : (flags : List ℕ) (r : Option ℕ) → Added flags k j r → SlotTarget m graph false flags k s r
  unfolding Edge Shut
  target_ahead flags None a = record { shut = λ i e. let q : i ≡ j = omega (arith, e, is) in rw q a }
  target_ahead flags (Some t) (e, h, n) =
      record {
        below = omega (arith, e, below);
        adds = rw e (record { from = k; below = kl; there = h; edge = slot_read legal k kl s j sl is; absent = n });
      }

  pub target-back : (flags : List ℕ) (r : Option ℕ) → Added flags j k r → SlotTarget m graph true flags k s r
  unfolding Edge Shut
  target-back flags None a = record { shut = λ i e. let q : i ≡ j = omega (arith, e, is) in rw q a }
  target-back flags (Some t) (e, h, n) =
      record {
        below = omega (arith, e, kl);
        adds = rw e (record { from = j; below = below; there = h; edge = slot_read legal k kl s j sl is; absent = n });
      }

-- no slot of gate k adds a gate
pub none-by-slots : {m : ℕ} {graph : List ℕ} → Graph m graph → (k : ℕ) → k < m → (back : Bool) (flags : List ℕ)
    → ((s : ℕ) → s < slots → SlotShut graph back flags k s) → GateShut m graph back flags k
none-by-slots legal k kl back flags shut =
    record { shut = λ j r. let s = read-slot legal k kl j r in (shut s.0 s.1).shut j s.2 }

-- ---- growing

pub growing-start : (m : ℕ) (graph : List ℕ) (back : Bool) (start : ℕ) (flags : List ℕ) → length flags ≡ max_gates
    → start < max_gates
    → ((j : ℕ) → j < m → get_or flags j 0 ≡ 0) → Growing m graph back start (set flags start 1)
growing-start m graph back start flags room l none =
    record {
      room = length-set flags start 1 ∙ room;
      first = get_or-set_same flags start 1 0 (omega arith);
      sound = λ j jl h.
          ⊎_elim (λ e. rw e (walk-stay (network m graph) back start))
          (λ n. absurd (let z : get_or flags j 0 ≡ 1 = sym (get_or-set_other flags start j 1 0 n)
          ∙ h in omega (arith, none j jl))) (eq-or-ne j start);
    }

module _ {m : ℕ} {graph : List ℕ} {back : Bool} {start : ℕ} {flags : List ℕ} (few : m ≤ max_gates)
    (g : Growing m graph back start flags) {t : ℕ} (l : t < m)
    (o : Open (network m graph) m back flags t) where
  pub growing-more : Growing m graph back start (set flags t 1)
  growing-more =
      record {
        room = length-set flags t 1 ∙ g.room;
        first =
            ⊎_elim (λ e. rw e (get_or-set_same flags t 1 0 (omega (arith, g.room))))
            (λ n. get_or-set_other flags t start 1 0 n ∙ g.first) (eq-or-ne start t);
        sound = λ j jl h.
            ⊎_elim (λ e. rw e (walk_more (network m graph) back start o.from t
            (g.sound o.from o.below o.there) o.edge))
            (λ n. g.sound j jl (sym (get_or-set_other flags t j 1 0 n) ∙ h)) (eq-or-ne j t);
      }

  pub fewer : outside (set flags t 1) m < outside flags m
  unfolding outside
  fewer =
      let put : get_or (set flags t 1) t 0 ≡ 1 = get_or-set_same flags t 1 0 (omega (arith, g.room)) in
      let now : not (eqb (get_or (set flags t 1) t 0) 1) ≡ false = rw (eq-eqb (get_or (set flags t 1) t 0) 1 put) refl in
      let was : not (eqb (get_or flags t 0) 1) ≡ true = rw (ne_eqb (get_or flags t 0) 1 o.absent) refl in
      let one = count_below-one (λ k. not (eqb (get_or (set flags t 1) k 0) 1)) (λ k. not (eqb (get_or flags k 0) 1)) m t l
      now was
      (λ k n. rw (get_or-set_other flags t k 1 0 n) refl) in
      omega arith

-- ---- the end

module _ {m : ℕ} {graph : List ℕ} (legal : Graph m graph) (flags : List ℕ) where
  -- along a path from a gate in the set
  ahead : ((k j : ℕ) → k < m → reads (network m graph) k j ≡ true → Shut false flags k j)
      → {i j : ℕ} → i < m → get_or flags i 0 ≡ 1 → OperandPath (network m graph) i j → get_or flags j 0 ≡ 1
  unfolding Shut
  ahead shut l h stay = h
  ahead shut {i} l h (step {j = k} r p) = ahead shut (read-inside legal i l k r) (shut i k l r h) p

  -- against a path to a gate in the set
  behind : ((k j : ℕ) → k < m → reads (network m graph) k j ≡ true → Shut true flags k j)
      → {i j : ℕ} → i < m → get_or flags j 0 ≡ 1 → OperandPath (network m graph) i j → get_or flags i 0 ≡ 1
  unfolding Shut
  behind shut l h stay = h
  behind shut {i} l h (step {j = k} r p) = shut i k l r (behind shut (read-inside legal i l k r) h p)

  complete : (back : Bool) (start : ℕ) → start < m → get_or flags start 0 ≡ 1
      → ((k j : ℕ) → k < m → reads (network m graph) k j ≡ true → Shut back flags k j)
      → (j : ℕ) → j < m → Walk (network m graph) back start j → get_or flags j 0 ≡ 1
  unfolding Walk
  complete false start l h shut j jl w = ahead shut l h w
  complete true start l h shut j jl w = behind shut jl h w

pub reached : {m : ℕ} {graph : List ℕ} {back : Bool} {start : ℕ} {flags : List ℕ} → Graph m graph → start < m
    → Growing m graph back start flags → ((k : ℕ) → k < m → GateShut m graph back flags k)
    → Reached m graph back start flags
reached {back = back} {start = start} {flags = flags} legal l g shut =
    record {
      room = g.room;
      sound = g.sound;
      complete = complete legal flags back start l g.first (λ k j kl. (shut k kl).shut j);
    }

-- ---- the lowest of both

module _ {m : ℕ} {graph : List ℕ} (legal : Graph m graph) {j : ℕ} (jl : j < m) {fore aft : List ℕ}
    (f : Reached m graph false j fore)
    (a : Reached m graph true j aft) {r : ℕ} (low : r ≡ least (in_both fore aft) m) where
  -- in both sets, and of one group
  both-same : (i : ℕ) → i < m → in_both fore aft i ≡ true → same_group (network m graph) j i ≡ true
  unfolding same_group Walk
  both-same i il h =
      let p = eqb-true (get_or fore i 0) 1 (and_left (eqb (get_or fore i 0) 1) (eqb (get_or aft i 0) 1) h) in
      let q = eqb-true (get_or aft i 0) 1 (and_right (eqb (get_or fore i 0) 1) (eqb (get_or aft i 0) 1) h) in
      and_intro (reaches (network m graph) j i) (reaches (network m graph) i j)
      (path-reaches (network m graph) j i (rw (network-count m graph) il) (f.sound i il p))
      (path-reaches (network m graph) i j (rw (network-count m graph) jl) (a.sound i il q))

  same-both : (i : ℕ) → i < m → same_group (network m graph) j i ≡ true → in_both fore aft i ≡ true
  unfolding same_group Walk
  same-both i il s =
      and_intro (eqb (get_or fore i 0) 1) (eqb (get_or aft i 0) 1)
      (eq-eqb (get_or fore i 0) 1 (f.complete i il (reaches-path (network m graph) j i
      (and_left (reaches (network m graph) j i) (reaches (network m graph) i j) s))))
      (eq-eqb (get_or aft i 0) 1 (a.complete i il (reaches-path (network m graph) i j
      (and_right (reaches (network m graph) j i) (reaches (network m graph) i j) s))))

  pub leader-found : r ≡ leader_of (network m graph) j
  unfolding leader_of
  leader-found =
      rw (network-count m graph)
      (low ∙ least-cong (in_both fore aft) (same_group (network m graph) j) m
      (λ i il. same_test (in_both fore aft i) (same_group (network m graph) j i) (both-same i il) (same-both i il)))

  pub found-below : r < m
  found-below =
      let l : leader_of (network m graph) j < m =
      rw (network-count m graph) at (leader-below (network m graph) j (rw (network-count m graph) jl)) in
      rw leader-found l

-- one leader more
pub leading-more : {m : ℕ} {graph : List ℕ} → m ≤ max_gates → {j : ℕ} {ahead behind leaders : List ℕ}
    → LeadingEach m graph j ahead behind leaders → j < m
    → {ahead' behind' : List ℕ} {r : ℕ} → LeaderFound m graph j ahead' behind' r
    → LeadingEach m graph (j + 1) ahead' behind' (set leaders j r)
leading-more few {j = j} {leaders = leaders} on l {r = r} found =
    record {
      ahead_room = found.ahead_room;
      behind_room = found.behind_room;
      leader_room = length-set leaders j r ∙ on.leader_room;
      leads = λ k kl.
          ⊎_elim (λ e. rw e (get_or-set_same leaders j r 0 (omega (arith, on.leader_room)) ∙ found.answer))
          (λ n. get_or-set_other leaders j k r 0 n ∙ on.leads k (omega (arith, n))) (eq-or-ne k j);
    }
