-- A group gets its number, gate after gate. Cited by `number_group`. Assumes nothing.
--   group-first     none has it yet
--   group-count-down      the next gate has it, and its fan-out is to be counted down
--   group-next      they are
--   group-end       all have it
use mathlib.Core.Path.{◌≡◌, refl, sym, ◌∙◌}
use mathlib.Core.Logic.{⊎_elim}
use mathlib.Core.Bool.{true, false, cond, ◌&&◌, and-true, and-false}
use mathlib.Core.List.{List}
use Prim.Native.Nat.{ℕ, ◌+◌, ◌≤◌, ◌<◌}
use native.Mathlib.Omega.{arith}
use lib.ListN.{length, get_or, set, length-set}
use lib.Seq.{get_or-set_same, get_or-set_other}
use lib.Dec.{eqb, ltb}
use borrow.Author.Tests.{eq-eqb, ne_eqb, lt-ltb, le-ltb}
use Rattle.prelude.proofs.Tests.{eq-or-ne, lt-or-le}
use Rattle.netlist.specs.Limits.{max_gates}
use Rattle.op_groups.specs.Links.{FirstFrom}
use Rattle.op_groups.proofs.Linking.{next-above}
use Rattle.op_groups.specs.Numbering.{no_number, unnumbered}
use Rattle.op_groups.specs.Ready.{Removed}
use Rattle.op_groups.specs.Waiting.{all_open, Waiting, CountDownAllReady, NumberGroupReady, GroupNumbered}
use Rattle.op_groups.proofs.Leading.{lowest}
use Rattle.op_groups.proofs.Counted.{has-number, number-one, taken_out, taken_in}

-- the gates of the group below k have the number, and k is the next of them
pub record Under (m leader g : ℕ) (graph leaders numbers₀ numbers counts ready : List ℕ) (k : ℕ) : Type 0 where
  pub led : k < m → get_or leaders k 0 ≡ leader
  pub above : leader ≤ k
  pub room : length numbers ≡ max_gates
  pub each : (j : ℕ) → j < m → get_or numbers j 0 ≡ cond (eqb (get_or leaders j 0) leader && ltb j k) g (get_or numbers₀ j 0)
  pub waiting : Waiting m leaders numbers leader (all_open graph leaders numbers) counts ready

numbered-by : (numbers : List ℕ) (j g : ℕ) → get_or numbers j 0 ≡ g → g < max_gates → unnumbered numbers j ≡ false
unfolding unnumbered
numbered-by numbers j g is fits = rw is (ne_eqb g no_number (λ q. omega arith))

module _ {m leader g : ℕ} {graph leaders nexts fanout numbers₀ counts₀ ready₀ : List ℕ}
    (s : NumberGroupReady m leader g graph leaders nexts fanout numbers₀ counts₀ ready₀) where
  leads : get_or leaders leader 0 ≡ leader
  leads = (s.waiting.sound leader s.chosen).leads

  pub group-first : {ready : List ℕ} → length numbers₀ ≡ max_gates → length ready ≡ length ready₀
      → Removed leader ready₀ ready
      → Under m leader g graph leaders numbers₀ numbers₀ counts₀ ready leader
  group-first room long out =
      record {
        led = λ l. leads;
        above = omega arith;
        room = room;
        each = each;
        waiting = taken_out s.waiting leader s.chosen long out;
      }
    where
      each : (j : ℕ) → j < m → get_or numbers₀ j 0
          ≡ cond (eqb (get_or leaders j 0) leader && ltb j leader) g (get_or numbers₀ j 0)
      each j jl =
          ⊎_elim
          (λ low. rw (ne_eqb (get_or leaders j 0) leader (λ q. lowest s.linked.prepared leader s.below j low q))
          refl)
          (λ high. rw (le-ltb j leader high, and-false (eqb (get_or leaders j 0) leader)) refl)
          (lt-or-le j leader)

  module _ {numbers counts ready : List ℕ} {k : ℕ} (u : Under m leader g graph leaders numbers₀ numbers counts ready k)
    where
      module _ (l : k < m) where
        bare : unnumbered numbers k ≡ true
        unfolding unnumbered
        bare =
            rw (u.each k l, le-ltb k k (omega arith), and-false (eqb (get_or leaders k 0) leader))
            (s.bare k l (u.led l))

        waits : Waiting m leaders numbers (get_or leaders k 0) (all_open graph leaders numbers) counts ready
        waits = rw (u.led l) u.waiting

        pub group-count-down : CountDownAllReady m graph k leaders (set numbers k g) fanout counts ready
        group-count-down =
            record {
              prepared = s.linked.prepared;
              linked = s.linked.linked;
              below = l;
              numbered = has-number s.linked.prepared s.linked.linked l bare s.number_fits u.room waits;
              waiting = number-one s.linked.prepared s.linked.linked l bare s.number_fits u.room waits;
            }

        module _ {k' : ℕ} (is : k' ≡ get_or nexts k 0) where
          next : FirstFrom leaders leader m (k + 1) k'
          next = rw (is, ← u.led l) (s.linked.nexts_are k l)

          pub group-above : k < k'
          group-above = next-above next l

          pub group-next : {counts' ready' : List ℕ}
              → Waiting m leaders (set numbers k g) (get_or leaders k 0) (all_open graph leaders (set numbers k g)) counts'
              ready'
              → Under m leader g graph leaders numbers₀ (set numbers k g) counts' ready' k'
          group-next w =
              record {
                led = λ h. (next.found h).1;
                above = let up : k < k' = group-above in omega (arith, u.above);
                room = length-set numbers k g ∙ u.room;
                each = λ j jl. ⊎_elim (here j) (there j jl) (eq-or-ne j k);
                waiting = rw (u.led l) at w;
              }
            where
              here : (j : ℕ) → j ≡ k → get_or (set numbers k g) j 0
                  ≡ cond (eqb (get_or leaders j 0) leader && ltb j k') g (get_or numbers₀ j 0)
              here j q =
                  rw (
                    q,
                    get_or-set_same numbers k g 0 (omega (arith, u.room, s.linked.prepared.legal.few)),
                    u.led l,
                    eq-eqb leader leader refl,
                    lt-ltb k k' group-above,
                  ) refl

              -- a gate of the group other than k is below k' exactly if it is below k
              same : (j : ℕ) → j < m → (j ≡ k → ⊥)
                  → eqb (get_or leaders j 0) leader && ltb j k ≡ eqb (get_or leaders j 0) leader && ltb j k'
              same j jl n =
                  ⊎_elim (λ led. rw (mine led) refl) (λ other. rw (ne_eqb (get_or leaders j 0) leader other) refl)
                  (eq-or-ne (get_or leaders j 0) leader)
                where
                  low : j < k → ltb j k ≡ ltb j k'
                  low h =
                      let up : k < k' = group-above in
                      let far : j < k' = omega arith in
                      lt-ltb j k h ∙ sym (lt-ltb j k' far)

                  mine : get_or leaders j 0 ≡ leader → ltb j k ≡ ltb j k'
                  mine led =
                      ⊎_elim low
                      (λ high. ⊎_elim (λ h. absurd (next.passed j (omega (arith, n)) h jl led))
                      (λ far. le-ltb j k high ∙ sym (le-ltb j k' far)) (lt-or-le j k'))
                      (lt-or-le j k)

              there : (j : ℕ) → j < m → (j ≡ k → ⊥)
                  → get_or (set numbers k g) j 0 ≡ cond (eqb (get_or leaders j 0) leader && ltb j k') g (get_or numbers₀ j 0)
              there j jl n = get_or-set_other numbers k j g 0 n ∙ u.each j jl ∙ rw (same j jl n) refl

      pub group-end : m ≤ k → GroupNumbered m leader g graph leaders numbers₀ numbers counts ready
      group-end h = record { room = u.room; each = each; waiting = taken_in u.waiting has }
        where
          each : (j : ℕ) → j < m → get_or numbers j 0 ≡ cond (eqb (get_or leaders j 0) leader) g (get_or numbers₀ j 0)
          each j jl = u.each j jl ∙ rw (lt-ltb j k (omega arith), and-true (eqb (get_or leaders j 0) leader)) refl

          is : get_or numbers leader 0 ≡ g
          is = each leader s.below ∙ rw (leads, eq-eqb leader leader refl) refl

          has : unnumbered numbers leader ≡ false
          has = numbered-by numbers leader g is s.number_fits
