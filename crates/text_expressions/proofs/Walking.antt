-- The needs of `operand` and `expression`, over plain lists: what a call may assume, what bounds a store, and what a
-- return has done.
-- Assumes nothing.
use mathlib.Core.Path.{◌≡◌, refl, sym, ap, ◌∙◌}
use mathlib.Core.List.{List, [], ◌∷◌}
use Prim.Native.Nat.{ℕ, suc, ◌+◌, ◌-◌, ◌*◌, ◌≤◌, ◌<◌}
use native.Mathlib.Omega.{arith}
use Rattle.std.specs.declared.option.Option.{Option}
use lib.ListN.{length, get_or, set, take, drop, length-drop, length-set}
use lib.Seq.{sets, length-sets, get_or-drop, drop-drop}
use Rattle.prelude.proofs.Elements.{rest-is-drop}
use Rattle.theory_encoding.proofs.Gates.{kind-small}
use Rattle.theory_grammar.proofs.Places.{term-measure}
use Rattle.netlist.specs.Limits.{max_inputs, max_gates}
use Rattle.netlist.specs.Syntax.{Term, Terms, apply, nil, cons, print_term, term_count}
use Rattle.netlist.specs.Reading.{Binding, gates_in, gates_inside}
use Rattle.text_expressions.specs.declared.leaves.Leaf.{Leaf}
use Rattle.text_expressions.specs.declared.walk.Found.{Found}
use Rattle.text_expressions.specs.Leaves.{leaf_here}
use Rattle.text_expressions.specs.Walk.{Table, TermAt, TermHere, TermRead, TermsAt, ListNow, ListOn}
use Rattle.text_expressions.specs.Walk.{no_words}
use Rattle.text_expressions.proofs.Openings.{Inside, closed-list, More, more, opening}
use Rattle.text_expressions.proofs.Closings.{nil-done, cons-done, apply-done, leaf-done}

-- the rest of a text is shorter by what was left out
pub rest-length : (s : List ℕ) (k : ℕ) → length (take (length s - k) (drop k s)) ≡ length s - k
rest-length s k = rw (rest-is-drop s k) (length-drop k s)

-- ---- an operand

module _ (s : List ℕ) (n : ℕ) (names words : List ℕ) (first : ℕ) (gates : List ℕ) where
  -- a name or a constant
  pub leaf-read : (seen : Option ℕ) (l : Leaf) → l ≡ leaf_here s names words seen → (get_or s 0 0 ≡ 40 → ⊥)
      → TermRead s n names words first seen gates gates
      (record { left = l.left; word = l.word; gates = first; unknown = l.unknown })
  leaf-read seen l e ne =
      rw e (record {
        done = λ bs o depth rest at t w. leaf-done n bs o depth at first seen s rest names words gates t w
            ne;
      })

  -- an expression
  pub opened-here : get_or s 0 0 ≡ 40 → TermHere s n names words first gates
      → TermHere (40 ∷ take (length s - 1) (drop 1 s)) n names words first gates
  opened-here e p = rw (opening s e) p

  pub opened-read : (seen : Option ℕ) (after : List ℕ) (r : Found) → get_or s 0 0 ≡ 40
      → TermRead (40 ∷ take (length s - 1) (drop 1 s)) n names words first seen gates after r
      → TermRead s n names words first seen gates after r
  opened-read seen after r e h = rw (opening s e) at h

-- ---- the operands of an expression, which stand at place `start` behind its bracket

module _ (s : List ℕ) (start n : ℕ) (names words : List ℕ) (first : ℕ) (seen : Option ℕ) (before : List ℕ) where
  pub list-start : start ≤ length s → length no_words ≡ 4
      → ListOn s start n names words first seen before start 0 first seen before no_words
  list-start h z =
      record {
        within = omega arith;
        inside = h;
        same = refl;
        sized = z;
        reached = λ bs os depth rest base t w.
            record {
              others = os;
              here = w;
              counted = omega arith;
              costs = refl;
              onward =
                  λ after filled left number made unknown d. d;
            };
      }

  module _ (at count closed : ℕ) (missing : Option ℕ) (gates slots : List ℕ)
      (on : ListOn s start n names words first seen before at count closed missing gates slots) where
    -- ---- another operand stands here

    module _ (ne : get_or s at 0 ≡ 41 → ⊥) where
      abbrev now_of : (bs : List Binding) (os : Terms) (depth : ℕ) (rest : List ℕ) (base : ℕ) → Table n bs names words
          → TermsAt os depth rest (drop start s)
          → ListNow s start first seen before n bs os depth rest base at count closed missing gates slots
      now_of bs os depth rest base t w = on.reached bs os depth rest base t w

      byte-here : get_or (drop at s) 0 0 ≡ 41 → ⊥
      byte-here e = let z : at + 0 ≡ at = omega arith in ne (rw z at (sym (get_or-drop at s 0 0) ∙ e))

      another : (os : Terms) (depth : ℕ) (rest : List ℕ) → TermsAt os depth rest (drop at s)
          → More os depth rest (drop at s)
      another os depth rest w = more os depth rest (drop at s) w byte-here

      behind-space : drop 1 (drop at s) ≡ drop (at + 1) s
      behind-space = drop-drop 1 at s

      rest-here : take (length s - (at + 1)) (drop (at + 1) s) ≡ drop 1 (drop at s)
      rest-here = rest-is-drop s (at + 1) ∙ sym behind-space

      here-length : length (drop at s) ≡ length s - at
      here-length = length-drop at s

      module _ (k : ℕ) (p : TermHere (40 ∷ s) n names words first before)
          (i : Inside p.term p.depth p.rest s k start) where
        abbrev present : ListNow s start first seen before n p.bindings i.terms (p.depth - 1) p.rest 0 at
            count closed missing gates slots
        present = now_of p.bindings i.terms (p.depth - 1) p.rest 0 p.table i.inner

        abbrev one_more : More present.others (p.depth - 1) p.rest (drop at s)
        one_more = another present.others (p.depth - 1) p.rest present.here

        pub operand-there : at + 1 ≤ length s
        operand-there = omega (arith, one_more.there, here-length)

        pub slot-there : count < 4
        unfolding term_count
        slot-there =
            let c : count + term_count (cons one_more.term one_more.others) ≡ term_count i.terms = rw
            one_more.terms at present.counted in
            omega (arith, i.count)

        -- what the reader of the operand may assume
        pub operand-here : TermHere (take (length s - (at + 1)) (drop (at + 1) s)) n names words closed gates
        unfolding gates_inside gates_in
        operand-here =
            let few : first + gates_in (apply k i.terms) ≤ max_gates = rw i.term at p.few in
            let c : closed + gates_inside (cons one_more.term one_more.others) ≡ first + gates_inside i.terms =
            rw one_more.terms at present.costs in
            record {
              bindings = p.bindings;
              term = one_more.term;
              depth = p.depth - 1;
              rest = one_more.behind;
              table = p.table;
              here = rw rest-here one_more.here;
              few = omega arith;
              inputs = p.inputs;
              room = omega (arith, p.room, on.same);
            }

        -- where its reader comes to, and that the array keeps its length
        pub operand-kept : (gates' : List ℕ) (one : Found)
            → TermRead (take (length s - (at + 1)) (drop (at + 1) s)) n names words closed missing gates gates' one
            → (one.left + at + 1 ≤ length s) × (length gates' ≡ length before)
        operand-kept gates' one r =
            let r' = rw rest-here at r in
            let d = r'.done p.bindings one_more.term (p.depth - 1) one_more.behind 0 p.table
            one_more.here in (
              omega (arith, d.left, one_more.shorter, here-length, operand-there),
              rw (d.words, length-sets gates (5 * closed) _) on.same,
            )

      -- a turn
      module _ (gates' : List ℕ) (one : Found)
          (r : TermRead (take (length s - (at + 1)) (drop (at + 1) s)) n names words closed missing gates gates' one)
          (kept : (one.left + at + 1 ≤ length s) × (length gates' ≡ length before)) where
        next-at : (os : Terms) (depth : ℕ) (rest : List ℕ) (m : More os depth rest (drop at s))
            → one.left ≡ length m.behind
            → drop (length s - one.left) s ≡ m.behind
        next-at os depth rest m e =
            let z : at + (length (drop at s) - length m.behind) ≡ length s - one.left = omega
            (arith, here-length, kept.0) in
            rw z at (sym (drop-drop (length (drop at s) - length m.behind) at s) ∙ m.ends)

        position : (base : ℕ) (os : Terms) (depth : ℕ) (rest : List ℕ) (m : More os depth rest (drop at s))
            → one.left ≡ length m.behind
            → base + (length s - one.left) ≡ base + at + 1 + length (print_term m.term [])
        position base os depth rest m e =
            omega (
              arith,
              term-measure m.term m.behind,
              ap length m.here.printed,
              length-drop 1 (drop at s),
              here-length,
              kept.0,
            )

        pub list-step : ListOn s start n names words first seen before (length s - one.left) (count + 1) one.gates
            one.unknown gates'
            (set slots count one.word)
        unfolding gates_inside term_count
        list-step =
            record {
              within = omega (arith, on.within, kept.0);
              inside = omega arith;
              same = kept.1;
              sized = length-set slots count one.word ∙ on.sized;
              reached = λ bs os depth rest base t w.
                  let now = now_of bs os depth rest base t w in
                  let m = another now.others depth rest now.here in
                  let r' = rw rest-here at r in
                  let d = r'.done bs m.term depth m.behind (base + at + 1) t m.here in
                  let c₁ : count + term_count (cons m.term m.others) ≡ term_count os = rw m.terms at
                  now.counted in
                  let c₂ : closed + gates_inside (cons m.term m.others) ≡ first + gates_inside os = rw m.terms
                  at now.costs in
                  let z = next-at now.others depth rest m d.left in
                  let q = position base now.others depth rest m d.left in
                  record {
                    others = m.others;
                    here = rw z m.next;
                    counted = omega arith;
                    costs = omega (arith, d.gates);
                    onward = λ after filled left number made unknown f. now.onward after filled left number made
                        unknown
                        (rw m.terms
                        (cons-done n bs m.term m.others (base + at) closed missing count (drop at s) m.behind
                        rest gates gates' after slots filled
                        one left number made unknown m.here.printed m.there d (rw (z, q) at f)));
                  };
            }

    -- ---- the list is at its end

    module _ (e : get_or s at 0 ≡ 41) where
      end-byte : get_or (drop at s) 0 0 ≡ 41
      end-byte = let z : at + 0 ≡ at = omega arith in get_or-drop at s 0 0 ∙ rw z e

      -- what bounds the gate's words
      pub record Bounded (k : ℕ) : Type 0 where
        pub there : at + 1 ≤ length s
        pub number : suc closed ≤ max_gates
        pub few : count ≤ 4
        pub kind : k ≤ 6
        pub room : 5 * max_gates ≤ length gates
        pub inputs : n ≤ max_inputs

      pub bounded : (k : ℕ) (p : TermHere (40 ∷ s) n names words first before)
          → Inside p.term p.depth p.rest s k start → Bounded k
      unfolding gates_in gates_inside term_count
      bounded k p i =
          let few : first + gates_in (apply k i.terms) ≤ max_gates = rw i.term at p.few in
          let now = on.reached p.bindings i.terms (p.depth - 1) p.rest 0 p.table i.inner in
          let z = closed-list now.others (p.depth - 1) p.rest (drop at s) now.here end-byte in
          let c₁ : count + term_count nil ≡ term_count i.terms = rw z.terms at now.counted in
          let c₂ : closed + gates_inside nil ≡ first + gates_inside i.terms = rw z.terms at now.costs in
          record {
            there = omega (arith, z.measured, length-drop at s);
            number = omega arith;
            few = omega (arith, i.count);
            kind = kind-small k i.legal;
            room = omega (arith, p.room, on.same);
            inputs = p.inputs;
          }

      pub expression-read : (k : ℕ) (after : List ℕ)
          → ((o : Term) (depth : ℕ) (rest : List ℕ) → TermAt o depth rest (40 ∷ s) → Inside o depth rest s k start)
          → after ≡ sets gates (5 * closed) ((k + 8 * count) ∷ slots)
          → TermRead (40 ∷ s) n names words first seen before after
          (record { left = length s - at - 1; word = n + closed; gates = closed + 1; unknown = missing })
      expression-read k after inside f =
          record {
            done = λ bs o depth rest base t w.
                let i = inside o depth rest w in
                let now = on.reached bs i.terms (depth - 1) rest (base + 1) t i.inner in
                let z = closed-list now.others (depth - 1) rest (drop at s) now.here end-byte in
                let l : length s - at - 1 ≡ length rest = omega (arith, z.measured, length-drop at s) in
                rw i.term
                (apply-done n bs k i.terms start base first seen s (drop start s) rest before gates after slots
                (length s - at - 1) count closed missing
                i.count i.word_read i.measured
                (now.onward gates slots (length s - at - 1) count closed missing
                (rw z.terms (nil-done n bs (base + 1 + at) closed missing count (length s - at - 1) (drop at s) rest
                gates slots l)))
                f);
          }
