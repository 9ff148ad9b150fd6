-- The pairs of a group's gates, put and compared.
--   part_none, part-more, part-all, part-long   one position more
--   put-none, put_next, put-more         one gate's pair more
--   same-pairs                           words whose pairs are the same
--   differs_none, differs_more           one gate more
--   lacks-none, lacks-told               the lanes that may come
-- Assumes nothing.
use mathlib.Core.Path.{◌≡◌, refl, sym, ap, ◌∙◌}
use mathlib.Core.Logic.{⊎_elim}
use mathlib.Core.Bool.{Bool, true, false, not, ◌&&◌, ◌||◌, false≢true}
use mathlib.Core.List.{List, [], ◌∷◌, ◌++◌}
use Prim.Native.Nat.{ℕ, zero, suc, ◌+◌, ◌-◌, ◌*◌, ◌/◌, ◌%◌, ◌≤◌, ◌<◌}
use native.Mathlib.Nat.{zero-add}
use native.Mathlib.Omega.{arith}
use borrow.Author.Tests.{eqb-true, eq-eqb}
use lib.Bits.{bit_and, bit_or}
use lib.Dec.{eqb}
use lib.ListN.{length, get_or}
use lib.Seq.{ext_get_or}
use Rattle.prelude.specs.Lists.{all, member}
use Rattle.prelude.proofs.Tests.{not-both, eq-or-ne, and_left, and_right}
use Rattle.prelude.proofs.Tab.{length-tab}
use Rattle.prelude.proofs.Quantifiers.{all_append}
use Rattle.prelude.proofs.Lists.{member-left, member_right, member-cases, member-head, member-one}
use Rattle.netlist.specs.Limits.{max_gates}
use Rattle.netlist.specs.Values.{code}
use Rattle.netlist.specs.Netlist.{Block}
use Rattle.netlist.specs.Rounds.{is_excluded}
use Rattle.graph_gates.specs.Places.{first_gate}
use Rattle.lanes_dual_rail.specs.declared.Pair.{Pair}
use Rattle.lanes_dual_rail.specs.Pairs.{lane}
use Rattle.lanes_dual_rail.specs.Batches.{lanes_of}
use Rattle.lanes_dual_rail.specs.LaneWords.{lane_size, pair_at, put_pair}
use Rattle.lanes_dual_rail.proofs.LaneWordLaws.{put-length, put_same, put_other}
use Rattle.lanes_dual_rail.specs.Words.{Tells}
use Rattle.lanes_batch.specs.Batch.{place_of}
use Rattle.lanes_batch.specs.Layered.{part}
use Rattle.lanes_settings.specs.Nevers.{may_come}
use Rattle.lanes_dual_rail.proofs.WordLaws.{tells-and, tells-or, tells_none, tells_as, tells-no-lane, tells-some}
use Rattle.lanes_dual_rail.specs.Pairs.{difference_of}
use Rattle.lanes_dual_rail.proofs.Differing.{difference-tells}
use Rattle.unroll_depth.specs.Pairs.{Put, agree_at, differ_at, Differs, Lacks}

-- ---- positions of a group's gates

module _ (members : List ℕ) (from : ℕ) where
  pub part_none : part false members from from ≡ []
  unfolding part
  part_none = let e : from - from ≡ 0 = omega arith in rw e refl

  pub part-more : (i : ℕ) → from ≤ i
      → part false members from (i + 1) ≡ part false members from i ++ (get_or members i 0 ∷ [])
  unfolding part place_of
  part-more i l =
      let e : i + 1 - from ≡ suc (i - from) = omega arith in
      let f : from + (i - from) ≡ i = omega arith in
      rw (e, f) refl

  -- the whole, when the walk has come to its end
  pub part-all : (i end : ℕ) → i ≤ end → end ≤ i → part false members from i ≡ part false members from end
  part-all i end a c = let e : i ≡ end = omega arith in rw e refl

  pub part-long : (end : ℕ) → length (part false members from end) ≡ end - from
  unfolding part
  part-long end = length-tab _ (end - from)

-- ---- pairs put

pub put-none : (source w : List ℕ) → Put [] source w w
put-none source w = record { long = refl; inside = λ j m. not-both refl (sym m); outside = λ p a. refl }

module _ {js source w after : List ℕ} (j : ℕ) (q : Pair) (p : Put js source w after) (few : j < max_gates)
    (room : length w ≡ lane_size)
    (e : q ≡ pair_at source (first_gate + j)) where
  pub put_next : Put (js ++ (j ∷ [])) source w (put_pair after (first_gate + j) q)
  put_next =
      record {
        long = put-length after (first_gate + j) q ∙ p.long;
        inside = λ i m. ⊎_elim (same i) (other i m) (eq-or-ne i j);
        outside = λ k a.
            put_other after (first_gate + j) q k (λ f. a j (member_right j js (j ∷ []) (member-head j [])) f)
            ∙ p.outside k (λ i m. a i (member-left i js (j ∷ []) m));
      }
    where
      same : (i : ℕ) → i ≡ j → pair_at (put_pair after (first_gate + j) q) (first_gate + i) ≡ pair_at source (first_gate + i)
      same i f = rw (f, put_same after (first_gate + j) q (omega (arith, p.long, room, few))) e

      other : (i : ℕ) → member i (js ++ (j ∷ [])) ≡ true → (i ≡ j → ⊥)
          → pair_at (put_pair after (first_gate + j) q) (first_gate + i) ≡ pair_at source (first_gate + i)
      other i m d =
          put_other after (first_gate + j) q (first_gate + i) (λ f. d (omega arith))
          ∙ p.inside i (⊎_elim (λ h. h) (λ h. absurd (d (member-one i j h))) (member-cases i js (j ∷ []) m))

-- the pair of the gate at the next position
pub put-more : {source w after next : List ℕ} (members : List ℕ) (from i : ℕ) {q : Pair} → from ≤ i
    → get_or members i 0 < max_gates → length w ≡ lane_size
    → Put (part false members from i) source w after → q ≡ pair_at source (first_gate + get_or members i 0)
    → next ≡ put_pair after (first_gate + get_or members i 0) q → Put (part false members from (i + 1)) source w next
put-more members from i {q} l few room p e f =
    rw (part-more members from i l, f) (put_next (get_or members i 0) q p few room e)

-- words whose pairs are the same at every place are the same
pub same-pairs : (w after : List ℕ) → length after ≡ length w → ((p : ℕ) → pair_at after p ≡ pair_at w p) → after ≡ w
unfolding pair_at
same-pairs w after long same = ext_get_or 0 after w long (λ k l. go k (k / 2) (k % 2) (omega arith) (omega arith))
  where
    go : (k p v : ℕ) → k ≡ 2 * p + v → v < 2 → get_or after k 0 ≡ get_or w k 0
    go k p zero e h = let f : k ≡ 2 * p = omega arith in rw f (ap (λ (q : Pair). q.zeros) (same p))
    go k p (suc zero) e h = let f : k ≡ 2 * p + 1 = omega arith in rw f (ap (λ (q : Pair). q.ones) (same p))
    go k p (suc (suc v)) e h = absurd (omega arith)

-- ---- pairs compared

module _ (w other : List ℕ) where
  pub differs_none : Differs [] w other 0
  unfolding differ_at agree_at
  differs_none = record { tells = λ lanes h k. tells_none }

  not-either : (a b : Bool) → not a || not b ≡ not (a && (b && true))
  not-either true true = refl
  not-either true false = refl
  not-either false b = refl

  differs_next : {group : List ℕ} {word : ℕ} (j d : ℕ) → Differs group w other word
      → d ≡ difference_of (pair_at w (first_gate + j)) (pair_at other (first_gate + j))
      → Differs (group ++ (j ∷ [])) w other (bit_or word d)
  unfolding differ_at agree_at
  differs_next {group} {word} j d t e =
      record {
        tells = λ lanes h k.
            tells_as
            (λ s. not-either (all (same s) group) (same s j) ∙ ap not (sym (all_append (same s) group (j ∷ []))))
            (tells-or
            (t.tells lanes (λ i m. h i (member-left i group (j ∷ []) m)) (λ i m. k i (member-left i group (j ∷ []) m)))
            (rw e (difference-tells (h j (member_right j group (j ∷ []) (member-head j [])))
            (k j (member_right j group (j ∷ []) (member-head j []))))));
      }
    where
      same : ℕ → ℕ → Bool
      same s j = eqb (code (lane s (pair_at w (first_gate + j)))) (code (lane s (pair_at other (first_gate + j))))

  pub differs_more : (members : List ℕ) (from i word d : ℕ) → from ≤ i
      → Differs (part false members from i) w other word
      → d ≡ difference_of (pair_at w (first_gate + get_or members i 0)) (pair_at other (first_gate + get_or members i 0))
      → Differs (part false members from (i + 1)) w other (bit_or word d)
  differs_more members from i word d l t e = rw (part-more members from i l) (differs_next (get_or members i 0) d t e)

-- ---- the lanes that may come

module _ (b : Block) (n base : ℕ) (group w other : List ℕ) {d : ℕ}
    (t : Tells (lanes_of n) 0 (differ_at group w other) d) where
  -- no lane differs
  pub lacks-none : d ≡ 0 → Lacks b n base group w other false
  unfolding differ_at
  lacks-none e =
      record {
        some = λ f. absurd (false≢true f);
        none = λ f s l x. not-true (agree_at group w other s) (rw (zero-add s) at (tells-no-lane t e s l));
      }
    where
      not-true : (a : Bool) → not a ≡ false → a ≡ true
      not-true true h = refl
      not-true false h = sym h

  -- one may, where the word of those that may come marks it
  pub lacks-told : {coming : ℕ} → Tells (lanes_of n) base (may_come b) coming
      → Lacks b n base group w other (not (eqb (bit_and coming d) 0))
  unfolding differ_at may_come
  lacks-told {coming} c =
      record {
        some = λ f.
            let f' = tells-some both
            (λ z. not-both (eq-eqb (bit_and coming d) 0 z) (not-true-false (eqb (bit_and coming d) 0) f)) in
            let here = rw (zero-add f'.0) at f'.2 in
            let may = not (is_excluded b (base + f'.0)) in
            let differs = not (agree_at group w other f'.0) in
            let agree = agree_at group w other f'.0 in (
              f'.0,
              f'.1,
              not-true-false (is_excluded b (base + f'.0)) (and_left may differs here),
              not-true-false agree (and_right may differs here),
            );
        none = λ f s l x.
            second (is_excluded b (base + s)) (agree_at group w other s) x
            (rw (zero-add s) at (tells-no-lane both
            (eqb-true (bit_and coming d) 0 (not-false-true (eqb (bit_and coming d) 0) f)) s l));
      }
    where
      second : (a c : Bool) → a ≡ false → not a && not c ≡ false → c ≡ true
      second true c h k = not-both refl h
      second false true h k = refl
      second false false h k = sym k

      not-false-true : (a : Bool) → not a ≡ false → a ≡ true
      not-false-true true h = refl
      not-false-true false h = sym h

      not-true-false : (a : Bool) → not a ≡ true → a ≡ false
      not-true-false true h = sym h
      not-true-false false h = refl

      comes : Tells (lanes_of n) 0 (λ s. not (is_excluded b (base + s))) coming
      comes = record { within = c.within; each = λ s l. rw (zero-add s) (c.each s l) }

      both : Tells (lanes_of n) 0 (λ s. not (is_excluded b (base + s)) && not (agree_at group w other s)) (bit_and coming d)
      both = tells-and comes t
