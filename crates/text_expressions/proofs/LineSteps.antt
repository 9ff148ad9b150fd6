-- The walk over lines of any form: from what a line's reader has done to what all have done, and the loop over them.
-- Assumes nothing.
use mathlib.Core.Path.{◌≡◌, refl, sym, ap, ◌∙◌}
use mathlib.Core.List.{List, [], ◌∷◌, ◌++◌}
use Prim.Native.Nat.{ℕ, ◌+◌, ◌-◌, ◌*◌, ◌≤◌, ◌<◌}
use native.Mathlib.Omega.{arith}
use Rattle.std.specs.declared.option.Option.{Option}
use lib.ListN.{length, take, drop, length-append, length-drop}
use lib.Seq.{length-sets, drop-drop}
use Rattle.prelude.specs.Lists.{all}
use Rattle.prelude.proofs.Tests.{and_left, and_right}
use Rattle.prelude.proofs.Elements.{rest-is-drop}
use Rattle.prelude.proofs.Stores.{sets-append}
use Rattle.netlist.specs.Syntax.{print_lines}
use Rattle.netlist.specs.Reading.{Binding, mentions}
use Rattle.theory_grammar.proofs.Shorter.{Ending, ending}
use Rattle.text_expressions.specs.declared.Walked.{Walked}
use Rattle.text_expressions.specs.Lines.{LineForm, LineAt, LineHere, LineDone, LineRead, LinesAt, LinesHere}
use Rattle.text_expressions.specs.Lines.{LinesDone, LinesRead, LinesOn, lines_words, lines_cost}
use Rattle.text_expressions.proofs.Closings.{unknown-append, unknown-none}

-- a print is its own bytes and then what follows, and a line's entries have five words each
pub record Lawful {A : Type 0} (F : LineForm A) : Type 0 where
  pub split : (x : A) (rest : List ℕ) → F.printed x rest ≡ F.printed x [] ++ rest
  pub sized : (n : ℕ) (bs : List Binding) (x : A) (first : ℕ) → length (F.words n bs x first) ≡ 5 * F.cost x

module _ {A : Type 0} (F : LineForm A) (lawful : Lawful F) where
  none_done : (n : ℕ) (bs : List Binding) (at : ℕ) (rest : List ℕ) (first : ℕ) (seen : Option ℕ) (array : List ℕ)
      → LinesDone F n bs [] at rest rest first seen array array
      (record { left = length rest; number = first; unknown = seen })
  unfolding lines_cost lines_words mentions
  none_done n bs at rest first seen array =
      record { left = refl; number = omega arith; unknown = unknown-none seen bs (at + length rest); words = refl }

  one-done : (n : ℕ) (bs : List Binding) (x : A) (xs : List A) (at : ℕ) (s behind rest : List ℕ) (first : ℕ)
      (seen : Option ℕ)
      (a₀ a₁ a₂ : List ℕ) (one r : Walked)
      → F.printed x behind ≡ s
      → LineDone F n bs x at s behind first seen a₀ a₁ one
      → LinesDone F n bs xs (at + length (F.printed x [])) behind rest one.number one.unknown a₁ a₂ r
      → LinesDone F n bs (x ∷ xs) at s rest first seen a₀ a₂ r
  unfolding lines_cost lines_words mentions
  one-done n bs x xs at s behind rest first seen a₀ a₁ a₂ one r p d e =
      let m = ap length (sym p ∙ lawful.split x behind) ∙ length-append (F.printed x []) behind in
      let total : at + length (F.printed x []) + length behind ≡ at + length s = omega arith in
      record {
        left = e.left;
        number = omega (arith, e.number, d.number);
        unknown = e.unknown ∙ rw (d.unknown, total)
            (unknown-append seen bs (F.uses x at) (mentions F.printed F.uses xs (at + length (F.printed x [])))
            (at + length s));
        words = e.words ∙ rw (d.words, d.number)
            (sets-append (F.words n bs x first) a₀ (5 * first) (5 * (first + F.cost x))
            (lines_words F n bs xs (first + F.cost x))
            (omega (arith, lawful.sized n bs x first)));
      }

  -- the first of some lines
  record Next (xs : List A) (rest s : List ℕ) : Type 0 where
    line : A
    others : List A
    lines : xs ≡ line ∷ others
    behind : List ℕ
    here : LineAt F line behind s
    next : LinesAt F others rest behind
    ends : Ending behind s

  next-line : (xs : List A) (rest s : List ℕ) → LinesAt F xs rest s → 0 < length xs → Next xs rest s
  unfolding print_lines
  next-line [] rest s w l = absurd (omega arith)
  next-line (x ∷ xs) rest s w l =
      let behind = print_lines F.printed xs rest in
      record {
        line = x;
        others = xs;
        lines = refl;
        behind = behind;
        here = record { legal = and_left (F.legal x) (all F.legal xs) w.legal; printed = w.printed };
        next = record { legal = and_right (F.legal x) (all F.legal xs) w.legal; printed = refl };
        ends = ending (F.printed x []) behind s (sym (lawful.split x behind) ∙ w.printed);
      }

  no_line : (xs : List A) (rest s : List ℕ) → LinesAt F xs rest s → length xs ≡ 0 → (xs ≡ []) × (rest ≡ s)
  unfolding print_lines
  no_line [] rest s w e = (refl, w.printed)
  no_line (x ∷ xs) rest s w e = absurd (omega arith)

  -- ---- the loop

  module _ (count : ℕ) (s : List ℕ) (n : ℕ) (names words : List ℕ) (seen : Option ℕ) (before : List ℕ) where
    pub lines_start : LinesOn F count s n names words seen before 0 (length s) 0 seen before
    lines_start =
        let z : length s - length s ≡ 0 = omega arith in
        record {
          within = omega arith;
          same = refl;
          reached = λ bs xs rest at t w c.
              record {
                others = xs;
                here = rw z w;
                counted = omega arith;
                costs = omega arith;
                onward = λ after r d. let a : at + 0 ≡ at = omega arith in rw (z, a) at d;
              };
        }

    module _ (i left first : ℕ) (unknown : Option ℕ) (array : List ℕ)
        (on : LinesOn F count s n names words seen before i left first unknown array) where
      abbrev pub line_text : List ℕ
      line_text = take (length s - (length s - left)) (drop (length s - left) s)

      -- what a line's reader may assume
      pub line-here : (most : ℕ) → LinesHere F most count s n names words before → i < count
          → LineHere F most line_text n names words first array
      unfolding lines_cost
      line-here most p l =
          let w = on.reached p.bindings p.lines p.rest 0 p.table p.here p.counted in
          let x = next-line w.others p.rest (drop (length s - left) s) w.here
          (let c = w.counted in omega arith) in
          let c : first + lines_cost F (x.line ∷ x.others) ≡ lines_cost F p.lines = rw x.lines at w.costs in
          record {
            bindings = p.bindings;
            line = x.line;
            rest = x.behind;
            table = p.table;
            here = rw (rest-is-drop s (length s - left)) x.here;
            few = omega (arith, p.few);
            inputs = p.inputs;
            room = omega (arith, p.room, on.same);
          }

      text-length : length (drop (length s - left) s) ≡ left
      text-length = let h = on.within in rw (length-drop (length s - left) s) (omega arith)

      -- where the next line stands
      rest-behind : (k : ℕ) (behind : List ℕ) → k ≡ length behind → Ending behind (drop (length s - left) s)
          → drop (length s - k) s ≡ behind
      rest-behind k behind e h =
          let a = h.within in
          let m : length s - left + (length (drop (length s - left) s) - length behind) ≡ length s - k = omega
          (arith, text-length, on.within) in
          rw m at (sym (drop-drop (length (drop (length s - left) s) - length behind) (length s - left) s) ∙ h.dropped)

      position : (at k : ℕ) (x : A) (behind : List ℕ) → k ≡ length behind → LineAt F x behind (drop (length s - left) s)
          → at + (length s - k) ≡ at + (length s - left) + length (F.printed x [])
      position at k x behind e h =
          let m = ap length (sym (lawful.split x behind) ∙ h.printed) in
          omega (arith, text-length, on.within, length-append (F.printed x []) behind)

      module _ (array' : List ℕ) (one : Walked) (d : LineRead F line_text n names words first unknown array array' one)
        where
          -- a turn keeps within the text, and the array's length
          pub lines-kept : (most : ℕ) → LinesHere F most count s n names words before → i < count
              → (one.left ≤ length s) × (length array' ≡ length before)
          lines-kept most p l =
              let d' = rw (rest-is-drop s (length s - left)) at d in
              let w = on.reached p.bindings p.lines p.rest 0 p.table p.here p.counted in
              let x = next-line w.others p.rest (drop (length s - left) s) w.here
              (let c = w.counted in omega arith) in
              let e = d'.done p.bindings x.line x.behind 0 p.table x.here in (
                omega (arith, e.left, x.ends.within, text-length, on.within),
                rw
                    (e.words, length-sets array (5 * first) _) on.same,
              )

          -- a turn
          pub lines_step : (one.left ≤ length s) × (length array' ≡ length before) → i < count
              → LinesOn F count s n names words seen before (i + 1) one.left one.number one.unknown array'
          unfolding lines_cost
          lines_step kept l =
              let d' = rw (rest-is-drop s (length s - left)) at d in
              record {
                within = kept.0;
                same = kept.1;
                reached = λ bs xs rest at t h c.
                    let w = on.reached bs xs rest at t h c in
                    let x = next-line w.others rest (drop (length s - left) s) w.here
                    (let c = w.counted in omega arith) in
                    let e = d'.done bs x.line x.behind (at + (length s - left)) t x.here in
                    let c₁ : i + length (x.line ∷ x.others) ≡ count = rw x.lines at w.counted in
                    let c₂ : first + lines_cost F (x.line ∷ x.others) ≡ lines_cost F xs = rw x.lines at w.costs in
                    let z : drop (length s - one.left) s ≡ x.behind = rest-behind one.left x.behind e.left
                    x.ends in
                    record {
                      others = x.others;
                      here = rw z x.next;
                      counted = omega arith;
                      costs = omega (arith, e.number);
                      onward =
                          λ after r f. w.onward after r
                          (rw x.lines
                          (one-done n bs x.line x.others (at + (length s - left)) (drop (length s - left) s)
                          x.behind rest first unknown array array'
                          after one r
                          x.here.printed e
                          (rw (z, position at one.left x.line x.behind e.left x.here) at f)));
                    };
              }

    -- the end
    pub lines_end : (i left first : ℕ) (unknown : Option ℕ) (array : List ℕ)
        → LinesOn F count s n names words seen before i left first unknown array → count ≤ i
        → LinesRead F count s n names words seen before array
        (record { left = left; number = first; unknown = unknown })
    lines_end i left first unknown array on l =
        record {
          done = λ bs xs rest at t h c.
              let w = on.reached bs xs rest at t h c in
              let z = no_line w.others rest (drop (length s - left) s) w.here
              (let k = w.counted in omega arith) in
              let m : left ≡ length rest = rw z.1 (sym (text-length i left first unknown array on)) in
              w.onward array (record { left = left; number = first; unknown = unknown })
              (rw (z.0, ← z.1, m) (none_done n bs (at + (length s - length rest)) rest first unknown array));
        }
