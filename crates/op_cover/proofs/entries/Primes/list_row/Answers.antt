-- `entries::Primes::list_row` meets its contract: the words of the entries among the pairs passed stand in front (`Words`), and
-- there is room for the next, since there is room for all.
use Prim.Native.Nat.{◌+◌, ◌*◌, ◌^◌, ◌≤◌, ◌<◌}
use mathlib.Core.Path.{◌≡◌, refl, sym, ◌∙◌}
use native.Mathlib.Nat.{add-zero}
use native.Mathlib.Omega.{arith}
use lib.Arith.{digits_div, digits_mod}
use lib.ListN.{length, length-set}
use Rattle.op_cover.proofs.Bounds.{shifted}
use Rattle.op_cover.proofs.Rows.{row_below, row-end}
use Rattle.op_cover.proofs.Listing.{reached-skip, reached-add, one_more, words-skip, words-add}
use Rattle.op_cover.proofs.entries.Primes.list_row.Goals.{Then-is_left}
use Rattle.op_cover.proofs.entries.Primes.list_row.Goals.{then-is_left, else-is_left}
use Rattle.op_cover.proofs.entries.Primes.list_row.Goals as goal

below : (c : Then-is_left) → c.loop-ones.ones < 2 ^ c.args.self.now.inputs
below c = omega (arith, c.loop-ones.invariant.ends, c.loop-ones-test.true)

room : (c : Then-is_left) → 2 * c.loop-ones.count + 2 ≤ length c.args.out.now
room c =
    let inv = c.loop-ones.invariant in
    let l : c.loop-ones.ones < 2 ^ c.args.self.now.inputs = omega (arith, inv.ends, c.loop-ones-test.true) in
    let row = row_below inv.reached c.requires.row.0.legal l in
    let left = sym c.is_left.ensures ∙ c.if-is_left.true in
    omega (arith, one_more inv.reached row.below left, c.requires.n_in_bounds)

pub loop-ones-init : goal.loop-ones-init
loop-ones-init c =
    let start = c in
    let z = add-zero (start.args.first.fixed * 2 ^ start.args.self.now.inputs) in
    record {
      within = omega arith;
      ends = shifted start.args.self.now.weighed.few;
      reached = rw z start.requires.row.1;
      same_length = refl;
      words = λ first v. rw z v;
    }

pub bounds-out-count : goal.bounds-out-count
bounds-out-count c =
    let left = (goal.at.bounds-out-count c).Then-is_left in
    omega (arith, room left, c.loop-ones.invariant.same_length)

pub bounds-out-count-then-is_left : goal.bounds-out-count-then-is_left
bounds-out-count-then-is_left c =
    let left = (goal.at.bounds-out-count-then-is_left c).Then-is_left in
    simp length-set (omega (arith, room left, c.loop-ones.invariant.same_length))

pub loop-ones-preserved : goal.loop-ones-preserved
loop-ones-preserved c =
    let head = c in
    let loop = head.loop-ones in
    let start = c in
    let entry = c.is_left.ensures in
    let l : loop.ones < 2 ^ start.args.self.now.inputs =
    omega (arith, loop.invariant.ends, c.loop-ones-test.true) in
    let x = c.next_ones-ones.ensures.1 in
    elim c.if-is_left.branch [
      | then-is_left t ↦
          let e = sym entry ∙ t.if-is_left.true in
          rw (t.out-is, t.count-is) (record {
            within = c.next_ones-ones.ensures.0;
            ends = loop.invariant.ends;
            reached = reached-add loop.invariant.reached x e;
            same_length = simp length-set loop.invariant.same_length;
            words = λ first v.
                words-add loop.invariant.reached x e (sym (digits_div start.args.first.fixed l))
                (sym (digits_mod start.args.first.fixed l))
                (omega (arith, loop.invariant.same_length, start.requires.n_in_bounds)) (loop.invariant.words first v);
          })
      | else-is_left t ↦
          let e = sym entry ∙ t.if-is_left.false in
          rw (t.out-is, t.count-is) (record {
            within = c.next_ones-ones.ensures.0;
            ends = loop.invariant.ends;
            reached = reached-skip loop.invariant.reached x e;
            same_length = loop.invariant.same_length;
            words = λ first v. words-skip loop.invariant.reached x e (loop.invariant.words first v);
          })
    ]

pub returns : goal.returns
returns c =
    let entry = c in
    let args = entry.args in
    let e : c.loop-ones.ones ≡ 2 ^ args.self.now.inputs = omega (arith, c.loop-ones.invariant.ends) in
    let f = row-end args.self.now.inputs args.first.fixed in
    record {
      reached = rw (e, f) at c.loop-ones.invariant.reached;
      row = λ first v. rw (e, f) at (c.loop-ones.invariant.words first v);
    }

pub overflow_mul-out : goal.overflow_mul-out
overflow_mul-out c = omega (arith, room (goal.at.overflow_mul-out c).Then-is_left, c.well_formed)

pub offset_bounds-out-count : goal.offset_bounds-out-count
offset_bounds-out-count c = omega (arith, room (goal.at.offset_bounds-out-count c).Then-is_left, c.well_formed)

pub overflow_mul-out-then-is_left : goal.overflow_mul-out-then-is_left
overflow_mul-out-then-is_left c =
    omega (arith, room (goal.at.overflow_mul-out-then-is_left c).Then-is_left, c.well_formed)

pub overflow_add-out : goal.overflow_add-out
overflow_add-out c = omega (arith, room (goal.at.overflow_add-out c).Then-is_left, c.well_formed)

pub offset_bounds-out-count-then-is_left : goal.offset_bounds-out-count-then-is_left
offset_bounds-out-count-then-is_left c =
    omega (arith, room (goal.at.offset_bounds-out-count-then-is_left c).Then-is_left, c.well_formed)

pub overflow_add-count : goal.overflow_add-count
overflow_add-count c = omega (arith, room (goal.at.overflow_add-count c).Then-is_left, c.well_formed)
