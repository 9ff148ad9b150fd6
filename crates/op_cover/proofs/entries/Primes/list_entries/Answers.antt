-- `entries::Primes::list_entries` meets its contract: each turn lists a row; where all entries are counted, their words are
-- there.
use Prim.Native.Nat.{◌^◌, ◌<◌}
use mathlib.Core.Path.{ap, ◌∙◌}
use native.Mathlib.Omega.{arith}
use mathlib.Core.List.{List}
use Rattle.prelude.specs.Lists.{placed}
use Rattle.netlist.specs.Assignments.{Assignment}
use Rattle.theory_cover.specs.Over.{assignment_words}
use Rattle.op_cover.proofs.Listing.{reached-first, words-first, all-reached, row-left}
use Rattle.op_cover.proofs.entries.Primes.list_entries.Goals.{In-loop-count}
use Rattle.op_cover.proofs.entries.Primes.list_entries.Goals as goal

-- in a turn there is a row left
more : (c : In-loop-count) → c.loop-count.fixed < 2 ^ c.args.self.now.inputs
more c = row-left c.loop-count.invariant.1 (omega (arith, c.requires.0, c.loop-count-test.true))

pub row_base-base-requires : goal.row_base-base-requires
row_base-base-requires c =
    more (goal.at.row_base-base-requires c).In-loop-count

pub list_row-count-requires : goal.list_row-count-requires
list_row-count-requires c =
    let start = c in
    let loop = c.loop-count in record {
      row = (
        record {
          weighed = start.args.self.now.weighed;
          room = omega (arith, start.args.self.now.sized);
          legal = more (goal.at.list_row-count-requires c).In-loop-count;
          base-is = c.row_base-base.ensures;
        },
        loop.invariant.1,
      );
      n_in_bounds = omega (arith, loop.invariant.2.same_length, start.requires.1);
    }

pub loop-count-preserved : goal.loop-count-preserved
loop-count-preserved c =
    let head = c in
    let turn = c in
    let loop = head.loop-count in
    let start = c in
    let listed = c.list_row-count.ensures in (
      omega (arith, more (goal.at.loop-count-preserved c).In-loop-count),
      listed.reached,
      listed.row start.args.out.now loop.invariant.2,
    )

pub returns : goal.returns
returns c =
    let loop = c.loop-count in
    let start = c in
    loop.invariant.2.words
    ∙ ap (λ (xs : List Assignment). placed (assignment_words xs) start.args.out.now)
    (all-reached loop.invariant.1 (omega (arith, start.requires.0, c.loop-count-test.false)))

pub loop-count-init : goal.loop-count-init
loop-count-init c = search (reached-first, words-first, arith)
