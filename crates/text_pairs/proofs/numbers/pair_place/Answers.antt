-- `text_pairs::numbers::pair_place` meets its contract: one pair is passed a turn. Assumes nothing.
use mathlib.Core.Path.{refl}
use native.Mathlib.Omega.{arith}
use Rattle.text_pairs.specs.PairBytes.{pair_place}
use Rattle.text_pairs.proofs.PairPlaces.{here-short, place-next}
use Rattle.text_pairs.proofs.NumberLaws.{place-far}
use Rattle.text_pairs.proofs.numbers.pair_place.Goals as goal

pub loop-k-init : goal.loop-k-init
unfolding pair_place
loop-k-init c = (omega arith, refl)

pub overflow_add-place-in-loop-k : goal.overflow_add-place-in-loop-k
overflow_add-place-in-loop-k c =
    let l = c in
    omega (arith, here-short l.args.s.now l.loop-k.place, c.name_size.ensures)

pub overflow_add-place-in-loop-k-2 : goal.overflow_add-place-in-loop-k-2
overflow_add-place-in-loop-k-2 c =
    let l = c in
    let s = l in
    omega (
      arith,
      here-short s.args.s.now l.loop-k.place,
      c.name_size.ensures,
      l.loop-k.invariant.1,
      place-far s.args.s.now s.args.at l.loop-k.k,
      s.requires,
    )

pub loop-k-preserved : goal.loop-k-preserved
loop-k-preserved c =
    let l = c in
    let a = l.args in
    (omega arith, place-next a.s.now a.at l.loop-k.k l.loop-k.invariant.1 c.name_size.ensures)
