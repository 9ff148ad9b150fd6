-- `text_pairs::told::fill_at_names` meets its contract: one pair a turn; no place is far behind the first. Assumes
-- nothing.
use native.Mathlib.Omega.{arith}
use mathlib.Core.Path.{◌≡◌, refl}
use Rattle.prelude.proofs.Tab.{fill-next}
use Rattle.text_pairs.specs.PairBytes.{pair_place}
use Rattle.text_pairs.proofs.PairPlaces.{here-short, place-next}
use Rattle.text_pairs.proofs.NumberLaws.{place-far}
use Rattle.text_pairs.proofs.told.fill_at_names.Goals as goal

pub loop-i-init : goal.loop-i-init
unfolding pair_place
loop-i-init g c = (refl, λ f h. refl)

pub overflow_add-place-in-loop-i : goal.overflow_add-place-in-loop-i
overflow_add-place-in-loop-i g c =
    let a = c.args in
    let l = c.loop-i in
    omega (arith, here-short a.s.now l.place, c.name_size.ensures, l.invariant.0, place-far a.s.now a.at l.i)

pub overflow_add-place-in-loop-i-2 : goal.overflow_add-place-in-loop-i-2
overflow_add-place-in-loop-i-2 g c =
    let a = c.args in
    let l = c.loop-i in
    omega (arith, here-short a.s.now l.place, c.name_size.ensures, l.invariant.0, place-far a.s.now a.at l.i)

pub loop-i-preserved : goal.loop-i-preserved
loop-i-preserved g c =
    let a = c.args in
    let l = c.loop-i in (
      place-next a.s.now a.at l.i l.invariant.0 c.name_size.ensures,
      λ f h. fill-next f l.i a.table.now l.table _ (l.invariant.1 f h) (omega arith) (h l.i _ (rw (← l.invariant.0) c.entry.ensures)),
    )

pub returns : goal.returns
returns g c =
    λ f h. let e : c.loop-i.i ≡ c.args.count = omega arith in rw (← e) (c.loop-i.invariant.1 f h)
