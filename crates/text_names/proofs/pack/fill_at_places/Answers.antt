-- `text_names::pack::fill_at_places` meets its contract: one place a turn.
use native.Mathlib.Omega.{arith}
use mathlib.Core.Path.{◌≡◌, refl}
use lib.ListN.{length, get_or}
use Rattle.prelude.proofs.Tab.{fill-next}
use Rattle.text_names.proofs.pack.fill_at_places.Goals as goal

pub loop-i-init : goal.loop-i-init
loop-i-init g c = λ f h. refl

pub loop-i-preserved : goal.loop-i-preserved
loop-i-preserved g c =
    let a = c.args in
    let l = c.loop-i in
    λ f h.
    fill-next (λ i. f (get_or a.places.now i 0)) l.i a.table.now l.table _ (l.invariant f h) (omega arith) (h _ _ c.entry.ensures)

pub returns : goal.returns
returns g c =
    λ f h. let e : c.loop-i.i ≡ length c.args.places.now = omega arith in rw (← e) (c.loop-i.invariant f h)
