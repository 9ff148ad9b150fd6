-- `lanes_batch::layered::step` meets its contract: two pairs that are not the same differ in a word.
use mathlib.Core.Path.{◌≡◌, refl}
use mathlib.Core.Bool.{Bool, true, false, not, ◌&&◌, ◌||◌}
use Rattle.lanes_batch.specs.Layered.{is_other}
use Rattle.lanes_batch.proofs.layered.step.Goals as goal

not-both : (a b : Bool) → not (a && b) ≡ not a || not b
not-both true b = refl
not-both false b = refl

pub returns : goal.returns
unfolding is_other
returns c =
    let new = c.gate_pair-pair.result in
    let old = c.pair_at-old.result in
    record {
      words_are = rw (← c.gate_pair-pair.ensures) c.put_pair.ensures;
      changed_is =
          rw (c.ne.ensures, ← c.gate_pair-pair.ensures, ← c.pair_at-old.ensures) (not-both _ _);
    }
