-- `cover_within` meets its contract: the tables are right, so the entries that they show are the cover.
use mathlib.Core.Path.{sym, ◌∙◌}
use native.Mathlib.Omega.{arith}
use Rattle.op_cover.proofs.Dropping.{minimal-counted}
use Rattle.op_cover.proofs.Joining.{filled-all, front-length, filled-front}
use Rattle.op_cover.proofs.TableCover.{cover-written}
use Rattle.op_cover.proofs.implicants.cover_within.Goals as goal

pub slice_bounds-marks-end : goal.slice_bounds-marks-end
slice_bounds-marks-end c = let filled = c.fill_sound-size.ensures in omega (arith, filled.room, filled-all filled)

pub slice_bounds-marks-end-2 : goal.slice_bounds-marks-end-2
slice_bounds-marks-end-2 c = let filled = c.fill_sound-size.ensures in filled-all filled ∙ sym (front-length filled)

pub keep_minimal-total-requires : goal.keep_minimal-total-requires
keep_minimal-total-requires c = front-length c.fill_sound-size.ensures

pub invariant_of-primes : goal.invariant_of-primes
invariant_of-primes c = record {
  weighed = c.fill_weights.ensures;
  sized = c.keep_minimal-total.auto.sound ∙ front-length c.fill_sound-size.ensures;
}

pub write_entries-requires : goal.write_entries-requires
write_entries-requires c = minimal-counted c.keep_minimal-total.ensures

pub returns : goal.returns
returns c = cover-written (filled-front c.fill_sound-size.ensures) c.keep_minimal-total.ensures c.write_entries.ensures
