-- `op_render::writing::write_copies` meets its contract: the parts one behind the other are the schedule.
use native.Mathlib.Omega.{arith}
use Rattle.theory_encoding.proofs.Readers.{whole_parts}
use Rattle.op_render.proofs.Told.{scheduled, schedule-length}
use Rattle.op_render.proofs.writing.write_copies.Goals as goal

pub append-requires : goal.append-requires
append-requires c =
    let r = c.requires.0 in
    rw (r.copies, schedule-length c.args.words.now c.args.total r.total_is) (omega (arith, r.fits))

pub write_rendering-requires : goal.write_rendering-requires
write_rendering-requires c =
    let ws = c.args.words.now in
    let r = c.requires.0 in
    record {
      whole = r.whole;
      total_is = omega (arith, schedule-length ws c.args.total r.total_is);
      few_copies = r.fits;
      scheduled = scheduled ws r (omega arith) c.append.ensures;
      table = (whole_parts ws r.whole).few_gates;
      room = c.requires.1;
    }
