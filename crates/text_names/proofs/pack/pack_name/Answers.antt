-- `text_names::pack::pack_name` meets its contract: from the last byte down, one byte more in front.
use native.Mathlib.Omega.{arith}
use Rattle.text_names.proofs.Packing.{packed_more, packed-more-fits}
use Rattle.text_names.proofs.pack.pack_name.Goals as goal

pub overflow_mul-r : goal.overflow_mul-r
overflow_mul-r c =
    let l = c.loop-i in
    omega (
      arith,
      packed-more-fits c.args.name.now l.i l.r c.loop-i-test.true l.invariant.within l.invariant.packs
          (λ i. let f = c.type_inv.name i in omega arith) c.requires,
    )

pub overflow_add-r : goal.overflow_add-r
overflow_add-r c =
    let l = c.loop-i in
    omega (
      arith,
      packed-more-fits c.args.name.now l.i l.r c.loop-i-test.true l.invariant.within l.invariant.packs
          (λ i. let f = c.type_inv.name i in omega arith) c.requires,
    )

pub loop-i-preserved : goal.loop-i-preserved
loop-i-preserved c =
    let l = c.loop-i in
    record {
      within = omega arith;
      packs = packed_more c.args.name.now l.i l.r c.loop-i-test.true l.invariant.within l.invariant.packs;
    }
