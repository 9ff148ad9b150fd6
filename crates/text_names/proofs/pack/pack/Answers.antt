-- `text_names::pack::pack` meets its contract: the name's bytes are the first bytes.
use native.Mathlib.Omega.{arith}
use mathlib.Core.Path.{sym}
use lib.Seq.{length-take-le}
use Rattle.text_names.proofs.Packing.{front-is, front_length, front-shorter}
use Rattle.text_names.proofs.pack.pack.Goals as goal

pub slice_bounds-pack_name-end : goal.slice_bounds-pack_name-end
slice_bounds-pack_name-end c =
    let s = c.args.s.now in
    let n = c.name_length.ensures in let l = front-shorter 8 s in sym (length-take-le c.name_length.result s (omega arith))

pub pack_name-requires : goal.pack_name-requires
pack_name-requires c = let s = c.args.s.now in rw (c.name_length.ensures, front-is 8 s) (front_length 8 s)

pub returns : goal.returns
returns c = rw (c.name_length.ensures, front-is 8 c.args.s.now) at c.pack_name.ensures
