-- `text_expressions::leaves::name_here` meets its contract.
use mathlib.Core.Path.{sym}
use native.Mathlib.Omega.{arith}
use lib.Seq.{length-take-le}
use Rattle.text_expressions.proofs.Fronts.{name-found, name-unknown}
use Rattle.text_names.proofs.Packing.{front-is, front_length, front-shorter}
use Rattle.text_expressions.proofs.leaves.name_here.Goals as goal

pub overflow_sub-left : goal.overflow_sub-left
overflow_sub-left c = omega (arith, c.name_length-length.ensures, front-shorter 8 c.args.s.now)

pub slice_bounds-pack_name-end : goal.slice_bounds-pack_name-end
slice_bounds-pack_name-end c =
    let s = c.args.s.now in
    let n = c.name_length-length.ensures in
    let l = front-shorter 8 s in sym (length-take-le c.name_length-length.result s (omega arith))

pub pack_name-requires : goal.pack_name-requires
pack_name-requires c = let s = c.args.s.now in rw (c.name_length-length.ensures, front-is 8 s) (front_length 8 s)

pub returns-in-Some : goal.returns-in-Some
returns-in-Some c =
    let a = c.args in
    name-found a.s.now a.symbols.now.names.now a.symbols.now.words.now a.unknown c.name_length-length.ensures
    c.pack_name.ensures c.in-Some.ensures

pub returns-in-None : goal.returns-in-None
returns-in-None c =
    let a = c.args in
    name-unknown a.s.now a.symbols.now.names.now a.symbols.now.words.now a.unknown c.name_length-length.ensures
    c.pack_name.ensures c.in-None.ensures c.or.ensures
