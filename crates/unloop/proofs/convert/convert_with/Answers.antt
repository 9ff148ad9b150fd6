-- What Read gives goes into `convert_block`; what it refuses is told.
use Rattle.std.proofs.Common.{length, sym}
use lib.Seq.{length-take-le}
use Rattle.netlist.specs.Operations.{read, read_text}
use Rattle.text_pieces.proofs.Told.{Gave, told-refused, told-done, gave-within}
use Rattle.op_read.proofs.ReadFits.{read_fits}
use Rattle.unloop.proofs.Telling.{unloop-refused, unloop-gave}
use Rattle.unloop.proofs.convert.convert_with.Goals as goal
use Rattle.unloop.proofs.convert.convert_with.Goals.{In-Ok}

-- what Read told
gave : (c : In-Ok)
    → Gave (read_text c.args.text.now) c.args.block.now c.read.new.block c.in-Ok.done.count c.in-Ok.done.detail
unfolding read
gave c =
    told-done (read_text c.args.text.now) _ c.args.block.now _
    (read_fits (length c.args.block.now) c.requires.0 c.args.text.now) c.read.ensures
    c.in-Ok.done c.in-Ok.is

pub slice_bounds-convert_block-end : goal.slice_bounds-convert_block-end
slice_bounds-convert_block-end c = gave-within (gave (goal.at.slice_bounds-convert_block-end c).In-Ok)

pub slice_bounds-convert_block-end-in-Ok : goal.slice_bounds-convert_block-end-in-Ok
slice_bounds-convert_block-end-in-Ok c =
    sym (length-take-le _ _ (gave-within (gave (goal.at.slice_bounds-convert_block-end-in-Ok c).In-Ok)))

pub returns-in-Err : goal.returns-in-Err
unfolding read
returns-in-Err c =
    unloop-refused c.args.text.now c.in-Err.why (told-refused (read_text c.args.text.now) _ c.args.block.now _
    (read_fits (length c.args.block.now) c.requires.0 c.args.text.now) c.read.ensures
    c.in-Err.why c.in-Err.is) c.tell.ensures

pub returns-in-Ok : goal.returns-in-Ok
returns-in-Ok c =
    unloop-gave c.args.text.now (gave (goal.at.returns-in-Ok c).In-Ok) c.convert_block.ensures
