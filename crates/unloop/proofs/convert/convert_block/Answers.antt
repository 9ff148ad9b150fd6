-- What Render gives goes into `convert_rendered`; what it refuses is told.
use Rattle.std.proofs.Common.{length, sym}
use lib.Seq.{length-take-le}
use Rattle.netlist.specs.Operations.{render, render_words, write_words}
use Rattle.text_pieces.proofs.Told.{Gave, told-refused, told-done, gave-within, shown-is}
use Rattle.unloop.proofs.Telling.{chained_refused, chained-gave}
use Rattle.unloop.proofs.Sizes.{render-fits}
use Rattle.unloop.proofs.convert.convert_block.Goals as goal
use Rattle.unloop.proofs.convert.convert_block.Goals.{In-Ok}

-- what Render told
gave : (c : In-Ok)
    → Gave (render_words c.args.words.now) c.args.copies.now c.render.new.rendered c.in-Ok.done.count c.in-Ok.done.detail
unfolding render
gave c =
    told-done (render_words c.args.words.now) _ c.args.copies.now _
    (render-fits (length c.args.copies.now) c.requires.0 c.args.words.now) c.render.ensures.promise
    c.in-Ok.done c.in-Ok.is

pub slice_bounds-convert_rendered-end : goal.slice_bounds-convert_rendered-end
slice_bounds-convert_rendered-end c = gave-within (gave (goal.at.slice_bounds-convert_rendered-end c).In-Ok)

pub slice_bounds-convert_rendered-end-in-Ok : goal.slice_bounds-convert_rendered-end-in-Ok
slice_bounds-convert_rendered-end-in-Ok c =
    sym (length-take-le _ _ (gave-within (gave (goal.at.slice_bounds-convert_rendered-end-in-Ok c).In-Ok)))

pub returns-in-Err : goal.returns-in-Err
unfolding render
returns-in-Err c =
    shown-is (chained_refused (render_words c.args.words.now) write_words c.in-Err.why
    (told-refused (render_words c.args.words.now) _ c.args.copies.now _
    (render-fits (length c.args.copies.now) c.requires.0 c.args.words.now) c.render.ensures.promise
    c.in-Err.why c.in-Err.is)) c.tell.ensures

pub returns-in-Ok : goal.returns-in-Ok
returns-in-Ok c =
    shown-is (chained-gave (render_words c.args.words.now) write_words (gave (goal.at.returns-in-Ok c).In-Ok))
    c.convert_rendered.ensures
