-- What Write gives is shown; what it refuses is told.
use Rattle.std.proofs.Common.{length}
use Rattle.netlist.specs.Operations.{write, write_words}
use Rattle.text_pieces.proofs.Told.{told-refused, kept-refused, told-done, shown-refused, shown-gave}
use Rattle.unloop.proofs.Sizes.{write-fits}
use Rattle.unloop.proofs.convert.convert_rendered.Goals as goal

pub returns-in-Err : goal.returns-in-Err
unfolding write
returns-in-Err c =
    let o = write_words c.args.words.now in
    let out = c.args.out.now in
    let f = write-fits (length out) c.requires c.args.words.now in
    let why = c.in-Err.why in
    shown-refused o why out _ _ _ (told-refused o _ out _ f c.write.ensures why c.in-Err.is)
    (kept-refused o _ out _ f c.write.ensures why c.in-Err.is) c.tell.ensures

pub returns-in-Ok : goal.returns-in-Ok
unfolding write
returns-in-Ok c =
    shown-gave (told-done (write_words c.args.words.now) _ c.args.out.now _
    (write-fits (length c.args.out.now) c.requires c.args.words.now) c.write.ensures
    c.in-Ok.done c.in-Ok.is)
