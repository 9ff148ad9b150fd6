-- `bench_set_line::show::put_show` meets its contract: its three parts, one after the other. Assumes nothing.
use mathlib.Core.List.{◌++◌}
use mathlib.Core.Path.{◌≡◌}
use Rattle.prelude.specs.Lists.{ascii}
use Rattle.text_pieces.specs.Pieces.{Short, pieces}
use Rattle.text_pieces.proofs.Appending.{appended_then, short-first, short-rest}
use Rattle.bench_set_line.specs.Shown.{port_piece, show_text}
use Rattle.bench_set_line.proofs.ShowLaws.{show-of, show-short}
use Rattle.bench_set_line.proofs.show.put_show.Goals.{After-outputs_of-k}
use Rattle.bench_set_line.proofs.show.put_show.Goals as goal

-- the three parts, from the header that was read
parts : (c : After-outputs_of-k) → let a = c.args in
    show_text a.block.now.words.now a.values.now
    ≡ ascii "(show"
    ++ (pieces (port_piece a.block.now.words.now c.outputs_at-from.result a.values.now) c.outputs_of-k.result ++ ascii ")\n")
parts c = show-of c.args.block.now.words.now c.args.values.now c.outputs_of-k.ensures c.outputs_at-from.ensures

whole : (c : After-outputs_of-k) → let a = c.args in
    Short
    (ascii "(show"
    ++ (pieces (port_piece a.block.now.words.now c.outputs_at-from.result a.values.now) c.outputs_of-k.result ++ ascii ")\n")) 0
whole c =
    rw (show-of c.args.block.now.words.now c.args.values.now c.outputs_of-k.ensures c.outputs_at-from.ensures)
    at (show-short c.args.block.now.words.now c.args.values.now c.args.block.now.well_formed)

pub put_ports-filled-requires : goal.put_ports-filled-requires
put_ports-filled-requires c =
    let rest = short-rest {xs = ascii "(show"} _ (whole (goal.at.put_ports-filled-requires c).After-outputs_of-k)
    c.put_all-opened.ensures in
    record {
      ports_of = record {
        whole = c.args.block.now.well_formed;
        start = c.outputs_at-from.ensures;
        many =
            c.outputs_of-k.ensures;
      };
      short = short-first _ rest;
    }

pub put_all-requires : goal.put_all-requires
put_all-requires c =
    short-rest _ (short-rest {xs = ascii "(show"} _ (whole (goal.at.put_all-requires c).After-outputs_of-k)
    c.put_all-opened.ensures) c.put_ports-filled.ensures

pub returns : goal.returns
returns c =
    rw (parts (goal.at.returns c).After-outputs_of-k)
    (appended_then c.put_all-opened.ensures (appended_then c.put_ports-filled.ensures c.put_all.ensures))
