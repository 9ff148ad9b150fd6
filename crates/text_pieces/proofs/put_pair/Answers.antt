-- `text_pieces::put_pair` meets its contract: its five pieces, one after the other.
use mathlib.Core.List.{[], ◌∷◌}
use native.Mathlib.Omega.{arith}
use Rattle.prelude.specs.Lists.{ascii}
use Rattle.text_pieces.specs.Pieces.{pair_piece}
use Rattle.text_pieces.proofs.Appending.{appended_then, short-first, short-rest}
use Rattle.text_pieces.proofs.put_pair.Goals as goal

pub put_all-opened-requires : goal.put_all-opened-requires
unfolding pair_piece
put_all-opened-requires c = search short-first

pub put_name-named-requires : goal.put_name-named-requires
unfolding pair_piece
put_name-named-requires c = record {
  from_le_written_room = omega arith;
  short = search (short-first, short-rest);
}

pub put-spaced-requires : goal.put-spaced-requires
unfolding pair_piece
put-spaced-requires c =
    let start = c in
    let named = c in
    let opened = c in
    let a = short-rest _ start.requires.short opened.put_all-opened.ensures in
    short-first {xs = ascii " "} _ (short-rest _ a named.put_name-named.ensures)

pub put-filled-requires : goal.put-filled-requires
unfolding pair_piece
put-filled-requires c =
    let spaced = c in
    let named = c in
    let opened = c in
    let start = c in
    let a = short-rest _ start.requires.short opened.put_all-opened.ensures in
    let b = short-rest _ a named.put_name-named.ensures in
    short-first {xs = start.args.byte ∷ []} _ (short-rest {xs = ascii " "} _ b spaced.put-spaced.ensures)

pub put-requires : goal.put-requires
unfolding pair_piece
put-requires c = search short-rest

pub returns : goal.returns
unfolding pair_piece
returns c =
    let filled = c in
    let spaced = c in
    let named = c in
    let opened = c in
    appended_then opened.put_all-opened.ensures (appended_then named.put_name-named.ensures
    (appended_then spaced.put-spaced.ensures (appended_then filled.put-filled.ensures c.put.ensures)))
