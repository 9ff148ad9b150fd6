-- `text_pairs::tables::fill_pairs` meets its contract: the tables are those of the pairs that stand there. Assumes
-- nothing.
use borrow.Author.Rules.{rules}
use native.Mathlib.Omega.{arith}
use Prim.Native.Nat.{◌≤◌}
use lib.ListN.{length}
use Rattle.prelude.proofs.Tab.{tab-cut}
use Rattle.text_names.proofs.Packing.{through-cut}
use Rattle.text_pairs.specs.PairBytes.{pair_place, code_at}
use Rattle.text_pairs.proofs.TableLaws.{tables-filled}
use Rattle.text_pairs.proofs.tables.fill_pairs.Goals as goal

pub returns : goal.returns
returns c =
    let a = c.args in
    let places = c.fill_at_names.new.table in
    let count = c.pair_count-count.result in
    let room : count ≤ length places = omega (arith, c.requires.place_room, c.pair_count-count.ensures, c.fill_at_names.auto.table) in
    λ ps is.
    tables-filled is a.names.now a.places.now a.codes.now c.pair_count-count.ensures
    (c.fill_at_names.ensures (pair_place a.text.now a.at) (λ i v h. search rules))
    (rw (through-cut a.text.now places count room) at c.fill_names.ensures)
    (rw (tab-cut (code_at a.text.now) places count 0 room) at (c.fill_at_places.ensures (code_at a.text.now) (λ place v h. search rules)))
