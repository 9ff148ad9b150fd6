-- `op_cover::table::tabulate` meets its contract: the table is filled by the block's plan.
use mathlib.Core.Path.{sym}
use Prim.Native.Nat.{◌^◌, ◌≤◌}
use lib.ListN.{length, get_or}
use Rattle.netlist.specs.StoredBlock.{decode}
use Rattle.theory_encoding.proofs.Decoded.{decode-input_count}
use Rattle.theory_encoding.proofs.Readers.{whole_parts}
use Rattle.lanes_settings.proofs.Counting.{few-settings}
use Rattle.op_cover.proofs.Flags.{tabulated}
use Rattle.op_cover.proofs.table.tabulate.Goals.{Start}
use Rattle.op_cover.proofs.table.tabulate.Goals as goal

-- the table has a byte for each setting
room : (s : Start) → 2 ^ get_or s.args.block.now.words.now 0 0 ≤ length s.args.settled.now
room s = rw s.requires (few-settings _ (whole_parts s.args.block.now.words.now s.args.block.now.well_formed).few_inputs)

pub fill_sound-requires : goal.fill_sound-requires
fill_sound-requires c =
    room (goal.at.fill_sound-requires c).Start

pub returns : goal.returns
returns c =
    let f = c in
    let s = f in
    let words = s.args.block.now.words.now in
    let e = f.fill_sound in
    tabulated (decode words) (get_or words 0 0) s.args.settled.now _ (sym (decode-input_count words))
    (rw e.auto.sound (room (goal.at.returns c).Start)) e.ensures
