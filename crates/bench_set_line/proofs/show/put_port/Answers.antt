-- `bench_set_line::show::put_port` meets its contract: its five pieces, one after the other. Assumes nothing.
use Prim.Native.Nat.{ℕ, ◌+◌, ◌*◌}
use mathlib.Core.Path.{◌≡◌, ap, ◌∙◌}
use mathlib.Core.List.{[], ◌∷◌}
use native.Mathlib.Omega.{arith}
use lib.ListN.{get_or}
use Rattle.prelude.specs.Lists.{ascii}
use Rattle.netlist.specs.StoredBlock.{name_size, output_size, operand_of}
use Rattle.netlist.specs.Values.{value_of}
use Rattle.netlist.specs.Syntax.{value_text, pair_text}
use Rattle.graph_gates.specs.Places.{place_of}
use Rattle.text_pieces.proofs.Appending.{appended_then, short-first, short-rest}
use Rattle.bench_set_line.specs.Shown.{port_piece}
use Rattle.bench_set_line.proofs.ShowLaws.{ports-near, port-ready}
use Rattle.bench_set_line.proofs.show.put_port.Goals.{After-value_byte}
use Rattle.bench_set_line.proofs.show.put_port.Goals as goal

byte-is : (c : After-value_byte) → let a = c.args in
    c.value_byte.result ∷ []
    ≡ value_text (value_of (get_or a.values.now (place_of (operand_of (get_or a.words.now 0 0) (get_or a.words.now
    (a.from + output_size * a.o + name_size) 0))) 0))
byte-is c =
    rw (← c.inputs_of.ensures)
    (c.value_byte.ensures ∙ ap (λ (v : ℕ). value_text (value_of v)) c.shown_value-value.ensures)

pub overflow_add-port : goal.overflow_add-port
overflow_add-port c =
    omega (arith, c.requires.port_of.below, ports-near c.args.words.now c.requires.port_of.whole c.requires.port_of.start)

pub shown_value-value-requires : goal.shown_value-value-requires
shown_value-value-requires c = port-ready c.requires.port_of c.inputs_of.ensures

pub put_all-opened-requires : goal.put_all-opened-requires
unfolding port_piece pair_text
put_all-opened-requires c = short-first {xs = ascii " ("} _ c.requires.short

pub put_name-named-requires : goal.put_name-named-requires
unfolding port_piece pair_text
put_name-named-requires c =
    record {
      from_le_written_room = omega (arith, c.requires.port_of.below, ports-near c.args.words.now c.requires.port_of.whole c.requires.port_of.start);
      short = short-first _
          (short-rest {xs = ascii " ("} _ c.requires.short c.put_all-opened.ensures);
    }

pub put-spaced-requires : goal.put-spaced-requires
unfolding port_piece pair_text
put-spaced-requires c =
    let a = short-rest {xs = ascii " ("} _ c.requires.short c.put_all-opened.ensures in
    short-first {xs = ascii " "} _ (short-rest _ a c.put_name-named.ensures)

pub put-filled-requires : goal.put-filled-requires
unfolding port_piece pair_text
put-filled-requires c =
    let a = short-rest {xs = ascii " ("} _ c.requires.short c.put_all-opened.ensures in
    let b = short-rest _ a c.put_name-named.ensures in
    rw (byte-is (goal.at.put-filled-requires c).After-value_byte) (short-first _ (short-rest {xs = ascii " "} _ b c.put-spaced.ensures))

pub put-requires : goal.put-requires
unfolding port_piece pair_text
put-requires c =
    let a = short-rest {xs = ascii " ("} _ c.requires.short c.put_all-opened.ensures in
    let b = short-rest _ a c.put_name-named.ensures in
    let d = short-rest {xs = ascii " "} _ b c.put-spaced.ensures in
    short-rest _ d (rw (byte-is (goal.at.put-requires c).After-value_byte) at c.put-filled.ensures)

pub returns : goal.returns
unfolding port_piece pair_text
returns c =
    appended_then c.put_all-opened.ensures
    (appended_then c.put_name-named.ensures
    (appended_then c.put-spaced.ensures (appended_then (rw (byte-is (goal.at.returns c).After-value_byte) at c.put-filled.ensures)
    c.put.ensures)))
