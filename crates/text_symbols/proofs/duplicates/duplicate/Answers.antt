-- `text_symbols::duplicates::duplicate` meets its contract.
use Prim.Native.Nat.{◌+◌}
use mathlib.Core.Path.{refl, sym}
use native.Mathlib.Omega.{arith}
use lib.Seq.{length-take-le}
use Rattle.words_refusals.proofs.Promised.{not-err}
use Rattle.text_symbols.proofs.Room.{nodes-none}
use Rattle.text_symbols.proofs.TreeSearch.{node-repeats, port-repeats, none-repeats}
use Rattle.text_symbols.proofs.duplicates.duplicate.Goals as goal

pub slice_bounds-enter_all-end : goal.slice_bounds-enter_all-end
slice_bounds-enter_all-end c =
    let s = c in
    sym (length-take-le (s.args.c.inputs + s.args.c.named) s.args.names.now
    (let r = s.requires.number_room in omega arith))

pub enter_all-requires : goal.enter_all-requires
enter_all-requires c = nodes-none c.args.c c.args.names.now c.args.places.now c.args.index.now c.requires

pub returns-in-Some : goal.returns-in-Some
returns-in-Some c =
    let a = c.args in
    let r = c.requires in
    record {
      answer = λ t legal counted table.
          node-repeats t legal a.c counted a.names.now a.places.now table r.number_room r.place_room c.in-Some.ensures.answer;
      indexed = λ e. absurd (not-err e);
    }

pub returns-in-Some-repeat_of_few : goal.returns-in-Some-repeat_of_few
returns-in-Some-repeat_of_few c =
    let a = c.args in
    let r = c.requires in
    record {
      answer = λ t legal counted table.
          port-repeats t legal a.c counted a.names.now a.places.now table r.number_room r.place_room
          c.in_default.ensures.answer c.in-Some-repeat_of_few.ensures;
      indexed = λ e. absurd (not-err e);
    }

pub returns-in-None : goal.returns-in-None
returns-in-None c =
    let a = c.args in
    let r = c.requires in
    record {
      answer = λ t legal counted table.
          none-repeats t legal a.c counted a.names.now a.places.now table r.number_room r.place_room
          c.in_default.ensures.answer c.in-None.ensures;
      indexed = λ _. c.in_default.ensures.indexed refl;
    }
