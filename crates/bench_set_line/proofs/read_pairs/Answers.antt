-- `bench_set_line::read_pairs` meets its contract: 4 before 5, and then the inputs have what the line gives them.
use Prim.Native.Nat.{ℕ}
use mathlib.Core.Path.{◌≡◌, ◌∙◌}
use mathlib.Core.List.{List, []}
use lib.ListN.{length, take}
use lib.Seq.{length-take-le}
use Rattle.netlist.specs.declared.Refusal.TheVariants.{DuplicateDeclaration, UndeclaredName}
use Rattle.netlist.specs.StoredBlock.{decode}
use Rattle.netlist.specs.Reading.{first_repeat, first_outside}
use Rattle.netlist.specs.Syntax.{Pair}
use Rattle.netlist.specs.Bench.{given_names}
use Rattle.words_refusals.specs.Tests.{test_at}
use Rattle.text_pairs.specs.Tables.{NamesAre}
use Rattle.text_pairs.proofs.TableLaws.{names-room, inputs-room, names-cut, inputs-cut, fronts-given}
use Rattle.bench_set_line.specs.Tables.{pairs_at, LineFor, TablesFor}
use Rattle.bench_set_line.specs.declared.LineTables.{LineTables}
use Rattle.bench_set_line.proofs.Outcomes.{repeat_read, outside-read, both_read}
use Rattle.bench_set_line.proofs.TableLaws.{inputs-counted, line-setting, line-bytes}
use Rattle.bench_set_line.proofs.read_pairs.Goals.{After-test_outside, After-test_repeat}
use Rattle.bench_set_line.proofs.read_pairs.Goals as goal

-- the names of the line's pairs alone
module _ {ws : List ℕ} {ps : List Pair} {t : LineTables} (f : TablesFor ws ps t) where
  names-long : length (take t.count t.names) ≡ t.count
  names-long = length-take-le t.count t.names (names-room f.tabled)

  names-are : NamesAre ps (take t.count t.names)
  names-are = names-cut f.tabled.counted names-long f.tabled.names_are

repeat-told : (c : After-test_repeat) (ps : List Pair) → LineFor c.args.words.now ps c.args.line.now
    → c.test_repeat.result ≡ test_at (first_repeat [] (given_names ps)) DuplicateDeclaration
unfolding given_names
repeat-told c ps l =
    let f = c.fill_tables-t.ensures ps l in
    c.test_repeat.ensures ps pairs_at f.legal (names-long f ∙ f.tabled.counted) (names-are f) f.tabled.places_are

outside-told : (c : After-test_outside) (ps : List Pair) → LineFor c.args.words.now ps c.args.line.now
    → c.test_outside.result ≡ test_at (first_outside (decode c.args.words.now).inputs (given_names ps)) UndeclaredName
unfolding given_names
outside-told c ps l =
    let f = c.fill_tables-t.ensures ps l in
    c.test_outside.ensures ps pairs_at (decode c.args.words.now).inputs f.legal (names-long f ∙ f.tabled.counted)
    (names-are f) f.tabled.places_are (inputs-cut (inputs-counted c.inputs_of-n.ensures f.inputs_are))

pub returns-in_err-test_repeat : goal.returns-in_err-test_repeat
returns-in_err-test_repeat c = λ ps l.
    repeat_read _ ps _ (repeat-told (goal.at.returns-in_err-test_repeat c).After-test_repeat ps l)
    c.in_err-test_repeat.was c.from_residual.ensures.1

pub returns-in_err-test_outside : goal.returns-in_err-test_outside
returns-in_err-test_outside c = λ ps l.
    outside-read _ ps _ (repeat-told (goal.at.returns-in_err-test_outside c).After-test_repeat ps l)
    c.in_ok-test_repeat.was (outside-told (goal.at.returns-in_err-test_outside c).After-test_outside ps l)
    c.in_err-test_outside.was c.from_residual-in_err-test_outside.ensures.1

pub put_setting-requires : goal.put_setting-requires
put_setting-requires c =
    let t = c.fill_tables-t.result in
    let f = c.fill_tables-t.ensures c.requires.0.pairs c.requires.0.for in
    let n = c.inputs_of-n.ensures in (
      c.requires.1,
      line-bytes f _ n (c.fill_setting.ensures
          ∙ fronts-given t.names t.codes t.inputs _ t.count _ (names-room f.tabled) (inputs-room (inputs-counted n f.inputs_are))),
    )

pub returns : goal.returns
returns c = λ ps l.
    let t = c.fill_tables-t.result in
    let f = c.fill_tables-t.ensures ps l in
    let n = c.inputs_of-n.ensures in
    let given = line-setting f _ n (c.fill_setting.ensures
    ∙ fronts-given t.names t.codes t.inputs _ t.count _ (names-room f.tabled) (inputs-room (inputs-counted n f.inputs_are))) in
    both_read _ ps _ (repeat-told (goal.at.returns c).After-test_repeat ps l) c.in_ok-test_repeat.was
    (outside-told (goal.at.returns c).After-test_outside ps l) c.in_ok-test_outside.was (rw given at c.put_setting.ensures)
