-- The outcomes of making and of running cells, as chains of conditions, and what they promise of each other.
--   make-chain, run-chain    the conditions in their order, the room last
--   words-passed, straight-passed, cells-passed, bytes-passed    what is left of them behind the tests that passed
--   good-bits, legal-short   what a run's tests leave
--   run-done                 a run that nothing refuses
--   runs_as                  a run of the made cells answers what Pass answers, on every setting without a byte above 1
--   done-cells               so for the cells of any call that is done
--   make-promise             so making keeps its whole promise
-- Assumes nothing.
use mathlib.Core.Path.{◌≡◌, refl, sym, ◌∙◌}
use mathlib.Core.Bool.{Bool, true, false, not, ◌&&◌, or-false}
use mathlib.Core.List.{List, map}
use Prim.Native.Nat.{ℕ, ◌*◌, ◌/◌, ◌%◌, ◌≤◌}
use native.Mathlib.Omega.{arith}
use lib.ListN.{length, get_or, take}
use lib.Dec.{eqb, leb, ltb}
use borrow.Author.Tests.{eqb-true, eq-eqb, leb-true, le-leb, le-ltb, not-false}
use Rattle.prelude.specs.Lists.{all, up_to}
use Rattle.prelude.proofs.Tests.{and_left, and_right, or-neither}
use Rattle.prelude.proofs.Slices.{take-placed}
use Rattle.prelude.proofs.Quantifiers.{all_from}
use Rattle.std.specs.declared.result.Result.TheVariants.{Ok}
use Rattle.netlist.specs.Answers.{Answer}
use Rattle.netlist.specs.declared.Refusal.TheVariants.{MalformedBlock, BadSetting, NotStraight, NoRoom}
use Rattle.netlist.specs.Limits.{max_inputs, max_gates}
use Rattle.netlist.specs.Values.{code, value_of}
use Rattle.netlist.specs.Netlist.{Block, input_count, gate_count}
use Rattle.netlist.specs.StoredBlock.{decode, is_malformed}
use Rattle.netlist.specs.Rendering.{is_straight, sweep}
use Rattle.netlist.specs.Answers.{refusal_number, number_of, count_of, Outcome, done, refuse_if, in_room, answer_of, left_in}
use Rattle.netlist.specs.Answers.{Promise}
use Rattle.netlist.specs.Operations.{counted, is_bad_setting, pass_block, pass}
use Rattle.netlist.specs.Cells.{cell_size, cells_of, make_words, make_cells, cell_count, reads_earlier, are_legal_cells}
use Rattle.netlist.specs.Cells.{is_bad_run, cell_values, run_cells}
use Rattle.theory_encoding.proofs.Decoded.{decode-gate_count}
use Rattle.theory_encoding.proofs.RoundTrip.{whole-well_formed}
use Rattle.words_refusals.specs.Tests.{Test, test_of}
use Rattle.words_refusals.proofs.Promised.{passed, bare, keeps-bare}
use Rattle.op_settle.specs.Tests.{at_most, is_bad_bytes}
use Rattle.op_cells.specs.Runs.{Bits}
use Rattle.op_cells.specs.Promise.{is_two_valued, AgreesWith, RunsAs, CellsPromise}
use Rattle.op_cells.proofs.Bits.{bits_of}
use Rattle.op_cells.proofs.Running.{length-values}
use Rattle.op_cells.proofs.Made.{length-cells_of}
use Rattle.op_cells.proofs.Agree.{cells-pass}

-- ---- making

-- the room comes last
make-last : (room : ℕ) (cells : List ℕ) (torn straight : Bool)
    → in_room room (refuse_if torn MalformedBlock (refuse_if (not straight) NotStraight (counted cells)))
    ≡ refuse_if torn MalformedBlock (refuse_if (not straight) NotStraight
    (refuse_if (ltb room (length cells)) NoRoom (done cells (length cells) 0)))
unfolding refuse_if in_room counted
make-last room cells true straight = refl
make-last room cells false true = refl
make-last room cells false false = refl

module _ (ws : List ℕ) (room : ℕ) where
  abbrev word_count : ℕ
  word_count = cell_size * get_or ws 1 0

  -- what is left of the conditions behind the block's rules
  abbrev pub straight_on : Outcome
  straight_on =
      refuse_if (not (is_straight (decode ws))) NotStraight
      (refuse_if (ltb room word_count) NoRoom (done (cells_of (decode ws)) word_count 0))

  pub make-chain : make_cells ws room ≡ refuse_if (is_malformed ws) MalformedBlock straight_on
  unfolding make_cells make_words
  make-chain =
      let long : length (cells_of (decode ws)) ≡ word_count = length-cells_of (decode ws) ∙ rw (decode-gate_count ws) in
      make-last room (cells_of (decode ws)) (is_malformed ws) (is_straight (decode ws)) ∙ rw long

-- the outcome when the first tests have passed, from what each of them says; g is the number of gates
module _ (ws : List ℕ) (room : ℕ) {w : Test} (words : w ≡ test_of (is_malformed ws) MalformedBlock) (whole : w ≡ Ok tt)
  where
    pub words-passed : make_cells ws room ≡ straight_on ws room
    words-passed = passed bare keeps-bare _ _ MalformedBlock (make-chain ws room) words whole

    pub straight-passed : {s : Test} {g : ℕ} → s ≡ test_of (not (is_straight (decode ws))) NotStraight → s ≡ Ok tt
        → g ≡ get_or ws 1 0
        → make_cells ws room
        ≡ refuse_if (ltb room (cell_size * g)) NoRoom (done (cells_of (decode ws)) (cell_size * g) 0)
    straight-passed e f m = rw m (passed bare keeps-bare _ _ NotStraight words-passed e f)

-- ---- running

run-last : (room : ℕ) (values : List ℕ) (count : ℕ) (bad wrong : Bool) → length values ≡ count
    → in_room room (refuse_if bad MalformedBlock (refuse_if wrong BadSetting (done values count 0)))
    ≡ refuse_if bad MalformedBlock (refuse_if wrong BadSetting (refuse_if (ltb room count) NoRoom (done values count 0)))
unfolding refuse_if in_room
run-last room values count true wrong e = refl
run-last room values count false true e = refl
run-last room values count false false e = rw e

module _ (n : ℕ) (cells setting : List ℕ) (room : ℕ) where
  -- what is left of the conditions behind each: behind the setting, the room; behind the cells, both
  abbrev pub room_on : Outcome
  room_on =
      refuse_if (ltb room (length cells / cell_size)) NoRoom
      (done (cell_values n cells setting) (length cells / cell_size) 0)

  abbrev pub bytes_on : Outcome
  bytes_on = refuse_if (is_bad_bytes n 1 setting) BadSetting room_on

  pub run-chain : run_cells n cells setting room ≡ refuse_if (not (are_legal_cells n cells)) MalformedBlock bytes_on
  unfolding run_cells is_bad_run is_bad_bytes cell_count
  run-chain =
      run-last room (cell_values n cells setting) (cell_count cells) (not (are_legal_cells n cells))
      (is_bad_bytes n 1 setting) (length-values n cells setting)

  -- the outcome when the first tests have passed, from what each of them says
  module _ {t : Test} (cells-told : t ≡ test_of (not (are_legal_cells n cells)) MalformedBlock) (legal : t ≡ Ok tt) where
    pub cells-passed : run_cells n cells setting room ≡ bytes_on
    cells-passed = passed bare keeps-bare _ _ MalformedBlock run-chain cells-told legal

    pub bytes-passed : {b : Test} → b ≡ test_of (is_bad_bytes n 1 setting) BadSetting → b ≡ Ok tt
        → run_cells n cells setting room ≡ room_on
    bytes-passed e f = passed bare keeps-bare _ _ BadSetting cells-passed e f

-- a setting that passed its test has bits,
pub good-bits : (n : ℕ) (setting : List ℕ) → is_bad_bytes n 1 setting ≡ false → Bits setting
unfolding is_bad_bytes
good-bits n setting h =
    bits_of setting (not-false (all (at_most 1) setting)
    (or-neither (not (eqb (length setting) n)) (not (all (at_most 1) setting)) h).1)

-- and cells that passed theirs are few
pub legal-short : (n : ℕ) (cells : List ℕ) → are_legal_cells n cells ≡ true → length cells ≤ cell_size * max_gates
unfolding are_legal_cells
legal-short n cells h =
    let few = leb n max_inputs in
    let short = leb (length cells) (cell_size * max_gates) in
    let whole = eqb (length cells % cell_size) 0 in
    leb-true (length cells) (cell_size * max_gates)
    (and_right few short (and_left (few && short) whole
    (and_left (few && short && whole) (all (reads_earlier n cells) (up_to (cell_count cells))) h)))

-- a run that nothing refuses
pub run-done : (n : ℕ) (cells setting : List ℕ) (room : ℕ) → are_legal_cells n cells ≡ true → length setting ≡ n
    → is_two_valued setting ≡ true
    → cell_count cells ≤ room → run_cells n cells setting room ≡ done (cell_values n cells setting) (cell_count cells) 0
unfolding refuse_if is_bad_bytes is_two_valued cell_count
run-done n cells setting room legal long low fits =
    run-chain n cells setting room ∙ rw (legal, eq-eqb (length setting) n long, low, le-ltb room (cell_count cells) fits)

-- ---- a run of the made cells, and Pass

module _ (setting : List ℕ) (t : is_two_valued setting ≡ true) where
  -- only the length can be wrong, for a run
  bad-run : (n : ℕ) → is_bad_run n setting ≡ not (eqb (length setting) n)
  unfolding is_bad_run is_two_valued
  bad-run n = rw t (or-false (not (eqb (length setting) n)))

  -- and for Pass
  bad-setting : (b : Block) → is_bad_setting b setting ≡ not (eqb (length setting) (input_count b))
  unfolding is_bad_setting is_two_valued
  bad-setting b =
      let low : all (λ v. leb v 2) setting ≡ true =
      all_from (λ v. leb v 2) setting 0 (λ i l. le-leb (get_or setting i 0) 2 (omega (arith, bits_of setting t i))) in
      rw low (or-false (not (eqb (length setting) (input_count b))))

pub runs_as : (ws : List ℕ) → is_malformed ws ≡ false → is_straight (decode ws) ≡ true → RunsAs ws (cells_of (decode ws))
unfolding run_cells pass pass_block refuse_if
runs_as ws whole straight = record { agrees = agree; runs = runs }
  where
    b : Block
    b = decode ws

    cells : List ℕ
    cells = cells_of b

    agree : AgreesWith b cells
    agree = cells-pass b (whole-well_formed ws whole) straight

    runs : (setting : List ℕ) (room : ℕ) → is_two_valued setting ≡ true
        → run_cells (input_count b) cells setting room ≡ pass ws setting room
    runs setting room t =
        rw (agree.legal, whole, straight, bad-run setting t (input_count b), bad-setting setting t b)
        (go (eqb (length setting) (input_count b)) refl)
      where
        go : (e : Bool) → eqb (length setting) (input_count b) ≡ e
            → in_room room (refuse_if (not e) BadSetting
            (done (cell_values (input_count b) cells setting) (cell_count cells) 0))
            ≡ in_room room (refuse_if (not e) BadSetting
            (done (map code (sweep b (map value_of setting))) (gate_count b) 0))
        go false e = refl
        go true e = rw (agree.swept setting (eqb-true (length setting) (input_count b) e) t, agree.one_each)

-- ---- cells that were made

done-of : (torn straight short : Bool) (made cells : List ℕ) (long count detail : ℕ) (o : Outcome)
    → o ≡ refuse_if torn MalformedBlock (refuse_if (not straight) NotStraight (refuse_if short NoRoom (done made long 0)))
    → o ≡ done cells count detail → (torn ≡ false) × (straight ≡ true) × (cells ≡ made)
unfolding refuse_if
done-of true straight short made cells long count detail o e d = let z : ◌≡◌ {A = ℕ} 0 1 = cc in absurd (omega arith)
done-of false false short made cells long count detail o e d = let z : ◌≡◌ {A = ℕ} 0 1 = cc in absurd (omega arith)
done-of false true true made cells long count detail o e d = let z : ◌≡◌ {A = ℕ} 0 1 = cc in absurd (omega arith)
done-of false true false made cells long count detail o e d = (refl, refl, (cc))

-- wherever making is done with the cells, a run of them answers what Pass answers
pub done-cells : (ws cells : List ℕ) (room : ℕ) {count detail : ℕ} → make_cells ws room ≡ done cells count detail
    → RunsAs ws cells
done-cells ws cells room {count} {detail} e =
    let m = done-of (is_malformed ws) (is_straight (decode ws)) (ltb room (cell_size * get_or ws 1 0)) (cells_of (decode ws))
    cells (cell_size * get_or ws 1 0) count detail
    (make_cells ws room) (make-chain ws room) e in
    rw m.2 (runs_as ws m.0 m.1)

-- ---- the promise of making

-- it answers 0 only of a straight block, and then the slice begins with its cells
record Made (torn straight : Bool) (cells : List ℕ) (o : Outcome) (entry : List ℕ) : Type 0 where
  wholly : torn ≡ false
  straightly : straight ≡ true
  front : take (count_of (answer_of o)) (left_in o entry) ≡ cells

made : (torn straight short : Bool) (cells entry : List ℕ) (count : ℕ) (o : Outcome) → length cells ≡ count
    → o ≡ refuse_if torn MalformedBlock (refuse_if (not straight) NotStraight
    (refuse_if short NoRoom (done cells count 0)))
    → number_of (answer_of o) ≡ 0 → Made torn straight cells o entry
unfolding refuse_if answer_of number_of count_of refusal_number left_in
made true straight short cells entry count o l e z = let n : ◌≡◌ {A = ℕ} 6 0 = rw e at z in absurd (omega arith)
made false false short cells entry count o l e z = let n : ◌≡◌ {A = ℕ} 10 0 = rw e at z in absurd (omega arith)
made false true true cells entry count o l e z = let n : ◌≡◌ {A = ℕ} 11 0 = rw e at z in absurd (omega arith)
made false true false cells entry count o l e z =
    record { wholly = refl; straightly = refl; front = rw e (take-placed cells entry count l) }

pub make-promise : {ws entry exit : List ℕ} {r : Answer} → Promise (make_cells ws (length entry)) entry r exit
    → CellsPromise ws entry r exit
make-promise {ws} {entry} {exit} {r} p = record { promise = p; runs = runs }
  where
    b : Block
    b = decode ws

    o : Outcome
    o = make_cells ws (length entry)

    runs : number_of r ≡ 0 → RunsAs ws (take (count_of r) exit)
    runs z =
        let m : Made (is_malformed ws) (is_straight b) (cells_of b) o entry =
        made (is_malformed ws) (is_straight b) (ltb (length entry) (cell_size * get_or ws 1 0)) (cells_of b) entry
        (cell_size * get_or ws 1 0) o
        (length-cells_of b ∙ rw (decode-gate_count ws)) (make-chain ws (length entry)) (sym p.told.number ∙ z) in
        rw (p.told.count, p.leaves, m.front) (runs_as ws m.wholly m.straightly)
