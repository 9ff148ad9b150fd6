-- The records and the batch after some turns, and what the reply says of the turns.
--   partly, length-partly, partly-next, partly-beyond   the first records answered
--   answered, place-before, place-fits                  how many are answered before a turn, and the turn's place
--   before, turn-finds, turn-leaves                     the records before a turn, and after it
--   BatchAt, batch-first, batch-next, batch-answers     the batch before a turn
--   turn-whole, turns_fit, turn-place, turn-record, turn-answers, turn-batch, turns-all   by the reply's count
-- Assumes nothing.
use mathlib.Core.Path.{◌≡◌, refl, sym, ◌∙◌, ap}
use mathlib.Core.Logic.{⊎_elim}
use mathlib.Core.Bool.{true, false, true≢false}
use Prim.Native.Nat.{ℕ, zero, suc, ◌+◌, ◌-◌, ◌*◌, ◌/◌, ◌%◌, ◌<◌, ◌≤◌}
use native.Mathlib.Nat.{not-suc-le-zero, le_of_suc-le-suc}
use native.Mathlib.Omega.{arith}
use mathlib.Core.List.{List, [], ◌∷◌, map}
use borrow.Author.Tests.{lt-ltb, le-ltb}
use lib.ListN.{length, get_or, set}
use lib.Seq.{set-get_or, get_or-set_same, get_or-set_other}
use Rattle.prelude.proofs.Tests.{bool_cases, lt-or-le, eq-or-ne}
use Rattle.netlist.specs.declared.Record.{Record}
use Rattle.netlist.specs.declared.Reply.{Reply}
use Rattle.netlist.specs.StoredBlock.{decode, is_malformed}
use Rattle.netlist.specs.Answers.{count_of, answer_of, Shows}
use Rattle.netlist.specs.Sheet.{answered_record, sheet_records, sheet}
use Rattle.op_sheet.specs.declared.turns.Batch.{Batch}
use Rattle.op_sheet.specs.Records.{SettledLanes}
use Rattle.op_sheet.specs.Side.{Room}
use Rattle.op_sheet.specs.Order.{size_at, reads_at, record_at, BatchAdvanced, Answerable, turned}
use Rattle.op_sheet.proofs.RecordLaws.{sheet-malformed, sheet-done}

module _ (f : Record → Record) where
  -- the first i records under f
  abbrev partly : ℕ → List Record → List Record
  partly zero rs = rs
  partly (suc i) [] = []
  partly (suc i) (r ∷ rs) = f r ∷ partly i rs

  length-partly : (i : ℕ) (rs : List Record) → length (partly i rs) ≡ length rs
  length-partly zero rs = refl
  length-partly (suc i) [] = refl
  length-partly (suc i) (r ∷ rs) = ap suc (length-partly i rs)

  -- one more: record i under f
  partly-next : (i : ℕ) (rs : List Record) (d : Record) → i < length rs
      → set (partly i rs) i (f (get_or (partly i rs) i d)) ≡ partly (suc i) rs
  partly-next i [] d l = absurd (not-suc-le-zero l)
  partly-next zero (r ∷ rs) d l = refl
  partly-next (suc i) (r ∷ rs) d l = ap (λ (t : List Record). f r ∷ t) (partly-next i rs d (le_of_suc-le-suc l))

  -- the others are as they were
  partly-beyond : (k i : ℕ) (rs : List Record) (d : Record) → k ≤ i → get_or (partly k rs) i d ≡ get_or rs i d
  partly-beyond zero i rs d l = refl
  partly-beyond (suc k) i [] d l = refl
  partly-beyond (suc k) zero (r ∷ rs) d l = absurd (not-suc-le-zero l)
  partly-beyond (suc k) (suc i) (r ∷ rs) d l = partly-beyond k i rs d (le_of_suc-le-suc l)

  partly-all : (rs : List Record) → partly (length rs) rs ≡ map f rs
  partly-all [] = refl
  partly-all (r ∷ rs) = ap (λ (t : List Record). f r ∷ t) (partly-all rs)

-- ---- the turns

-- how many records are answered before turn t
abbrev pub answered : ℕ → ℕ → ℕ
answered count t = 64 * (t / 128) + (t % 128 - size_at count t)

answered-none : (count : ℕ) → answered count 0 ≡ 0
answered-none count = omega arith

answered-all : (count : ℕ) → answered count (2 * count) ≡ count
answered-all count = omega arith

-- a turn that reads
answered-same : (count t : ℕ) → t % 128 < size_at count t → answered count t ≡ answered count (suc t)
answered-same count t l =
    let few : size_at count t ≤ 64 = omega arith in
    let q : suc t / 128 ≡ t / 128 = omega arith in
    let r : suc t % 128 ≡ suc (t % 128) = omega arith in
    rw (q, r) (none_more (64 * (t / 128)) (t % 128) (size_at count t) l)
  where
    none_more : (a r k : ℕ) → r < k → a + (r - k) ≡ a + (suc r - k)
    none_more a r k l = omega arith

-- a turn that answers
answered-next : (count t : ℕ) → t < 2 * count → size_at count t ≤ t % 128
    → suc (answered count t) ≡ answered count (suc t)
answered-next count t small h = ⊎_elim within last (lt-or-le (t % 128) 127)
  where
    add : (a r k : ℕ) → k ≤ r → suc (a + (r - k)) ≡ a + (suc r - k)
    add a r k l = omega arith

    within : t % 128 < 127 → suc (answered count t) ≡ answered count (suc t)
    within l =
        let q : suc t / 128 ≡ t / 128 = omega arith in
        let r : suc t % 128 ≡ suc (t % 128) = omega arith in
        rw (q, r) (add (64 * (t / 128)) (t % 128) (size_at count t) h)

    -- a batch of fewer records ends before
    last : 127 ≤ t % 128 → suc (answered count t) ≡ answered count (suc t)
    last l =
        let full : size_at count t ≡ 64 = omega arith in
        let q : suc t / 128 ≡ suc (t / 128) = omega arith in
        let r : suc t % 128 ≡ 0 = omega arith in
        let e : t % 128 ≡ 127 = omega arith in
        rw (full, q, r, e) (none_left (t / 128) _)
      where
        none_left : (a k : ℕ) → suc (64 * a + 63) ≡ 64 * suc a + (0 - k)
        none_left a k = omega arith

-- the place of a turn that reads, and of one that answers
place-reads : (count t : ℕ) → t % 128 < size_at count t → record_at count t ≡ 64 * (t / 128) + t % 128
unfolding record_at reads_at
place-reads count t l = rw (lt-ltb (t % 128) (size_at count t) l)

place-answers : (count t : ℕ) → size_at count t ≤ t % 128 → record_at count t ≡ answered count t
unfolding record_at reads_at
place-answers count t l = rw (le-ltb (t % 128) (size_at count t) l)

-- the place of a turn is one that is not answered yet
place-before : (count t : ℕ) → answered count t ≤ record_at count t
place-before count t =
    ⊎_elim (λ l. rw (place-reads count t l) (omega arith)) (λ h. rw (place-answers count t h) (omega arith))
    (lt-or-le (t % 128) (size_at count t))

place-fits : (count t : ℕ) → t < 2 * count → record_at count t < count
place-fits count t small =
    ⊎_elim (λ l. rw (place-reads count t l) (omega arith)) (λ h. rw (place-answers count t h) (omega arith))
    (lt-or-le (t % 128) (size_at count t))

-- the records before turn t
abbrev pub before : List ℕ → List Record → ℕ → List Record
before ws rs t = partly (answered_record (decode ws)) (answered (length rs) t) rs

pub length_before : (ws : List ℕ) (rs : List Record) (t : ℕ) → length (before ws rs t) ≡ length rs
length_before ws rs t = length-partly (answered_record (decode ws)) (answered (length rs) t) rs

pub before-none : (ws : List ℕ) (rs : List Record) → before ws rs 0 ≡ rs
before-none ws rs = rw (answered-none (length rs))

module _ (ws : List ℕ) (rs : List Record) (d : Record) (t : ℕ) where
  abbrev place : ℕ
  place = record_at (length rs) t

  -- the record that the turn finds
  turn-finds : get_or (before ws rs t) place d ≡ get_or rs place d
  turn-finds =
      partly-beyond (answered_record (decode ws)) (answered (length rs) t) place rs d (place-before (length rs) t)

  turn-leaves : t < 2 * length rs
      → set (before ws rs t) place (turned ws (length rs) t (get_or (before ws rs t) place d)) ≡ before ws rs (suc t)
  unfolding turned reads_at
  turn-leaves small = ⊎_elim reading answering (lt-or-le (t % 128) (size_at (length rs) t))
    where
      reading : t % 128 < size_at (length rs) t
          → set (before ws rs t) place (turned ws (length rs) t (get_or (before ws rs t) place d)) ≡ before ws rs (suc t)
      reading l =
          let e = answered-same (length rs) t l in
          rw (lt-ltb (t % 128) (size_at (length rs) t) l)
          (set-get_or (before ws rs t) place d ∙ ap (λ (k : ℕ). partly (answered_record (decode ws)) k rs) e)

      answering : size_at (length rs) t ≤ t % 128
          → set (before ws rs t) place (turned ws (length rs) t (get_or (before ws rs t) place d)) ≡ before ws rs (suc t)
      answering h =
          let e = answered-next (length rs) t small h in
          rw (le-ltb (t % 128) (size_at (length rs) t) h, place-answers (length rs) t h)
          (partly-next (answered_record (decode ws)) (answered (length rs) t) rs d
          (rw (place-answers (length rs) t h) at (place-fits (length rs) t small))
          ∙ ap (λ (k : ℕ). partly (answered_record (decode ws)) k rs) e)

-- ---- the batch

-- before turn t: the masks of the records that were read, and once all are read what their lanes show
pub record BatchAt (ws : List ℕ) (rs : List Record) (d : Record) (t : ℕ) (b : Batch) : Type 0 where
  pub room : Room b
  pub fixed : (s : ℕ) → s < t % 128 → s < size_at (length rs) t
      → get_or b.fixed s 0 ≡ (get_or rs (64 * (t / 128) + s) d).fixed
  pub ones : (s : ℕ) → s < t % 128 → s < size_at (length rs) t
      → get_or b.ones s 0 ≡ (get_or rs (64 * (t / 128) + s) d).ones
  pub settled : size_at (length rs) t ≤ t % 128 → SettledLanes ws (size_at (length rs) t) b.fixed b.ones b.shown

-- nothing is read where a batch begins
batch-begins : (ws : List ℕ) (rs : List Record) (d : Record) (t : ℕ) {b : Batch} → t % 128 ≡ 0 → Room b
    → BatchAt ws rs d t b
batch-begins ws rs d t e room =
    record {
      room = room;
      fixed = λ s l h. absurd (omega arith);
      ones = λ s l h. absurd (omega arith);
      settled = λ h. record { long = room.shown_room; each = λ s l. absurd (omega arith) };
    }

pub batch-first : (ws : List ℕ) (rs : List Record) (d : Record) {b : Batch} → Room b → BatchAt ws rs d 0 b
batch-first ws rs d room = batch-begins ws rs d 0 refl room

module _ (ws : List ℕ) (rs : List Record) (d : Record) (t : ℕ) (small : t < 2 * length rs) {z : Record}
    (is : z ≡ get_or rs (record_at (length rs) t) d)
    {b after : Batch} (state : BatchAt ws rs d t b) (turn : BatchAdvanced ws (length rs) t z b after) where
  -- what an answer asks
  batch-answers : is_malformed ws ≡ false → reads_at (length rs) t ≡ false
      → Answerable ws (t % 128 - size_at (length rs) t) z.fixed z.ones after.shown
  unfolding reads_at
  batch-answers whole e = ⊎_elim (λ l. absurd (reads l)) answers (lt-or-le (t % 128) (size_at (length rs) t))
    where
      reads : t % 128 < size_at (length rs) t → ⊥
      reads l = true≢false (sym (lt-ltb (t % 128) (size_at (length rs) t) l) ∙ e)

      answers : size_at (length rs) t ≤ t % 128
          → Answerable ws (t % 128 - size_at (length rs) t) z.fixed z.ones after.shown
      answers h =
          let s : ℕ = t % 128 - size_at (length rs) t in
          let l : s < size_at (length rs) t = omega arith in
          let p : 64 * (t / 128) + s ≡ record_at (length rs) t = sym (place-answers (length rs) t h) in
          let ef : get_or b.fixed s 0 ≡ z.fixed =
          state.fixed s (omega arith) l ∙ ap (λ (k : ℕ). (get_or rs k d).fixed) p
          ∙ ap (λ (y : Record). y.fixed) (sym is) in
          let eo : get_or b.ones s 0 ≡ z.ones =
          state.ones s (omega arith) l ∙ ap (λ (k : ℕ). (get_or rs k d).ones) p ∙ ap (λ (y : Record). y.ones) (sym is) in
          record {
            whole = whole;
            below = omega arith;
            shows = rw (turn.kept h, ← ef, ← eo)
                ((state.settled h).each s l);
          }

  -- the masks that were read, with this turn's
  fixed_more : (s : ℕ) → s < suc (t % 128) → s < size_at (length rs) t
      → get_or after.fixed s 0 ≡ (get_or rs (64 * (t / 128) + s) d).fixed
  fixed_more s l h = ⊎_elim reading answering (lt-or-le (t % 128) (size_at (length rs) t))
    where
      reading : t % 128 < size_at (length rs) t → get_or after.fixed s 0 ≡ (get_or rs (64 * (t / 128) + s) d).fixed
      reading k =
          rw (turn.fixed k)
          (⊎_elim
          (λ e. rw e (get_or-set_same b.fixed (t % 128) z.fixed 0 (omega (arith, state.room.fixed_room))
          ∙ ap (λ (y : Record). y.fixed) is ∙ ap (λ (p : ℕ). (get_or rs p d).fixed) (place-reads (length rs) t k)))
          (λ n. get_or-set_other b.fixed (t % 128) s z.fixed 0 n ∙ state.fixed s (omega arith) h)
          (eq-or-ne s (t % 128)))

      answering : size_at (length rs) t ≤ t % 128 → get_or after.fixed s 0 ≡ (get_or rs (64 * (t / 128) + s) d).fixed
      answering k = rw (turn.kept k) (state.fixed s (omega arith) h)

  ones-more : (s : ℕ) → s < suc (t % 128) → s < size_at (length rs) t
      → get_or after.ones s 0 ≡ (get_or rs (64 * (t / 128) + s) d).ones
  ones-more s l h = ⊎_elim reading answering (lt-or-le (t % 128) (size_at (length rs) t))
    where
      reading : t % 128 < size_at (length rs) t → get_or after.ones s 0 ≡ (get_or rs (64 * (t / 128) + s) d).ones
      reading k =
          rw (turn.ones k)
          (⊎_elim
          (λ e. rw e (get_or-set_same b.ones (t % 128) z.ones 0 (omega (arith, state.room.ones_room))
          ∙ ap (λ (y : Record). y.ones) is ∙ ap (λ (p : ℕ). (get_or rs p d).ones) (place-reads (length rs) t k)))
          (λ n. get_or-set_other b.ones (t % 128) s z.ones 0 n ∙ state.ones s (omega arith) h)
          (eq-or-ne s (t % 128)))

      answering : size_at (length rs) t ≤ t % 128 → get_or after.ones s 0 ≡ (get_or rs (64 * (t / 128) + s) d).ones
      answering k = rw (turn.kept k) (state.ones s (omega arith) h)

  settled-more : size_at (length rs) t ≤ suc (t % 128)
      → SettledLanes ws (size_at (length rs) t) after.fixed after.ones after.shown
  settled-more l =
      ⊎_elim (λ k. turn.settled (omega arith)) (λ k. rw (turn.kept k) (state.settled k))
      (lt-or-le (t % 128) (size_at (length rs) t))

  -- one turn more
  batch-next : BatchAt ws rs d (suc t) after
  batch-next = ⊎_elim within (λ h. batch-begins ws rs d (suc t) (omega arith) turn.room) (lt-or-le (t % 128) 127)
    where
      within : t % 128 < 127 → BatchAt ws rs d (suc t) after
      within l =
          let q : suc t / 128 ≡ t / 128 = omega arith in
          let r : suc t % 128 ≡ suc (t % 128) = omega arith in
          let e : size_at (length rs) (suc t) ≡ size_at (length rs) t = omega arith in
          record {
            room = turn.room;
            fixed = λ s h g. rw q (fixed_more s (omega arith) (omega arith));
            ones = λ s h g. rw q (ones-more s (omega arith) (omega arith));
            settled = λ h. rw e (settled-more (omega arith));
          }

-- ---- the reply's count

module _ (ws : List ℕ) (rs : List Record) (r : Reply) (said : Shows (answer_of (sheet ws (length rs))) r) where
  -- there are no turns, or two for each record
  none : is_malformed ws ≡ true → r.count ≡ 0
  unfolding count_of
  none t = said.count ∙ ap count_of (sheet-malformed ws (length rs) t)

  each : is_malformed ws ≡ false → r.count ≡ length rs
  unfolding count_of
  each t = said.count ∙ ap count_of (sheet-done ws (length rs) t)

  -- where there is a turn, the block is not torn, and the count is that of the records
  pub turn-whole : (t : ℕ) → t < 2 * r.count → is_malformed ws ≡ false
  turn-whole t l = ⊎_elim (λ h. absurd (let e = none h in omega arith)) (λ h. h) (bool_cases (is_malformed ws))

  pub turn-count : (t : ℕ) → t < 2 * r.count → r.count ≡ length rs
  turn-count t l = each (turn-whole t l)

  pub turns_fit : r.count ≤ length rs
  turns_fit =
      ⊎_elim (λ t. let e = none t in omega arith) (λ t. let e = each t in omega arith) (bool_cases (is_malformed ws))

  -- one of the turns, where the records before turn k are `before k`
  module _ (d : Record) (t : ℕ) (small : t < 2 * r.count) where
    abbrev found : Record
    found = get_or (before ws rs t) (record_at r.count t) d

    own : t < 2 * length rs
    own = rw (turn-count t small) at small

    pub turn-place : record_at r.count t < length rs
    turn-place = rw (turn-count t small) (place-fits (length rs) t own)

    pub turn-record : set (before ws rs t) (record_at r.count t) (turned ws r.count t found) ≡ before ws rs (suc t)
    turn-record = rw (turn-count t small) (turn-leaves ws rs d t own)

    module _ {b after : Batch} (state : BatchAt ws rs d t b) where
      pub turn-answers : BatchAdvanced ws r.count t found b after → reads_at r.count t ≡ false
          → Answerable ws (t % 128 - size_at r.count t) found.fixed found.ones after.shown
      turn-answers =
          rw (turn-count t small)
          (λ turn e. batch-answers ws rs d t own (turn-finds ws rs d t) state turn (turn-whole t small) e)

      pub turn-batch : BatchAdvanced ws r.count t found b after → BatchAt ws rs d (suc t) after
      turn-batch = rw (turn-count t small) (λ turn. batch-next ws rs d t own (turn-finds ws rs d t) state turn)

  -- and after all turns the records are the sheet's
  pub turns-all : before ws rs (2 * r.count) ≡ sheet_records ws rs
  unfolding sheet_records
  turns-all =
      ⊎_elim (λ t. rw (none t, t, answered-none (length rs)))
      (λ t. rw (each t, t, answered-all (length rs)) (partly-all (answered_record (decode ws)) rs))
      (bool_cases (is_malformed ws))
