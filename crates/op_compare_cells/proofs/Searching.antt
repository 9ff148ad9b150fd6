-- The search batch by batch, whichever cells the table is of. Cited by `settings`.
--   agreed-none, agreed-more                before the first batch, and one batch more
--   found_none, found_here                  no batch has a lane; one has, and no earlier one
--   table-for, search-ready                 the table of cells that passed the tests
-- Assumes nothing.
use mathlib.Core.Path.{◌≡◌, refl, ◌∙◌}
use mathlib.Core.Bool.{false}
use mathlib.Core.List.{List}
use Prim.Native.Nat.{ℕ, ◌+◌, ◌^◌, ◌≤◌, ◌<◌}
use native.Mathlib.Omega.{arith}
use native.Mathlib.Nat.{not-suc-le-zero}
use lib.ListN.{get_or}
use Rattle.prelude.specs.Lists.{least}
use Rattle.std.specs.declared.result.Result.TheVariants.{Ok}
use Rattle.netlist.specs.Limits.{max_gates}
use Rattle.netlist.specs.StoredBlock.{decode}
use Rattle.netlist.specs.Rounds.{setting_count}
use Rattle.netlist.specs.Answers.{answer_of}
use Rattle.netlist.specs.Cells.{cell_count, cells_in}
use Rattle.netlist.specs.CompareCells.{cells_disagree, compare_block_cells}
use Rattle.theory_encoding.proofs.Decoded.{decode-input_count}
use Rattle.theory_encoding.proofs.Readers.{whole_parts}
use Rattle.lanes_dual_rail.specs.Batches.{lanes_of}
use Rattle.lanes_dual_rail.proofs.InputLaws.{lanes_of-most}
use Rattle.lanes_dual_rail.specs.Words.{has_lane, Tells}
use Rattle.lanes_dual_rail.proofs.WordLaws.{tells-no-lane, tells-some, tells-lowest}
use Rattle.lanes_settings.specs.Lanes.{Judged}
use Rattle.lanes_settings.proofs.Batching.{Place, batch-more}
use Rattle.op_compare_cells.specs.Table.{count_in, table_cells, CellTable}
use Rattle.op_compare_cells.specs.CellLanes.{Evaluated}
use Rattle.op_compare_cells.specs.Words.{differs_at, Listed, Marks}
use Rattle.op_compare_cells.proofs.Differences.{listed-place, lowest-there, search-accepted, search-found}
use Rattle.op_compare_cells.specs.Ready.{Comparable, SearchReady}
use Rattle.op_compare_cells.specs.Found.{Agreed, Found}

-- the number of settings, as read
setting-count : (ws : List ℕ) {n count : ℕ} → n ≡ get_or ws 0 0 → count ≡ 2 ^ n → count ≡ setting_count (decode ws)
unfolding setting_count
setting-count ws e f = f ∙ rw (e, decode-input_count ws) refl

pub agreed-none : (ws shown table : List ℕ) → Agreed ws shown table 0
agreed-none ws shown table = record { none = λ cells t i l. absurd (not-suc-le-zero l) }

-- no batch has a lane
pub found_none : {ws shown table : List ℕ} {n count base : ℕ} → n ≡ get_or ws 0 0 → count ≡ 2 ^ n
    → Agreed ws shown table base → base ≤ count → count ≤ base
    → Found ws shown table (Ok (record { count = 0; detail = 0 }))
found_none {ws} {shown} {table} {n} {count} {base} e many a l m =
    record {
      told = λ cells t. search-accepted (decode ws) cells shown base count (setting-count ws e many)
          (a.none cells t) l m;
    }

module _ {ws shown table : List ℕ} {n base : ℕ} {nodes : List ℕ} {word : ℕ} (ready : SearchReady ws shown table)
    (e : n ≡ get_or ws 0 0)
    (ev : Evaluated n base (table_cells table) (count_in table) nodes) (m : Marks ws shown base nodes word)
    (a : Agreed ws shown table base) where
  module _ (cells : List ℕ) (t : CellTable (get_or ws 0 0) cells table) where
    few : cell_count cells ≤ max_gates
    few = rw t.count at ready.places.few

    listed : Listed ws shown cells
    listed o l = rw (← t.count) (ready.listed o l)

    -- the words are those of the cells that the table is of
    cells-evaluated : Evaluated (get_or ws 0 0) base (cells_in (get_or ws 0 0) cells) (cell_count cells) nodes
    cells-evaluated = rw (e, t.holds, t.count) at ev

    told : Tells (lanes_of (get_or ws 0 0)) base (cells_disagree (decode ws) cells shown) word
    told = m.tells cells few listed cells-evaluated

  -- no lane of this batch
  pub agreed-more : {step : ℕ} → step ≡ lanes_of n → word ≡ 0 → Agreed ws shown table (base + step)
  agreed-more is z =
      record {
        none = λ cells t.
            batch-more (λ i. cells_disagree (decode ws) cells shown i ≡ false) (is ∙ rw e) (a.none cells t)
            (tells-no-lane (told cells t) z);
      }

  -- some: the lowest lane, and there the lowest output
  pub found_here : {w : List ℕ} → Judged ws (get_or ws 0 0) base w → (word ≡ 0 → ⊥) → {count lane o : ℕ} → count ≡ 2 ^ n
      → Place n base → base < count
      → lane ≡ least (has_lane word) 64 → o ≡ least (differs_at ws shown w nodes lane) (get_or ws 2 0)
      → Found ws shown table (Ok (record { count = (o + 1); detail = (base + lane) }))
  found_here {w} j h {count} {lane} {o} many place below is lowest = record { told = found }
    where
      found : (cells : List ℕ) → CellTable (get_or ws 0 0) cells table
          → Ok (record { count = (o + 1); detail = (base + lane) }) ≡ answer_of (compare_block_cells (decode ws) cells shown)
      found cells t =
          let (s, l, p) = tells-some (told cells t) h in
          let f = tells-lowest (told cells t) (lanes_of-most (get_or ws 0 0)) s l p in
          let there : lane < lanes_of (get_or ws 0 0) = rw is f.0 in
          let there' : lane < lanes_of n = rw e there in
          let room : base + lanes_of n ≤ 2 ^ n = place.whole (rw (← many) below) in
          search-found (decode ws) cells shown (base + lane) count (setting-count ws e many)
          (batch-more (λ i. cells_disagree (decode ws) cells shown i ≡ false) refl (a.none cells t)
          (λ i k. f.2 i (rw (← is) k)))
          o (omega arith) (rw is f.1)
          (lowest-there ws shown j cells (few cells t) (listed cells t) (cells-evaluated cells t) there lowest)

-- a table that was made for the number of inputs that was read
pub table-for : {n m : ℕ} {cells table : List ℕ} → n ≡ m → CellTable n cells table → CellTable m cells table
table-for e t = rw e at t

-- the table of cells that passed the tests
pub search-ready : {ws cells shown table : List ℕ} → Comparable ws cells shown → CellTable (get_or ws 0 0) cells table
    → SearchReady ws shown table
search-ready {ws} {cells} {shown} {table} c t =
    let few_inputs = (whole_parts ws c.whole).few_inputs in
    record {
      list = record {
        whole = c.whole;
        long = c.long;
        inside = λ o l.
            let few : cell_count cells ≤ max_gates = rw t.count at t.places.few in
            omega (
              arith,
              listed-place (get_or ws 0 0) (cell_count cells) (get_or shown o 0) few_inputs few (c.listed o l),
              few,
            );
      };
      places = t.places;
      listed = λ o l. rw t.count (c.listed o l);
    }
