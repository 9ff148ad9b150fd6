-- Cover's outcome, as a chain of conditions, and what `cover_entries` leaves in the slice. Cited by `whole_cover` and
-- `cover`. Assumes nothing.
use mathlib.Core.Path.{◌≡◌, refl, sym, ap, ◌∙◌}
use mathlib.Core.Bool.{Bool, true, false}
use mathlib.Core.List.{List}
use Prim.Native.Nat.{ℕ, ◌*◌, ◌/◌, ◌≤◌, ◌<◌}
use native.Mathlib.Omega.{arith}
use lib.ListN.{length}
use lib.Dec.{ltb}
use borrow.Author.Tests.{lt-ltb, le-ltb, le-leb, lt-leb, ltb-true, ltb-false}
use Rattle.prelude.specs.Lists.{placed}
use Rattle.netlist.specs.declared.Refusal.{Refusal}
use Rattle.std.specs.Result.{IsErrAnd}
use Rattle.netlist.specs.declared.Refusal.TheVariants.{MalformedBlock, NoRoom}
use Rattle.words_refusals.specs.Tests.{Test}
use Rattle.std.specs.declared.result.Result.TheVariants.{Ok, Err}
use Rattle.netlist.specs.Answers.{Answer}
use Rattle.netlist.specs.Netlist.{Block, input_count}
use Rattle.netlist.specs.StoredBlock.{decode, is_malformed}
use Rattle.netlist.specs.Cover.{cover, cover_entries}
use Rattle.netlist.specs.Answers.{done, refuse_if, in_room, Promise}
use Rattle.words_refusals.specs.Tests.{test_of}
use Rattle.netlist.specs.Operations.{cover_block, cover_of}
use Rattle.words_refusals.proofs.Promised.{not-err, passed, passed-false, failed, failed-true, bare, keeps-bare}
use Rattle.words_refusals.proofs.Promised.{finished}
use Rattle.theory_cover.specs.Over.{cover_over}
use Rattle.theory_cover.specs.Tables.{settled_by}
use Rattle.theory_cover.specs.Entries.{EntriesWritten}
use Rattle.theory_cover.proofs.Blocks.{cover_entries-words, cover-from}
use Rattle.op_cover.proofs.Listing.{length-words}
use Rattle.op_cover.specs.Table.{Tabulated}

-- two words an entry
words-length : (b : Block) → length (cover_entries b) ≡ 2 * length (cover b)
words-length b = ap length (cover_entries-words b) ∙ length-words (cover b)

-- so half of the slice is compared with the entries
half_room : (room count : ℕ) → ltb (room / 2) count ≡ ltb room (2 * count)
half_room room count = go (ltb room (2 * count)) refl
  where
    go : (short : Bool) → ltb room (2 * count) ≡ short → ltb (room / 2) count ≡ short
    go true e = let h = ltb-true room (2 * count) e in lt-ltb (room / 2) count (omega arith)
    go false e = let h = ltb-false room (2 * count) e in le-ltb (room / 2) count (omega arith)

module _ (ws : List ℕ) (room : ℕ) where
  -- Cover's conditions, and the last one
  pub cover-chain : cover_of ws room ≡ in_room room (refuse_if (is_malformed ws) MalformedBlock (cover_block (decode ws)))
  unfolding cover_of
  cover-chain = refl

  pub cover-room : is_malformed ws ≡ false → let b = decode ws in
      cover_of ws room ≡ refuse_if (ltb (room / 2) (length (cover b))) NoRoom (done (cover_entries b) (length (cover b)) 0)
  unfolding cover_of in_room refuse_if cover_block
  cover-room t = rw (t, words-length (decode ws), half_room room (length (cover (decode ws)))) refl

-- ---- what `cover_entries` leaves, given a table of the settled settings

module _ {b : Block} {table entry exit : List ℕ} {n count : ℕ} (t : Tabulated b table) (e : n ≡ input_count b)
    (w : EntriesWritten (cover_over (settled_by table) n) entry exit count) where
  -- the entries over the table are the block's cover
  of-block : cover_over (settled_by table) n ≡ cover b
  of-block = rw e (cover-from b table t.right)

  -- their number
  count-is : count ≡ length (cover b)
  count-is = w.counted ∙ ap length of-block

  -- nothing is altered where they do not fit
  kept-short : length entry < 2 * length (cover b) → exit ≡ entry
  kept-short h = w.written ∙ rw (of-block, lt-leb (2 * length (cover b)) (length entry) h) refl

  -- their words where they do
  placed-all : 2 * length (cover b) ≤ length entry → exit ≡ placed (cover_entries b) entry
  placed-all h = w.written ∙ rw (of-block, le-leb (2 * length (cover b)) (length entry) h, cover_entries-words b) refl

-- ---- the two answers behind the table, from the test of the room

module _ (ws : List ℕ) {table entry exit : List ℕ} {n count room : ℕ} {test : Test} (whole : is_malformed ws ≡ false)
    (t : Tabulated (decode ws) table)
    (e : n ≡ input_count (decode ws)) (w : EntriesWritten (cover_over (settled_by table) n) entry exit count)
    (kept : room ≡ length entry)
    (answer : test ≡ test_of (ltb (room / 2) count) NoRoom) where
  tested : test ≡ test_of (ltb (length entry / 2) (length (cover (decode ws)))) NoRoom
  tested = rw (kept, count-is t e w) at answer

  pub cover-short : {why : Refusal} {r : Answer} → test ≡ Err why → IsErrAnd r (λ e. e ≡ why)
      → Promise (cover_of ws (length entry)) entry r exit
  cover-short k f =
      let short = ltb-true (length entry / 2) (length (cover (decode ws)))
      (failed-true _ NoRoom tested (λ p. not-err (sym k ∙ p))) in
      rw (kept-short t e w (omega arith))
      (failed bare keeps-bare _ _ NoRoom (cover-room ws (length entry) whole) tested entry k f)

  pub cover-done : test ≡ Ok tt → Promise (cover_of ws (length entry)) entry (Ok (record { count = count; detail = 0 })) exit
  cover-done f =
      let enough = ltb-false (length entry / 2) (length (cover (decode ws))) (passed-false _ NoRoom tested f) in
      finished (passed bare keeps-bare _ _ NoRoom (cover-room ws (length entry) whole) tested f) (count-is t e w)
      (placed-all t e w (omega arith))
