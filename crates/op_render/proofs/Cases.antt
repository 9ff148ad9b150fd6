-- Render's outcome: by the four tests (`render-by`), and as a chain of conditions, from its beginning (`render-chain`),
-- for whole words (`render-whole`) and where nothing but the room is left (`render-left`). Assumes nothing.
use mathlib.Core.Path.{◌≡◌, refl}
use mathlib.Core.Bool.{Bool, true, false, not}
use mathlib.Core.List.{List}
use Prim.Native.Nat.{ℕ, ◌≤◌}
use lib.ListN.{length}
use lib.Dec.{ltb}
use borrow.Author.Tests.{le-ltb}
use Rattle.netlist.specs.declared.Refusal.TheVariants.{MalformedBlock, TooManyCopies, NotSettled, NoRoom}
use Rattle.netlist.specs.Limits.{max_copies}
use Rattle.netlist.specs.Netlist.{Block}
use Rattle.netlist.specs.StoredBlock.{encode, decode, is_malformed}
use Rattle.netlist.specs.Rounds.{lowest_unsettled}
use Rattle.netlist.specs.Cover.{is_sound}
use Rattle.netlist.specs.Passes.{copy_count}
use Rattle.netlist.specs.Rendering.{rendering}
use Rattle.netlist.specs.Answers.{Outcome, done, refused, refuse_if, in_room}
use Rattle.netlist.specs.Operations.{counted, render_block, render_words, render}

-- the outcome, by the four tests
unfoldable pub render_by : List ℕ → Bool → Bool → Bool → Bool → Outcome
render_by ws true many settled short = refused MalformedBlock
render_by ws false true settled short = refused TooManyCopies
render_by ws false false false short = refused (NotSettled (lowest_unsettled (decode ws)))
render_by ws false false true true = refused NoRoom
render_by ws false false true false = done (encode (rendering (decode ws))) (length (encode (rendering (decode ws)))) 0

pub render-by : (ws : List ℕ) (room : ℕ)
    → render ws room ≡ render_by ws (is_malformed ws) (ltb max_copies (copy_count (decode ws))) (is_sound (decode ws))
    (ltb room (length (encode (rendering (decode ws)))))
unfolding render render_words render_block counted in_room refuse_if render_by
render-by ws room =
    go (is_malformed ws) (ltb max_copies (copy_count (decode ws))) (is_sound (decode ws))
    (ltb room (length (encode (rendering (decode ws))))) refl
  where
    go : (t m s r : Bool) → ltb room (length (encode (rendering (decode ws)))) ≡ r
        → in_room room
        (refuse_if t MalformedBlock
        (refuse_if m TooManyCopies
        (refuse_if (not s) (NotSettled (lowest_unsettled (decode ws)))
        (counted (encode (rendering (decode ws)))))))
        ≡ render_by ws t m s r
    go true m s r e = refl
    go false true s r e = refl
    go false false false r e = refl
    go false false true true e = rw e refl
    go false false true false e = rw e refl

-- ---- the conditions, one after the other

module _ (ws : List ℕ) (room : ℕ) where
  abbrev b : Block
  b = decode ws

  -- what a block that is whole and not too large can be refused for
  abbrev pub copied : Outcome
  copied = refuse_if (not (is_sound b)) (NotSettled (lowest_unsettled b)) (counted (encode (rendering b)))

  pub render-chain : render ws room ≡ in_room room (refuse_if (is_malformed ws) MalformedBlock (render_block b))
  unfolding render render_words
  render-chain = refl

  -- total is what was counted, and size the rendered block's length
  pub render-whole : (total : ℕ) → is_malformed ws ≡ false → ltb max_copies total ≡ ltb max_copies (copy_count b)
      → render ws room ≡ in_room room (refuse_if (ltb max_copies total) TooManyCopies copied)
  unfolding render render_words render_block refuse_if
  render-whole total t e = rw (t, e) refl

  pub render-left : (size : ℕ) → is_malformed ws ≡ false → copy_count b ≤ max_copies → is_sound b ≡ true
      → length (encode (rendering b)) ≡ size
      → render ws room ≡ refuse_if (ltb room size) NoRoom (done (encode (rendering b)) size 0)
  unfolding render render_words render_block counted in_room refuse_if
  render-left size t m s e = rw (t, le-ltb max_copies (copy_count b) m, s, e) refl
