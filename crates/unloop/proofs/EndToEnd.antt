-- If the program writes a text, it is faithful: from Render's promise and the round trip of Write and Read. Assumes
-- nothing.
use mathlib.Core.Path.{◌≡◌, refl, ap, ◌∙◌}
use mathlib.Core.Bool.{Bool, true, false, not}
use mathlib.Core.List.{List}
use Prim.Native.Nat.{ℕ}
use lib.Dec.{ltb}
use borrow.Author.Tests.{ltb-false}
use Rattle.netlist.specs.declared.Refusal.TheVariants.{MalformedBlock, TooManyCopies, NotSettled}
use Rattle.netlist.specs.Limits.{max_copies}
use Rattle.netlist.specs.StoredBlock.{encode, decode, is_malformed}
use Rattle.netlist.specs.Rounds.{lowest_unsettled}
use Rattle.netlist.specs.Cover.{is_sound}
use Rattle.netlist.specs.Passes.{copy_count}
use Rattle.netlist.specs.Rendering.{rendering}
use Rattle.netlist.specs.Writing.{written_text}
use Rattle.netlist.specs.Answers.{Outcome, done, refused, refuse_if}
use Rattle.netlist.specs.Operations.{counted, read_text, render_block, render_words, write_words}
use Rattle.netlist.specs.Program.{chained, shown, unloop}
use Rattle.theory_grammar.proofs.RoundTrip.{reading-written-words}
use Rattle.op_render.specs.Promise.{Renders}
use Rattle.op_render.proofs.Promise.{rendered-so}
use Rattle.unloop.specs.EndToEnd.{Wrote, Faithful}

written-whole : (ws : List ℕ) → is_malformed ws ≡ false → write_words ws ≡ counted (written_text (decode ws))
unfolding write_words refuse_if
written-whole ws h = rw h refl

module _ (text ws : List ℕ) (count detail : ℕ) (e : read_text text ≡ done ws count detail) where
  faithful : Renders ws (encode (rendering (decode ws))) → render_words ws ≡ counted (encode (rendering (decode ws)))
      → Faithful text
  unfolding unloop chained shown counted
  faithful r is =
      let out = encode (rendering (decode ws)) in
      let w : unloop text ≡ written_text (decode out) = rw (e, is, written-whole out r.not_torn) refl in
      record {
        block = ws;
        copies = out;
        count = count;
        detail = detail;
        reads = e;
        reads_back = ap read_text w ∙ reading-written-words out r.not_torn;
        renders = r;
      }

  by_tests : (t m s : Bool) → is_malformed ws ≡ t → ltb max_copies (copy_count (decode ws)) ≡ m → is_sound (decode ws) ≡ s
      → Wrote (chained
      (refuse_if t MalformedBlock
      (refuse_if m TooManyCopies (refuse_if (not s) (NotSettled (lowest_unsettled (decode ws)))
      (counted (encode (rendering (decode ws))))))) write_words)
      → Faithful text
  unfolding render_words render_block refuse_if chained Wrote
  by_tests true m s et em es h = absurd h
  by_tests false true s et em es h = absurd h
  by_tests false false false et em es h = absurd h
  by_tests false false true et em es h =
      faithful (rendered-so ws et (ltb-false max_copies (copy_count (decode ws)) em) es) (rw (et, em, es) refl)

pub end_to_end : (text : List ℕ) → Wrote (chained (chained (read_text text) render_words) write_words) → Faithful text
unfolding render_words render_block chained Wrote
end_to_end text h = go (read_text text) refl h
  where
    go : (o : Outcome) → read_text text ≡ o → Wrote (chained (chained o render_words) write_words) → Faithful text
    go (done ws count detail) e w =
        by_tests text ws count detail e (is_malformed ws) (ltb max_copies (copy_count (decode ws))) (is_sound (decode ws))
        refl refl refl w
    go (refused r) e w = absurd w
