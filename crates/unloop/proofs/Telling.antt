-- One operation after another, and what the program then shows. Assumes nothing.
use mathlib.Core.Path.{◌≡◌, refl, sym, ap}
use mathlib.Core.List.{List}
use Prim.Native.Nat.{ℕ}
use lib.ListN.{take}
use Rattle.prelude.proofs.Slices.{placed-room}
use Rattle.netlist.specs.declared.Refusal.{Refusal}
use Rattle.netlist.specs.Answers.{Outcome, refused}
use Rattle.netlist.specs.Operations.{read_text, render_words, write_words}
use Rattle.netlist.specs.Program.{chained, shown, unloop}
use Rattle.text_pieces.specs.Shown.{Shown}
use Rattle.text_pieces.proofs.Told.{Gave, shown-is}
use Rattle.unloop.specs.Shown.{Converted}

pub chained_refused : (o : Outcome) (next : List ℕ → Outcome) (r : Refusal) → o ≡ refused r → chained o next ≡ refused r
unfolding chained
chained_refused o next r e = rw e refl

pub chained-gave : (o : Outcome) (next : List ℕ → Outcome) {entry exit : List ℕ} {count detail : ℕ}
    → Gave o entry exit count detail
    → chained o next ≡ next (take count exit)
unfolding chained
chained-gave o next {entry} {exit} {count} g = rw (g.is, g.front) refl

shown-converted : (text : List ℕ) {entry exit : List ℕ} {n : ℕ}
    → Shown (chained (chained (read_text text) render_words) write_words) entry exit n
    → Converted text entry exit n
unfolding unloop
shown-converted text {entry} s =
    record {
      text_is = s.text_is;
      count_is = s.count_is;
      within =
          rw s.text_is (placed-room (shown (chained (chained (read_text text) render_words) write_words)) entry
          (sym s.count_is));
    }

pub unloop-refused : (text : List ℕ) (r : Refusal) {entry exit : List ℕ} {n : ℕ} → read_text text ≡ refused r
    → Shown (refused r) entry exit n
    → Converted text entry exit n
unloop-refused text r e s =
    shown-converted text
    (shown-is (chained_refused (chained (read_text text) render_words) write_words r
    (chained_refused (read_text text) render_words r e)) s)

pub unloop-gave : (text : List ℕ) {before block : List ℕ} {count detail : ℕ} {entry exit : List ℕ} {n : ℕ}
    → Gave (read_text text) before block count detail
    → Shown (chained (render_words (take count block)) write_words) entry exit n → Converted text entry exit n
unloop-gave text g s =
    shown-converted text (shown-is (ap (λ (o : Outcome). chained o write_words)
    (chained-gave (read_text text) render_words g)) s)
