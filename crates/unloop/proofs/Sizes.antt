-- Render and Write have enough room in the program; that Read has is `read_fits` (crates/op_read/proofs/ReadFits.antt).
-- Assumes nothing.
use mathlib.Core.Path.{◌≡◌, ap}
use mathlib.Core.Bool.{false, not}
use mathlib.Core.List.{List}
use Prim.Native.Nat.{ℕ, ◌≤◌}
use native.Mathlib.Omega.{arith}
use lib.ListN.{length}
use lib.Dec.{ltb}
use borrow.Author.Tests.{ltb-false}
use Rattle.netlist.specs.Limits.{max_copies, max_block, max_written}
use Rattle.netlist.specs.Netlist.{input_count, never_count}
use Rattle.netlist.specs.StoredBlock.{nevers_at, gates_at, outputs_at, encode, decode, is_malformed}
use Rattle.netlist.specs.Cover.{is_sound}
use Rattle.netlist.specs.Passes.{copy_count}
use Rattle.netlist.specs.Rendering.{rendering}
use Rattle.netlist.specs.Writing.{written_text}
use Rattle.netlist.specs.Operations.{render_block, render_words, write_words}
use Rattle.theory_encoding.proofs.Encoded.{length-encode}
use Rattle.theory_encoding.proofs.RoundTrip.{whole-well_formed}
use Rattle.theory_encoding.proofs.WellFormed.{well_formed-parts}
use Rattle.theory_grammar.proofs.WritingLength.{written-length}
use Rattle.theory_unrolling.proofs.Block.{rendering-count, rendering-inputs, rendering-nevers, length-rendering-outputs}
use Rattle.text_pieces.proofs.Told.{Fits}
use Rattle.text_pieces.proofs.Sizes.{counted-fits, if-fits}

module _ (room : ℕ) where
  pub write-fits : max_written ≤ room → (ws : List ℕ) → Fits room (write_words ws)
  unfolding write_words
  write-fits h ws =
      if-fits room (is_malformed ws) _ _
      (λ whole. counted-fits room (written_text (decode ws))
      (omega (arith, h, written-length (decode ws) (whole-well_formed ws whole))))

  module _ (h : max_block ≤ room) where
    rendered-length : (ws : List ℕ) → is_malformed ws ≡ false → copy_count (decode ws) ≤ max_copies
        → length (encode (rendering (decode ws))) ≤ room
    unfolding outputs_at gates_at nevers_at
    rendered-length ws whole few =
        let b = decode ws in
        let w = well_formed-parts b (whole-well_formed ws whole) in
        let i : input_count (rendering b) ≡ input_count b = ap {B = ℕ} length (rendering-inputs b) in
        let l : never_count (rendering b) ≡ never_count b = ap {B = ℕ} length (rendering-nevers b) in
        omega (
          arith,
          h,
          length-encode (rendering b),
          i,
          l,
          rendering-count b,
          length-rendering-outputs b,
          w.few_inputs,
          w.few_nevers,
          few,
          w.few_outputs,
        )

    pub render-fits : (ws : List ℕ) → Fits room (render_words ws)
    unfolding render_words render_block
    render-fits ws =
        if-fits room (is_malformed ws) _ _
        (λ whole. if-fits room (ltb max_copies (copy_count (decode ws))) _ _
        (λ few. if-fits room (not (is_sound (decode ws))) _ _
        (λ s. counted-fits room (encode (rendering (decode ws)))
        (rendered-length ws whole (ltb-false max_copies (copy_count (decode ws)) few)))))
