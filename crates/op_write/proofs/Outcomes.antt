-- The conditions of `write` one after the other, that what it writes is short, and its parts. Cited by `write` and
-- `put_block`. Assumes nothing.
use Prim.Native.Nat.{ℕ, ◌≤◌}
use mathlib.Core.Path.{◌≡◌, refl}
use mathlib.Core.Bool.{false}
use mathlib.Core.List.{List, ◌++◌}
use native.Mathlib.Omega.{arith}
use lib.ListN.{length, get_or}
use lib.Dec.{ltb}
use borrow.Author.Tests.{le-ltb}
use Rattle.netlist.specs.Limits.{max_inputs, max_written}
use Rattle.netlist.specs.StoredBlock.{nevers_at, gates_at, outputs_at, decode, is_malformed}
use Rattle.netlist.specs.Answers.{done, refuse_if, in_room}
use Rattle.netlist.specs.declared.Refusal.TheVariants.{MalformedBlock, NoRoom}
use Rattle.netlist.specs.Writing.{written_text}
use Rattle.netlist.specs.Operations.{counted, write_words, write}
use Rattle.theory_encoding.proofs.Decoded.{decode-input_count}
use Rattle.theory_encoding.proofs.WellFormed.{well_formed-parts}
use Rattle.theory_grammar.proofs.WritingLength.{written-length}
use Rattle.std.specs.declared.result.Result.TheVariants.{Ok}
use Rattle.words_refusals.specs.Tests.{test_of}
use Rattle.text_pieces.specs.Pieces.{Appended, Short, pieces}
use Rattle.text_pieces.proofs.Appending.{appended_then, short-first, short-rest}
use Rattle.op_write.specs.Lines.{input_text, never_line_text, gate_text, output_text, block_text}
use Rattle.op_write.proofs.WrittenText.{decoded-well, written-pieces}

-- ---- the parts, one after the other: each has room, and together they are the block's text

module _ (ws : List ℕ) where
  abbrev nevers_text : List ℕ
  nevers_text = pieces (never_line_text ws (nevers_at (get_or ws 0 0))) (get_or ws 3 0)

  abbrev gates_text : List ℕ
  gates_text = pieces (gate_text ws (gates_at (get_or ws 0 0) (get_or ws 3 0))) (get_or ws 1 0)

  abbrev outputs_text : List ℕ
  outputs_text = pieces (output_text ws (outputs_at (get_or ws 0 0) (get_or ws 3 0) (get_or ws 1 0))) (get_or ws 2 0)

module _ (ws : List ℕ) {n at : ℕ} (inputs_are : n ≡ get_or ws 0 0) (short : Short (block_text ws) at) where
  pub inputs-short : Short (pieces (input_text ws) n) at
  unfolding block_text
  inputs-short = rw inputs_are (short-first _ short)

  module _ {text text₁ : List ℕ} {end₁ : ℕ} (inputs : Appended (pieces (input_text ws) n) text at text₁ end₁)
      {nevers_from nevers_count : ℕ} (nevers_here : nevers_from ≡ nevers_at n) (nevers_are : nevers_count ≡ get_or ws 3 0)
    where
      behind-inputs : Short (nevers_text ws ++ (gates_text ws ++ outputs_text ws)) end₁
      unfolding block_text
      behind-inputs = short-rest _ short (rw inputs_are at inputs)

      pub nevers-short : Short (pieces (never_line_text ws nevers_from) nevers_count) end₁
      nevers-short = rw (nevers_here, inputs_are, nevers_are) (short-first _ behind-inputs)

      module _ {text₂ : List ℕ} {end₂ : ℕ}
          (nevers : Appended (pieces (never_line_text ws nevers_from) nevers_count) text₁ end₁ text₂ end₂)
          {gates_from gates_count : ℕ} (gates_here : gates_from ≡ gates_at (get_or ws 0 0) (get_or ws 3 0))
          (gates_are : gates_count ≡ get_or ws 1 0) where
        nevers-put : Appended (nevers_text ws) text₁ end₁ text₂ end₂
        nevers-put = rw (nevers_here, inputs_are, nevers_are) at nevers

        behind-nevers : Short (gates_text ws ++ outputs_text ws) end₂
        behind-nevers = short-rest _ behind-inputs nevers-put

        pub gates-short : Short (pieces (gate_text ws gates_from) gates_count) end₂
        gates-short = rw (gates_here, gates_are) (short-first _ behind-nevers)

        module _ {text₃ : List ℕ} {end₃ : ℕ}
            (gates : Appended (pieces (gate_text ws gates_from) gates_count) text₂ end₂ text₃ end₃)
            {outputs_from outputs_count : ℕ}
            (outputs_here : outputs_from ≡ outputs_at (get_or ws 0 0) (get_or ws 3 0) (get_or ws 1 0))
            (outputs_are : outputs_count ≡ get_or ws 2 0) where
          gates-put : Appended (gates_text ws) text₂ end₂ text₃ end₃
          gates-put = rw (gates_here, gates_are) at gates

          pub outputs-short : Short (pieces (output_text ws outputs_from) outputs_count) end₃
          outputs-short = rw (outputs_here, outputs_are) (short-rest _ behind-nevers gates-put)

          pub block-put : {text₄ : List ℕ} {end₄ : ℕ}
              → Appended (pieces (output_text ws outputs_from) outputs_count) text₃ end₃ text₄ end₄
              → Appended (block_text ws) text at text₄ end₄
          unfolding block_text
          block-put outputs =
              appended_then (rw inputs_are at inputs)
              (appended_then nevers-put (appended_then gates-put (rw (outputs_here, outputs_are) at outputs)))

-- ---- the length

-- a block that is not malformed has few inputs, and what is written is short
pub few-inputs : (ws : List ℕ) → is_malformed ws ≡ false → get_or ws 0 0 ≤ max_inputs
few-inputs ws whole =
    omega (arith, (well_formed-parts (decode ws) (decoded-well ws whole)).few_inputs, decode-input_count ws)

pub block-short : (ws : List ℕ) → is_malformed ws ≡ false → Short (block_text ws) 0
block-short ws whole =
    record {
      small = rw (← written-pieces ws whole) (omega (arith, written-length (decode ws) (decoded-well ws whole)));
    }

pub block-longest : (ws : List ℕ) → is_malformed ws ≡ false → length (block_text ws) ≤ max_written
block-longest ws whole = rw (← written-pieces ws whole) (written-length (decode ws) (decoded-well ws whole))

-- room for the longest text is room enough
pub room-enough : (ws : List ℕ) (room : ℕ) → is_malformed ws ≡ false → max_written ≤ room
    → Ok tt ≡ test_of (ltb room (length (block_text ws))) NoRoom
unfolding test_of
room-enough ws room whole h = rw (le-ltb room (length (block_text ws)) (omega (arith, block-longest ws whole))) refl

-- ---- the chain of conditions: from 6 on, and from 11 on

pub write-start : (ws : List ℕ) (room : ℕ)
    → write ws room ≡ in_room room (refuse_if (is_malformed ws) MalformedBlock (counted (written_text (decode ws))))
unfolding write write_words
write-start ws room = refl

pub write-room : (ws : List ℕ) (room : ℕ) → is_malformed ws ≡ false
    → write ws room ≡ refuse_if (ltb room (length (block_text ws))) NoRoom (done (block_text ws) (length (block_text ws)) 0)
unfolding write write_words counted refuse_if in_room
write-room ws room whole = rw (whole, written-pieces ws whole) refl
