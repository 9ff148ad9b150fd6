-- The lines of a text, one after the other: netlist's readers of the lines that may come in a phase read one line and
-- go on in the phase behind it. Assumes nothing.
use mathlib.Core.Path.{◌≡◌, refl, sym, ap, ◌∙◌}
use mathlib.Core.Logic.{⊎_elim}
use mathlib.Core.List.{List, [], ◌∷◌}
use Prim.Native.Nat.{ℕ, zero, suc, ◌-◌, ◌<◌}
use native.Mathlib.Omega.{arith}
use lib.ListN.{length, drop, get_or}
use Rattle.std.specs.Prelude.{Result, Ok, Err}
use Rattle.prelude.proofs.Tests.{eq-or-ne}
use Rattle.prelude.specs.Lists.{ascii}
use Rattle.netlist.specs.Limits.{max_depth}
use Rattle.netlist.specs.Kinds.{most_operands, fewest_operands}
use Rattle.netlist.specs.Names.{is_letter, is_name_start}
use Rattle.netlist.specs.Syntax.{Term, Terms, Tree, apply}
use Rattle.netlist.specs.Parse.{Parsed, got, stuck, Reader, pure, stop, if_next, expect, on_parsed, bind, name_reader}
use Rattle.netlist.specs.Parse.{kind_reader, terms_reader, expr_reader}
use Rattle.netlist.specs.Parse.{term_reader, never_pairs, add_input, add_never, add_gate, add_output, input_line, never_line}
use Rattle.netlist.specs.Parse.{gate_line, output_line, at_end, line}
use Rattle.netlist.specs.Parse.{outputs_reader, gates_reader, nevers_reader, text_reader}
use Rattle.text_recogniser.specs.Readers.{scan_of, word_reader, first_byte}
use Rattle.text_recogniser.proofs.First.{byte-taken, byte_left}
use Rattle.text_recogniser.proofs.Continues.{Continues, then_of, continues-after-bind, continues-after-expect}
use Rattle.text_recogniser.proofs.Continues.{continues-word}
use Rattle.text_recogniser.proofs.Continues.{continues-same, scan-map}
use Rattle.text_recogniser.proofs.OperandLists.{after_kind}
use Rattle.text_recogniser.specs.Scan.{expression_reader, input_name, input_reader, never_end, never_reader}
use Rattle.text_recogniser.specs.Scan.{gate_expression, gate_bracket, gate_naming, gate_reader, output_shown}
use Rattle.text_recogniser.specs.Scan.{output_space, output_port, output_reader, line_behind, line_reader, phase_of}
use Rattle.text_recogniser.proofs.LineChoice.{chosen-input, chosen-never, chosen-gate, chosen-output}
use Rattle.text_recogniser.proofs.LineChoice.{behind-inputs, behind-nevers, behind-gates, line-bracket}
use Rattle.text_recogniser.proofs.LineChoice.{line-none}
use Rattle.text_recogniser.proofs.LineChoice.{letter_at}

-- ---- one line, and then the others

-- the end of a line, and then the others
continues-end : (w : List ℕ) (others : Reader Tree) (add : Tree → Tree)
    → Continues (expect w (bind others (λ t. pure (add t)))) (word_reader w) (λ t. scan_of (others t))
continues-end w others add =
    continues-same (continues-word w (bind others (λ t. pure (add t)))) (λ t. scan-map others add t)

-- an expression's value plays no part
continues-expression : {A B C D : Type 0} (term : Reader Term) (make : ℕ → Terms → A) (make₀ : ℕ → Terms → B)
    {next : A → Reader C} {next₀ : Reader D} {k : List ℕ → Result ℕ ℕ} → ((a : A) → Continues (next a) next₀ k)
    → Continues (bind (expr_reader term make) next) (bind (expr_reader term make₀) (λ _. next₀)) k
unfolding expr_reader bind on_parsed after_kind pure
continues-expression term make make₀ {next} {next₀} {k} h = record { goes_on = λ s. kind (kind_reader s) }
  where
    operands : (j : ℕ) (q : Parsed Terms)
        → scan_of (on_parsed next (on_parsed (λ ts. pure (make j ts)) q))
        ≡ then_of (on_parsed (λ _. next₀) (on_parsed (λ ts. pure (make₀ j ts)) q)) k
    operands j (got ts u) = (h (make j ts)).goes_on u
    operands j (stuck left) = refl

    kind : (p : Parsed ℕ)
        → scan_of (on_parsed next (on_parsed (after_kind term make) p))
        ≡ then_of (on_parsed (λ _. next₀) (on_parsed (after_kind term make₀) p)) k
    kind (got j t) = operands j (terms_reader term (most_operands j) (fewest_operands j) t)
    kind (stuck left) = refl

module _ (others : Reader Tree) where
  input-then : Continues (input_line others stop) input_reader (λ t. scan_of (others t))
  unfolding input_line input_reader input_name first_byte expect
  input-then =
      continues-after-expect (ascii "in ") (continues-after-bind (name_reader is_letter)
      (λ s. continues-end (ascii ")\n") others (add_input s)))

  never-then : Continues (never_line others stop) never_reader (λ t. scan_of (others t))
  unfolding never_line never_reader never_end expect
  never-then =
      continues-after-expect (ascii "never") (continues-after-bind never_pairs
      (λ ps. continues-end (ascii "\n") others (add_never ps)))

  gate-then : Continues (gate_line others stop) gate_reader (λ t. scan_of (others t))
  unfolding gate_line gate_reader gate_naming gate_bracket gate_expression expression_reader first_byte expect
  gate-then =
      continues-after-expect (ascii "gate ") (continues-after-bind (name_reader is_name_start)
      (λ s. continues-after-expect (ascii " (")
      (continues-expression (term_reader (max_depth - 1)) _ apply (λ g. continues-end (ascii ")\n") others (add_gate g)))))

  output-then : Continues (output_line others stop) output_reader (λ t. scan_of (others t))
  unfolding output_line output_reader output_port output_space output_shown first_byte expect
  output-then =
      continues-after-expect (ascii "out ") (continues-after-bind (name_reader is_letter)
      (λ p. continues-after-expect (ascii " ")
      (continues-after-bind (name_reader is_name_start) (λ s. continues-end (ascii ")\n") others
      (add_output (record { port = p; shown = s }))))))

-- ---- by the letter: where it is another, the line is something else

module _ (others otherwise : Reader Tree) (t : List ℕ) where
  input-only : get_or t 0 0 ≡ 105 → input_line others otherwise t ≡ input_line others stop t
  unfolding input_line
  input-only e = byte-taken _ _ t 105 (sym e) refl (omega arith) ∙ sym (byte-taken _ _ t 105 (sym e) refl (omega arith))

  input-other : (get_or t 0 0 ≡ 105 → ⊥) → input_line others otherwise t ≡ otherwise t
  unfolding input_line
  input-other e = byte_left _ _ t 105 refl e

  never-only : get_or t 0 0 ≡ 110 → never_line others otherwise t ≡ never_line others stop t
  unfolding never_line
  never-only e = byte-taken _ _ t 110 (sym e) refl (omega arith) ∙ sym (byte-taken _ _ t 110 (sym e) refl (omega arith))

  never_other : (get_or t 0 0 ≡ 110 → ⊥) → never_line others otherwise t ≡ otherwise t
  unfolding never_line
  never_other e = byte_left _ _ t 110 refl e

  gate-only : get_or t 0 0 ≡ 103 → gate_line others otherwise t ≡ gate_line others stop t
  unfolding gate_line
  gate-only e = byte-taken _ _ t 103 (sym e) refl (omega arith) ∙ sym (byte-taken _ _ t 103 (sym e) refl (omega arith))

  gate-other : (get_or t 0 0 ≡ 103 → ⊥) → gate_line others otherwise t ≡ otherwise t
  unfolding gate_line
  gate-other e = byte_left _ _ t 103 refl e

no_output : (t : List ℕ) → (get_or t 0 0 ≡ 111 → ⊥) → output_reader t ≡ stuck (length t)
unfolding output_reader expect stop
no_output t e = byte_left _ _ t 111 refl e

-- ---- the lines of a phase

-- netlist's readers of the lines that may come: 0 all, 1 no inputs, 2 gates and outputs, 3 outputs
unfoldable pub lines_reader : ℕ → ℕ → Reader Tree
lines_reader zero = text_reader
lines_reader (suc zero) = nevers_reader
lines_reader (suc (suc zero)) = gates_reader
lines_reader (suc (suc (suc p))) = outputs_reader

-- behind a line with the letter c
abbrev onward : ℕ → ℕ → List ℕ → Result ℕ ℕ
onward c more u = scan_of (lines_reader (phase_of c) more u)

module _ (more : ℕ) (t : List ℕ) where
  input-step : (otherwise : Reader Tree) → get_or t 0 0 ≡ 105
      → scan_of (input_line (λ r. text_reader more r) otherwise t) ≡ then_of (input_reader t) (onward (get_or t 0 0) more)
  unfolding lines_reader phase_of
  input-step otherwise e =
      rw e (ap scan_of (input-only (λ r. text_reader more r) otherwise t e)
      ∙ (input-then (λ r. text_reader more r)).goes_on t)

  never-step : (otherwise : Reader Tree) → get_or t 0 0 ≡ 110
      → scan_of (never_line (λ r. nevers_reader more r) otherwise t) ≡ then_of (never_reader t) (onward (get_or t 0 0) more)
  unfolding lines_reader phase_of
  never-step otherwise e =
      rw e (ap scan_of (never-only (λ r. nevers_reader more r) otherwise t e)
      ∙ (never-then (λ r. nevers_reader more r)).goes_on t)

  gate-step : (otherwise : Reader Tree) → get_or t 0 0 ≡ 103
      → scan_of (gate_line (λ r. gates_reader more r) otherwise t) ≡ then_of (gate_reader t) (onward (get_or t 0 0) more)
  unfolding lines_reader phase_of
  gate-step otherwise e =
      rw e (ap scan_of (gate-only (λ r. gates_reader more r) otherwise t e)
      ∙ (gate-then (λ r. gates_reader more r)).goes_on t)

  output-step : scan_of (output_line (λ r. outputs_reader more r) stop t)
      ≡ then_of (output_reader t) (onward (get_or t 0 0) more)
  unfolding lines_reader phase_of
  output-step = (output-then (λ r. outputs_reader more r)).goes_on t ∙ ⊎_elim same none (eq-or-ne (get_or t 0 0) 111)
    where
      same : get_or t 0 0 ≡ 111
          → then_of (output_reader t) (λ u. scan_of (outputs_reader more u))
          ≡ then_of (output_reader t) (onward (get_or t 0 0) more)
      same e = rw e

      none : (get_or t 0 0 ≡ 111 → ⊥)
          → then_of (output_reader t) (λ u. scan_of (outputs_reader more u))
          ≡ then_of (output_reader t) (onward (get_or t 0 0) more)
      none e = rw (no_output t e)

-- what may stand behind an opening bracket
unfoldable behind_of : ℕ → ℕ → Reader Tree
behind_of zero more =
    input_line (λ r. text_reader more r)
    (never_line (λ r. nevers_reader more r) (gate_line (λ r. gates_reader more r)
    (output_line (λ r. outputs_reader more r) stop)))
behind_of (suc zero) more =
    never_line (λ r. nevers_reader more r) (gate_line (λ r. gates_reader more r)
    (output_line (λ r. outputs_reader more r) stop))
behind_of (suc (suc zero)) more = gate_line (λ r. gates_reader more r) (output_line (λ r. outputs_reader more r) stop)
behind_of (suc (suc (suc p))) more = output_line (λ r. outputs_reader more r) stop

lines-one : (phase more : ℕ) (s : List ℕ) → lines_reader phase (suc more) s ≡ line (behind_of phase more) s
unfolding lines_reader behind_of text_reader nevers_reader gates_reader outputs_reader
lines-one zero more s = refl
lines-one (suc zero) more s = refl
lines-one (suc (suc zero)) more s = refl
lines-one (suc (suc (suc p))) more s = refl

-- a line of the phase's own sort, or else of the next phase's
abbrev Step : ℕ → ℕ → List ℕ → Type 0
Step phase more t = scan_of (behind_of phase more t) ≡ then_of (line_behind phase t) (onward (get_or t 0 0) more)

module _ (more : ℕ) (t : List ℕ) where
  outputs-step : (p : ℕ) → Step (suc (suc (suc p))) more t
  unfolding behind_of
  outputs-step p =
      rw (chosen-output (suc (suc (suc p))) t refl (λ _ h. omega arith) (λ _ h. omega arith) (λ _ h. omega arith))
      (output-step more t)

  gates-step : Step 2 more t
  unfolding behind_of
  gates-step = ⊎_elim own later (eq-or-ne (get_or t 0 0) 103)
    where
      own : get_or t 0 0 ≡ 103 → Step 2 more t
      own e = rw (chosen-gate 2 t refl (λ _ h. omega arith) (λ _ h. omega arith) e (omega arith)) (gate-step more t _ e)

      later : (get_or t 0 0 ≡ 103 → ⊥) → Step 2 more t
      later n = rw (behind-gates t n) (ap scan_of (gate-other _ _ t n) ∙ outputs-step 0)

  nevers-step : Step 1 more t
  unfolding behind_of
  nevers-step = ⊎_elim own later (eq-or-ne (get_or t 0 0) 110)
    where
      own : get_or t 0 0 ≡ 110 → Step 1 more t
      own e = rw (chosen-never 1 t refl (λ _ h. omega arith) e (omega arith)) (never-step more t _ e)

      later : (get_or t 0 0 ≡ 110 → ⊥) → Step 1 more t
      later n = rw (behind-nevers t n) (ap scan_of (never_other _ _ t n) ∙ gates-step)

  inputs-step : Step 0 more t
  unfolding behind_of
  inputs-step = ⊎_elim own later (eq-or-ne (get_or t 0 0) 105)
    where
      own : get_or t 0 0 ≡ 105 → Step 0 more t
      own e = rw (chosen-input 0 t refl e refl) (input-step more t _ e)

      later : (get_or t 0 0 ≡ 105 → ⊥) → Step 0 more t
      later n = rw (behind-inputs t n) (ap scan_of (input-other _ _ t n) ∙ nevers-step)

  behind-step : (phase : ℕ) → Step phase more t
  behind-step zero = inputs-step
  behind-step (suc zero) = nevers-step
  behind-step (suc (suc zero)) = gates-step
  behind-step (suc (suc (suc p))) = outputs-step p

no_end : (s : List ℕ) → 0 < length s → scan_of (at_end s) ≡ Err (length s)
unfolding at_end
no_end [] h = absurd (omega arith)
no_end (c ∷ s) h = refl

-- where bytes are left, one line comes, and then the lines of the phase behind it
pub lines_step : (phase more : ℕ) (s : List ℕ) → 0 < length s
    → scan_of (lines_reader phase (suc more) s) ≡ then_of (line_reader phase s) (onward (get_or s 1 0) more)
unfolding line
lines_step phase more s h = ap scan_of (lines-one phase more s) ∙ ⊎_elim bracket other (eq-or-ne (get_or s 0 0) 40)
  where
    bracket : get_or s 0 0 ≡ 40
        → scan_of (line (behind_of phase more) s) ≡ then_of (line_reader phase s) (onward (get_or s 1 0) more)
    bracket e =
        rw (line-bracket phase s refl e, ← letter_at s)
        (ap scan_of (byte-taken _ _ s 40 refl e (omega arith)) ∙ behind-step more (drop 1 s) phase)

    other : (get_or s 0 0 ≡ 40 → ⊥)
        → scan_of (line (behind_of phase more) s) ≡ then_of (line_reader phase s) (onward (get_or s 1 0) more)
    other e = rw (line-none phase s refl e) (ap scan_of (byte_left _ _ s 40 refl e) ∙ no_end s h)

-- where none are left, the text is over
pub lines-over : (phase more : ℕ) → scan_of (lines_reader phase more []) ≡ Ok 0
unfolding lines_reader text_reader nevers_reader gates_reader outputs_reader line if_next at_end
lines-over zero zero = refl
lines-over zero (suc more) = refl
lines-over (suc zero) zero = refl
lines-over (suc zero) (suc more) = refl
lines-over (suc (suc zero)) zero = refl
lines-over (suc (suc zero)) (suc more) = refl
lines-over (suc (suc (suc p))) zero = refl
lines-over (suc (suc (suc p))) (suc more) = refl
