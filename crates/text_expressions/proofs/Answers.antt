-- What the walk over a whole text has written and found: the words of the tree's gates and outputs, and the first
-- undeclared name.
-- Assumes nothing.
use mathlib.Core.Path.{◌≡◌, refl, sym, ap, ◌∙◌}
use mathlib.Core.Bool.{true}
use mathlib.Core.Option.{Option as Place, none, some}
use Rattle.std.specs.declared.option.Option.TheVariants.{None, Some}
use mathlib.Core.List.{List, [], ◌∷◌, ◌++◌, map}
use Prim.Native.Nat.{ℕ, ◌+◌, ◌-◌, ◌*◌, ◌≤◌}
use native.Mathlib.Omega.{arith}
use lib.ListN.{length, take, length-append}
use Rattle.prelude.specs.Lists.{all, placed, joined}
use Rattle.prelude.proofs.Slices.{sets-placed}
use Rattle.netlist.specs.Limits.{max_gates, max_outputs}
use Rattle.netlist.specs.Netlist.{Output}
use Rattle.netlist.specs.StoredBlock.{gate_words, output_words}
use Rattle.netlist.specs.Syntax.{GateLine, OutputLine, Tree, apply, print_gate, print_output}
use Rattle.netlist.specs.Reading.{Mention, mentions, declared_nodes, Binding, line_gates, bindings}
use Rattle.netlist.specs.Reading.{gate_lines_at, output_lines_at, operand_mentions, shown_mention, used_names}
use Rattle.netlist.specs.Reading.{first_outside, lookup, term_gates, lines_gates, block_of}
use Rattle.theory_grammar.proofs.Places.{print_gate-split, print_output-split, lines-measure, print-measure}
use Rattle.text_lines.specs.declared.counts.Counts.{Counts}
use Rattle.text_symbols.proofs.TreeSearch.{bound-names}
use Rattle.text_expressions.specs.declared.Walked.{Walked}
use Rattle.netlist.specs.declared.Refusal.TheVariants.{UndeclaredName}
use Rattle.std.specs.declared.result.Result.TheVariants.{Ok, Err}
use Rattle.text_expressions.specs.Walk.{left_of, declared_names, unknown_after, gates_words}
use Rattle.text_expressions.specs.Lines.{LineForm, gate_form, output_form, output_of, lines_words, lines_cost}
use Rattle.text_expressions.specs.Lines.{LinesDone, LinesRead}
use Rattle.text_expressions.specs.Resolution.{TreeAt, first_unknown, TreeDone}
use Rattle.text_expressions.proofs.ListFacts.{sum_ones}
use Rattle.text_expressions.proofs.Closings.{words_append, unknown-append}
use Rattle.text_expressions.proofs.LineSteps.{Lawful}
use Rattle.text_expressions.proofs.LineForms.{gate-lawful, output-lawful}
use Rattle.text_expressions.proofs.UsedPlaces.{inside, place-back, used-inside}
use Rattle.text_expressions.proofs.WholeText.{outputs_text, gates_text, rest_from, rest, nodes, input-count, limits}
use Rattle.text_expressions.proofs.WholeText.{gates-done, outputs-done}

-- ---- words

lines-sized : {A : Type 0} (F : LineForm A) → Lawful F → (n : ℕ) (bs : List Binding) (xs : List A) (first : ℕ)
    → length (lines_words F n bs xs first) ≡ 5 * lines_cost F xs
unfolding lines_words lines_cost
lines-sized F lawful n bs [] first = refl
lines-sized F lawful n bs (x ∷ xs) first =
    omega (
      arith,
      length-append (F.words n bs x first) (lines_words F n bs xs (first + F.cost x)),
      lawful.sized n bs x first,
      lines-sized F lawful n bs xs (first + F.cost x),
    )

gate-words : (n : ℕ) (bs : List Binding) (gs : List GateLine) (first : ℕ)
    → lines_words gate_form n bs gs first ≡ gates_words n (lines_gates gs bs first)
unfolding lines_words lines_gates gate_form gates_words
gate-words n bs [] first = refl
gate-words n bs (g ∷ gs) first =
    let a = term_gates (apply g.kind g.terms) bs first in
    ap (λ (r : List ℕ). gates_words n a ++ r) (gate-words n bs gs (first + line_gates g)) ∙ sym
    (words_append n a (lines_gates gs bs (first + line_gates g)))

output-words : (n : ℕ) (bs : List Binding) (os : List OutputLine) (first : ℕ)
    → lines_words output_form n bs os first ≡ joined
    (map (output_words n) (map (λ (o : OutputLine). record { port = o.port; node = lookup bs o.shown }) os))
unfolding lines_words output_form output_of
output-words n bs [] first = refl
output-words n bs (o ∷ os) first = ap (λ (r : List ℕ). output_words n (output_of bs o) ++ r)
    (output-words n bs os (first + 1))

module _ {t : Tree} {text : List ℕ} {end : ℕ} {c : Counts} {names words : List ℕ} (w : TreeAt t text end c names words)
    {gates gates' outputs outputs' : List ℕ} {walked last : Walked}
    (gates-read : LinesRead gate_form c.named (rest_from w) c.inputs (take (nodes w) names) (take (nodes w) words) None
    gates gates' walked)
    (outputs-read : LinesRead output_form c.outputs (rest w walked.left) c.inputs (take (nodes w) names)
    (take (nodes w) words) walked.unknown outputs outputs' last) where
  d : LinesDone gate_form c.inputs (bindings t) t.gates (gate_lines_at t) (gates_text w) (outputs_text w) 0 None gates
      gates' walked
  d = gates-done w gates gates' walked gates-read

  e : LinesDone output_form c.inputs (bindings t) t.outputs (output_lines_at t) (outputs_text w) [] 0 walked.unknown
      outputs outputs' last
  e = outputs-done w walked.left walked.unknown outputs outputs' last d.left outputs-read

  gates-written : 5 * max_gates ≤ length gates
      → gates' ≡ placed (joined (map (gate_words (length t.inputs)) (block_of t).gates)) gates
  unfolding block_of gates_words lines_cost gate_form
  gates-written r =
      let n = input-count w in
      let size = lines-sized gate_form gate-lawful c.inputs (bindings t) t.gates 0 in
      let l = (limits w).gates in
      d.words ∙ sets-placed (lines_words gate_form c.inputs (bindings t) t.gates 0) gates (omega arith)
      ∙ ap (λ (xs : List ℕ). placed xs gates)
      (gate-words c.inputs (bindings t) t.gates 0 ∙ ap (λ k. gates_words k (lines_gates t.gates (bindings t) 0))
      n)

  outputs-written : 5 * max_outputs ≤ length outputs
      → outputs' ≡ placed (joined (map (output_words (length t.inputs)) (block_of t).outputs)) outputs
  unfolding block_of lines_cost output_form
  outputs-written r =
      let n = input-count w in
      let os : List Output = map (λ (o : OutputLine). record { port = o.port; node = lookup (bindings t) o.shown })
      t.outputs in
      let size = lines-sized output_form output-lawful c.inputs (bindings t) t.outputs 0 in
      let l = (limits w).outputs in
      let k = sum_ones t.outputs in
      e.words ∙ sets-placed (lines_words output_form c.inputs (bindings t) t.outputs 0) outputs (omega arith)
      ∙ ap (λ (xs : List ℕ). placed xs outputs)
      (output-words c.inputs (bindings t) t.outputs 0 ∙ ap (λ k. joined (map (output_words k) os)) n)

  found : last.unknown ≡ left_of (length text)
      (first_outside (map (λ (d : Mention). d.name) (declared_nodes t)) (used_names t))
  unfolding used_names unknown_after declared_names gate_form output_form output_lines_at
  found =
      let a = lines-measure print_output print_output-split t.outputs [] in
      let b = lines-measure print_gate print_gate-split t.gates (outputs_text w) in
      let m = print-measure t in
      let k = ap length w.is.printed in
      let total : gate_lines_at t + length (gates_text w) ≡ length text = omega arith in
      let total' : output_lines_at t + length (outputs_text w) ≡ length text = omega arith in
      let us = mentions print_gate operand_mentions t.gates (gate_lines_at t) in
      let vs = mentions print_output shown_mention t.outputs (output_lines_at t) in
      let h : walked.unknown ≡ unknown_after None (bindings t) us (length text) = rw total at d.unknown in
      let g : last.unknown ≡ unknown_after walked.unknown (bindings t) vs (length text) = rw total' at
      e.unknown in
      g ∙ ap (λ u. unknown_after u (bindings t) vs (length text)) h ∙ unknown-append None (bindings t) us vs
      (length text)
      ∙ ap (λ ds. left_of (length text) (first_outside ds (us ++ vs))) (bound-names t)

  placed-inside : all (inside (length text)) (used_names t) ≡ true
  placed-inside = rw w.is.printed at (used-inside t)

  -- every used name is declared
  pub known-done : last.unknown ≡ None → 5 * max_gates ≤ length gates → 5 * max_outputs ≤ length outputs
      → TreeDone t gates gates' outputs outputs' (Ok tt)
  unfolding first_unknown
  known-done z r s =
      record {
        answer = (place-back (length text) _ (used_names t) last.unknown placed-inside found).0 z;
        gates_written = gates-written r;
        outputs_written = outputs-written s;
      }

  -- one is not
  pub undeclared-done : {left : ℕ} → last.unknown ≡ Some left → 5 * max_gates ≤ length gates → 5 * max_outputs ≤
      length outputs
      → TreeDone t gates gates' outputs outputs' (Err (UndeclaredName (length text - left)))
  unfolding first_unknown
  undeclared-done {left} z r s =
      record {
        answer = (place-back (length text) _ (used_names t) last.unknown placed-inside found).1 left z;
        gates_written = gates-written r;
        outputs_written = outputs-written s;
      }

  pub unknown-short : {left : ℕ} → last.unknown ≡ Some left → left ≤ length text
  unfolding left_of
  unknown-short {left} z =
      left-short (first_outside (map (λ (d : Mention). d.name) (declared_nodes t)) (used_names t)) (sym z ∙ found)
    where
      left-short : (o : Place ℕ) → Some left ≡ left_of (length text) o → left ≤ length text
      left-short none e = cc
      left-short (some place) e = let q : left ≡ length text - place = cc in omega arith
