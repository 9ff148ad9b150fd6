-- In the text of a tree the lines of inputs come first, and then the never lines, where the definitions say. Assumes
-- nothing.
--   input-run, never-run: the lines as runs
--   nevers-stand: the never lines at their place
--   inputs_are: a table of the inputs' numbers
--   none-counted: no line
use Prim.Native.Nat.{ℕ, ◌+◌}
use mathlib.Core.Path.{◌≡◌, refl, sym, ap, ◌∙◌}
use mathlib.Core.Bool.{true, false}
use mathlib.Core.List.{List, [], ◌∷◌, map}
use native.Mathlib.Omega.{arith}
use lib.ListN.{length, take, drop, length-append, length-map}
use Rattle.prelude.specs.Lists.{ascii, all, joined, sum}
use Rattle.prelude.proofs.Tests.{and_intro}
use Rattle.netlist.specs.Names.{is_plain_name}
use Rattle.netlist.specs.Syntax.{Pair, Tree, is_legal_never, print_input, print_never, print_gate, print_output, print_lines}
use Rattle.netlist.specs.Syntax.{print}
use Rattle.netlist.specs.Reading.{lines_length, never_lines_at, gate_lines_at}
use Rattle.theory_grammar.proofs.Places.{print_input-split, print_never-split, nevers-at}
use Rattle.text_names.specs.Packed.{packed}
use Rattle.text_lines.specs.Trees.{input_line_text, TextOf}
use Rattle.text_lines.proofs.TreeLines.{printed-lines, all_lines, legal-parts, input-line}
use Rattle.text_pairs.specs.Tables.{InputsAre}
use Rattle.text_pairs.proofs.TableLaws.{plain-bytes}
use Rattle.text_constraints.specs.declared.NeverLines.{NeverLines}
use Rattle.text_constraints.specs.Places.{never_lines, NeversAt}
use Rattle.text_constraints.specs.Runs.{lettered, RunAt, Ran}
use Rattle.text_constraints.proofs.NeverText.{never-line}

abbrev pub never_text : List Pair → List ℕ
never_text ps = print_never ps []

-- ---- lines of one form

module _ {A : Type 0} (line : A → List ℕ) where
  joined_length : (xs : List A) → length (joined (map line xs)) ≡ sum (map (λ x. length (line x)) xs)
  joined_length [] = refl
  joined_length (x ∷ xs) = let h = joined_length xs in omega (arith, length-append (line x) (joined (map line xs)))

  all-lettered : (letter : ℕ) → ((x : A) → lettered letter (line x) ≡ true) → (xs : List A)
      → all (lettered letter) (map line xs) ≡ true
  all-lettered letter f [] = refl
  all-lettered letter f (x ∷ xs) =
      and_intro (lettered letter (line x)) (all (lettered letter) (map line xs)) (f x) (all-lettered letter f xs)

other-lines : {A : Type 0} (line : A → List ℕ → List ℕ) (letter : ℕ)
    → ((x : A) (rest : List ℕ) → lettered letter (line x rest) ≡ false)
    → (xs : List A) (rest : List ℕ) → lettered letter rest ≡ false → lettered letter (print_lines line xs rest) ≡ false
unfolding print_lines
other-lines line letter f [] rest h = h
other-lines line letter f (x ∷ xs) rest h = f x (print_lines line xs rest)

-- ---- the lines of a tree

module _ {t : Tree} {text : List ℕ} (is : TextOf t text) where
  gates : List ℕ
  gates = print_lines print_gate t.gates (print_lines print_output t.outputs [])

  -- what is no input's, and no never line
  gates-other : (letter : ℕ) → lettered letter (ascii "(gate ") ≡ false → lettered letter (ascii "(out ") ≡ false
      → lettered letter gates ≡ false
  unfolding gates print_gate print_output
  gates-other letter g o =
      other-lines print_gate letter (λ x rest. g) t.gates _
      (other-lines print_output letter (λ x rest. o) t.outputs [] refl)

  pub input-run : RunAt 105 0 (map input_line_text t.inputs) text
  unfolding print input_line_text print_input print_never gates
  input-run = record {
    lines =
        all_lines is_plain_name input_line_text (λ x l. (input-line x l).line) t.inputs
        (legal-parts t is.legal).inputs;
    letters = all-lettered input_line_text 105 (λ x. refl) t.inputs;
    rest = print_lines print_never t.nevers gates;
    stand =
        sym is.printed ∙ printed-lines print_input print_input-split t.inputs
        (print_lines print_never t.nevers gates);
    ended = other-lines print_never 105 (λ x rest. refl) t.nevers gates (gates-other 105 refl refl);
  }

  here-nevers : drop (never_lines_at t) text ≡ print_lines print_never t.nevers gates
  unfolding gates
  here-nevers = rw (← is.printed) (nevers-at t)

  pub never-run : RunAt 110 (never_lines_at t) (map never_text t.nevers) text
  unfolding print_never
  never-run = record {
    lines = all_lines is_legal_never never_text never-line t.nevers (legal-parts t is.legal).nevers;
    letters = all-lettered never_text 110 (λ x. refl) t.nevers;
    rest = gates;
    stand = here-nevers ∙ printed-lines print_never print_never-split t.nevers gates;
    ended = gates-other 110 refl refl;
  }

  -- the two runs that the code finds
  pub runs-are : {at end inputs count : ℕ} → Ran 105 0 text at inputs → Ran 110 at text end count
      → record { inputs = inputs; at = at; count = count; end = end } ≡ never_lines t
  unfolding never_lines never_lines_at gate_lines_at lines_length input_line_text
  runs-are {at} {end} {inputs} {count} r s =
      let j = joined_length input_line_text t.inputs in
      let i = r.ends (map input_line_text t.inputs) input-run in
      let a : at ≡ sum (map (λ x. length (print_input x [])) t.inputs) = omega (arith, i, j) in
      let n : RunAt 110 at (map never_text t.nevers) text = rw a never-run in
      let e : end ≡ at + length (joined (map never_text t.nevers)) = s.ends _ n in
      let c : count ≡ length t.nevers = s.counted _ n ∙ length-map t.nevers never_text in
      let k : inputs ≡ length t.inputs =
      r.counted (map input_line_text t.inputs) input-run ∙ length-map t.inputs input_line_text in
      rw (e, c, a, k, joined_length never_text t.nevers)

  pub nevers-stand : {lines : NeverLines} → lines ≡ never_lines t → NeversAt lines.at lines.count t.nevers text
  unfolding never_lines
  nevers-stand e =
      rw e (record { counted = refl; legal = (legal-parts t is.legal).nevers; rest = gates; stand = here-nevers })

  -- a table whose first numbers are those of the inputs
  pub inputs_are : {n : ℕ} {inputs : List ℕ} → n ≡ length t.inputs → take n inputs ≡ map packed t.inputs
      → InputsAre t.inputs n inputs
  inputs_are e h =
      record { counted = sym e; bytes = plain-bytes t.inputs (legal-parts t is.legal).inputs; numbers = h }

-- no line is counted where there is none
pub none-counted : (t : Tree) {lines : NeverLines} → lines ≡ never_lines t → lines.count ≡ 0 → t.nevers ≡ []
unfolding never_lines
none-counted t {lines} e z = go t.nevers (sym (ap (λ (l : NeverLines). l.count) e) ∙ z)
  where
    go : (ns : List (List Pair)) → length ns ≡ 0 → ns ≡ []
    go [] h = refl
    go (n ∷ ns) h = absurd (omega arith)
