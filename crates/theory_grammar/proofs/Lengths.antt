-- Prints are longer than what follows them: by what expressions and lines add. Cited for the bound on lines and for the
-- laws that a reader's rest is shorter. Assumes nothing.
--   term-length, terms-length, input-length, pair-length, never-length, gate-length, output-length: bytes of a print
--   pairs-length: pairs have as many bytes as there are of them, and a bracket more
--   line_count-length: no text has more lines than bytes
use Prim.Native.Nat.{ℕ, ◌+◌, ◌≤◌, ◌<◌}
use mathlib.Core.Bool.{true, false}
use mathlib.Core.List.{List, [], ◌∷◌, ◌++◌}
use native.Mathlib.Omega.{arith}
use lib.ListN.{length, length-append}
use Rattle.prelude.specs.Lists.{ascii}
use Rattle.netlist.specs.Netlist.{Name}
use Rattle.netlist.specs.Kinds.{keyword}
use Rattle.netlist.specs.Syntax.{Term, Terms, name, literal, apply, nil, cons, GateLine, OutputLine, Pair, Tree}
use Rattle.netlist.specs.Syntax.{print_term, print_terms, print_input, pair_text, print_pair, print_never, print_gate}
use Rattle.netlist.specs.Syntax.{print_output, print_lines, print}

mutual
  unfolding print_term print_terms

  pub term-length : (t : Term) (rest : List ℕ) → length rest ≤ length (print_term t rest)
  term-length (name x) rest = omega (arith, length-append x rest)
  term-length (literal true) rest = omega arith
  term-length (literal false) rest = omega arith
  term-length (apply k ts) rest = let h = terms-length ts (ascii ")" ++ rest) in
      omega (arith, length-append (keyword k) (print_terms ts (ascii ")" ++ rest)))

  pub terms-length : (ts : Terms) (rest : List ℕ) → length rest ≤ length (print_terms ts rest)
  terms-length nil rest = omega arith
  terms-length (cons t ts) rest =
      let h = terms-length ts rest in let g = term-length t (print_terms ts rest) in omega arith

pub input-length : (x : Name) (rest : List ℕ) → length rest < length (print_input x rest)
unfolding print_input
input-length x rest = simp length-append (omega arith)

pub pair-length : (p : Pair) (rest : List ℕ) → length rest < length (print_pair p rest)
unfolding print_pair pair_text
pair-length p rest = simp length-append (omega arith)

pub gate-length : (g : GateLine) (rest : List ℕ) → length rest < length (print_gate g rest)
unfolding print_gate
gate-length g rest = let h = term-length (apply g.kind g.terms) (ascii ")\n" ++ rest) in
    simp length-append (omega arith)

pub output-length : (o : OutputLine) (rest : List ℕ) → length rest < length (print_output o rest)
unfolding print_output
output-length o rest = simp length-append (omega arith)

lines-length : {A : Type 0} (line : A → List ℕ → List ℕ)
    → ((x : A) (rest : List ℕ) → length rest < length (line x rest))
    → (xs : List A) (rest : List ℕ)
    → length xs + length rest ≤ length (print_lines line xs rest)
unfolding print_lines
lines-length line longer [] rest = omega arith
lines-length line longer (x ∷ xs) rest =
    let h = lines-length line longer xs rest in
    let g = longer x (print_lines line xs rest) in
    omega arith

pub pairs-length : (ps : List Pair) (rest : List ℕ)
    → length ps + length rest < length (print_lines print_pair ps (ascii ")" ++ rest))
pairs-length ps rest = omega (arith, lines-length print_pair pair-length ps (ascii ")" ++ rest))

pub never-length : (ps : List Pair) (rest : List ℕ) → length rest < length (print_never ps rest)
unfolding print_never
never-length ps rest = omega (arith, lines-length print_pair pair-length ps (ascii ")\n" ++ rest))

unfoldable pub line_count : Tree → ℕ
line_count t = length t.inputs + length t.nevers + length t.gates + length t.outputs

-- No text has more lines than bytes.
pub line_count-length : (t : Tree) → line_count t ≤ length (print t)
unfolding line_count print
line_count-length t =
    let outputs = print_lines print_output t.outputs [] in
    let gates = print_lines print_gate t.gates outputs in
    let nevers = print_lines print_never t.nevers gates in
    let a = lines-length print_output output-length t.outputs [] in
    let b = lines-length print_gate gate-length t.gates outputs in
    let c = lines-length print_never never-length t.nevers gates in
    let d = lines-length print_input input-length t.inputs nevers in
    omega arith
