-- SPECIFICATION 1.2, 1.4 and refusals 3 to 5 of 7.2: the counts, the declared and the used names with their places, and
-- the netlist of a tree.
use Rattle.std.specs.Prelude.{ℕ, suc, ◌+◌, Bool, false, cond, not, ◌&&◌, List, [], ◌∷◌, ◌++◌, map, length, leb}
use Rattle.std.proofs.Math.Option.{Option, none, some}
use Rattle.prelude.specs.Lists.{ascii, same, member_list, sum}
use Rattle.netlist.specs.Limits.{max_inputs, max_nevers, max_gates, max_outputs}
use Rattle.netlist.specs.Values.{Value, undefined, val, is_defined}
use Rattle.netlist.specs.Assignments.{Assignment, mask_of, is_one}
use Rattle.netlist.specs.Kinds.{keyword}
use Rattle.netlist.specs.Netlist.{Name, Operand, input, gate, constant, Gate, Block}
use Rattle.netlist.specs.Syntax.{Term, Terms, name, literal, apply, nil, cons, GateLine, OutputLine, Pair, Tree}
use Rattle.netlist.specs.Syntax.{print_term, print_pair, print_input, print_never, print_gate, print_output}

-- ---- 3: too many inputs, never lines, gates (an inner expression is one) or outputs

unfoldable mutual
  pub gates_in : Term → ℕ
  gates_in (name s) = 0
  gates_in (literal b) = 0
  gates_in (apply k ts) = suc (gates_inside ts)

  pub gates_inside : Terms → ℕ
  gates_inside nil = 0
  gates_inside (cons t ts) = gates_in t + gates_inside ts

unfoldable pub line_gates : GateLine → ℕ
line_gates g = suc (gates_inside g.terms)

unfoldable pub is_over_limit : Tree → Bool
is_over_limit t =
    not
    (leb (length t.inputs) max_inputs && leb (length t.nevers) max_nevers
    && leb (sum (map line_gates t.gates)) max_gates && leb (length t.outputs) max_outputs)

-- ---- names with their places: the number of bytes before a name's first

pub record Mention : Type 0 where
  pub name : Name
  pub place : ℕ

-- the names in lines of one form, the first of which starts at `at`; `in_line` gives those of a line
unfoldable pub mentions : {A : Type 0} → (A → List ℕ → List ℕ) → (A → ℕ → List Mention) → List A → ℕ → List Mention
mentions printed in_line [] at = []
mentions printed in_line (x ∷ xs) at = in_line x at ++ mentions printed in_line xs (at + length (printed x []))

unfoldable pub lines_length : {A : Type 0} → (A → List ℕ → List ℕ) → List A → ℕ
lines_length printed xs = sum (map (λ x. length (printed x [])) xs)

unfoldable pub never_lines_at : Tree → ℕ
never_lines_at t = lines_length print_input t.inputs

unfoldable pub gate_lines_at : Tree → ℕ
gate_lines_at t = never_lines_at t + lines_length print_never t.nevers

unfoldable pub output_lines_at : Tree → ℕ
output_lines_at t = gate_lines_at t + lines_length print_gate t.gates

unfoldable pub input_mention : Name → ℕ → List Mention
input_mention s at = record { name = s; place = at + length (ascii "(in ") } ∷ []

-- the name of a pair whose space is at `at`, with its place
unfoldable pub pair_mention : Pair → ℕ → List Mention
pair_mention p at = record { name = p.name; place = at + length (ascii " (") } ∷ []

unfoldable pub never_mentions : List Pair → ℕ → List Mention
never_mentions ps at = mentions print_pair pair_mention ps (at + length (ascii "(never"))

unfoldable pub gate_mention : GateLine → ℕ → List Mention
gate_mention g at = record { name = g.name; place = at + length (ascii "(gate ") } ∷ []

unfoldable pub port_mention : OutputLine → ℕ → List Mention
port_mention o at = record { name = o.port; place = at + length (ascii "(out ") } ∷ []

unfoldable pub shown_mention : OutputLine → ℕ → List Mention
shown_mention o at = record { name = o.shown; place = at + length (ascii "(out ") + length o.port + 1 } ∷ []

-- the names in a term that starts at `at`, and in operands whose first space is there
unfoldable mutual
  pub term_mentions : Term → ℕ → List Mention
  term_mentions (name s) at = record { name = s; place = at } ∷ []
  term_mentions (literal b) at = []
  term_mentions (apply k ts) at = terms_mentions ts (at + 1 + length (keyword k))

  pub terms_mentions : Terms → ℕ → List Mention
  terms_mentions nil at = []
  terms_mentions (cons t ts) at = term_mentions t (at + 1) ++ terms_mentions ts (at + 1 + length (print_term t []))

unfoldable pub operand_mentions : GateLine → ℕ → List Mention
operand_mentions g at = term_mentions (apply g.kind g.terms) (at + length (ascii "(gate ") + length g.name + 1)

-- inputs and gates are declared in one set of names, ports in another
unfoldable pub declared_nodes : Tree → List Mention
declared_nodes t = mentions print_input input_mention t.inputs 0
    ++ mentions print_gate gate_mention t.gates (gate_lines_at t)

unfoldable pub declared_ports : Tree → List Mention
declared_ports t = mentions print_output port_mention t.outputs (output_lines_at t)

-- the names in never lines, which must be those of inputs
unfoldable pub excluded_names : Tree → List Mention
excluded_names t = mentions print_never never_mentions t.nevers (never_lines_at t)

unfoldable pub used_names : Tree → List Mention
used_names t =
    mentions print_gate operand_mentions t.gates (gate_lines_at t)
    ++ mentions print_output shown_mention t.outputs (output_lines_at t)

-- ---- 4: the least place of a declaration that has an equal one of its set before it, or of a name that stands before
-- it in its never line

unfoldable pub first_repeat : List Name → List Mention → Option ℕ
first_repeat before [] = none
first_repeat before (d ∷ ds) = cond (member_list d.name before) (some d.place) (first_repeat (d.name ∷ before) ds)

unfoldable pub or_else : Option ℕ → Option ℕ → Option ℕ
or_else (some p) other = some p
or_else none other = other

-- the lesser of two places
unfoldable pub lesser : Option ℕ → Option ℕ → Option ℕ
lesser none other = other
lesser (some p) none = some p
lesser (some p) (some q) = some (cond (leb p q) p q)

-- the least place of a name that repeats one before it in its never line, of never lines the first of which starts at
-- `at`; a name may stand in two of them
unfoldable pub first_repeat_in : List (List Pair) → ℕ → Option ℕ
first_repeat_in [] at = none
first_repeat_in (ps ∷ rest) at =
    or_else (first_repeat [] (never_mentions ps at)) (first_repeat_in rest (at + length (print_never ps [])))

-- refusal 4 of a text: every node is declared before every port
unfoldable pub first_duplicate : Tree → Option ℕ
first_duplicate t =
    lesser (first_repeat_in t.nevers (never_lines_at t))
    (or_else (first_repeat [] (declared_nodes t)) (first_repeat [] (declared_ports t)))

-- ---- 5: the least place of a name in a never line that no input declares, or of a use of one that no input or gate
-- declares

unfoldable pub first_outside : List Name → List Mention → Option ℕ
first_outside declared [] = none
first_outside declared (u ∷ us) = cond (member_list u.name declared) (first_outside declared us) (some u.place)

-- refusal 5 of a text: never lines stand before all uses
unfoldable pub first_undeclared : Tree → Option ℕ
first_undeclared t =
    or_else (first_outside t.inputs (excluded_names t))
    (first_outside (map (λ (d : Mention). d.name) (declared_nodes t)) (used_names t))

-- ---- 1.4, the netlist: inputs are numbered by line, gates by closing bracket

pub record Binding : Type 0 where
  pub name : Name
  pub node : Operand

unfoldable pub input_bindings : List Name → ℕ → List Binding
input_bindings [] i = []
input_bindings (s ∷ ss) i = record { name = s; node = input i } ∷ input_bindings ss (suc i)

-- the gates' names with their nodes: a line's own gate closes last, and `first` gates stand before the line
unfoldable pub gate_bindings : List GateLine → ℕ → List Binding
gate_bindings [] first = []
gate_bindings (g ∷ gs) first =
    record { name = g.name; node = gate (first + gates_inside g.terms) } ∷ gate_bindings gs (first + line_gates g)

unfoldable pub bindings : Tree → List Binding
bindings t = input_bindings t.inputs 0 ++ gate_bindings t.gates 0

-- what a name stands for; constant 0 where it is not declared, which is refused before
unfoldable pub lookup : List Binding → Name → Operand
lookup [] s = constant false
lookup (x ∷ xs) s = cond (same s x.name) x.node (lookup xs s)

-- what a term stands for, when `first` gates close before its own
unfoldable pub term_node : Term → List Binding → ℕ → Operand
term_node (name s) names first = lookup names s
term_node (literal b) names first = constant b
term_node (apply k ts) names first = gate (first + gates_inside ts)

unfoldable pub terms_nodes : Terms → List Binding → ℕ → List Operand
terms_nodes nil names first = []
terms_nodes (cons t ts) names first = term_node t names first ∷ terms_nodes ts names (first + gates_in t)

-- the gates of a term, in the order of their closing brackets
unfoldable mutual
  pub term_gates : Term → List Binding → ℕ → List Gate
  term_gates (name s) names first = []
  term_gates (literal b) names first = []
  term_gates (apply k ts) names first =
      terms_gates ts names first ++ (record { kind = k; operands = terms_nodes ts names first } ∷ [])

  pub terms_gates : Terms → List Binding → ℕ → List Gate
  terms_gates nil names first = []
  terms_gates (cons t ts) names first = term_gates t names first ++ terms_gates ts names (first + gates_in t)

unfoldable pub lines_gates : List GateLine → List Binding → ℕ → List Gate
lines_gates [] names first = []
lines_gates (g ∷ gs) names first =
    term_gates (apply g.kind g.terms) names first ++ lines_gates gs names (first + line_gates g)

-- ---- 1.3, the assignment of a never line

-- what pairs give an input of this name: undefined where none names it
unfoldable pub given_value : List Pair → Name → Value
given_value [] s = undefined
given_value (p ∷ ps) s = cond (same s p.name) (val p.value) (given_value ps s)

-- the inputs that the pairs name are fixed, at their values
unfoldable pub assignment_of : List Name → List Pair → Assignment
assignment_of inputs ps =
    record { fixed = mask_of is_defined (map (given_value ps) inputs); ones = mask_of is_one (map (given_value ps) inputs) }

unfoldable pub block_of : Tree → Block
block_of t =
    record {
      inputs = t.inputs;
      nevers = map (assignment_of t.inputs) t.nevers;
      gates = lines_gates t.gates (bindings t) 0;
      outputs = map (λ (o : OutputLine). record { port = o.port; node = lookup (bindings t) o.shown }) t.outputs;
    }
