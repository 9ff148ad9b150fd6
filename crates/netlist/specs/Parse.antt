-- SPECIFICATION 1, 7.2 (refusal 2): the tree of a text, or where its form breaks, by parser combinators for recursive
-- descent with one byte of look-ahead. A reader takes what it can from the front of a text and answers a value with the
-- rest, or the number of bytes left from the bad one on; so a place needs no arithmetic until the very end.
use Rattle.std.specs.Prelude.{ℕ, zero, suc, ◌-◌, Bool, true, false, List, [], ◌∷◌, length, eqb}
use Rattle.prelude.specs.Lists.{ascii, is}
use Rattle.netlist.specs.Limits.{max_name, max_depth}
use Rattle.netlist.specs.Kinds.{fewest_operands, most_operands}
use Rattle.netlist.specs.Netlist.{Name}
use Rattle.netlist.specs.Names.{is_letter, is_name_byte, is_name_start}
use Rattle.netlist.specs.Syntax.{Term, Terms, name, literal, apply, nil, cons, GateLine, OutputLine, Pair, Tree}

pub data Parsed (A : Type 0) : Type 0 where
  got : A → List ℕ → Parsed A
  stuck : ℕ → Parsed A

abbrev pub Reader : Type 0 → Type 0
Reader A = List ℕ → Parsed A

-- ---- ways to make a reader

module _ {A : Type 0} where
  -- the reader that reads nothing and answers this value
  unfoldable pub pure : A → Reader A
  pure a s = got a s

  -- the reader for which nothing is legal here
  unfoldable pub stop : Reader A
  stop s = stuck (length s)

  -- a choice by a test of the next byte: `first` takes it, `second` does not
  unfoldable pub on_test : Bool → (ℕ → Reader A) → Reader A → ℕ → Reader A
  on_test true first second c s = first c s
  on_test false first second c s = second (c ∷ s)

  unfoldable pub if_next : (ℕ → Bool) → (ℕ → Reader A) → Reader A → Reader A
  if_next test first second [] = second []
  if_next test first second (c ∷ s) = on_test (test c) first second c s

  -- reads these bytes, and then goes on
  unfoldable pub expect : List ℕ → Reader A → Reader A
  expect [] next = next
  expect (c ∷ cs) next = if_next (eqb c) (λ _. expect cs next) stop

  -- answers this value if the text ends here
  abbrev pub nothing_behind : A → Reader A
  nothing_behind a [] = got a []
  nothing_behind a (c ∷ s) = stuck (length (c ∷ s))

module _ {A B : Type 0} where
  unfoldable pub on_parsed : (A → Reader B) → Parsed A → Parsed B
  on_parsed next (got a s) = next a s
  on_parsed next (stuck left) = stuck left

  -- one reader after the other
  unfoldable pub bind : Reader A → (A → Reader B) → Reader B
  bind first next s = on_parsed next (first s)

-- ---- names and expressions

-- reads at most this many name bytes
unfoldable pub name_bytes : ℕ → Reader Name
name_bytes zero = pure []
name_bytes (suc most) = if_next is_name_byte (λ c. bind (name_bytes most) (λ cs. pure (c ∷ cs))) (pure [])

unfoldable pub name_after : ℕ → Reader Name
name_after c = bind (name_bytes (max_name - 1)) (λ cs. pure (c ∷ cs))

unfoldable pub name_reader : (ℕ → Bool) → Reader Name
name_reader start = if_next start name_after stop

-- reads a kind's keyword and answers its number; keywords go by common beginnings
unfoldable pub kind_reader : Reader ℕ
kind_reader =
    if_next (is "a") (λ _. expect (ascii "nd") (pure 1))
    (if_next (is "o") (λ _. expect (ascii "r") (pure 2))
    (if_next (is "n") (λ _.
    if_next (is "a") (λ _. expect (ascii "nd") (pure 3))
    (if_next (is "o") (λ _.
    if_next (is "t") (λ _. pure 0)
    (if_next (is "r") (λ _. pure 4) stop))
    stop))
    (if_next (is "x") (λ _.
    if_next (is "o") (λ _. expect (ascii "r") (pure 5))
    (if_next (is "n") (λ _. expect (ascii "or") (pure 6)) stop))
    stop)))

-- reads an operand after its space, and then the others
unfoldable pub spaced : Reader Term → Reader Terms → Reader Terms
spaced term others = expect (ascii " ") (bind term (λ t. bind others (λ ts. pure (cons t ts))))

-- reads at most this many operands, of which this many are needed, and the closing bracket
unfoldable pub terms_reader : Reader Term → ℕ → ℕ → Reader Terms
terms_reader term zero needed = expect (ascii ")") (pure nil)
terms_reader term (suc most) zero = if_next (is ")") (λ _. pure nil) (spaced term (terms_reader term most zero))
terms_reader term (suc most) (suc needed) = spaced term (terms_reader term most needed)

-- reads an expression behind its opening bracket
unfoldable pub expr_reader : {A : Type 0} → Reader Term → (ℕ → Terms → A) → Reader A
expr_reader term make =
    bind kind_reader (λ k. bind (terms_reader term (most_operands k) (fewest_operands k)) (λ ts. pure (make k ts)))

-- reads an operand that is a name or a constant, or else `inner`
unfoldable pub leaf_or : Reader Term → Reader Term
leaf_or inner =
    if_next is_name_start (λ c. bind (name_after c) (λ s. pure (name s)))
    (if_next (is "0") (λ _. pure (literal false))
    (if_next (is "1") (λ _. pure (literal true)) inner))

-- reads an operand, with `depth` levels of expressions left
unfoldable pub term_reader : ℕ → Reader Term
term_reader zero = leaf_or stop
term_reader (suc depth) = leaf_or (expect (ascii "(") (expr_reader (term_reader depth) apply))

-- ---- pairs, of never lines and of the bench's set lines

unfoldable pub bit_reader : Reader Bool
bit_reader = if_next (is "0") (λ _. pure false) (if_next (is "1") (λ _. pure true) stop)

-- reads a pair behind its space
unfoldable pub pair_reader : Reader Pair
pair_reader =
    expect (ascii "(")
    (bind (name_reader is_name_start) (λ s. expect (ascii " ")
    (bind bit_reader (λ v. expect (ascii ")") (pure (record { name = s; value = v }))))))

-- reads a pair after its space, and then the others
unfoldable pub spaced_pair : Reader (List Pair) → Reader (List Pair)
spaced_pair others = expect (ascii " ") (bind pair_reader (λ p. bind others (λ ps. pure (p ∷ ps))))

-- reads at most this many pairs, of which this many are needed, and the closing bracket
unfoldable pub pairs_reader : ℕ → ℕ → Reader (List Pair)
pairs_reader zero needed = expect (ascii ")") (pure [])
pairs_reader (suc most) zero = if_next (is ")") (λ _. pure []) (spaced_pair (pairs_reader most zero))
pairs_reader (suc most) (suc needed) = spaced_pair (pairs_reader most needed)

-- reads the pairs of a never line, at least one; no text has more pairs than bytes
unfoldable pub never_pairs : Reader (List Pair)
never_pairs s = pairs_reader (length s) 1 s

-- ---- lines; each is given the reader of what follows, and what else may stand behind its opening bracket

unfoldable pub add_input : Name → Tree → Tree
add_input s t = record { inputs = s ∷ t.inputs; nevers = t.nevers; gates = t.gates; outputs = t.outputs }

unfoldable pub add_never : List Pair → Tree → Tree
add_never ps t = record { inputs = t.inputs; nevers = ps ∷ t.nevers; gates = t.gates; outputs = t.outputs }

unfoldable pub add_gate : GateLine → Tree → Tree
add_gate g t = record { inputs = t.inputs; nevers = t.nevers; gates = g ∷ t.gates; outputs = t.outputs }

unfoldable pub add_output : OutputLine → Tree → Tree
add_output o t = record { inputs = t.inputs; nevers = t.nevers; gates = t.gates; outputs = o ∷ t.outputs }

unfoldable pub input_line : Reader Tree → Reader Tree → Reader Tree
input_line others otherwise =
    if_next (is "i") (λ _. expect (ascii "n ")
    (bind (name_reader is_letter) (λ s. expect (ascii ")\n")
    (bind others (λ t. pure (add_input s t))))))
    otherwise

unfoldable pub never_line : Reader Tree → Reader Tree → Reader Tree
never_line others otherwise =
    if_next (is "n") (λ _. expect (ascii "ever")
    (bind never_pairs (λ ps. expect (ascii "\n")
    (bind others (λ t. pure (add_never ps t))))))
    otherwise

unfoldable pub gate_line : Reader Tree → Reader Tree → Reader Tree
gate_line others otherwise =
    if_next (is "g") (λ _. expect (ascii "ate ")
    (bind (name_reader is_name_start) (λ s. expect (ascii " (")
    (bind (expr_reader (term_reader (max_depth - 1)) (λ k ts. record { name = s; kind = k; terms = ts }))
    (λ g. expect (ascii ")\n")
    (bind others (λ t. pure (add_gate g t))))))))
    otherwise

unfoldable pub output_line : Reader Tree → Reader Tree → Reader Tree
output_line others otherwise =
    if_next (is "o") (λ _. expect (ascii "ut ")
    (bind (name_reader is_letter) (λ p. expect (ascii " ")
    (bind (name_reader is_name_start) (λ s. expect (ascii ")\n")
    (bind others (λ t. pure (add_output (record { port = p; shown = s }) t))))))))
    otherwise

unfoldable pub at_end : Reader Tree
at_end s = nothing_behind (record { inputs = []; nevers = []; gates = []; outputs = [] }) s

-- reads the end of the text, or a line behind its opening bracket
unfoldable pub line : Reader Tree → Reader Tree
line behind = if_next (is "(") (λ _. behind) at_end

-- The readers of what may still come: behind an output only outputs, behind a gate no input and no never line, behind a
-- never line no input. The number bounds the lines.
unfoldable pub outputs_reader : ℕ → Reader Tree
outputs_reader zero s = at_end s
outputs_reader (suc more) s = line (output_line (λ r. outputs_reader more r) stop) s

unfoldable pub gates_reader : ℕ → Reader Tree
gates_reader zero s = at_end s
gates_reader (suc more) s = line (gate_line (λ r. gates_reader more r) (output_line (λ r. outputs_reader more r) stop)) s

unfoldable pub nevers_reader : ℕ → Reader Tree
nevers_reader zero s = at_end s
nevers_reader (suc more) s =
    line (never_line (λ r. nevers_reader more r)
    (gate_line (λ r. gates_reader more r) (output_line (λ r. outputs_reader more r) stop))) s

unfoldable pub text_reader : ℕ → Reader Tree
text_reader zero s = at_end s
text_reader (suc more) s =
    line
    (input_line (λ r. text_reader more r)
    (never_line (λ r. nevers_reader more r)
    (gate_line (λ r. gates_reader more r) (output_line (λ r. outputs_reader more r) stop))))
    s

-- the tree of a whole text; no text has more lines than bytes
unfoldable pub parse : List ℕ → Parsed Tree
parse text = text_reader (length text) text
