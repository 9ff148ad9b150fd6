-- SPECIFICATION 1, 1.1 to 1.3: syntax trees, what each looks like, and which texts are legal. The place of refusal 2 is
-- of 7.2.
use Rattle.std.specs.Prelude.{ℕ, zero, suc, ◌≡◌, ◌⊎◌, Bool, true, false, ◌&&◌, List, [], ◌∷◌, ◌++◌, length, take, leb}
use Rattle.prelude.specs.Lists.{ascii, all}
use Rattle.netlist.specs.Limits.{max_depth}
use Rattle.netlist.specs.Values.{Value, undefined, val}
use Rattle.netlist.specs.Kinds.{is_kind, arity_fits, keyword}
use Rattle.netlist.specs.Netlist.{Name}
use Rattle.netlist.specs.Names.{is_plain_name, is_node_name}

-- An operand: a name, a constant, or an expression, which is a kind and its operands.
mutual
  pub data Term : Type 0 where
    name : Name → Term
    literal : Bool → Term
    apply : ℕ → Terms → Term

  pub data Terms : Type 0 where
    nil : Terms
    cons : Term → Terms → Terms

pub record GateLine : Type 0 where
  pub name : Name
  pub kind : ℕ
  pub terms : Terms

pub record OutputLine : Type 0 where
  pub port : Name
  pub shown : Name

-- a pair of a line: an input's name and the value it is given
pub record Pair : Type 0 where
  pub name : Name
  pub value : Bool

-- A text's tree: its lines, in this order; each of the four kinds may be missing; a never line is its pairs
pub record Tree : Type 0 where
  pub inputs : List Name
  pub nevers : List (List Pair)
  pub gates : List GateLine
  pub outputs : List OutputLine

-- ---- what a tree looks like; each function is given what follows

unfoldable mutual
  pub print_term : Term → List ℕ → List ℕ
  print_term (name s) rest = s ++ rest
  print_term (literal false) rest = ascii "0" ++ rest
  print_term (literal true) rest = ascii "1" ++ rest
  print_term (apply k ts) rest = ascii "(" ++ (keyword k ++ print_terms ts (ascii ")" ++ rest))

  pub print_terms : Terms → List ℕ → List ℕ
  print_terms nil rest = rest
  print_terms (cons t ts) rest = ascii " " ++ print_term t (print_terms ts rest)

-- the line of an input
unfoldable pub print_input : Name → List ℕ → List ℕ
print_input s rest = ascii "(in " ++ (s ++ (ascii ")\n" ++ rest))

-- the byte of a value; `u` stands in the bench's show lines alone
unfoldable pub value_text : Value → List ℕ
value_text (val false) = ascii "0"
value_text (val true) = ascii "1"
value_text undefined = ascii "u"

-- a pair behind its space, in never lines and in the bench's set and show lines
unfoldable pub pair_text : Name → Value → List ℕ → List ℕ
pair_text s v rest = ascii " (" ++ (s ++ (ascii " " ++ (value_text v ++ (ascii ")" ++ rest))))

unfoldable pub print_pair : Pair → List ℕ → List ℕ
print_pair p rest = pair_text p.name (val p.value) rest

-- the line of a gate
unfoldable pub print_gate : GateLine → List ℕ → List ℕ
print_gate g rest = ascii "(gate "
    ++ (g.name ++ (ascii " " ++ print_term (apply g.kind g.terms) (ascii ")\n" ++ rest)))

-- the line of an output
unfoldable pub print_output : OutputLine → List ℕ → List ℕ
print_output o rest = ascii "(out " ++ (o.port ++ (ascii " " ++ (o.shown ++ (ascii ")\n" ++ rest))))

unfoldable pub print_lines : {A : Type 0} → (A → List ℕ → List ℕ) → List A → List ℕ → List ℕ
print_lines line [] rest = rest
print_lines line (x ∷ xs) rest = line x (print_lines line xs rest)

-- the line of settings that never come
unfoldable pub print_never : List Pair → List ℕ → List ℕ
print_never ps rest = ascii "(never" ++ print_lines print_pair ps (ascii ")\n" ++ rest)

unfoldable pub print : Tree → List ℕ
print t =
    print_lines print_input t.inputs
    (print_lines print_never t.nevers (print_lines print_gate t.gates (print_lines print_output t.outputs [])))

-- ---- which trees are legal

unfoldable pub term_count : Terms → ℕ
term_count nil = 0
term_count (cons t ts) = suc (term_count ts)

-- a legal operand, and a legal list of operands, with `depth` levels of expressions left
unfoldable mutual
  pub is_legal_term : Term → ℕ → Bool
  is_legal_term (name s) depth = is_node_name s
  is_legal_term (literal b) depth = true
  is_legal_term (apply k ts) zero = false
  is_legal_term (apply k ts) (suc depth) = is_kind k && arity_fits k (term_count ts) && is_legal_terms ts depth

  pub is_legal_terms : Terms → ℕ → Bool
  is_legal_terms nil depth = true
  is_legal_terms (cons t ts) depth = is_legal_term t depth && is_legal_terms ts depth

-- a legal gate line: its own expression takes the first level
unfoldable pub is_legal_gate : GateLine → Bool
is_legal_gate g = is_node_name g.name && is_legal_term (apply g.kind g.terms) max_depth

unfoldable pub is_legal_output : OutputLine → Bool
is_legal_output o = is_plain_name o.port && is_node_name o.shown

-- a legal pair: the name of any node; whether it is an input's is asked later
unfoldable pub is_legal_pair : Pair → Bool
is_legal_pair p = is_node_name p.name

-- a legal never line has at least one pair
unfoldable pub is_legal_never : List Pair → Bool
is_legal_never ps = leb 1 (length ps) && all is_legal_pair ps

unfoldable pub is_legal_tree : Tree → Bool
is_legal_tree t =
    all is_plain_name t.inputs && all is_legal_never t.nevers && all is_legal_gate t.gates && all is_legal_output
    t.outputs

-- ---- which texts are legal: for any sort of tree, by the test of a legal one and what each looks like

pub record LegalOf {A : Type 0} (is_legal_tree : A → Bool) (print : A → List ℕ) (text : List ℕ) : Type 0 where
  pub tree : A
  pub legal : is_legal_tree tree ≡ true
  pub printed : print tree ≡ text

-- some legal text begins so: the text is a viable prefix
pub record ViableOf {A : Type 0} (is_legal_tree : A → Bool) (print : A → List ℕ) (beginning : List ℕ) : Type 0 where
  pub rest : List ℕ
  pub legal : LegalOf is_legal_tree print (beginning ++ rest)

-- Refusal 2 at this place: some legal text begins as this one does up to it, none with one byte more, or the text ends
-- there.
pub record FirstBadOf {A : Type 0} (is_legal_tree : A → Bool) (print : A → List ℕ) (text : List ℕ)
    (place : ℕ) : Type 0 where
  pub illegal : LegalOf is_legal_tree print text → ⊥
  pub begins : ViableOf is_legal_tree print (take place text)
  pub bad : (place ≡ length text) ⊎ (ViableOf is_legal_tree print (take (suc place) text) → ⊥)

-- legal netlist texts, viable beginnings of such, and the first bad place of one that is none
abbrev pub Legal : List ℕ → Type 0
Legal = LegalOf is_legal_tree print

abbrev pub Viable : List ℕ → Type 0
Viable = ViableOf is_legal_tree print

abbrev pub FirstBad : List ℕ → ℕ → Type 0
FirstBad = FirstBadOf is_legal_tree print
