-- What the walk over the operands of a text that is known to be a print has to show of each term, each operand list,
-- each line and all lines. "Bytes left" say places: they do not change when the rest of a text is lent. Assumes
-- nothing.
use Rattle.std.specs.Prelude.{ℕ, ◌+◌, ◌-◌, ◌*◌, ◌≤◌, ◌≡◌, true, false, List, [], ◌∷◌, ◌++◌, map, length, drop}
use Rattle.std.specs.Prelude.{Option, None, Some}
use Rattle.std.specs.Option.{option_or}
use Rattle.std.proofs.Math.Option.{Option as Place, none, some}
use Rattle.std.proofs.lemmas.List.Edits.{sets}
use Rattle.prelude.specs.Lists.{ascii, all, joined}
use Rattle.netlist.specs.Limits.{max_inputs, max_gates}
use Rattle.netlist.specs.Netlist.{Name, Gate}
use Rattle.netlist.specs.StoredBlock.{gate_size, node_word, gate_words}
use Rattle.netlist.specs.Names.{is_name_byte, is_node_name}
use Rattle.netlist.specs.Syntax.{Term, Terms, print_term, print_terms, term_count, is_legal_term, is_legal_terms}
use Rattle.netlist.specs.Reading.{Mention, Binding, gates_in, gates_inside, term_mentions, terms_mentions, first_outside}
use Rattle.netlist.specs.Reading.{term_node, terms_nodes, term_gates}
use Rattle.netlist.specs.Reading.{terms_gates}
use Rattle.text_names.specs.Packed.{packed}
use Rattle.text_expressions.specs.declared.walk.Found.{Found}

-- the bytes left from a place on, of a text of this length, where there is a place
unfoldable pub left_of : ℕ → Place ℕ → Option ℕ
left_of total none = None
left_of total (some place) = Some (total - place)

unfoldable pub declared_names : List Binding → List Name
declared_names bs = map (λ (b : Binding). b.name) bs

-- the first of these names that is not declared, behind one that was found before
unfoldable pub unknown_after : Option ℕ → List Binding → List Mention → ℕ → Option ℕ
unknown_after unknown bs mentions total = option_or unknown (left_of total (first_outside (declared_names bs) mentions))

-- the words of some gates
unfoldable pub gates_words : ℕ → List Gate → List ℕ
gates_words n gs = joined (map (gate_words n) gs)

-- the table of declared names holds these bindings
pub record Table (n : ℕ) (bs : List Binding) (names words : List ℕ) : Type 0 where
  pub legal : all is_node_name (declared_names bs) ≡ true
  pub packed_names : map (λ (b : Binding). packed b.name) bs ≡ names
  pub node_words : map (λ (b : Binding). node_word n b.node) bs ≡ words

-- ---- a term

-- what follows a name begins with a byte that no name has
abbrev pub Ends : List ℕ → Type 0
Ends [] = ⊥
Ends (c ∷ rest) = is_name_byte c ≡ false

-- a legal term stands at the front of s, and then `rest`
pub record TermAt (o : Term) (depth : ℕ) (rest s : List ℕ) : Type 0 where
  pub legal : is_legal_term o depth ≡ true
  pub printed : print_term o rest ≡ s
  pub ends : Ends rest

-- what the walk may assume of a term: some term stands here, and its gates have room
pub record TermHere (s : List ℕ) (n : ℕ) (names words : List ℕ) (first : ℕ) (gates : List ℕ) : Type 0 where
  pub bindings : List Binding
  pub term : Term
  pub depth : ℕ
  pub rest : List ℕ
  pub table : Table n bindings names words
  pub here : TermAt term depth rest s
  pub few : first + gates_in term ≤ max_gates
  pub inputs : n ≤ max_inputs
  pub room : gate_size * max_gates ≤ length gates

pub record TermDone (n : ℕ) (bs : List Binding) (o : Term) (at : ℕ) (s rest : List ℕ) (first : ℕ) (seen : Option ℕ)
    (before after : List ℕ) (r : Found)
    : Type 0 where
  pub left : r.left ≡ length rest
  pub word : r.word ≡ node_word n (term_node o bs first)
  pub gates : r.gates ≡ first + gates_in o
  pub unknown : r.unknown ≡ unknown_after seen bs (term_mentions o at) (at + length s)
  pub words : after ≡ sets before (gate_size * first) (gates_words n (term_gates o bs first))

-- what reading a term gives, of whatever term and bindings it is
pub record TermRead (s : List ℕ) (n : ℕ) (names words : List ℕ) (first : ℕ) (unknown : Option ℕ) (before after : List ℕ)
    (r : Found) : Type 0 where
  pub done : (bs : List Binding) (o : Term) (depth : ℕ) (rest : List ℕ) (at : ℕ) → Table n bs names words
      → TermAt o depth rest s
      → TermDone n bs o at s rest first unknown before after r

-- ---- an operand list, and its closing bracket

pub record TermsAt (os : Terms) (depth : ℕ) (rest s : List ℕ) : Type 0 where
  pub legal : is_legal_terms os depth ≡ true
  pub printed : print_terms os (ascii ")" ++ rest) ≡ s

-- the operands of s from here on are read: so many operands stand before them, and so many gates have closed behind
-- them
pub record TermsDone (n : ℕ) (bs : List Binding) (os : Terms) (at : ℕ) (s rest : List ℕ) (first : ℕ)
    (seen : Option ℕ) (i : ℕ)
    (before after : List ℕ)
    (slots filled : List ℕ) (left count gates : ℕ) (unknown : Option ℕ) : Type 0 where
  pub left_is : left ≡ length rest
  pub count_is : count ≡ i + term_count os
  pub gates_are : gates ≡ first + gates_inside os
  pub unknown_is : unknown ≡ unknown_after seen bs (terms_mentions os at) (at + length s)
  pub words : after ≡ sets before (gate_size * first) (gates_words n (terms_gates os bs first))
  pub operands : filled ≡ sets slots i (map (node_word n) (terms_nodes os bs first))

-- ---- the walk in the middle of an operand list that stands at place `start` of s: it has come to place `at`

-- the words of a gate's operands before they are read
abbrev pub no_words : List ℕ
no_words = 0 ∷ 0 ∷ 0 ∷ 0 ∷ []

pub record ListNow (s : List ℕ) (start first : ℕ) (seen : Option ℕ) (before : List ℕ) (n : ℕ) (bs : List Binding)
    (os : Terms)
    (depth : ℕ) (rest : List ℕ)
    (base at count closed : ℕ) (missing : Option ℕ) (gates slots : List ℕ) : Type 0 where
  pub others : Terms
  pub here : TermsAt others depth rest (drop at s)
  pub counted : count + term_count others ≡ term_count os
  pub costs : closed + gates_inside others ≡ first + gates_inside os
  pub onward : (after filled : List ℕ) (left number made : ℕ) (unknown : Option ℕ)
      → TermsDone n bs others (base + at) (drop at s) rest closed missing count gates after slots filled left number
      made unknown
      → TermsDone n bs os (base + start) (drop start s) rest first seen 0 before after no_words filled left number made
      unknown

pub record ListOn (s : List ℕ) (start n : ℕ) (names words : List ℕ) (first : ℕ) (seen : Option ℕ) (before : List ℕ)
    (at count closed : ℕ) (missing : Option ℕ)
    (gates slots : List ℕ) : Type 0 where
  pub within : start ≤ at
  pub inside : at ≤ length s
  pub same : length gates ≡ length before
  pub sized : length slots ≡ 4
  pub reached : (bs : List Binding) (os : Terms) (depth : ℕ) (rest : List ℕ) (base : ℕ) → Table n bs names words
      → TermsAt os depth rest (drop start s)
      → ListNow s start first seen before n bs os depth rest base at count closed missing gates slots
