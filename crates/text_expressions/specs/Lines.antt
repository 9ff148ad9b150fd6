-- What the walk over lines has to show, once for every form of line: a line's legal print, its words, and the names
-- that it uses. Assumes nothing.
use Rattle.std.specs.Prelude.{Option, ℕ, ◌+◌, ◌-◌, ◌*◌, ◌≤◌, ◌≡◌, Bool, true, List, [], ◌∷◌, ◌++◌, map, length, drop}
use Rattle.std.proofs.lemmas.List.Edits.{sets}
use Rattle.prelude.specs.Lists.{all, sum}
use Rattle.netlist.specs.Limits.{max_inputs}
use Rattle.netlist.specs.Netlist.{Output}
use Rattle.netlist.specs.StoredBlock.{gate_size, output_words}
use Rattle.netlist.specs.Syntax.{apply, GateLine, OutputLine, print_gate, print_output, print_lines, is_legal_gate}
use Rattle.netlist.specs.Syntax.{is_legal_output}
use Rattle.netlist.specs.Reading.{Mention, Binding, line_gates, mentions, operand_mentions, shown_mention, lookup}
use Rattle.netlist.specs.Reading.{term_gates}
use Rattle.text_expressions.specs.declared.Walked.{Walked}
use Rattle.text_expressions.specs.Walk.{Table, unknown_after, gates_words}

-- the words of an entry: a gate and an output have equally many
abbrev pub entry_size : ℕ
entry_size = gate_size

-- a form of line: how it is printed, which are legal, how many entries it makes, these words when `first` entries stand
-- before, and the names that it uses
pub record LineForm (A : Type 0) : Type 0 where
  pub printed : A → List ℕ → List ℕ
  pub legal : A → Bool
  pub cost : A → ℕ
  pub words : ℕ → List Binding → A → ℕ → List ℕ
  pub uses : A → ℕ → List Mention

unfoldable pub gate_form : LineForm GateLine
gate_form =
    record {
      printed = print_gate;
      legal = is_legal_gate;
      cost = line_gates;
      words = λ n bs g first. gates_words n (term_gates (apply g.kind g.terms) bs first);
      uses = operand_mentions;
    }

-- the output that a line stands for
unfoldable pub output_of : List Binding → OutputLine → Output
output_of bs o = record { port = o.port; node = lookup bs o.shown }

unfoldable pub output_form : LineForm OutputLine
output_form =
    record {
      printed = print_output;
      legal = is_legal_output;
      cost = λ o. 1;
      words = λ n bs o first. output_words n (output_of bs o);
      uses = shown_mention;
    }

module _ {A : Type 0} (F : LineForm A) where
  -- ---- one line

  -- a line of the form stands at the front of s, and then `rest`
  pub record LineAt (x : A) (rest s : List ℕ) : Type 0 where
    pub legal : F.legal x ≡ true
    pub printed : F.printed x rest ≡ s

  -- what the walk may assume of a line: some line of the form stands here, and its entries have room
  pub record LineHere (most : ℕ) (s : List ℕ) (n : ℕ) (names words : List ℕ) (first : ℕ) (array : List ℕ) : Type 0 where
    pub bindings : List Binding
    pub line : A
    pub rest : List ℕ
    pub table : Table n bindings names words
    pub here : LineAt line rest s
    pub few : first + F.cost line ≤ most
    pub inputs : n ≤ max_inputs
    pub room : entry_size * most ≤ length array

  pub record LineDone (n : ℕ) (bs : List Binding) (x : A) (at : ℕ) (s rest : List ℕ) (first : ℕ) (seen : Option ℕ)
      (before after : List ℕ) (r : Walked)
      : Type 0 where
    pub left : r.left ≡ length rest
    pub number : r.number ≡ first + F.cost x
    pub unknown : r.unknown ≡ unknown_after seen bs (F.uses x at) (at + length s)
    pub words : after ≡ sets before (entry_size * first) (F.words n bs x first)

  pub record LineRead (s : List ℕ) (n : ℕ) (names words : List ℕ) (first : ℕ) (seen : Option ℕ) (before after : List ℕ)
      (r : Walked) : Type 0 where
    pub done : (bs : List Binding) (x : A) (rest : List ℕ) (at : ℕ) → Table n bs names words → LineAt x rest s
        → LineDone n bs x at s rest first seen before after r

  -- ---- all lines of the form

  unfoldable pub lines_words : ℕ → List Binding → List A → ℕ → List ℕ
  lines_words n bs [] first = []
  lines_words n bs (x ∷ xs) first = F.words n bs x first ++ lines_words n bs xs (first + F.cost x)

  unfoldable pub lines_cost : List A → ℕ
  lines_cost xs = sum (map F.cost xs)

  pub record LinesAt (xs : List A) (rest s : List ℕ) : Type 0 where
    pub legal : all F.legal xs ≡ true
    pub printed : print_lines F.printed xs rest ≡ s

  pub record LinesHere (most count : ℕ) (s : List ℕ) (n : ℕ) (names words array : List ℕ) : Type 0 where
    pub bindings : List Binding
    pub lines : List A
    pub rest : List ℕ
    pub table : Table n bindings names words
    pub here : LinesAt lines rest s
    pub counted : length lines ≡ count
    pub few : lines_cost lines ≤ most
    pub inputs : n ≤ max_inputs
    pub room : entry_size * most ≤ length array

  pub record LinesDone (n : ℕ) (bs : List Binding) (xs : List A) (at : ℕ) (s rest : List ℕ) (first : ℕ)
      (seen : Option ℕ)
      (before after : List ℕ) (r : Walked)
      : Type 0 where
    pub left : r.left ≡ length rest
    pub number : r.number ≡ first + lines_cost xs
    pub unknown : r.unknown ≡ unknown_after seen bs (mentions F.printed F.uses xs at) (at + length s)
    pub words : after ≡ sets before (entry_size * first) (lines_words n bs xs first)

  pub record LinesRead (count : ℕ) (s : List ℕ) (n : ℕ) (names words : List ℕ) (seen : Option ℕ) (before after : List ℕ)
      (r : Walked) : Type 0 where
    pub done : (bs : List Binding) (xs : List A) (rest : List ℕ) (at : ℕ) → Table n bs names words → LinesAt xs rest s
        → length xs ≡ count
        → LinesDone n bs xs at s rest 0 seen before after r

  -- ---- the walk in the middle of the lines: `i` lines are done, `left` bytes are left

  pub record LinesNow (count : ℕ) (s : List ℕ) (seen : Option ℕ) (before : List ℕ) (n : ℕ) (bs : List Binding)
      (xs : List A)
      (rest : List ℕ)
      (at i left first : ℕ) (unknown : Option ℕ) (array : List ℕ) : Type 0 where
    pub others : List A
    pub here : LinesAt others rest (drop (length s - left) s)
    pub counted : i + length others ≡ count
    pub costs : first + lines_cost others ≡ lines_cost xs
    pub onward : (after : List ℕ) (r : Walked)
        → LinesDone n bs others (at + (length s - left)) (drop (length s - left) s) rest first unknown array after r
        → LinesDone n bs xs at s rest 0 seen before after r

  pub record LinesOn (count : ℕ) (s : List ℕ) (n : ℕ) (names words : List ℕ) (seen : Option ℕ) (before : List ℕ)
      (i left first : ℕ) (unknown : Option ℕ)
      (array : List ℕ) : Type 0 where
    pub within : left ≤ length s
    pub same : length array ≡ length before
    pub reached : (bs : List Binding) (xs : List A) (rest : List ℕ) (at : ℕ) → Table n bs names words
        → LinesAt xs rest s → length xs ≡ count
        → LinesNow count s seen before n bs xs rest at i left first unknown array
