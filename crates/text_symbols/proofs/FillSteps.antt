-- The turns of the loop that fills the tables line by line.
--   fill_start, fill-next, fill_done: no line yet, one more, all of them
--   line-sizes: what a line adds stays within the text
--   names-start, names-next, names-done, name-sizes: likewise of the inputs' names alone
-- Assumes nothing.
use Prim.Native.Nat.{ℕ, suc, ◌+◌, ◌-◌, ◌≤◌, ◌<◌}
use mathlib.Core.Path.{◌≡◌, refl, ap, ◌∙◌}
use mathlib.Core.Bool.{Bool, true, false, cond}
use mathlib.Core.List.{List}
use native.Mathlib.Numerals.{add-one}
use native.Mathlib.Omega.{arith}
use lib.ListN.{length, get_or, set, take, drop, length-drop}
use lib.Seq.{length-sets}
use lib.Dec.{ltb}
use borrow.Author.Tests.{ltb-true}
use Rattle.prelude.proofs.Elements.{rest-is-drop}
use Rattle.prelude.specs.Lists.{tab}
use Rattle.prelude.proofs.Slices.{length-placed, take-placed}
use Rattle.prelude.proofs.Stores.{sets-next}
use Rattle.prelude.proofs.Tab.{length-tab, fill-next as fill_more}
use Rattle.netlist.specs.Limits.{max_text}
use Rattle.text_lines.specs.declared.Line.{Line}
use Rattle.text_lines.specs.Lines.{length_with_lf, line_opens, line_offset, gates_to, LineOf}
use Rattle.text_symbols.specs.Tables.{declared_place, place_at, line_word, word_at, FillReady, FillNow}
use Rattle.text_symbols.specs.Tables.{FilledTo, number_at, NamesNow}
use Rattle.text_names.specs.Packed.{packed_at}
use Rattle.text_lines.proofs.Scanning.{line_length-le}
use Rattle.text_lines.proofs.Starts.{start-le, start-more, gates-more, gates-within, offset-le}

pub fill_start : (text : List ℕ) (from n first lines : ℕ) (places words : List ℕ)
    → FillNow text from n first lines places words 0 from 0 places words
unfolding line_offset gates_to
fill_start text from n first lines places words =
    record { within = omega arith; start = refl; closed = refl; filled = record { places_are = refl; words_are = refl } }

module _ {text : List ℕ} {from n first lines : ℕ} {places words : List ℕ} (ready : FillReady text from n first lines)
    {i at gates : ℕ}
    {places' words' : List ℕ} (now' : FillNow text from n first lines places words i at gates places' words') where
  pub line-start : at ≤ length text
  line-start = rw now'.start (start-le text from ready.inside i)

  -- the rest of the text is no longer than the text
  pub rest-short : length (take (length text - at) (drop at text)) ≤ max_text
  rest-short = rw (rest-is-drop text at, length-drop at text) (omega (arith, ready.short))

  module _ {s : List ℕ} (is : s ≡ take (length text - at) (drop at text)) {line : Line} (read : LineOf s line) where
    rest_of : s ≡ drop at text
    rest_of = is ∙ rest-is-drop text at

    line-length : line.length ≡ length_with_lf (drop at text)
    line-length = rw rest_of at read.length

    line-gates : line.gates ≡ line_opens (drop at text) - 1
    line-gates = rw rest_of at read.gates

    pub line-sizes : (at + line.length ≤ length text) × (gates + line.gates ≤ length text) × (line.name ≤ 6)
    line-sizes = (
      omega (arith, line-length, line_length-le (drop at text), length-drop at text, line-start),
      gates-within text from i at now'.start ready.inside gates line.gates now'.closed line-gates,
      rw read.name (offset-le (get_or s 1 0)),
    )

    pub fill-next : i < lines → {place word : ℕ} → place ≡ at + line.name
        → word ≡ line_word n (first + i) (gates + line.gates)
        → FillNow text from n first lines places words (i + 1) (at + line.length) (gates + line.gates)
        (set places' (first + i) place)
        (set words' (first + i) word)
    unfolding place_at declared_place word_at
    fill-next l {place} {word} e f =
        let g : gates + line.gates ≡ gates_to text from (i + 1) =
        rw line-gates (gates-more text from i at now'.start gates now'.closed) in
        let g' : gates + line.gates ≡ gates_to text from (suc i) = g ∙ ap (gates_to text from) (add-one i) in
        let p : place ≡ place_at text from i = e ∙ rw (read.name, rest_of, now'.start) refl in
        let w : word ≡ word_at text from n first i = f ∙ rw g' refl in
        record {
          within = omega arith;
          start = rw line-length (start-more text from i at now'.start);
          closed = g;
          filled = record {
            places_are = sets-next (place_at text from) places places' first i place now'.filled.places_are p;
            words_are = sets-next (word_at text from n first) words words' first i word now'.filled.words_are w;
          };
        }

  pub fill_done : lines ≤ i → FilledTo text from n first places words lines places' words'
  fill_done l = let e : i ≡ lines = omega (arith, now'.within) in rw e at now'.filled

-- the tables keep their lengths
pub filled-sizes : {text : List ℕ} {from n first : ℕ} {places words : List ℕ} {i : ℕ} {places' words' : List ℕ}
    → FilledTo text from n first places words i places' words'
    → (length places' ≡ length places) × (length words' ≡ length words)
filled-sizes {text} {from} {n} {first} {places} {words} {i} f = (
  ap length f.places_are ∙ length-sets places first (tab (place_at text from) i),
  ap length f.words_are ∙ length-sets words first (tab (word_at text from n first) i),
)

-- ---- the names of the inputs alone

pub names-start : (text : List ℕ) (n : ℕ) (inputs : List ℕ) → NamesNow text n inputs 0 0 inputs
unfolding line_offset
names-start text n inputs = record { within = omega arith; start = refl; filled = refl }

module _ {text : List ℕ} {n : ℕ} {inputs : List ℕ} (short : length text ≤ max_text) {i at : ℕ} {inputs' : List ℕ}
    (now' : NamesNow text n inputs i at inputs') where
  pub name-start : at ≤ length text
  name-start = rw now'.start (start-le text 0 (omega arith) i)

  pub names-rest : length (take (length text - at) (drop at text)) ≤ max_text
  names-rest = rw (rest-is-drop text at, length-drop at text) (omega arith)

  module _ {s : List ℕ} (is : s ≡ take (length text - at) (drop at text)) {line : Line} (read : LineOf s line) where
    s-is : s ≡ drop at text
    s-is = is ∙ rest-is-drop text at

    size_is : line.length ≡ length_with_lf (drop at text)
    size_is = rw s-is at read.length

    pub name-sizes : (at + line.length ≤ length text) × (line.name ≤ 6)
    name-sizes = (
      omega (arith, size_is, line_length-le (drop at text), length-drop at text, name-start),
      rw read.name (offset-le (get_or s 1 0)),
    )

    pub names-next : i < n → n ≤ length inputs → {name : ℕ} → name ≡ packed_at text (at + line.name)
        → NamesNow text n inputs (i + 1) (at + line.length) (set inputs' i name)
    unfolding place_at declared_place number_at
    names-next l room e =
        record {
          within = omega arith;
          start = rw size_is (start-more text 0 i at now'.start);
          filled =
              fill_more (number_at text 0) i inputs inputs' _ now'.filled (omega arith)
              (e ∙ rw (read.name, s-is, now'.start) refl);
        }

  pub names-sized : n ≤ length inputs → length inputs' ≡ length inputs
  names-sized l =
      rw now'.filled (length-placed (tab (number_at text 0) i) inputs
      (omega (arith, length-tab (number_at text 0) i, now'.within)))

  pub names-done : n ≤ i → take n inputs' ≡ tab (number_at text 0) n
  names-done l =
      let e : i ≡ n = omega (arith, now'.within) in
      rw (rw e at now'.filled) (take-placed (tab (number_at text 0) n) inputs n (length-tab (number_at text 0) n))

-- ---- node numbers

-- a node number is at most the inputs and gates so far
pub line_word-le : (n i gates : ℕ) → line_word n i gates ≤ n + gates
unfolding line_word
line_word-le n i gates = go (ltb i n) refl
  where
    go : (b : Bool) → ltb i n ≡ b → cond b i (n + (gates - 1)) ≤ n + gates
    go true e = let h : i < n = ltb-true i n e in omega arith
    go false e = omega arith
