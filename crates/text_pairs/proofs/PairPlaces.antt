-- Where printed pairs stand in a text, and what their bytes say: count, places, names and values are those of the
-- pairs. Assumes nothing.
--   pair-length, pairs-length: their bytes
--   places-length, place_is, places-are: the places by the bytes are the pairs' own
--   Stands, stands_at, name-stands, number-stands, code-stands: what the bytes say where a pair stands
--   here-short, place-next: the turns of the loops
--   count-is: each pair has an opening bracket
use Prim.Native.Nat.{ℕ, zero, suc, ◌+◌, ◌*◌, ◌≤◌, ◌<◌}
use mathlib.Core.Path.{◌≡◌, refl, sym, ap, ◌∙◌}
use mathlib.Core.Bool.{Bool, true, false, cond, ◌&&◌}
use mathlib.Core.List.{List, [], ◌∷◌, ◌++◌, map}
use native.Mathlib.Numerals.{add-one}
use native.Mathlib.Omega.{arith}
use lib.ListN.{length, get_or, drop, length-append}
use lib.Seq.{drop_at, drop-drop}
use lib.Dec.{eqb, leb}
use borrow.Author.Tests.{leb-true}
use Rattle.prelude.specs.Lists.{ascii, all, tab}
use Rattle.prelude.proofs.Tests.{and_left, and_right}
use Rattle.prelude.proofs.Quantifiers.{all-at}
use Rattle.theory_encoding.proofs.ListFacts.{tab-is}
use Rattle.netlist.specs.Values.{code, val}
use Rattle.netlist.specs.Names.{is_name_byte, is_letter, is_digit, is_underscore, is_name_start, is_legal_name, is_node_name}
use Rattle.netlist.specs.Syntax.{Pair, value_text, pair_text, print_pair, is_legal_pair, print_lines}
use Rattle.netlist.specs.Reading.{Mention, mentions, pair_mention}
use Rattle.theory_grammar.proofs.Places.{print_pair-split}
use Rattle.text_lines.specs.Lines.{times, line_opens}
use Rattle.text_names.specs.Packed.{packed, name_front, name_from, packed_at}
use Rattle.text_names.proofs.Packing.{front_length}
use Rattle.text_names.proofs.LegalNames.{name-bytes}
use Rattle.text_lines.proofs.TreeLines.{times-name-bytes}
use Rattle.text_names.proofs.LegalNames.{front-legal}
use Rattle.text_pairs.specs.PairBytes.{pair_place, code_front, code_at}
use Rattle.text_pairs.specs.Tables.{PairsAt, pair_mentions}

abbrev pub no_pair : Pair
no_pair = record { name = []; value = false }

-- the places of names, the first of whose pairs has its space at `at`
abbrev pub places_from : List Pair → ℕ → List ℕ
places_from ps at = map (λ (d : Mention). d.place) (pair_mentions ps at)

-- ---- lengths

value-length : (v : Bool) → length (value_text (val v)) ≡ 1
unfolding value_text
value-length true = refl
value-length false = refl

pub pair-length : (p : Pair) → length (print_pair p []) ≡ length p.name + 5
unfolding print_pair pair_text
pair-length p =
    let a = length-append p.name (ascii " " ++ (value_text (val p.value) ++ (ascii ")" ++ []))) in
    let b = length-append (value_text (val p.value)) (ascii ")" ++ []) in
    let v = value-length p.value in
    omega arith

pub places-length : (ps : List Pair) (at : ℕ) → length (places_from ps at) ≡ length ps
unfolding mentions pair_mention
places-length [] at = refl
places-length (p ∷ ps) at = ap suc (places-length ps (at + length (print_pair p [])))

-- ---- where the pairs stand

-- the pair's name stands at this place, and its value behind it
pub record Stands (text : List ℕ) (place : ℕ) (p : Pair) : Type 0 where
  pub more : List ℕ
  pub at_place : drop place text ≡ p.name ++ (ascii " " ++ (value_text (val p.value) ++ (ascii ")" ++ more)))

drop-opening : (p : Pair) (s : List ℕ)
    → drop 2 (print_pair p s) ≡ p.name ++ (ascii " " ++ (value_text (val p.value) ++ (ascii ")" ++ s)))
unfolding print_pair pair_text
drop-opening p s = refl

module _ (text : List ℕ) where
  -- behind a pair stand the others
  next-pair : (p : Pair) (more : List ℕ) (at : ℕ) → drop at text ≡ print_pair p more
      → drop (at + length (print_pair p [])) text ≡ more
  next-pair p more at e =
      sym (drop-drop (length (print_pair p [])) at text)
      ∙ rw (e, print_pair-split p more) (drop_at (print_pair p []) more (length (print_pair p [])) refl)

  pub pairs-stand : (ps : List Pair) (rest : List ℕ) (at : ℕ) → drop at text ≡ print_lines print_pair ps rest
      → (i : ℕ) → i < length ps → Stands text (get_or (places_from ps at) i 0) (get_or ps i no_pair)
  unfolding mentions pair_mention print_lines
  pairs-stand [] rest at e i l = absurd (omega arith)
  pairs-stand (p ∷ ps) rest at e zero l =
      record {
        more = print_lines print_pair ps rest;
        at_place = sym (drop-drop 2 at text) ∙ rw e (drop-opening p (print_lines print_pair ps rest));
      }
  pairs-stand (p ∷ ps) rest at e (suc i) l =
      pairs-stand ps rest (at + length (print_pair p [])) (next-pair p (print_lines print_pair ps rest) at e) i
      (omega arith)

first-place : (ps : List Pair) (at : ℕ) → 0 < length ps → get_or (places_from ps at) 0 0 ≡ at + 2
unfolding mentions pair_mention
first-place [] at l = absurd (omega arith)
first-place (p ∷ ps) at l = refl

-- from one place to the next
places-next : (ps : List Pair) (at i : ℕ) → suc i < length ps
    → get_or (places_from ps at) (suc i) 0 ≡ get_or (places_from ps at) i 0 + length (get_or ps i no_pair).name + 5
unfolding mentions pair_mention
places-next [] at i l = absurd (omega arith)
places-next (p ∷ []) at i l = absurd (omega arith)
places-next (p ∷ q ∷ ps) at zero l = omega (arith, pair-length p)
places-next (p ∷ q ∷ ps) at (suc i) l = places-next (q ∷ ps) (at + length (print_pair p [])) i (omega arith)

-- ---- what the bytes say where a pair stands

second : (s : List ℕ) (c : ℕ) (t : List ℕ) → get_or (s ++ (c ∷ t)) (length s + 1) 0 ≡ get_or t 0 0
second [] c t = refl
second (x ∷ s) c t = let e : suc (length s) + 1 ≡ suc (length s + 1) = omega arith in rw e (second s c t)

by_value : (v : Bool) (rest : List ℕ) → cond (eqb (get_or (value_text (val v) ++ rest) 0 0) 49) 1 0 ≡ code (val v)
unfolding value_text code
by_value true rest = refl
by_value false rest = refl

module _ (text : List ℕ) (place : ℕ) (p : Pair) (legal : is_legal_pair p ≡ true) (s : Stands text place p) where
  front-is : name_front 8 (drop place text) ≡ p.name
  unfolding is_legal_pair is_node_name is_name_byte is_letter is_digit is_underscore
  front-is =
      rw s.at_place (front-legal is_name_start p.name 32 (value_text (val p.value) ++ (ascii ")" ++ s.more))
      legal refl)

  pub name-stands : name_from text place ≡ p.name
  unfolding name_from
  name-stands = front-is

  pub number-stands : packed_at text place ≡ packed p.name
  unfolding packed_at
  number-stands = ap packed name-stands

  pub code-stands : code_at text place ≡ code (val p.value)
  unfolding code_at code_front
  code-stands =
      rw (front-is, s.at_place, second p.name 32 (value_text (val p.value) ++ (ascii ")" ++ s.more)))
      (by_value p.value (ascii ")" ++ s.more))

module _ {at : ℕ} {ps : List Pair} {text : List ℕ} (is : PairsAt at ps text) where
  stands_here : (i : ℕ) → i < length ps → Stands text (get_or (places_from ps at) i 0) (get_or ps i no_pair)
  stands_here i l = pairs-stand text ps _ at is.stand i l

  pub each-legal : (i : ℕ) → i < length ps → is_legal_pair (get_or ps i no_pair) ≡ true
  each-legal i l = all-at is_legal_pair ps i no_pair is.legal l

  -- the places by the bytes
  place_is : (i : ℕ) → i < length ps → pair_place text at i ≡ get_or (places_from ps at) i 0
  unfolding pair_place mentions pair_mention
  place_is zero l = sym (first-place ps at l)
  place_is (suc i) l =
      let k : i < length ps = omega arith in
      let e = place_is i k in
      let n : name_from text (get_or (places_from ps at) i 0) ≡ (get_or ps i no_pair).name =
      name-stands text _ (get_or ps i no_pair) (each-legal i k) (stands_here i k) in
      rw (e, n) (sym (places-next ps at i l))

  pub stands_at : (i : ℕ) → i < length ps → Stands text (pair_place text at i) (get_or ps i no_pair)
  stands_at i l = rw (place_is i l) (stands_here i l)

  pub places-are : tab (pair_place text at) (length ps) ≡ places_from ps at
  places-are =
      rw (← places-length ps at) (tab-is (pair_place text at) (places_from ps at) 0
      (λ i l. place_is i (rw (places-length ps at) at l)))

-- ---- the turns of the loops

pub here-short : (text : List ℕ) (at : ℕ) → length (name_from text at) ≤ 8
unfolding name_from
here-short text at = front_length 8 (drop at text)

pub place-next : (text : List ℕ) (at i : ℕ) {place size : ℕ} → place ≡ pair_place text at i
    → size ≡ length (name_from text place)
    → place + (size + 5) ≡ pair_place text at (i + 1)
unfolding pair_place
place-next text at i {place} {size} e f =
    let n : size ≡ length (name_from text (pair_place text at i)) = rw e at f in
    rw (add-one, e, n) (omega arith)

-- ---- the brackets of a line's pairs

-- past bytes without LF
pub opens-past : (xs ys : List ℕ) → times 10 xs ≡ 0 → line_opens (xs ++ ys) ≡ times 40 xs + line_opens ys
opens-past [] ys h = omega arith
opens-past (x ∷ xs) ys h = go (eqb x 10) h (opens-past xs ys)
  where
    go : (b : Bool) → cond b 1 0 + times 10 xs ≡ 0
        → (times 10 xs ≡ 0 → line_opens (xs ++ ys) ≡ times 40 xs + line_opens ys)
        → cond b 0 (cond (eqb x 40) 1 0 + line_opens (xs ++ ys)) ≡ cond (eqb x 40) 1 0 + times 40 xs + line_opens ys
    go true h f = absurd (omega arith)
    go false h f = let e = f (omega arith) in omega arith

-- no name and no value has a bracket
opens-value : (v : Bool) (rest : List ℕ) → line_opens (value_text (val v) ++ rest) ≡ line_opens rest
unfolding value_text
opens-value true rest = omega arith
opens-value false rest = omega arith

opens-pair : (p : Pair) → is_legal_pair p ≡ true → (rest : List ℕ) → line_opens (print_pair p rest) ≡ suc (line_opens rest)
unfolding print_pair pair_text is_legal_pair is_node_name
opens-pair p legal rest =
    let bytes = name-bytes is_name_start p.name legal in
    let a =
    opens-past p.name (ascii " " ++ (value_text (val p.value) ++ (ascii ")" ++ rest)))
    (times-name-bytes 10 (omega arith) p.name bytes) in
    let n = times-name-bytes 40 (omega arith) p.name bytes in
    let v = opens-value p.value (ascii ")" ++ rest) in
    omega arith

opens-pairs : (ps : List Pair) → all is_legal_pair ps ≡ true → (rest : List ℕ)
    → line_opens (print_lines print_pair ps rest) ≡ length ps + line_opens rest
unfolding print_lines
opens-pairs [] legal rest = omega arith
opens-pairs (p ∷ ps) legal rest =
    let a = opens-pair p (and_left (is_legal_pair p) (all is_legal_pair ps) legal) (print_lines print_pair ps rest) in
    let b = opens-pairs ps (and_right (is_legal_pair p) (all is_legal_pair ps) legal) rest in
    omega arith

-- each pair has one, up to the line's end
pub count-is : {at : ℕ} {ps : List Pair} {text : List ℕ} → PairsAt at ps text → line_opens (drop at text) ≡ length ps
count-is {at} {ps} {text} is =
    let h = opens-pairs ps is.legal (ascii ")\n" ++ is.rest) in rw is.stand (omega arith)

-- ---- a pair has at least 6 bytes

name-some : (start : ℕ → Bool) (s : List ℕ) → is_legal_name start s ≡ true → 1 ≤ length s
unfolding is_legal_name
name-some start s h =
    let a = and_left (leb 1 (length s) && leb (length s) 8 && start (get_or s 0 0)) (all is_name_byte s) h in
    let b = and_left (leb 1 (length s) && leb (length s) 8) (start (get_or s 0 0)) a in
    leb-true 1 (length s) (and_left (leb 1 (length s)) (leb (length s) 8) b)

pub pairs-length : (ps : List Pair) → all is_legal_pair ps ≡ true → (rest : List ℕ)
    → 6 * length ps + length rest ≤ length (print_lines print_pair ps rest)
unfolding print_lines is_legal_pair is_node_name
pairs-length [] legal rest = omega arith
pairs-length (p ∷ ps) legal rest =
    let more = print_lines print_pair ps rest in
    let h = pairs-length ps (and_right (is_legal_pair p) (all is_legal_pair ps) legal) rest in
    let n = name-some is_name_start p.name (and_left (is_legal_pair p) (all is_legal_pair ps) legal) in
    let e = ap length (print_pair-split p more) in
    omega (arith, length-append (print_pair p []) more, pair-length p)
