-- 4 and 5 of pairs, by their tables: the first name that repeats one before it, and the first that is no input. Assumes
-- nothing.
use Prim.Native.Nat.{ℕ, zero, suc, ◌+◌, ◌≤◌, ◌<◌}
use mathlib.Core.Path.{◌≡◌, refl, sym, ap, ◌∙◌}
use mathlib.Core.Bool.{Bool, true, false, not}
use mathlib.Core.List.{List, [], ◌∷◌, map, map-map}
use mathlib.Core.Option.{some}
use mathlib.Core.Logic.{◌⊎◌, inl, inr}
use native.Mathlib.Omega.{arith}
use native.Mathlib.Nat.{le_of_eq}
use lib.ListN.{length, get_or, take, drop, length-map, drop_of_length-le}
use lib.Seq.{get_or-take, drop-cons, take_all}
use lib.Dec.{leb, ltb}
use borrow.Author.Tests.{lt-ltb, le-ltb, le-leb, lt-leb}
use Rattle.prelude.specs.Lists.{all, member_list, least, IfBelow}
use Rattle.std.specs.declared.option.Option.TheVariants.{None, Some}
use Rattle.prelude.proofs.Tests.{lt-or-le, and_left, and_right, and_intro}
use Rattle.prelude.proofs.Quantifiers.{all-at}
use Rattle.prelude.proofs.Least.{least-below, least_at}
use Rattle.theory_encoding.proofs.ListFacts.{get_d_map}
use Rattle.netlist.specs.declared.Refusal.TheVariants.{DuplicateDeclaration, UndeclaredName}
use Rattle.std.specs.declared.result.Result.TheVariants.{Ok, Err}
use Rattle.netlist.specs.Netlist.{Name}
use Rattle.netlist.specs.Names.{is_name_byte, is_name_start, is_node_name}
use Rattle.netlist.specs.Reading.{Mention, mentions, pair_mention, first_repeat, first_outside}
use Rattle.words_refusals.specs.Tests.{test_at}
use Rattle.netlist.specs.Syntax.{Pair, print_pair, is_legal_pair}
use Rattle.text_names.specs.Packed.{packed}
use Rattle.text_names.specs.Search.{index_of, repeats_at}
use Rattle.text_names.proofs.Lookup.{Bytes, index_same, index-member}
use Rattle.text_names.proofs.Repeats.{repeat-found, repeat-none}
use Rattle.text_names.proofs.LegalNames.{name-bytes}
use Rattle.text_pairs.specs.Tables.{pair_mentions, NamesAre, PlacesAre, is_outside, InputsAre}
use Rattle.text_pairs.proofs.PairPlaces.{no_pair, places-length}

-- ---- tests

not-below : (k n : ℕ) → leb n k ≡ not (ltb k n)
not-below k n = go (lt-or-le k n)
  where
    go : (k < n) ⊎ (n ≤ k) → leb n k ≡ not (ltb k n)
    go (inl l) = rw (lt-leb n k l, lt-ltb k n l)
    go (inr l) = rw (le-leb n k l, le-ltb k n l)

not-false-true : (b : Bool) → not b ≡ false → b ≡ true
not-false-true true h = refl
not-false-true false h = sym h

not-true-false : (b : Bool) → not b ≡ true → b ≡ false
not-true-false true h = sym h
not-true-false false h = refl

-- ---- the first name outside a list, from a place on

abbrev nobody : Mention
nobody = record { name = []; place = 0 }

module _ (known : List Name) (ds : List Mention) (i : ℕ) (l : i < length ds) where
  inside : member_list (get_or ds i nobody).name known ≡ true
      → first_outside known (drop i ds) ≡ first_outside known (drop (suc i) ds)
  unfolding first_outside
  inside m = rw (drop-cons ds i nobody l, m)

  outside : member_list (get_or ds i nobody).name known ≡ false
      → first_outside known (drop i ds) ≡ some (get_or (map (λ (d : Mention). d.place) ds) i 0)
  unfolding first_outside
  outside m = rw (drop-cons ds i nobody l, m, get_d_map (λ (d : Mention). d.place) ds i nobody 0 l)

-- ---- the names of pairs

mention-names : (ps : List Pair) (at : ℕ)
    → map (λ (d : Mention). d.name) (pair_mentions ps at) ≡ map (λ (p : Pair). p.name) ps
unfolding mentions pair_mention
mention-names [] at = refl
mention-names (p ∷ ps) at = ap (λ (r : List Name). p.name ∷ r) (mention-names ps (at + length (print_pair p [])))

pub name-legal : (p : Pair) → is_legal_pair p ≡ true → all is_name_byte p.name ≡ true
unfolding is_legal_pair is_node_name
name-legal p h = name-bytes is_name_start p.name h

pair-bytes : (ps : List Pair) → all is_legal_pair ps ≡ true → Bytes (map (λ (p : Pair). p.name) ps)
pair-bytes [] h = refl
pair-bytes (p ∷ ps) h =
    and_intro (all is_name_byte p.name) (all (all is_name_byte) (map (λ (p : Pair). p.name) ps))
    (name-legal p (and_left (is_legal_pair p) (all is_legal_pair ps) h))
    (pair-bytes ps (and_right (is_legal_pair p) (all is_legal_pair ps) h))

module _ (ps : List Pair) (legal : all is_legal_pair ps ≡ true) (at : ℕ) where
  abbrev ds : List Mention
  ds = pair_mentions ps at

  given-length : length ds ≡ length ps
  given-length = sym (length-map (pair_mentions ps at) (λ (d : Mention). d.place)) ∙ places-length ps at

  given-names : map (λ (d : Mention). d.name) ds ≡ map (λ (p : Pair). p.name) ps
  given-names = mention-names ps at

  given-bytes : Bytes (map (λ (d : Mention). d.name) ds)
  given-bytes = rw given-names (pair-bytes ps legal)

  given-keys : map (λ (d : Mention). packed d.name) ds ≡ map (λ (p : Pair). packed p.name) ps
  given-keys =
      sym (map-map packed (λ (d : Mention). d.name) ds) ∙ ap (map packed) given-names
      ∙ map-map packed (λ (p : Pair). p.name) ps

  module _ {names places : List ℕ} (named : NamesAre ps names) (placed : PlacesAre ps at places) where
    keys-held : take (length ps) names ≡ map (λ (d : Mention). packed d.name) ds
    keys-held = named.numbers ∙ sym given-keys

    place-held : (i : ℕ) → i < length ps → get_or places i 0 ≡ get_or (map (λ (d : Mention). d.place) ds) i 0
    place-held i l = sym (get_or-take (length ps) places i 0 l) ∙ ap (λ (xs : List ℕ). get_or xs i 0) placed.stand

    -- ---- 4

    module _ (counted : length names ≡ length ps) where
      first : least (repeats_at names) (length names) ≡ least (repeats_at (map (λ (d : Mention). packed d.name) ds)) (length ds)
      first =
          let same : names ≡ map (λ (d : Mention). packed d.name) ds =
          sym (take_all (length ps) names (le_of_eq counted)) ∙ keys-held in
          rw (same, length-map ds (λ (d : Mention). packed d.name))

      -- the test fails at the first repeat
      pub repeat-failed : {i : ℕ} → IfBelow (least (repeats_at names) (length names)) (length names) (Some i)
          → Err (DuplicateDeclaration (get_or places i 0)) ≡ test_at (first_repeat [] ds) DuplicateDeclaration
      unfolding test_at
      repeat-failed {i} (l, is) =
          let at_first = is ∙ first in
          let k : i < length ps = omega arith in
          let r = repeat-found ds given-bytes (rw (← at_first, given-length) k) in
          rw (place-held i k, r, ← at_first)

      -- and passes where there is none
      pub repeat-passed : IfBelow (least (repeats_at names) (length names)) (length names) None
          → Ok tt ≡ test_at (first_repeat [] ds) DuplicateDeclaration
      unfolding test_at
      repeat-passed none = rw (repeat-none ds given-bytes (rw (← first, given-length) (omega (arith, none))))

    -- ---- 5

    module _ {known : List Name} {n : ℕ} {inputs : List ℕ} (ins : InputsAre known n inputs) where
      input-held : (i : ℕ) → i < n → get_or inputs i 0 ≡ get_or (map packed known) i 0
      input-held i l = sym (get_or-take n inputs i 0 l) ∙ ap (λ (xs : List ℕ). get_or xs i 0) ins.numbers

      name_of : ℕ → Name
      name_of i = (get_or ps i no_pair).name

      name-held : (i : ℕ) → i < length ps → get_or names i 0 ≡ packed (name_of i)
      unfolding name_of
      name-held i l =
          sym (get_or-take (length ps) names i 0 l) ∙ ap (λ (xs : List ℕ). get_or xs i 0) named.numbers
          ∙ get_d_map (λ (p : Pair). packed p.name) ps i no_pair 0 l

      found-is : (i : ℕ) → i < length ps → ltb (index_of inputs n (get_or names i 0)) n ≡ member_list (name_of i) known
      unfolding name_of
      found-is i l =
          let e : index_of inputs n (packed (name_of i)) ≡ index_of (map packed known) n (packed (name_of i)) =
          index_same inputs (map packed known) n (packed (name_of i)) input-held in
          let b : all is_name_byte (name_of i) ≡ true =
          name-legal (get_or ps i no_pair) (all-at is_legal_pair ps i no_pair legal l) in
          rw (name-held i l, e) (rw ins.counted at (index-member (name_of i) known b ins.bytes))

      outside-is : (i : ℕ) → i < length ps → is_outside names inputs n i ≡ not (member_list (name_of i) known)
      unfolding is_outside
      outside-is i l = not-below (index_of inputs n (get_or names i 0)) n ∙ ap not (found-is i l)

      given-name : (i : ℕ) → i < length ps → (get_or ds i nobody).name ≡ name_of i
      unfolding name_of
      given-name i l =
          sym (get_d_map (λ (d : Mention). d.name) ds i nobody [] (rw given-length l))
          ∙ ap (λ (xs : List Name). get_or xs i []) given-names
          ∙ get_d_map (λ (p : Pair). p.name) ps i no_pair [] l

      outside-walk : (i : ℕ) → i ≤ length ps → ((j : ℕ) → j < i → is_outside names inputs n j ≡ false)
          → first_outside known ds ≡ first_outside known (drop i ds)
      outside-walk zero l h = refl
      outside-walk (suc i) l h =
          let k : i < length ps = omega arith in
          let m : member_list (name_of i) known ≡ true = not-false-true _ (sym (outside-is i k) ∙ h i (omega arith)) in
          outside-walk i (omega arith) (λ j g. h j (omega arith))
          ∙ inside known ds i (rw given-length k) (rw (given-name i k) m)

      module _ (counted : length names ≡ length ps) where
        abbrev outer : ℕ
        outer = least (is_outside names inputs n) (length names)

        passed_over : (j : ℕ) → j < outer → is_outside names inputs n j ≡ false
        passed_over = least-below (is_outside names inputs n) (length names)

        -- the test fails at the first name outside
        pub outside-failed : {i : ℕ} → IfBelow outer (length names) (Some i)
            → Err (UndeclaredName (get_or places i 0)) ≡ test_at (first_outside known ds) UndeclaredName
        unfolding test_at
        outside-failed {i} (l, is) =
            let k : i < length ps = omega arith in
            let t : is_outside names inputs n i ≡ true =
            rw (← is) at (least_at (is_outside names inputs n) (length names) l) in
            let m : member_list (name_of i) known ≡ false = not-true-false _ (sym (outside-is i k) ∙ t) in
            let e =
            outside-walk i (omega arith) (rw (← is) at passed_over)
            ∙ outside known ds i (rw given-length k) (rw (given-name i k) m) in
            rw (place-held i k, e)

        -- and passes where there is none
        pub outside-passed : IfBelow outer (length names) None → Ok tt ≡ test_at (first_outside known ds) UndeclaredName
        unfolding test_at first_outside
        outside-passed none =
            let all-in : (j : ℕ) → j < length ps → is_outside names inputs n j ≡ false =
            λ j l. passed_over j (omega (arith, none)) in
            let z : drop (length ps) ds ≡ [] = drop_of_length-le ds (rw given-length (omega arith)) in
            rw (outside-walk (length ps) (omega arith) all-in, z)
