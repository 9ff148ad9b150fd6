-- The tables that the loops fill are those of the pairs, and what they give the inputs. Assumes nothing.
--   taken: the front of a filled table
--   tables-filled: what `fill_pairs` leaves
--   names-room, inputs-room: tables have room for what they hold
--   names-cut, inputs-cut: their slices, cut to the length of what they hold
--   fronts-given: what `fill_given` leaves, of the fronts of tables
--   setting-given: what `fill_setting` leaves
--   plain-bytes: the bytes of inputs' names
use Prim.Native.Nat.{ℕ, ◌≤◌, ◌<◌}
use mathlib.Core.Path.{◌≡◌, refl, sym, ap, ◌∙◌}
use mathlib.Core.Bool.{true}
use mathlib.Core.List.{List, [], ◌∷◌, map}
use mathlib.Core.Logic.{◌⊎◌, inl, inr}
use native.Mathlib.Omega.{arith}
use lib.ListN.{length, get_or, take, drop, length-map}
use lib.Seq.{take_at, take_all, get_or-take, length-take-le}
use Rattle.prelude.specs.Lists.{all, tab, placed}
use Rattle.prelude.proofs.Tests.{lt-or-le, and_left, and_right, and_intro}
use Rattle.prelude.proofs.Tab.{length-tab, placed-tab, tab-ext}
use Rattle.theory_encoding.proofs.ListFacts.{tab-is, get_d_map}
use Rattle.netlist.specs.Values.{code, val, value_of}
use Rattle.netlist.specs.Netlist.{Name}
use Rattle.netlist.specs.Names.{is_name_byte, is_plain_name}
use Rattle.netlist.specs.Syntax.{Pair, is_legal_pair}
use Rattle.netlist.specs.Reading.{given_value}
use Rattle.text_lines.specs.Lines.{line_opens}
use Rattle.text_names.specs.Packed.{packed, packed_at, packed_through}
use Rattle.text_names.proofs.LegalNames.{name-bytes}
use Rattle.text_names.proofs.Lookup.{index_same}
use Rattle.text_pairs.specs.PairBytes.{pair_place, code_at, given_code, input_code}
use Rattle.text_pairs.specs.Tables.{PairsAt, PairsTabled, NamesAre, InputsAre}
use Rattle.text_pairs.proofs.GivenValues.{values-given}
use Rattle.text_pairs.proofs.PairPlaces.{no_pair, count-is, places-are, each-legal, stands_at}
use Rattle.text_pairs.proofs.PairPlaces.{number-stands, code-stands}

-- the front of a filled table
pub taken : {A : Type 0} (f : ℕ → A) (n : ℕ) (entry : List A) → take n (placed (tab f n) entry) ≡ tab f n
taken f n entry = take_at (tab f n) _ n (length-tab f n)

-- ---- the pairs' tables

-- the code of the value behind the name at place i of a list of places
abbrev code_through : List ℕ → List ℕ → ℕ → ℕ
code_through text places i = code_at text (get_or places i 0)

module _ {at : ℕ} {ps : List Pair} {text : List ℕ} (is : PairsAt at ps text) (names₀ places₀ codes₀ : List ℕ) where
  abbrev places : List ℕ
  places = placed (tab (pair_place text at) (length ps)) places₀

  place_at : (i : ℕ) → i < length ps → get_or places i 0 ≡ pair_place text at i
  place_at i l = placed-tab (pair_place text at) (length ps) places₀ i 0 l

  numbers-are : tab (packed_through text places) (length ps) ≡ map (λ (p : Pair). packed p.name) ps
  unfolding packed_through
  numbers-are =
      let size = length-map ps (λ (p : Pair). packed p.name) in
      ap (tab (packed_through text places)) (sym size)
      ∙ tab-is (packed_through text places) (map (λ (p : Pair). packed p.name) ps) 0 (λ i h.
      let l : i < length ps = rw size at h in
      ap (packed_at text) (place_at i l) ∙ number-stands text (pair_place text at i) (get_or ps i no_pair)
      (each-legal is i l) (stands_at is i l)
      ∙ sym (get_d_map (λ (p : Pair). packed p.name) ps i no_pair 0 l))

  codes-are : tab (code_through text places) (length ps) ≡ map (λ (p : Pair). code (val p.value)) ps
  codes-are =
      let size = length-map ps (λ (p : Pair). code (val p.value)) in
      ap (tab (code_through text places)) (sym size)
      ∙ tab-is (code_through text places) (map (λ (p : Pair). code (val p.value)) ps) 0 (λ i h.
      let l : i < length ps = rw size at h in
      ap (code_at text) (place_at i l) ∙ code-stands text (pair_place text at i) (get_or ps i no_pair) (each-legal is i l)
      (stands_at is i l)
      ∙ sym (get_d_map (λ (p : Pair). code (val p.value)) ps i no_pair 0 l))

  printed-tables : PairsTabled ps at (length ps) (placed (tab (packed_through text places) (length ps)) names₀) places
      (placed (tab (code_through text places) (length ps)) codes₀)
  printed-tables = record {
    counted = refl;
    names_are = record { numbers = taken (packed_through text places) (length ps) names₀ ∙ numbers-are };
    places_are = record { stand = taken (pair_place text at) (length ps) places₀ ∙ places-are is };
    codes_are = record { values = taken (code_through text places) (length ps) codes₀ ∙ codes-are };
  }

  -- what `fill_pairs` leaves
  pub tables-filled : {count : ℕ} {names places codes : List ℕ}
      → count ≡ line_opens (drop at text)
      → places ≡ placed (tab (pair_place text at) count) places₀
      → names ≡ placed (tab (packed_through text places) count) names₀
      → codes ≡ placed (tab (code_through text places) count) codes₀
      → PairsTabled ps at count names places codes
  tables-filled c p m d = rw (d, m, p, c ∙ count-is is) printed-tables

-- ---- room

-- a list whose front has so many elements has room for them
take-room : (k : ℕ) (xs ys : List ℕ) → take k xs ≡ ys → length ys ≡ k → k ≤ length xs
take-room k xs ys e n = go (lt-or-le (length xs) k)
  where
    go : (length xs < k) ⊎ (k ≤ length xs) → k ≤ length xs
    go (inr l) = l
    go (inl l) =
        let a : length xs ≡ k = ap length (sym (take_all k xs (omega arith))) ∙ ap length e ∙ n in
        omega arith

module _ {ps : List Pair} {at count : ℕ} {names places codes : List ℕ}
    (t : PairsTabled ps at count names places codes) where
  pub names-room : count ≤ length names
  names-room =
      rw t.counted (take-room (length ps) names _ t.names_are.numbers
      (length-map ps (λ (p : Pair). packed p.name)))

pub inputs-room : {known : List Name} {n : ℕ} {inputs : List ℕ} → InputsAre known n inputs → n ≤ length inputs
inputs-room {known} {n} {inputs} i = take-room n inputs _ i.numbers (length-map known packed ∙ i.counted)

-- ---- slices cut to the length of what they hold

pub names-cut : {ps : List Pair} {count : ℕ} {names : List ℕ} → count ≡ length ps → length (take count names) ≡ count
    → NamesAre ps names → NamesAre ps (take count names)
names-cut {ps} {count} {names} e l n =
    record { numbers = take_all (length ps) (take count names) (omega (arith, e, l)) ∙ rw e n.numbers }

pub inputs-cut : {known : List Name} {n : ℕ} {inputs : List ℕ} → InputsAre known n inputs
    → InputsAre known (length (take n inputs)) (take n inputs)
inputs-cut {known} {n} {inputs} i =
    let l = length-take-le n inputs (inputs-room i) in
    record {
      counted = i.counted ∙ sym l;
      bytes = i.bytes;
      numbers = take_all (length (take n inputs)) (take n inputs) (omega arith) ∙ i.numbers;
    }

-- ---- what the inputs are given

-- by the fronts of two tables, as by the tables
pub fronts-given : (names codes inputs setting : List ℕ) (count n : ℕ) → count ≤ length names → n ≤ length inputs
    → placed (tab (input_code (take count names) codes (length (take count names)) (take n inputs))
    (length (take n inputs))) setting
    ≡ placed (tab (input_code names codes count inputs) n) setting
unfolding input_code given_code
fronts-given names codes inputs setting count n l m =
    rw (length-take-le count names l, length-take-le n inputs m)
    (ap (λ (xs : List ℕ). placed xs setting) (tab-ext _ _ n (λ j h.
    rw (
      get_or-take n inputs j 0 h,
      index_same (take count names) names count (get_or inputs j 0) (λ i k. get_or-take count names i 0 k),
    ))))

pub setting-given : {ps : List Pair} → all is_legal_pair ps ≡ true → {at count : ℕ} {names places codes : List ℕ}
    → PairsTabled ps at count names places codes
    → {known : List Name} {n : ℕ} {inputs : List ℕ} → InputsAre known n inputs
    → (setting₀ : List ℕ) {setting : List ℕ} → setting ≡ placed (tab (input_code names codes count inputs) n) setting₀
    → map value_of (take n setting) ≡ map (given_value ps) known
setting-given {ps} legal {at} {count} {names} {places} {codes} t {known} {n} {inputs} i setting₀ f =
    rw (
      f,
      taken (input_code names codes count inputs) n setting₀,
      t.counted,
    ) (values-given ps legal t.names_are t.codes_are i)

-- names of inputs have name bytes alone
pub plain-bytes : (names : List Name) → all is_plain_name names ≡ true → all (all is_name_byte) names ≡ true
unfolding is_plain_name
plain-bytes [] h = refl
plain-bytes (s ∷ ss) h =
    and_intro (all is_name_byte s) (all (all is_name_byte) ss)
    (name-bytes _ s (and_left (is_plain_name s) (all is_plain_name ss) h))
    (plain-bytes ss (and_right (is_plain_name s) (all is_plain_name ss) h))
