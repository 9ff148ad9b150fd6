-- The tables that the loops fill are those of the line's pairs and of the block's inputs. Assumes nothing.
use Prim.Native.Nat.{ℕ, zero, suc, ◌+◌, ◌*◌, ◌≤◌, ◌<◌}
use mathlib.Core.Path.{◌≡◌, refl, sym, ap, ◌∙◌}
use mathlib.Core.Logic.{⊎_elim}
use mathlib.Core.Bool.{true, false, cond, ◌&&◌}
use mathlib.Core.List.{List, [], ◌∷◌, map, append-nil}
use native.Mathlib.Omega.{arith}
use lib.ListN.{length, get_or, take, length-map, get_or-eq_default}
use lib.Seq.{get_or-take}
use lib.Dec.{leb, eqb, ltb}
use borrow.Author.Tests.{leb-true, ne_eqb, lt-ltb, le-ltb}
use Rattle.prelude.specs.Lists.{ascii, all, tab, placed, trimmed, onto}
use Rattle.prelude.proofs.Tests.{lt-or-le, and_left, and_right}
use Rattle.prelude.proofs.Tab.{length-tab, get_d-tab}
use Rattle.prelude.proofs.Quantifiers.{all-at}
use Rattle.theory_encoding.proofs.ListFacts.{tab-is, get_d_map}
use Rattle.theory_encoding.proofs.Decoded.{decode-input_count, decode-input}
use Rattle.theory_encoding.proofs.Intact.{intact-well_formed}
use Rattle.theory_encoding.proofs.Readers.{whole-intact}
use Rattle.theory_encoding.proofs.WellFormed.{WellFormed, well_formed-parts}
use Rattle.netlist.specs.Limits.{max_inputs}
use Rattle.netlist.specs.Values.{code, val, value_of}
use Rattle.netlist.specs.Netlist.{Name}
use Rattle.netlist.specs.StoredBlock.{name_size, inputs_at, bytes_at, name_at, decode, is_malformed}
use Rattle.netlist.specs.Names.{is_name_byte, is_letter, is_digit, is_underscore}
use Rattle.netlist.specs.Syntax.{Pair, print_pair, is_legal_pair, print_lines}
use Rattle.netlist.specs.SetLine.{print_set_line, is_legal_set_line}
use Rattle.netlist.specs.Bench.{given_values}
use Rattle.text_names.specs.Packed.{packed, name_front}
use Rattle.theory_fixpoint.proofs.Values.{code-le}
use Rattle.text_names.specs.Search.{index_of}
use Rattle.graph_simulation.specs.Rounded.{Bytes}
use Rattle.text_pairs.specs.PairBytes.{given_code, input_code}
use Rattle.text_pairs.specs.Tables.{PairsAt, PairRoom, PairsTabled, InputsAre}
use Rattle.text_pairs.proofs.PairPlaces.{count-is}
use Rattle.text_pairs.proofs.TableLaws.{taken, setting-given, plain-bytes}
use Rattle.bench_set_line.specs.Tables.{pairs_at, SetLineOf, input_key, LineFor, InForm, TablesFor}
use Rattle.bench_set_line.specs.declared.LineTables.{LineTables}

module _ {n : ℕ} {ps : List Pair} {line : List ℕ} (is : SetLineOf n ps line) where
  pub pairs-legal : all is_legal_pair ps ≡ true
  unfolding is_legal_set_line
  pairs-legal = and_right (leb (length ps) n) (all is_legal_pair ps) is.legal

  pub pairs-few : length ps ≤ n
  unfolding is_legal_set_line
  pairs-few = leb-true (length ps) n (and_left (leb (length ps) n) (all is_legal_pair ps) is.legal)

  -- behind the word
  pub pairs-at : PairsAt pairs_at ps line
  unfolding print_set_line
  pairs-at =
      record {
        legal = pairs-legal;
        rest = [];
        stand = rw (← is.printed)
            (ap (print_lines print_pair ps) (sym (append-nil (ascii ")\n"))));
      }

  -- the word stands in the line
  pub line-inside : pairs_at ≤ length line
  unfolding print_set_line
  line-inside = rw (← is.printed) (omega arith)

-- ---- the inputs' table

no_zero : is_name_byte 0 ≡ false
unfolding is_name_byte is_letter is_digit is_underscore
no_zero = refl

-- the front of a name's bytes is the name without the zeros behind it
front-trimmed : (most : ℕ) (xs : List ℕ) → length xs ≤ most → all is_name_byte (trimmed xs) ≡ true
    → name_front most xs ≡ trimmed xs
unfolding name_front
front-trimmed zero [] l h = refl
front-trimmed zero (x ∷ xs) l h = absurd (omega arith)
front-trimmed (suc most) [] l h = refl
front-trimmed (suc most) (x ∷ xs) l h =
    go x (trimmed xs) h (λ g. front-trimmed most xs (omega arith) g)
  where
    go : (x : ℕ) (t : List ℕ) → all is_name_byte (onto x t) ≡ true → (all is_name_byte t ≡ true → name_front most xs ≡ t)
        → cond (is_name_byte x) (x ∷ name_front most xs) [] ≡ onto x t
    go zero [] h f = rw no_zero
    go (suc x) [] h f =
        let z : eqb (suc x) 0 ≡ false = ne_eqb (suc x) 0 (λ q. omega arith) in
        let g : is_name_byte (suc x) && true ≡ true = rw z at h in
        rw (z, and_left (is_name_byte (suc x)) true g, f refl)
    go x (y ∷ t) h f =
        let both = and_right (is_name_byte x) (is_name_byte y && all is_name_byte t) h in
        rw (and_left (is_name_byte x) (is_name_byte y && all is_name_byte t) h, f both)

module _ (ws : List ℕ) (whole : is_malformed ws ≡ false) where
  well : WellFormed (decode ws)
  well = well_formed-parts (decode ws) (intact-well_formed ws (whole-intact ws whole))

  pub inputs-few : get_or ws 0 0 ≤ max_inputs
  inputs-few = rw (decode-input_count ws) at well.few_inputs

  key-is : (i : ℕ) → i < get_or ws 0 0 → input_key ws i ≡ packed (get_or (decode ws).inputs i [])
  unfolding input_key name_at bytes_at
  key-is i l =
      let at = inputs_at + name_size * i in
      let b = all-at (all is_name_byte) (decode ws).inputs i [] (plain-bytes (decode ws).inputs well.input_names)
      (rw (decode-input_count ws) l) in
      let g : all is_name_byte (trimmed (bytes_at ws at)) ≡ true = rw (decode-input ws i [] l) at b in
      ap packed (front-trimmed 8 (bytes_at ws at) (omega arith) g) ∙ ap packed (sym (decode-input ws i [] l))

  pub inputs-filled : (inputs₀ : List ℕ) {inputs : List ℕ} → inputs ≡ placed (tab (input_key ws) (get_or ws 0 0)) inputs₀
      → InputsAre (decode ws).inputs (get_or ws 0 0) inputs
  inputs-filled inputs₀ e = record {
    counted = decode-input_count ws;
    bytes = plain-bytes (decode ws).inputs well.input_names;
    numbers = rw e (taken (input_key ws) (get_or ws 0 0) inputs₀ ∙ keys-are);
  }
    where
      keys-are : tab (input_key ws) (get_or ws 0 0) ≡ map packed (decode ws).inputs
      keys-are =
          let size : length (map packed (decode ws).inputs) ≡ get_or ws 0 0 =
          length-map (decode ws).inputs packed ∙ decode-input_count ws in
          ap (tab (input_key ws)) (sym size) ∙ tab-is (input_key ws) (map packed (decode ws).inputs) 0 (λ i h.
          let l : i < get_or ws 0 0 = rw size at h in
          key-is i l ∙ sym (get_d_map packed (decode ws).inputs i [] 0 (rw (decode-input_count ws) l)))

-- by the count that the code read
pub inputs-counted : {known : List Name} {n m : ℕ} {inputs : List ℕ} → m ≡ n → InputsAre known n inputs
    → InputsAre known m inputs
inputs-counted e i = rw e i

-- what the inputs are given
pub line-setting : {ws : List ℕ} {ps : List Pair} {t : LineTables} → TablesFor ws ps t → {n : ℕ} (setting₀ : List ℕ)
    {setting : List ℕ} → n ≡ get_or ws 0 0
    → setting ≡ placed (tab (input_code t.names t.codes t.count t.inputs) n) setting₀
    → map value_of (take n setting) ≡ given_values (decode ws) ps
unfolding given_values
line-setting t setting₀ e f = setting-given t.legal t.tabled (inputs-counted e t.inputs_are) setting₀ f

-- the tables that `fill_tables` fills
pub tables-for : {ws : List ℕ} {ps : List Pair} {line : List ℕ} → LineFor ws ps line
    → {names places codes : List ℕ} {count n : ℕ} (inputs₀ : List ℕ) {inputs : List ℕ}
    → PairsTabled ps pairs_at count names places codes → n ≡ get_or ws 0 0 → inputs ≡ placed (tab (input_key ws) n) inputs₀
    → TablesFor ws ps (record { names = names; places = places; codes = codes; count = count; inputs = inputs })
tables-for {ws} {ps} {line} f {names} {places} {codes} {count} {n} inputs₀ {inputs} t e g = record {
  whole = f.whole;
  few = omega (arith, t.counted, pairs-few f.is, inputs-few ws f.whole);
  legal = pairs-legal f.is;
  tabled = t;
  inputs_are = inputs-filled ws f.whole inputs₀ (rw e at g);
}

pub pair-room : {ws line names places codes : List ℕ} → InForm ws line → max_inputs ≤ length names
    → max_inputs ≤ length places
    → max_inputs ≤ length codes
    → PairRoom line pairs_at names places codes
pair-room {ws} {line} f name_room place_room code_room =
    let n = inputs-few ws f.for.whole in
    let k = pairs-few f.for.is in
    let c = count-is (pairs-at f.for.is) in
    record {
      inside = line-inside f.for.is;
      near = omega arith;
      few = omega (arith, n, k, c);
      name_room = omega (arith, n, k, c, name_room);
      place_room = omega (arith, n, k, c, place_room);
      code_room = omega (arith, n, k, c, code_room);
    }

-- ---- the bytes of the setting that a line gives

code-bounded : (ps : List Pair) (i : ℕ) → get_or (map (λ (p : Pair). code (val p.value)) ps) i 0 ≤ 2
code-bounded [] i = omega arith
code-bounded (p ∷ ps) zero = code-le (val p.value)
code-bounded (p ∷ ps) (suc i) = code-bounded ps i

given-most : {ps : List Pair} {at count : ℕ} {names places codes : List ℕ} → PairsTabled ps at count names places codes
    → (name : ℕ)
    → given_code names codes count name ≤ 2
unfolding given_code
given-most {ps} {at} {count} {names} {places} {codes} t name =
    ⊎_elim there past (lt-or-le (index_of names count name) count)
  where
    i : ℕ
    i = index_of names count name

    there : i < count → cond (ltb i count) (get_or codes i 0) 2 ≤ 2
    there l =
        let few : i < length ps = omega (arith, t.counted) in
        let is : get_or codes i 0 ≡ get_or (map (λ (p : Pair). code (val p.value)) ps) i 0 =
        sym (get_or-take (length ps) codes i 0 few) ∙ ap (λ (s : List ℕ). get_or s i 0) t.codes_are.values in
        rw (lt-ltb i count l, is) (code-bounded ps i)

    past : count ≤ i → cond (ltb i count) (get_or codes i 0) 2 ≤ 2
    past l = rw (le-ltb i count l) (omega arith)

pub line-bytes : {ws : List ℕ} {ps : List Pair} {t : LineTables} → TablesFor ws ps t → {n : ℕ} (setting₀ : List ℕ)
    {setting : List ℕ} → n ≡ get_or ws 0 0
    → setting ≡ placed (tab (input_code t.names t.codes t.count t.inputs) n) setting₀
    → Bytes (take n setting)
unfolding input_code
line-bytes {ws} {ps} {t} f {n} setting₀ {setting} e g =
    let f' = input_code t.names t.codes t.count t.inputs in
    let is : take n setting ≡ tab f' n = ap (take n) g ∙ taken f' n setting₀ in
    rw is
    (record {
      few = rw (length-tab f' n) (omega (arith, inputs-few ws f.whole));
      most = λ i. ⊎_elim
          (λ l. rw (get_d-tab f' n i 0 l) (given-most f.tabled (get_or t.inputs i 0)))
          (λ l. let long : length (tab f' n) ≤ i = rw (length-tab f' n) l in rw (get_or-eq_default (tab f' n) 0 long)
          (omega arith))
          (lt-or-le i n);
    })
