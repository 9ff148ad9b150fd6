-- One never line, read from the rest of its text: what its table of numbers holds, and what it tells. Assumes nothing.
--   pairs-at, count_of: its pairs, and how many they are
--   few-pairs, given, named: their table
--   given_is, line-says: what they give the inputs, and what all tells
use Prim.Native.Nat.{ℕ, ◌+◌, ◌≤◌}
use mathlib.Core.Path.{◌≡◌, sym, ap, ◌∙◌}
use mathlib.Core.List.{List, [], map}
use native.Mathlib.Omega.{arith}
use lib.ListN.{length, take, drop}
use lib.Seq.{length-take-le}
use Rattle.prelude.specs.Lists.{tab, placed}
use Rattle.prelude.proofs.Slices.{length-placed}
use Rattle.prelude.proofs.Tab.{length-tab}
use Rattle.netlist.specs.declared.Refusal.TheVariants.{DuplicateDeclaration, UndeclaredName}
use Rattle.words_refusals.specs.Tests.{Test}
use Rattle.words_refusals.specs.Tests.{test_at}
use Rattle.netlist.specs.Values.{value_of}
use Rattle.netlist.specs.Netlist.{Name}
use Rattle.netlist.specs.Syntax.{Pair}
use Rattle.netlist.specs.Reading.{never_mentions, first_repeat, first_outside, given_value}
use Rattle.words_layout.specs.Masks.{masks_of}
use Rattle.words_layout.specs.declared.value_masks.Masks.{Masks}
use Rattle.text_names.specs.Index.{max_pairs}
use Rattle.text_lines.specs.Lines.{line_opens}
use Rattle.text_pairs.specs.PairBytes.{pair_number, pair_codes, input_code}
use Rattle.text_pairs.specs.Tables.{PairsAt, pair_mentions, NamesAre, InputsAre}
use Rattle.text_pairs.proofs.GivenValues.{values-given}
use Rattle.text_pairs.proofs.NumberLaws.{numbers-named, codes-here}
use Rattle.text_pairs.proofs.PairPlaces.{count-is}
use Rattle.text_pairs.proofs.TableLaws.{taken, inputs-room, names-cut, inputs-cut}
use Rattle.text_constraints.specs.Places.{NeverAt}
use Rattle.text_constraints.specs.Ready.{LineReady, LineRead}
use Rattle.text_constraints.proofs.NeverText.{pairs-here, pairs-few}

module _ {s : List ℕ} {at : ℕ} {inputs : List ℕ} {n : ℕ} {names : List ℕ} (ready : LineReady s at inputs n names)
    {count : ℕ}
    (counted : count ≡ line_opens (drop 6 s)) where
  pub pairs-at : {ps : List Pair} → NeverAt 0 ps s → PairsAt 6 ps s
  pairs-at is = pairs-here is

  pub count_of : {ps : List Pair} → NeverAt 0 ps s → count ≡ length ps
  count_of is = counted ∙ count-is (pairs-at is)

  pub few-pairs : count ≤ max_pairs
  few-pairs = rw (count_of ready.is) (pairs-few ready.is ready.short)

  module _ {names' : List ℕ} (filled : names' ≡ placed (tab (pair_number s 6) count) names) where
    name-room : length names' ≡ max_pairs
    name-room =
        ap length filled ∙ length-placed (tab (pair_number s 6) count) names
        (omega (arith, length-tab (pair_number s 6) count, few-pairs, ready.name_room))
        ∙ ready.name_room

    -- the numbers of its pairs alone
    abbrev given : List ℕ
    given = take count names'

    given-long : length given ≡ count
    given-long = length-take-le count names' (omega (arith, few-pairs, name-room))

    given-count : {ps : List Pair} → NeverAt 0 ps s → length given ≡ length ps
    given-count is = given-long ∙ count_of is

    named : {ps : List Pair} → NeverAt 0 ps s → NamesAre ps given
    named is = names-cut (count_of is) given-long (numbers-named (pairs-at is) count names (count_of is) filled)

    -- what the pairs give the inputs
    given_is : {ps : List Pair} {known : List Name} → NeverAt 0 ps s → InputsAre known n inputs
        → (setting₀ : List ℕ) {setting : List ℕ}
        → setting ≡ placed (tab (input_code given (pair_codes s 6 (length given)) (length given) (take n inputs))
        (length (take n inputs))) setting₀
        → map value_of (take n setting) ≡ map (given_value ps) known
    given_is {ps} is are setting₀ {setting} e =
        let xs = take n inputs in
        ap (λ k. map value_of (take k setting)) (sym (length-take-le n inputs (inputs-room are)))
        ∙ rw (
          e,
          taken (input_code given (pair_codes s 6 (length given)) (length given) xs) (length xs) setting₀,
          given-count is,
        ) (values-given ps (pairs-at is).legal (named is) (codes-here (pairs-at is)) (inputs-cut are))

    module _ {repeat outside : Test} {masks : Masks}
        (repeated : (ps : List Pair) → PairsAt 6 ps s → length given ≡ length ps → NamesAre ps given
        → repeat ≡ test_at (first_repeat [] (pair_mentions ps (at + 6))) DuplicateDeclaration)
        (outer : (ps : List Pair) (known : List Name) → PairsAt 6 ps s → length given ≡ length ps → NamesAre ps given
        → InputsAre known (length (take n inputs)) (take n inputs)
        → outside ≡ test_at (first_outside known (pair_mentions ps (at + 6))) UndeclaredName)
        (setting₀ setting : List ℕ) (valued : setting
        ≡ placed (tab (input_code given (pair_codes s 6 (length given)) (length given) (take n inputs))
        (length (take n inputs))) setting₀)
        (masked : masks ≡ masks_of (map value_of (take n setting))) where
      pub line_read : LineRead s at inputs n names'
          (record { repeat = repeat; outside = outside; defined = masks.defined; ones = masks.ones })
      unfolding never_mentions
      line_read =
          record {
            name_room = name-room;
            says =
                λ ps known is are.
                let g = given_is is are setting₀ valued in
                let m : masks ≡ masks_of (map (given_value ps) known) = rw g at masked in
                record {
                  repeats = repeated ps (pairs-at is) (given-count is) (named is);
                  outsides = outer ps known (pairs-at is) (given-count is) (named is) (inputs-cut are);
                  defined = ap (λ (k : Masks). k.defined) m;
                  ones = ap (λ (k : Masks). k.ones) m;
                };
          }
