-- Pairs by the table of their names' numbers: where each stands and what it gives, read from the bytes, are the pairs'
-- own. Assumes nothing.
--   place-far: no place is far behind the first
--   numbers-named: what `fill_numbers` leaves
--   found-place, PlacesHere: the places, in a text of which the line is a part
--   codes-here: the values
use Prim.Native.Nat.{ℕ, zero, suc, ◌+◌, ◌*◌, ◌≤◌, ◌<◌}
use mathlib.Core.Path.{◌≡◌, refl, sym, ap, ◌∙◌}
use mathlib.Core.List.{List, [], ◌∷◌, map}
use native.Mathlib.Omega.{arith}
use lib.ListN.{length, get_or, length-map}
use lib.Seq.{take_all}
use Rattle.prelude.specs.Lists.{tab, placed}
use Rattle.prelude.proofs.Tab.{length-tab, get_d-tab, map-tab}
use Rattle.theory_encoding.proofs.ListFacts.{tab-is, get_d_map}
use Rattle.netlist.specs.Values.{code, val}
use Rattle.netlist.specs.Syntax.{Pair, print_pair}
use Rattle.netlist.specs.Reading.{mentions, pair_mention}
use Rattle.text_names.specs.Packed.{packed}
use Rattle.text_pairs.specs.PairBytes.{pair_place, pair_number, pair_code, pair_codes}
use Rattle.text_pairs.specs.Tables.{PairsAt, NamesAre, PlacesAre, CodesAre}
use Rattle.text_pairs.proofs.PairPlaces.{no_pair, places_from, places-are, each-legal, stands_at, number-stands}
use Rattle.text_pairs.proofs.PairPlaces.{code-stands, here-short}
use Rattle.text_pairs.proofs.TableLaws.{taken}

pub place-far : (s : List ℕ) (at i : ℕ) → pair_place s at i ≤ at + 2 + 13 * i
unfolding pair_place
place-far s at zero = omega arith
place-far s at (suc i) = let h = place-far s at i in omega (arith, here-short s (pair_place s at i))

-- ---- the pairs' own

-- the places of names behind so many bytes
places_behind : (ps : List Pair) (base at at' : ℕ) → at' ≡ base + at
    → places_from ps at' ≡ map (λ k. base + k) (places_from ps at)
unfolding mentions pair_mention
places_behind [] base at at' e = refl
places_behind (p ∷ ps) base at at' e =
    let k = length (print_pair p []) in
    let h : at' + 2 ≡ base + (at + 2) = omega arith in
    rw (h, places_behind ps base (at + k) (at' + k) (omega arith))

module _ {at : ℕ} {ps : List Pair} {s : List ℕ} (is : PairsAt at ps s) where
  numbers-are : tab (pair_number s at) (length ps) ≡ map (λ (p : Pair). packed p.name) ps
  unfolding pair_number
  numbers-are =
      let size = length-map ps (λ (p : Pair). packed p.name) in
      ap (tab (pair_number s at)) (sym size) ∙ tab-is (pair_number s at) (map (λ (p : Pair). packed p.name) ps) 0
      (λ i h.
      let l : i < length ps = rw size at h in
      number-stands s (pair_place s at i) (get_or ps i no_pair) (each-legal is i l) (stands_at is i l)
      ∙ sym (get_d_map (λ (p : Pair). packed p.name) ps i no_pair 0 l))

  codes-are : tab (pair_code s at) (length ps) ≡ map (λ (p : Pair). code (val p.value)) ps
  unfolding pair_code
  codes-are =
      let size = length-map ps (λ (p : Pair). code (val p.value)) in
      ap (tab (pair_code s at)) (sym size) ∙ tab-is (pair_code s at) (map (λ (p : Pair). code (val p.value)) ps) 0
      (λ i h.
      let l : i < length ps = rw size at h in
      code-stands s (pair_place s at i) (get_or ps i no_pair) (each-legal is i l) (stands_at is i l)
      ∙ sym (get_d_map (λ (p : Pair). code (val p.value)) ps i no_pair 0 l))

  pub numbers-named : (count : ℕ) (names₀ : List ℕ) {names : List ℕ} → count ≡ length ps
      → names ≡ placed (tab (pair_number s at) count) names₀ → NamesAre ps names
  numbers-named count names₀ e f =
      record { numbers = rw (f, e) (taken (pair_number s at) (length ps) names₀ ∙ numbers-are) }

  -- the values
  pub codes-here : CodesAre ps (pair_codes s at (length ps))
  unfolding pair_codes
  codes-here =
      record { values = take_all (length ps) _ (omega (arith, length-tab (pair_code s at) (length ps))) ∙ codes-are }

  -- the places, behind so many bytes
  module _ (base : ℕ) where
    abbrev pub places_here : List ℕ
    places_here = tab (λ i. base + pair_place s at i) (length ps)

    pub places-here : PlacesAre ps (base + at) places_here
    places-here = record {
      stand =
          take_all (length ps) _ (omega (arith, length-tab (λ i. base + pair_place s at i) (length ps)))
          ∙ sym (map-tab (λ k. base + k) (pair_place s at) (length ps)) ∙ ap (map (λ k. base + k)) (places-are is)
          ∙ sym (places_behind ps base at (base + at) refl);
    }

    pub place_here : (i : ℕ) → i < length ps → base + pair_place s at i ≡ get_or places_here i 0
    place_here i l = sym (get_d-tab (λ i. base + pair_place s at i) (length ps) i 0 l)
