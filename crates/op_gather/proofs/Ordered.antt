-- What is written is the definition's block: with the list by groups and the places in it Gather's, with the places in
-- a list and the list Scatter's.
-- Cited by `steps`. Assumes nothing.
--   listed-by-group                       what `list_groups` leaves is the list by groups
-- gathered-orders, gathered-written     that list and its places are in order, and what is written by them is the
-- gathered block
--   scattered-orders, scattered-written   the same of the places in a list that is each number once, and the list
use Prim.Native.Nat.{ℕ, ◌≤◌, ◌<◌}
use mathlib.Core.Path.{◌≡◌, sym, ap, ◌∙◌}
use mathlib.Core.Bool.{Bool, true, false}
use mathlib.Core.List.{List}
use native.Mathlib.Omega.{arith}
use lib.ListN.{length, get_or, take}
use lib.Seq.{ext_get_or, get_or-take, length-take-le}
use Rattle.prelude.specs.Lists.{placed}
use Rattle.prelude.proofs.Slices.{take-placed, placed-room}
use Rattle.netlist.specs.Netlist.{gate_count}
use Rattle.netlist.specs.StoredBlock.{encode, decode, is_malformed, is_well_formed}
use Rattle.netlist.specs.Gather.{arranged, number_at, place_in, gathered_order, gathered, gathered_words, is_permutation}
use Rattle.netlist.specs.Gather.{inverse, scattered}
use Rattle.theory_encoding.proofs.Decoded.{decode-gate_count}
use Rattle.theory_encoding.proofs.RoundTrip.{whole-well_formed}
use Rattle.unroll_order.specs.Listing.{members_of, Numbers, GatesAppended}
use Rattle.unroll_order.proofs.Listing.{front}
use Rattle.unroll_order.proofs.Blocks.{members-groups}
use Rattle.unroll_emission.specs.Words.{Order}
use Rattle.theory_permutation.specs.Renumbering.{Renumbers}
use Rattle.theory_permutation.proofs.Permutation.{place-renumbers, inverse-at, inverse-renumbers}
use Rattle.theory_permutation.proofs.Arranged.{arranged-ext}
use Rattle.theory_permutation.proofs.Gathered.{gathered-permutation}
use Rattle.theory_permutation.proofs.Words.{gathered-listed}
use Rattle.op_gather.specs.Places.{Places}
use Rattle.op_gather.proofs.Written.{ordered-as}
use Rattle.op_gather.specs.Arranging.{arrangement}

module _ (ws : List ℕ) (whole : is_malformed ws ≡ false) (m : ℕ) (gates_are : m ≡ get_or ws 1 0) where
  fits : is_well_formed (decode ws) ≡ true
  fits = whole-well_formed ws whole

  counted : gate_count (decode ws) ≡ m
  counted = decode-gate_count ws ∙ sym gates_are

  -- ---- out

  pub listed-length : length (gathered_order (decode ws)) ≡ m
  listed-length = gathered-listed ws whole ∙ counted

  members-are : {count : ℕ} {numbers : List ℕ} → Numbers (decode ws) m count numbers
      → members_of numbers m count ≡ gathered_order (decode ws)
  unfolding gathered_order
  members-are s = members-groups s

  pub members-room : {count : ℕ} {numbers : List ℕ} → Numbers (decode ws) m count numbers
      → length (members_of numbers m count) ≡ m
  members-room s = rw (members-are s) listed-length

  pub listed-by-group : {count : ℕ} {numbers entry order : List ℕ} {at : ℕ} → Numbers (decode ws) m count numbers
      → GatesAppended (members_of numbers m count) entry 0 order at → m ≤ length entry
      → order ≡ placed (gathered_order (decode ws)) entry
  listed-by-group s a room = rw (← members-are s) (front a (rw (members-room s) room))

  by-group : Renumbers m (gathered_order (decode ws)) (place_in (gathered_order (decode ws)))
  by-group = place-renumbers m (gathered_order (decode ws)) (rw counted at (gathered-permutation (decode ws) fits))

  module _ (order entry places : List ℕ) {r : Bool} (is : order ≡ placed (gathered_order (decode ws)) entry)
      (found : Places m (take m order) r places) (room : m ≤ length places) where
    taken : take m order ≡ gathered_order (decode ws)
    taken = rw is (take-placed (gathered_order (decode ws)) entry m listed-length)

    stand : (j : ℕ) → j < m → get_or places j 0 ≡ place_in (gathered_order (decode ws)) j
    stand j l = rw taken at (found.stand (rw (taken, ← counted) (gathered-permutation (decode ws) fits)) j l)

    pub gathered-orders : Order (get_or ws 1 0) (get_or ws 1 0) order × Order (get_or ws 1 0) (get_or ws 1 0) places
    unfolding number_at
    gathered-orders = (
      ordered-as (sym gates_are)
          (record {
            listed = rw is (placed-room (gathered_order (decode ws)) entry listed-length);
            inside = λ t l. rw (← get_or-take m order t 0 l, taken) (by-group.old_below t l);
          }),
      ordered-as (sym gates_are) (record { listed = room; inside = λ j l. rw (stand j l) (by-group.new_below j l) }),
    )

    gathered-arrangement : arrangement ws order places ≡ gathered (decode ws)
    unfolding arrangement gathered number_at
    gathered-arrangement =
        rw (← gates_are, taken)
        (arranged-ext (decode ws) fits (gathered_order (decode ws)) (number_at places)
        (place_in (gathered_order (decode ws)))
        (λ t l. rw counted (by-group.old_below t (rw (← listed-length) l))) agree)
      where
        agree : (j : ℕ) → j < gate_count (decode ws) → number_at places j ≡ place_in (gathered_order (decode ws)) j
        agree j l = stand j (rw (← counted) l)

    pub gathered-written : (entry' exit : List ℕ) → exit ≡ placed (encode (arrangement ws order places)) entry'
        → exit ≡ placed (gathered_words (decode ws)) entry'
    unfolding gathered_words
    gathered-written entry' exit e = rw (← gathered-arrangement) e

  -- ---- back

  module _ (order places : List ℕ) {r : Bool} (found : Places m order r places) (passes : is_permutation m order ≡ true)
      (room : m ≤ length places) where
    back : Renumbers m (inverse order) (number_at order)
    back = inverse-renumbers m order passes

    pub scattered-orders : Order (get_or ws 1 0) (get_or ws 1 0) places × Order (get_or ws 1 0) (get_or ws 1 0) order
    unfolding number_at
    scattered-orders =
        let out = place-renumbers m order passes in (
          ordered-as (sym gates_are) (record {
            listed = room;
            inside = λ j l. rw (found.stand passes j l)
                (out.new_below j l);
          }),
          ordered-as (sym gates_are) (record { listed = omega (arith, out.length_is); inside = out.old_below }),
        )

    scattered-arrangement : arrangement ws places order ≡ scattered order (decode ws)
    unfolding arrangement scattered number_at
    scattered-arrangement =
        rw (← gates_are)
        (ap (λ (xs : List ℕ). arranged xs (number_at order) (decode ws))
        (ext_get_or 0 (take m places) (inverse order) (length-take-le m places room ∙ sym back.length_is)
        (λ j l. let l' : j < m = rw (length-take-le m places room) at l in
        get_or-take m places j 0 l' ∙ found.stand passes j l' ∙ sym (inverse-at m order passes j l'))))

    pub scattered-written : (entry exit : List ℕ) → exit ≡ placed (encode (arrangement ws places order)) entry
        → exit ≡ placed (encode (scattered order (decode ws))) entry
    scattered-written entry exit e = rw (← scattered-arrangement) e
