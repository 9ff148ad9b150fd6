-- Gather and Scatter on stored words: what is written is a block, back after out gives every word, and Verdict and
-- Cover answer the same. The operations are those of netlist/specs.
--   gathered-whole, scattered-whole         what is made is not malformed
--   gathered-length, scattered-length       it has as many words; gathered-listed: the list has a word for each gate
--   gathered-verdict, scattered-verdict     Verdict of it is that of the words
--   gathered-cover_of, scattered-cover_of     and so is Cover
--   gather-scatter                          Scatter of what Gather leaves in its slices gives the words back
--   straight-words                          a straight block keeps its words
-- Assumes nothing.
use Prim.Native.Nat.{ℕ, ◌+◌, ◌*◌, ◌≤◌}
use mathlib.Core.Path.{◌≡◌, refl, ap, ap₂, ◌∙◌}
use mathlib.Core.Bool.{true, false}
use mathlib.Core.List.{List}
use lib.ListN.{length}
use borrow.Author.Tests.{le-ltb}
use Rattle.netlist.specs.Netlist.{Block, gate_count, output_count}
use Rattle.netlist.specs.StoredBlock.{outputs_at, output_size, encode, decode, is_malformed, is_well_formed}
use Rattle.netlist.specs.Rendering.{is_straight}
use Rattle.netlist.specs.Cover.{cover_entries}
use Rattle.netlist.specs.Answers.{done, refuse_if, in_room}
use Rattle.netlist.specs.Operations.{counted, verdict, cover_block, cover_of}
use Rattle.netlist.specs.Gather.{arranged, gathered_order, gathered, gathered_words, is_permutation, inverse, number_at}
use Rattle.netlist.specs.Gather.{place_in, scattered, scatter}
use Rattle.theory_encoding.proofs.Encoded.{length-encode}
use Rattle.theory_encoding.proofs.RoundTrip.{decode-encode, whole-encode, whole-well_formed, encode-whole}
use Rattle.theory_permutation.specs.Renumbering.{Renumbers}
use Rattle.theory_permutation.proofs.Arranged.{arranged-well_formed, arranged-inputs, arranged-nevers}
use Rattle.theory_permutation.proofs.Arranged.{arranged-count, arranged-output_count}
use Rattle.theory_permutation.proofs.Values.{settled_settings-kept, lowest_unsettled-kept, cover-kept}
use Rattle.theory_permutation.proofs.Gathered.{back, by-group, gathered-permutation, gathered-count}
use Rattle.theory_permutation.proofs.Gathered.{gathered-back, straight-gathered}

-- a block of the same counts has as many words
pub arranged-length : (order : List ℕ) (number : ℕ → ℕ) (b : Block) → length order ≡ gate_count b
    → length (encode (arranged order number b)) ≡ length (encode b)
arranged-length order number b long =
    rw (
      length-encode (arranged order number b),
      length-encode b,
      arranged-count order number b,
      long,
      arranged-output_count order number b,
    )
    (ap₂ (λ (n l : ℕ). outputs_at n l (gate_count b) + output_size * output_count b)
    (ap {B = ℕ} length (arranged-inputs order number b))
    (ap {B = ℕ} length (arranged-nevers order number b)))

module _ (ws : List ℕ) (whole : is_malformed ws ≡ false) where
  fits : is_well_formed (decode ws) ≡ true
  fits = whole-well_formed ws whole

  -- ---- gates in any order

  module _ (order : List ℕ) (number : ℕ → ℕ) (r : Renumbers (gate_count (decode ws)) order number) where
    made-whole : is_malformed (encode (arranged order number (decode ws))) ≡ false
    made-whole = encode-whole (arranged order number (decode ws)) (arranged-well_formed (decode ws) fits order number r)

    made-decode : decode (encode (arranged order number (decode ws))) ≡ arranged order number (decode ws)
    made-decode =
        decode-encode (arranged order number (decode ws)) (arranged-well_formed (decode ws) fits order number r)

    made-length : length (encode (arranged order number (decode ws))) ≡ length ws
    made-length = arranged-length order number (decode ws) r.length_is ∙ ap {B = ℕ} length (whole-encode ws whole)

    made-verdict : verdict (encode (arranged order number (decode ws))) ≡ verdict ws
    unfolding verdict
    made-verdict =
        rw (
          made-whole,
          whole,
          made-decode,
          settled_settings-kept (decode ws) fits order number r,
          lowest_unsettled-kept (decode ws) fits order number r,
        )
        refl

    made-cover_of : (room : ℕ) → cover_of (encode (arranged order number (decode ws))) room ≡ cover_of ws room
    unfolding cover_of cover_block cover_entries
    made-cover_of room = rw (made-whole, whole, made-decode, cover-kept (decode ws) fits order number r) refl

  -- ---- out, by groups

  grouped : Renumbers (gate_count (decode ws)) (gathered_order (decode ws)) (place_in (gathered_order (decode ws)))
  grouped = by-group (decode ws) fits

  pub gathered-whole : is_malformed (gathered_words (decode ws)) ≡ false
  unfolding gathered_words gathered
  gathered-whole = made-whole _ _ grouped

  gathered-decode : decode (gathered_words (decode ws)) ≡ gathered (decode ws)
  unfolding gathered_words gathered
  gathered-decode = made-decode _ _ grouped

  pub gathered-listed : length (gathered_order (decode ws)) ≡ gate_count (decode ws)
  gathered-listed = grouped.length_is

  pub gathered-length : length (gathered_words (decode ws)) ≡ length ws
  unfolding gathered_words gathered
  gathered-length = made-length _ _ grouped

  pub gathered-verdict : verdict (gathered_words (decode ws)) ≡ verdict ws
  unfolding gathered_words gathered
  gathered-verdict = made-verdict _ _ grouped

  pub gathered-cover_of : (room : ℕ) → cover_of (gathered_words (decode ws)) room ≡ cover_of ws room
  unfolding gathered_words gathered
  gathered-cover_of = made-cover_of _ _ grouped

  -- a straight block keeps its words
  pub straight-words : is_straight (decode ws) ≡ true → gathered_words (decode ws) ≡ ws
  unfolding gathered_words
  straight-words straight = rw (straight-gathered (decode ws) fits straight) (whole-encode ws whole)

  -- ---- back

  -- Scatter of the gathered words and their list gives the words themselves, all of them
  pub gather-scatter : (room : ℕ) → length ws ≤ room
      → scatter (gathered_words (decode ws)) (gathered_order (decode ws)) room ≡ done ws (length ws) 0
  unfolding scatter refuse_if in_room counted
  gather-scatter room l =
      rw (
        gathered-whole,
        gathered-decode,
        gathered-count (decode ws) fits,
        gathered-permutation (decode ws) fits,
        gathered-back (decode ws) fits,
        whole-encode ws whole,
        le-ltb room (length ws) l,
      )
      refl

  module _ (order : List ℕ) (h : is_permutation (gate_count (decode ws)) order ≡ true) where
    listed : Renumbers (gate_count (decode ws)) (inverse order) (number_at order)
    listed = back (decode ws) fits order h

    pub scattered-whole : is_malformed (encode (scattered order (decode ws))) ≡ false
    unfolding scattered
    scattered-whole = made-whole _ _ listed

    pub scattered-length : length (encode (scattered order (decode ws))) ≡ length ws
    unfolding scattered
    scattered-length = made-length _ _ listed

    pub scattered-verdict : verdict (encode (scattered order (decode ws))) ≡ verdict ws
    unfolding scattered
    scattered-verdict = made-verdict _ _ listed

    pub scattered-cover_of : (room : ℕ) → cover_of (encode (scattered order (decode ws))) room ≡ cover_of ws room
    unfolding scattered
    scattered-cover_of = made-cover_of _ _ listed
