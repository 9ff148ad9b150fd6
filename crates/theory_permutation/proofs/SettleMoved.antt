-- Settle on gathered words (specs/Moved.antt): what is gathered is a block with the same inputs, and its settled values
-- are the moved ones, after as many rounds. Assumes nothing.
use Prim.Native.Nat.{ℕ}
use mathlib.Core.Path.{◌≡◌, refl, sym, ap, ◌∙◌}
use mathlib.Core.Bool.{Bool, true, false}
use mathlib.Core.List.{List, map, map-map}
use lib.Dec.{ltb}
use lib.ListN.{length, get_or, length-map, get_or-map}
use Rattle.netlist.specs.declared.Refusal.TheVariants.{BadSetting, NoRoom}
use Rattle.netlist.specs.Values.{Value, undefined, code, value_of}
use Rattle.netlist.specs.Netlist.{Block, input_count, gate_count}
use Rattle.netlist.specs.StoredBlock.{encode, decode, is_malformed, is_well_formed}
use Rattle.netlist.specs.Rounds.{rounds, settled}
use Rattle.netlist.specs.Answers.{Outcome, done, refused, refuse_if, in_room}
use Rattle.netlist.specs.Operations.{is_bad_setting, settle_block, settle}
use Rattle.netlist.specs.Gather.{arranged, gathered_order, gathered, gathered_words, place_in}
use Rattle.theory_encoding.proofs.RoundTrip.{decode-encode, whole-well_formed, encode-whole}
use Rattle.theory_reach.proofs.ListFacts.{map_same}
use Rattle.theory_permutation.specs.Renumbering.{Renumbers}
use Rattle.theory_fixpoint.proofs.Rounds.{length-settled}
use Rattle.theory_permutation.specs.Moved.{in_list_order, SettleMoves}
use Rattle.theory_permutation.proofs.Arranged.{arranged-inputs, arranged-well_formed}
use Rattle.theory_permutation.proofs.Values.{moved, rounds-kept, settled-moved}
use Rattle.theory_permutation.proofs.Gathered.{by-group}

-- codes at listed places are the codes of the values there; past the end both are 2
code-at : (vs : List Value) (j : ℕ) → get_or (map code vs) j 2 ≡ code (get_or vs j undefined)
unfolding code
code-at vs j = get_or-map code vs j undefined

moved-codes : (order : List ℕ) (vs : List Value) → map code (moved order vs) ≡ map (λ j. get_or (map code vs) j 2) order
unfolding moved
moved-codes order vs = map-map code (λ j. get_or vs j undefined) order
    ∙ map_same _ _ order 0 (λ i l. sym (code-at vs (get_or order i 0)))

-- a refusal stays one, and a result of as many values as are listed has the same room
list-answer : (order values : List ℕ) (count room : ℕ) (bad : Bool) → length values ≡ length order
    → in_room room (refuse_if bad BadSetting (done (map (λ j. get_or values j 2) order) count 0))
    ≡ in_list_order order (in_room room (refuse_if bad BadSetting (done values count 0)))
unfolding in_room refuse_if in_list_order
list-answer order values count room true e = refl
list-answer order values count room false e =
    rw (length-map order (λ j. get_or values j 2), e) (go (ltb room (length order)))
  where
    go : (b : Bool) → refuse_if b NoRoom (done (map (λ j. get_or values j 2) order) count 0)
        ≡ in_list_order order (refuse_if b NoRoom (done values count 0))
    go true = refl
    go false = refl

pub settle-moved : (ws : List ℕ) → is_malformed ws ≡ false → SettleMoves ws
unfolding settle settle_block is_bad_setting gathered_words gathered refuse_if
settle-moved ws whole setting room =
    rw (
      encode-whole c fits',
      whole,
      decode-encode c fits',
      settled-moved b fits order (place_in order) r x,
      rounds-kept b fits order (place_in order) r x,
      inputs,
      moved-codes order (settled b x),
    )
    (list-answer order (map code (settled b x)) (rounds b x) room (is_bad_setting b setting)
    (length-map (settled b x) code ∙ length-settled b x ∙ sym r.length_is))
  where
    b : Block
    b = decode ws

    order : List ℕ
    order = gathered_order b

    c : Block
    c = arranged order (place_in order) b

    x : List Value
    x = map value_of setting

    fits : is_well_formed b ≡ true
    fits = whole-well_formed ws whole

    r : Renumbers (gate_count b) order (place_in order)
    r = by-group b fits

    fits' : is_well_formed c ≡ true
    fits' = arranged-well_formed b fits order (place_in order) r

    inputs : c.inputs ≡ b.inputs
    inputs = arranged-inputs order (place_in order) b
