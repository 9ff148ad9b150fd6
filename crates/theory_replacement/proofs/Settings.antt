-- Values 0 and 1 are a setting, with their mask as its number.
--   setting-of-mask     the setting with that number is these values
--   shown-outputs       what a block shows under a setting, by its number
--   sound-accepted      a block that Compare accepts agrees with a sound one
--   allowed-agree       two blocks that agree under settings that may come agree under the nets' values that are one
-- Assumes nothing.
use Prim.Native.Nat.{ℕ, ◌<◌, ◌^◌}
use mathlib.Core.Path.{◌≡◌, refl, sym, ap, ◌∙◌}
use mathlib.Core.Bool.{true, false, cond, false≢true}
use mathlib.Core.List.{List}
use lib.ListN.{length, get_or, length-map}
use lib.Seq.{ext_get_or}
use lib.Dec.{eqb}
use Rattle.prelude.specs.Lists.{all}
use Rattle.prelude.proofs.Tab.{length-tab, get_d-tab}
use Rattle.prelude.proofs.Quantifiers.{all-at}
use Rattle.words_layout.proofs.Gathered.{mask_below}
use Rattle.theory_grammar.proofs.Masks.{mask-bit}
use Rattle.theory_unrolling.proofs.Sound.{sound-settled_at}
use Rattle.netlist.specs.Values.{Value, undefined, val, is_defined}
use Rattle.netlist.specs.Assignments.{bit, mask_of, is_one}
use Rattle.netlist.specs.Netlist.{Operand, Block, input_count, output_count}
use Rattle.netlist.specs.Rounds.{operand_value, settled, setting_of, setting_count, settled_under, output_value}
use Rattle.netlist.specs.Rounds.{outputs_under, is_counted}
use Rattle.theory_replacement.specs.Placing.{net_values, shown_under}
use Rattle.theory_replacement.specs.Claim.{AgreeWhereAllowed, AllowedAt, AcceptedAgrees}

pub setting-of-mask : (vs : List Value) (n : ℕ) → length vs ≡ n → all is_defined vs ≡ true
    → setting_of n (mask_of is_one vs) ≡ vs
unfolding setting_of is_one is_defined
setting-of-mask vs n e d =
    ext_get_or undefined (setting_of n (mask_of is_one vs)) vs (length-tab _ n ∙ sym e)
    (λ i l. let l' : i < n = rw (length-tab (λ i. val (eqb (bit (mask_of is_one vs) i) 1)) n) at l in
    get_d-tab (λ i. val (eqb (bit (mask_of is_one vs) i) 1)) n i undefined l'
    ∙ each i (rw e l'))
  where
    one : (v : Value) → is_defined v ≡ true → val (eqb (cond (is_one v) 1 0) 1) ≡ v
    one undefined h = absurd (false≢true h)
    one (val true) h = refl
    one (val false) h = refl

    each : (i : ℕ) → i < length vs → val (eqb (bit (mask_of is_one vs) i) 1) ≡ get_or vs i undefined
    each i l = rw (mask-bit is_one vs i l) (one (get_or vs i undefined) (all-at is_defined vs i undefined d l))

pub shown-outputs : (h : Block) (s : ℕ) → outputs_under h s ≡ shown_under h (setting_of (input_count h) s)
unfolding outputs_under shown_under settled_under
shown-outputs h s = refl

module _ (b : Block) (x : List Value) (nets : List Operand) where
  length-net_values : length (net_values b x nets) ≡ length nets
  unfolding net_values
  length-net_values = length-map nets (operand_value x (settled b x))

  -- what a block shows under the nets' values, where they are a setting
  shown-by-number : (h : Block) → input_count h ≡ length nets → all is_defined (net_values b x nets) ≡ true
      → outputs_under h (mask_of is_one (net_values b x nets)) ≡ shown_under h (net_values b x nets)
  shown-by-number h e d =
      shown-outputs h (mask_of is_one (net_values b x nets))
      ∙ ap (shown_under h) (setting-of-mask (net_values b x nets) (input_count h) (length-net_values ∙ sym e) d)

  pub allowed-agree : (own new : Block) → input_count own ≡ length nets → input_count new ≡ length nets
      → AgreeWhereAllowed own new
      → AllowedAt b x nets own → shown_under own (net_values b x nets) ≡ shown_under new (net_values b x nets)
  unfolding setting_count
  allowed-agree own new e f agree a =
      let l : mask_of is_one (net_values b x nets) < 2 ^ input_count own =
      rw (e, ← length-net_values) (mask_below is_one (net_values b x nets)) in
      sym (shown-by-number own e a.defined) ∙ agree _ l a.may_come ∙ shown-by-number new f a.defined

-- ---- what Compare answers

length-outputs_under : (h : Block) (s : ℕ) → length (outputs_under h s) ≡ output_count h
unfolding outputs_under
length-outputs_under h s = length-map h.outputs (output_value (setting_of (input_count h) s) (settled_under h s))

-- a block that is accepted agrees with a sound one under every setting that may come
pub sound-accepted : AcceptedAgrees
unfolding is_counted
sound-accepted own new sound outputs accepts s l may_come =
    let counts : is_counted own s ≡ true = rw may_come (sound-settled_at own sound s l may_come) in
    ext_get_or undefined (outputs_under own s) (outputs_under new s)
    (length-outputs_under own s ∙ outputs ∙ sym (length-outputs_under new s))
    (λ o k. accepts s l counts o (rw (length-outputs_under own s) at k))
