-- Verdict's outcome, as its one condition and the counts behind it. Assumes nothing.
use mathlib.Core.Path.{◌≡◌, refl}
use mathlib.Core.Bool.{false}
use mathlib.Core.List.{List, []}
use Prim.Native.Nat.{ℕ}
use Rattle.netlist.specs.declared.Refusal.TheVariants.{MalformedBlock}
use Rattle.std.specs.declared.result.Result.TheVariants.{Ok}
use Rattle.netlist.specs.Answers.{done, refuse_if, answer_of}
use Rattle.netlist.specs.StoredBlock.{decode, is_malformed}
use Rattle.netlist.specs.Rounds.{settled_settings, lowest_unsettled}
use Rattle.netlist.specs.Operations.{verdict}

module _ (ws : List ℕ) where
  pub verdict-chain : verdict ws
      ≡ refuse_if (is_malformed ws) MalformedBlock (done [] (settled_settings (decode ws)) (lowest_unsettled (decode ws)))
  unfolding verdict
  verdict-chain = refl

  pub answer-whole : is_malformed ws ≡ false
      → Ok (record { count = settled_settings (decode ws); detail = lowest_unsettled (decode ws) }) ≡ answer_of (verdict ws)
  unfolding verdict refuse_if answer_of
  answer-whole h = rw h refl
