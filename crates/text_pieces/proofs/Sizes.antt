-- What fits into a slice of a given room: refusals, and results that are short enough. Assumes nothing.
use mathlib.Core.Path.{◌≡◌, refl, sym, ap, ◌∙◌}
use mathlib.Core.Bool.{Bool, true, false}
use mathlib.Core.Option.{Option, none, some}
use mathlib.Core.List.{List}
use Prim.Native.Nat.{ℕ, ◌≤◌}
use native.Mathlib.Omega.{arith}
use lib.ListN.{length}
use Rattle.netlist.specs.declared.Refusal.{Refusal}
use Rattle.netlist.specs.Answers.{Outcome, refused, refuse_if, refuse_at}
use Rattle.netlist.specs.Operations.{counted}
use Rattle.text_pieces.proofs.Told.{Fits}

module _ (room : ℕ) where
  pub counted-fits : (ws : List ℕ) → length ws ≤ room → Fits room (counted ws)
  unfolding counted
  counted-fits ws h =
      record {
        fits =
            λ result count detail e.
            let p : ws ≡ result = cc in
            let q : length ws ≡ count = cc in
            (rw p at h, sym q ∙ ap length p);
      }

  pub refused-fits : (r : Refusal) → Fits room (refused r)
  refused-fits r = record { fits = λ result count detail e. let z : ◌≡◌ {A = ℕ} 0 1 = cc in absurd (omega arith) }

  pub if-fits : (b : Bool) (r : Refusal) (o : Outcome) → (b ≡ false → Fits room o) → Fits room (refuse_if b r o)
  unfolding refuse_if
  if-fits true r o f = refused-fits r
  if-fits false r o f = f refl

  pub at-fits : (p : Option ℕ) (r : ℕ → Refusal) (o : Outcome) → Fits room o → Fits room (refuse_at p r o)
  unfolding refuse_at
  at-fits none r o f = f
  at-fits (some p) r o f = refused-fits (r p)
