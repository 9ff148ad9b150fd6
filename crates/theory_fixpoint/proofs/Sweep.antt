-- One sweep of a straight block gives the settled values. Cited by Pass's code and for the run of a rendering.
--   straight-unique               in a straight block two states at rest are equal
--   get_d-sweep, evaluated-sweep   a sweep gate by gate, and that it is at rest
--   sweep-settled                 so it is settled
-- Assumes nothing.
use Prim.Native.Nat.{ℕ, zero, suc, ◌+◌, ◌≤◌, ◌<◌}
use mathlib.Core.Path.{◌≡◌, sym, ap, ◌∙◌}
use mathlib.Core.Bool.{true}
use mathlib.Core.List.{List, [], ◌∷◌, ◌++◌}
use native.Mathlib.Nat.{zero-add, add-zero, le_of_suc-le-suc}
use native.Mathlib.Omega.{arith}
use lib.ListN.{length, get_or, take, length-append}
use lib.Seq.{ext_get_or, take-take, take-length, take-append_seam, get_or-take, get_or-append_seam}
use Rattle.theory_reach.proofs.Straight.{straight-reads}
use Rattle.netlist.specs.Values.{Value, undefined}
use Rattle.netlist.specs.Netlist.{Gate, Block, gate_count, gate_of}
use Rattle.netlist.specs.Rounds.{evaluated, settled}
use Rattle.netlist.specs.Rendering.{is_straight, sweep_from, sweep}
use Rattle.theory_fixpoint.proofs.Evaluation.{evaluated-agree}
use Rattle.theory_fixpoint.proofs.Rounds.{evaluated-settled, length-settled}

-- Two states of a straight block that are fixed at every gate agree.
pub straight-unique : (b : Block) (x u w : List Value) → is_straight b ≡ true
    → ((j : ℕ) → j < gate_count b → evaluated x u (gate_of b j) ≡ get_or u j undefined)
    → ((j : ℕ) → j < gate_count b → evaluated x w (gate_of b j) ≡ get_or w j undefined)
    → (j : ℕ) → j < gate_count b → get_or u j undefined ≡ get_or w j undefined
straight-unique b x u w h fu fw j l = below (suc j) j l (omega arith)
  where
    below : (n j : ℕ) → j < gate_count b → j < n → get_or u j undefined ≡ get_or w j undefined
    below zero j l m = absurd (omega arith)
    below (suc n) j l m =
        sym (fu j l)
        ∙ evaluated-agree x u w b j (λ k r.
        let q : k < j = straight-reads b h j k r in below n k (omega arith) (omega arith)) ∙ fw j l

module _ (x : List Value) where
  pub length-sweep_from : (found : List Value) (gs : List Gate)
      → length (sweep_from x found gs) ≡ length found + length gs
  unfolding sweep_from
  length-sweep_from found [] = sym (add-zero (length found))
  length-sweep_from found (g ∷ gs) =
      length-sweep_from (found ++ (evaluated x found g ∷ [])) gs ∙ simp length-append (omega arith)

  -- A sweep keeps what it has found.
  pub take-sweep_from : (found : List Value) (gs : List Gate) → take (length found) (sweep_from x found gs) ≡ found
  unfolding sweep_from
  take-sweep_from found [] = take-length found
  take-sweep_from found (g ∷ gs) =
      let more : List Value = found ++ (evaluated x found g ∷ []) in
      let l : length found ≤ length more = simp length-append (omega arith) in
      sym (take-take (length found) (length more) (sweep_from x more gs) l)
      ∙ ap (take (length found)) (take-sweep_from more gs) ∙ take-append_seam found (evaluated x found g ∷ [])

  -- Each gate is evaluated from the values found before it.
  pub get_d-sweep_from : (found : List Value) (gs : List Gate) (d : Gate) (i : ℕ) → i < length gs
      → get_or (sweep_from x found gs) (length found + i) undefined
      ≡ evaluated x (take (length found + i) (sweep_from x found gs)) (get_or gs i d)
  unfolding sweep_from
  get_d-sweep_from found [] d i l = absurd (omega arith)
  get_d-sweep_from found (g ∷ gs) d zero l =
      let more : List Value = found ++ (evaluated x found g ∷ []) in
      let m : length found < length more = simp length-append (omega arith) in
      rw (add-zero, take-sweep_from found (g ∷ gs))
      (sym (get_or-take (length more) (sweep_from x more gs) (length found) undefined m)
      ∙ ap (λ (v : List Value). get_or v (length found) undefined) (take-sweep_from more gs)
      ∙ get_or-append_seam found (evaluated x found g) [] undefined)
  get_d-sweep_from found (g ∷ gs) d (suc i) l =
      let more : List Value = found ++ (evaluated x found g ∷ []) in
      let e : length found + suc i ≡ length more + i = simp length-append (omega arith) in
      rw e (get_d-sweep_from more gs d i (le_of_suc-le-suc l))

module _ (b : Block) (x : List Value) where
  -- A sweep gives every gate a value.
  pub length-sweep : length (sweep b x) ≡ gate_count b
  unfolding sweep
  length-sweep = length-sweep_from x [] b.gates ∙ zero-add (gate_count b)

  -- Each gate's value in a sweep is evaluated from those of the lower gates.
  pub get_d-sweep : (j : ℕ) → j < gate_count b
      → get_or (sweep b x) j undefined ≡ evaluated x (take j (sweep b x)) (gate_of b j)
  unfolding sweep
  get_d-sweep j l = rw zero-add at (get_d-sweep_from x [] b.gates (record { kind = 0; operands = [] }) j l)

  -- In a straight block it is evaluated from the sweep itself.
  pub evaluated-sweep : is_straight b ≡ true → (j : ℕ) → j < gate_count b
      → evaluated x (sweep b x) (gate_of b j) ≡ get_or (sweep b x) j undefined
  evaluated-sweep h j l =
      evaluated-agree x (sweep b x) (take j (sweep b x)) b j
      (λ k r. sym (get_or-take j (sweep b x) k undefined (straight-reads b h j k r))) ∙ sym (get_d-sweep j l)

  -- One sweep of a straight block gives the settled values.
  pub sweep-settled : is_straight b ≡ true → sweep b x ≡ settled b x
  sweep-settled h =
      ext_get_or undefined (sweep b x) (settled b x) (length-sweep ∙ sym (length-settled b x))
      (λ j l. straight-unique b x (sweep b x) (settled b x) h (evaluated-sweep h) (λ i m. evaluated-settled b x i) j
      (rw length-sweep at l))
