-- The outcomes of Gather and Scatter as chains of conditions. Cited by `gather` and `scatter`. Assumes nothing.
--   gather-chain, gather-room      both results of Gather, from the start and behind 6
--   scatter-chain, scatter-order, scatter-room   Scatter, from the start, behind 6, and behind 13
--   order-passes                   what 13 says when it is passed
use Prim.Native.Nat.{ℕ}
use mathlib.Core.Path.{◌≡◌, refl, sym, ◌∙◌}
use mathlib.Core.Bool.{Bool, true, false, not, ◌||◌}
use mathlib.Core.List.{List}
use lib.ListN.{length, get_or}
use lib.Dec.{ltb}
use borrow.Author.Tests.{not-false}
use Rattle.std.specs.declared.result.Result.TheVariants.{Ok}
use Rattle.netlist.specs.declared.Refusal.TheVariants.{MalformedBlock, NoRoom, NotAPermutation}
use Rattle.netlist.specs.Netlist.{Block, gate_count}
use Rattle.netlist.specs.StoredBlock.{encode, decode, is_malformed}
use Rattle.netlist.specs.Answers.{done, refuse_if, in_room}
use Rattle.netlist.specs.Operations.{counted}
use Rattle.netlist.specs.Gather.{gathered, gathered_words, lacks_room, gather_with, is_permutation, scattered, scatter}
use Rattle.theory_encoding.proofs.Decoded.{decode-gate_count}
use Rattle.theory_permutation.proofs.Words.{gathered-length, gathered-listed, scattered-length}
use Rattle.words_refusals.specs.Tests.{Test, test_of}
use Rattle.words_refusals.proofs.Promised.{passed-false}
use Rattle.op_gather.specs.Places.{Places}

module _ (ws : List ℕ) (room list_room : ℕ) (result : Block → List ℕ) where
  pub gather-chain : gather_with ws room list_room result
      ≡ refuse_if (is_malformed ws) MalformedBlock
      (refuse_if (lacks_room (decode ws) room list_room) NoRoom
      (done (result (decode ws)) (length (encode (gathered (decode ws)))) 0))
  unfolding gather_with
  gather-chain = refl

  -- as many words go out as came in, and the list has one for each gate
  pub gather-room : is_malformed ws ≡ false → {m : ℕ} → m ≡ get_or ws 1 0
      → gather_with ws room list_room result
      ≡ refuse_if (ltb room (length ws) || ltb list_room m) NoRoom (done (result (decode ws)) (length ws) 0)
  unfolding gather_with lacks_room refuse_if gathered_words
  gather-room whole gates_are =
      rw (whole, gathered-length ws whole, gathered-listed ws whole, decode-gate_count ws, gates_are) refl

module _ (ws order : List ℕ) (room : ℕ) where
  pub scatter-chain : scatter ws order room
      ≡ in_room room
      (refuse_if (is_malformed ws) MalformedBlock
      (refuse_if (not (is_permutation (gate_count (decode ws)) order)) NotAPermutation
      (counted (encode (scattered order (decode ws))))))
  unfolding scatter
  scatter-chain = refl

  module _ (whole : is_malformed ws ≡ false) {m : ℕ} (gates_are : m ≡ get_or ws 1 0) where
    pub scatter-order : {r : Bool} → r ≡ is_permutation m order
        → scatter ws order room
        ≡ in_room room (refuse_if (not r) NotAPermutation (counted (encode (scattered order (decode ws)))))
    unfolding scatter refuse_if
    scatter-order told = rw (whole, decode-gate_count ws, told, gates_are) refl

    pub scatter-room : is_permutation m order ≡ true
        → scatter ws order room ≡ refuse_if (ltb room (length ws)) NoRoom
        (done (encode (scattered order (decode ws))) (length ws) 0)
    unfolding refuse_if in_room counted
    scatter-room passes =
        scatter-order refl
        ∙ rw (passes, scattered-length ws whole order (rw (decode-gate_count ws, ← gates_are) passes)) refl

-- a list that passed its test is each number once
pub order-passes : {m : ℕ} {order places : List ℕ} {r : Bool} {t : Test} → Places m order r places
    → t ≡ test_of (not r) NotAPermutation → t ≡ Ok tt → is_permutation m order ≡ true
order-passes {r = r} found e f = sym found.told ∙ not-false r (passed-false (not r) NotAPermutation e f)
