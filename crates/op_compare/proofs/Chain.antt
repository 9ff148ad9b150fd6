-- Compare's outcome as a chain of conditions, and what the tests passed say of the two blocks. Cited by `compare`.
-- Assumes nothing.
use mathlib.Core.Path.{◌≡◌, refl}
use mathlib.Core.Bool.{false, not}
use mathlib.Core.List.{List}
use Prim.Native.Nat.{ℕ}
use borrow.Author.Tests.{not-false}
use Rattle.netlist.specs.declared.Refusal.TheVariants.{MalformedBlock, NotStraight, InterfaceMismatch}
use Rattle.netlist.specs.StoredBlock.{decode, is_malformed}
use Rattle.netlist.specs.Rendering.{is_straight}
use Rattle.std.specs.declared.result.Result.TheVariants.{Ok}
use Rattle.netlist.specs.Answers.{Outcome, refuse_if}
use Rattle.netlist.specs.Compare.{same_interface, compare_blocks, compare}
use Rattle.words_refusals.specs.Tests.{Test, test_of}
use Rattle.words_refusals.proofs.Promised.{passed, bare, keeps-bare}
use Rattle.op_compare.specs.Ready.{BlockPair}
use Rattle.op_compare.proofs.Interfaces.{interface-inputs, interface-outputs}

module _ (ours theirs : List ℕ) where
  -- what is left of the conditions behind each: behind the form of theirs, the interface; behind theirs, both; ..
  abbrev pub interface_on : Outcome
  interface_on =
      refuse_if (not (same_interface (decode ours) (decode theirs))) InterfaceMismatch
      (compare_blocks (decode ours) (decode theirs))

  abbrev pub straight_on : Outcome
  straight_on = refuse_if (not (is_straight (decode theirs))) NotStraight interface_on

  abbrev pub theirs_on : Outcome
  theirs_on = refuse_if (is_malformed theirs) MalformedBlock straight_on

  pub compare-chain : compare ours theirs ≡ refuse_if (is_malformed ours) MalformedBlock theirs_on
  unfolding compare
  compare-chain = refl

  pub pair-passed : is_malformed ours ≡ false → is_malformed theirs ≡ false → not (is_straight (decode theirs)) ≡ false
      → not (same_interface (decode ours) (decode theirs)) ≡ false → BlockPair ours theirs
  pair-passed p q r t =
      let same = not-false (same_interface (decode ours) (decode theirs)) t in
      record {
        our-whole = p;
        their-whole = q;
        straight = not-false (is_straight (decode theirs)) r;
        inputs = interface-inputs ours theirs same;
        outputs = interface-outputs ours theirs same;
      }

-- the outcome when the first tests have passed, from what each of them says
module _ (ours theirs : List ℕ) {w : Test} (our-words : w ≡ test_of (is_malformed ours) MalformedBlock)
    (our-whole : w ≡ Ok tt) where
  pub ours-passed : compare ours theirs ≡ theirs_on ours theirs
  ours-passed = passed bare keeps-bare _ _ MalformedBlock (compare-chain ours theirs) our-words our-whole

  module _ {v : Test} (their-words : v ≡ test_of (is_malformed theirs) MalformedBlock) (their-whole : v ≡ Ok tt) where
    pub theirs-passed : compare ours theirs ≡ straight_on ours theirs
    theirs-passed = passed bare keeps-bare _ _ MalformedBlock ours-passed their-words their-whole

    pub straight-passed : {s : Test} → s ≡ test_of (not (is_straight (decode theirs))) NotStraight → s ≡ Ok tt
        → compare ours theirs ≡ interface_on ours theirs
    straight-passed e f = passed bare keeps-bare _ _ NotStraight theirs-passed e f
