-- The claim of specs/AnyOrder.antt holds of every block, every setting and every finite sequence. Assumes nothing.
use Prim.Native.Nat.{ℕ}
use mathlib.Core.List.{List}
use lib.ListN.{take}
use Rattle.netlist.specs.Values.{Value}
use Rattle.netlist.specs.Netlist.{Block}
use Rattle.theory_fixpoint.proofs.AnyOrder.{any-order-below, any-order-settled}
use Rattle.theory_chaotic_iteration.specs.AnyOrder.{AnyOrder}

pub any_order : (b : Block) (x : List Value) (gates : List ℕ) → AnyOrder b x gates
any_order b x gates =
    record {
      never_another = λ t j. any-order-below b x (take t gates) j;
      at_rest = any-order-settled b x gates;
    }
