-- `op_groups::assign::copy_numbers` meets its contract: the first m of the numbers are copied.
use mathlib.Core.Path.{◌≡◌, refl, sym, ◌∙◌}
use Prim.Native.Nat.{ℕ, ◌≤◌}
use mathlib.Core.List.{List}
use native.Mathlib.Omega.{arith}
use lib.ListN.{length, get_or, take}
use lib.Seq.{get_or-take, length-take-le}
use Rattle.prelude.specs.Lists.{tab}
use Rattle.prelude.proofs.Tab.{tab-ext, tab-get_d, length-tab}
use Rattle.op_groups.specs.Numbering.{number_at}
use Rattle.op_groups.proofs.assign.copy_numbers.Goals as goal

front-is : (found : List ℕ) (m : ℕ) → m ≤ length found → take m found ≡ tab (number_at found) m
front-is found m l =
    sym (tab-get_d 0 (take m found) m (length-take-le m found l))
    ∙ tab-ext (λ i. get_or (take m found) i 0) (number_at found) m (λ i il. get_or-take m found i 0 il)

pub returns : goal.returns
returns c =
    let a = c.args in
    rw (c.copy_from_slice.ensures.after, front-is a.found.now a.m (omega arith), length-tab) refl
