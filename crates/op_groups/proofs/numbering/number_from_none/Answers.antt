-- `op_groups::numbering::number_from_none` meets its contract: no gate has a number, no slot is counted and no group is
-- ready before.
use mathlib.Core.Path.{◌≡◌, refl}
use Prim.Native.Nat.{ℕ, ◌≤◌, ◌<◌}
use native.Mathlib.Omega.{arith}
use lib.ListN.{get_or, replicate, get_or-replicate}
use Rattle.netlist.specs.Limits.{max_gates}
use Rattle.op_groups.specs.Numbering.{no_number}
use Rattle.op_groups.proofs.Counted.{counting-none, ready-none, waiting-start}
use Rattle.op_groups.proofs.Turns.{numbers-none, bare-all}
use Rattle.op_groups.proofs.Sets.{zeros, set-empty}
use Rattle.op_groups.proofs.numbering.number_from_none.Goals as goal

-- no gate has a number at first
no-number : {m : ℕ} → m ≤ max_gates → (j : ℕ) → j < m → get_or (replicate max_gates no_number) j 0 ≡ no_number
no-number few j l = get_or-replicate {A = ℕ} max_gates j no_number 0 (omega arith)

pub count_slots-requires : goal.count_slots-requires
count_slots-requires c = counting-none c.requires.prepared refl (λ l few. zeros 1024 l)

pub add_all_ready-requires : goal.add_all_ready-requires
add_all_ready-requires c =
    let same = c.count_slots.ensures.1 in ready-none (rw same refl) (λ i. rw same (set-empty 16 i))

pub number_all-requires : goal.number_all-requires
number_all-requires c =
    record {
      linked = c.requires;
      numbers_are = numbers-none refl (no-number c.requires.prepared.legal.few);
      waiting =
          waiting-start (bare-all _ (no-number c.requires.prepared.legal.few))
          (rw c.add_all_ready.ensures.1 c.count_slots.ensures.0) c.add_all_ready.ensures.0;
    }
