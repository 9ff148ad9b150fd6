-- The number of copies: over the groups, each one's size times its passes; and its bounds. Render cites it.
--   copy_count-least                          at least as many copies as gates
--   copy_count-loopless, copy_count-straight   as many copies as gates where no gate reaches itself
-- Assumes nothing.
use Prim.Native.Nat.{ℕ, zero, suc, ◌*◌, ◌≤◌, ◌<◌}
use mathlib.Core.Path.{◌≡◌, refl, sym, ap, ◌∙◌}
use mathlib.Core.Bool.{true}
use mathlib.Core.List.{List, []}
use native.Mathlib.Omega.{arith}
use native.Mathlib.Nat.{mul-suc}
use lib.ListN.{length, get_or}
use Rattle.prelude.specs.Lists.{sum}
use Rattle.prelude.proofs.Lists.{length-joined}
use Rattle.netlist.specs.Netlist.{Block, gate_count}
use Rattle.netlist.specs.Groups.{groups}
use Rattle.netlist.specs.Passes.{pass_count, copy_count}
use Rattle.netlist.specs.Rendering.{is_straight}
use Rattle.theory_reach.specs.Inside.{Inside, Loopless}
use Rattle.theory_reach.proofs.ListFacts.{map_same, sum_mono}
use Rattle.theory_reach.proofs.Order.{length-joined-groups}
use Rattle.theory_reach.proofs.Straight.{groups-single, straight-inside, straight-loopless}
use Rattle.theory_unrolling.proofs.PassCount.{pass_count-some, pass_count-one}

-- how many copies of a group's gates there are
abbrev pub copies_of : Block → List ℕ → ℕ
copies_of b group = length group * pass_count b group

le-times : (n p : ℕ) → 1 ≤ p → n ≤ n * p
le-times n zero l = absurd (omega arith)
le-times n (suc p) l = let e = mul-suc n p in omega arith

module _ (b : Block) where
  -- there are at least as many copies as gates
  pub copy_count-least : Inside b → gate_count b ≤ copy_count b
  unfolding copy_count
  copy_count-least inside =
      let e = length-joined-groups b inside in
      let f = length-joined (groups b) in
      let l = sum_mono length (copies_of b) (groups b) one in
      omega arith
    where
      one : (group : List ℕ) → length group ≤ copies_of b group
      one group = le-times (length group) (pass_count b group) (pass_count-some b group)

  -- without loops there is one copy of each gate,
  pub copy_count-loopless : Inside b → Loopless b → copy_count b ≡ gate_count b
  unfolding copy_count
  copy_count-loopless inside f =
      ap sum (map_same (copies_of b) length (groups b) [] one) ∙ sym (length-joined (groups b))
      ∙ length-joined-groups b inside
    where
      one : (t : ℕ) → t < length (groups b) → copies_of b (get_or (groups b) t []) ≡ length (get_or (groups b) t [])
      one t l =
          let e : length (get_or (groups b) t []) ≡ 1 = rw (groups-single b f t l).2 refl in
          rw (pass_count-one b t l e, e)

  -- a straight block has as many copies as gates
  pub copy_count-straight : is_straight b ≡ true → copy_count b ≡ gate_count b
  copy_count-straight s = copy_count-loopless (straight-inside b s) (straight-loopless b s)
