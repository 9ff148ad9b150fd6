-- A refusal's line is short. Cited by `tell`. Assumes nothing.
use mathlib.Core.Path.{◌≡◌, refl, ap, ◌∙◌}
use mathlib.Core.Logic.{⊎_elim}
use mathlib.Core.List.{List, [], ◌∷◌, ◌++◌}
use Prim.Native.Nat.{ℕ, zero, suc, ◌+◌, ◌*◌, ◌^◌, ◌/◌, ◌%◌, ◌≤◌, ◌<◌}
use native.Mathlib.Nat.{pow-suc, zero-add}
use native.Mathlib.Omega.{arith}
use lib.ListN.{length, length-append}
use Rattle.prelude.specs.Lists.{ascii, placed}
use Rattle.prelude.proofs.Tests.{lt-or-le}
use Rattle.prelude.proofs.Slices.{sets-placed}
use Rattle.netlist.specs.declared.Refusal.{Refusal}
use Rattle.netlist.specs.Writing.{decimal}
use Rattle.netlist.specs.Answers.{refused, refusal_number, refusal_detail}
use Rattle.netlist.specs.Program.{refusal_line, shown}
use Rattle.text_pieces.specs.Pieces.{Appended}
use Rattle.text_pieces.proofs.DecimalLaws.{decimal-one, decimal-more}
use Rattle.text_pieces.specs.Shown.{max_line, Shown}

-- a number below 10 ^ (k + 1) has at most k + 1 digits
digits-few : (k v : ℕ) → v < 10 ^ suc k → length (decimal v) ≤ suc k
digits-few zero v l = rw (decimal-one v (omega arith)) (omega arith)
digits-few (suc k) v l = ⊎_elim one (more (digits-few k (v / 10) below)) (lt-or-le v 10)
  where
    below : v / 10 < 10 ^ suc k
    below = let e : 10 ^ suc (suc k) ≡ 10 ^ suc k * 10 = pow-suc 10 (suc k) in omega (arith, l, e)

    one : v < 10 → length (decimal v) ≤ suc (suc k)
    one h = rw (decimal-one v h) (omega arith)

    more : length (decimal (v / 10)) ≤ suc k → 10 ≤ v → length (decimal v) ≤ suc (suc k)
    more d h = rw (decimal-more v h) (omega (arith, d, length-append (decimal (v / 10)) ((48 + v % 10) ∷ [])))

pub number_short : (v : ℕ) → v < 18446744073709551616 → length (decimal v) ≤ 20
number_short v l = digits-few 19 v (omega arith)

-- the line of these two numbers
unfoldable pub told_line : ℕ → ℕ → List ℕ
told_line number detail = ascii "(refused " ++ (decimal number ++ (ascii " " ++ (decimal detail ++ ascii ")\n")))

module _ {number detail : ℕ} (n : number < 18446744073709551616) (d : detail < 18446744073709551616) where
  line-length : length (told_line number detail) ≤ 52
  unfolding told_line
  line-length = simp length-append (omega (arith, number_short number n, number_short detail d))

pub line-told : (r : Refusal) (entry exit : List ℕ) (end : ℕ) {number detail : ℕ} → max_line ≤ length entry
    → number ≡ refusal_number r → detail ≡ refusal_detail r
    → number < 18446744073709551616 → detail < 18446744073709551616 → Appended (told_line number detail) entry 0 exit end
    → Shown (refused r) entry exit end
unfolding shown refusal_line told_line
line-told r entry exit end {number} {detail} room e f n d a =
    let is : told_line number detail ≡ refusal_line r = rw (e, f) refl in
    record {
      text_is =
          a.text_is ∙ sets-placed (told_line number detail) entry (omega (arith, line-length n d, room))
          ∙ ap (λ (l : List ℕ). placed l entry) is;
      count_is = a.end_is ∙ rw (zero-add) (ap length is);
    }
