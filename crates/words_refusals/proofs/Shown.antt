-- What a reply shows of an answer, for the proofs of the functions that reply. Assumes nothing.
use mathlib.Core.Path.{◌≡◌, refl}
use Prim.Native.Nat.{ℕ}
use Rattle.std.specs.declared.result.Result.TheVariants.{Ok, Err}
use Rattle.netlist.specs.declared.Done.{Done}
use Rattle.netlist.specs.declared.Refusal.{Refusal}
use Rattle.netlist.specs.declared.Reply.{Reply}
use Rattle.netlist.specs.Answers.{Answer, refusal_number, refusal_detail, number_of, count_of, detail_of, Shows}

-- A reply that shows an answer shows an equal one.
pub shows_same : {a b : Answer} {r : Reply} → a ≡ b → Shows a r → Shows b r
shows_same e s = rw (← e) s

-- A refusal is shown by its number and its detail.
pub shows-refusal : (a : Refusal) {number detail : ℕ} → number ≡ refusal_number a → detail ≡ refusal_detail a
    → Shows (Err a) record { number = number; count = 0; detail = detail }
unfolding number_of count_of detail_of
shows-refusal a p q = record { number = p; count = refl; detail = q }

-- A success is shown by 0, its count and its detail.
pub shows-done : {a : Answer} {d : Done} → a ≡ Ok d → Shows a record { number = 0; count = d.count; detail = d.detail }
unfolding number_of count_of detail_of
shows-done p = rw p record { number = refl; count = refl; detail = refl }
