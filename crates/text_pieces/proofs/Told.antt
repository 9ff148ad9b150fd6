-- What the promise of an operation with enough room tells of its outcome, and what is then shown. Assumes nothing.
use mathlib.Core.Path.{◌≡◌, refl, sym, ap, ◌∙◌}
use mathlib.Core.List.{List}
use Prim.Native.Nat.{ℕ, ◌≤◌}
use native.Mathlib.Omega.{arith}
use lib.ListN.{length, take}
use borrow.Author.Tests.{le-ltb}
use Rattle.prelude.specs.Lists.{placed}
use Rattle.prelude.proofs.Slices.{placed-room, take-placed}
use Rattle.netlist.specs.declared.Refusal.{Refusal}
use Rattle.netlist.specs.declared.Done.{Done}
use Rattle.netlist.specs.Answers.{Answer, count_of, detail_of}
use Rattle.std.specs.declared.result.Result.TheVariants.{Ok, Err}
use Rattle.netlist.specs.Answers.{Outcome, done, refused, refuse_if, in_room, answer_of, left_in, Promise}
use Rattle.netlist.specs.Program.{shown}
use Rattle.words_refusals.proofs.Promised.{promise-answer}
use Rattle.text_pieces.specs.Shown.{Shown}

-- the result fits, and the count is its length
pub record Fits (room : ℕ) (o : Outcome) : Type 0 where
  pub fits : (result : List ℕ) (count detail : ℕ) → o ≡ done result count detail
      → (length result ≤ room) × (count ≡ length result)

-- then there is no refusal 11
pub in-room : (room : ℕ) (o : Outcome) → Fits room o → in_room room o ≡ o
unfolding in_room refuse_if
in-room room (done result count detail) f = rw (le-ltb room (length result) (f.fits result count detail refl).0) refl
in-room room (refused r) f = refl

pub record Gave (o : Outcome) (entry exit : List ℕ) (count detail : ℕ) : Type 0 where
  pub result : List ℕ
  pub is : o ≡ done result count detail
  pub counts : count ≡ length result
  pub within : length result ≤ length entry
  pub front : take count exit ≡ result
  pub left : exit ≡ placed result entry

module _ (o : Outcome) (a : Answer) (entry exit : List ℕ) (f : Fits (length entry) o)
    (p : Promise (in_room (length entry) o) entry a exit) where
  answer : a ≡ answer_of o
  answer = promise-answer p ∙ ap answer_of (in-room (length entry) o f)

  left_is : exit ≡ left_in o entry
  left_is = p.leaves ∙ ap (λ (u : Outcome). left_in u entry) (in-room (length entry) o f)

  pub told-refused : (r : Refusal) → a ≡ Err r → o ≡ refused r
  unfolding answer_of
  told-refused r e = go o (sym e ∙ answer)
    where
      go : (u : Outcome) → Err r ≡ answer_of u → u ≡ refused r
      go (done result count detail) h = let z : ◌≡◌ {A = ℕ} 0 1 = cc in absurd (omega arith)
      go (refused s) h = let z : s ≡ r = cc in ap refused z

  pub kept-refused : (r : Refusal) → a ≡ Err r → exit ≡ entry
  unfolding left_in
  kept-refused r e = left_is ∙ rw (told-refused r e) refl

  pub told-done : (d : Done) → a ≡ Ok d → Gave o entry exit d.count d.detail
  unfolding answer_of left_in count_of detail_of
  told-done d e = go o refl (sym e ∙ answer)
    where
      go : (u : Outcome) → o ≡ u → Ok d ≡ answer_of u → Gave o entry exit d.count d.detail
      go (done result count detail) q h =
          let p : count ≡ d.count = sym (ap count_of h) in
          let s : detail ≡ d.detail = sym (ap detail_of h) in
          let i : o ≡ done result d.count d.detail = q ∙ rw (p, s) refl in
          let g = f.fits result d.count d.detail i in
          let l : exit ≡ placed result entry = left_is ∙ rw i refl in
          record {
            result = result;
            is = i;
            counts = g.1;
            within = g.0;
            front = rw l (take-placed result entry d.count (sym g.1));
            left = l;
          }
      go (refused s) q h = let z : ◌≡◌ {A = ℕ} 0 1 = cc in absurd (omega arith)

-- ---- what is shown

pub shown-refused : (o : Outcome) (r : Refusal) (entry mid exit : List ℕ) (n : ℕ) → o ≡ refused r → mid ≡ entry
    → Shown (refused r) mid exit n
    → Shown o entry exit n
shown-refused o r entry mid exit n e k s = rw (e, ← k) s

pub shown-gave : {o : Outcome} {entry exit : List ℕ} {count detail : ℕ} → Gave o entry exit count detail
    → Shown o entry exit count
unfolding shown
shown-gave g = record { text_is = rw g.is g.left; count_is = rw g.is g.counts }

pub shown-is : {o u : Outcome} {entry exit : List ℕ} {n : ℕ} → o ≡ u → Shown u entry exit n → Shown o entry exit n
shown-is e s = rw e s

pub gave-within : {o : Outcome} {entry exit : List ℕ} {count detail : ℕ} → Gave o entry exit count detail
    → count ≤ length exit
gave-within {o} {entry} g = rw g.left (placed-room g.result entry (sym g.counts))
