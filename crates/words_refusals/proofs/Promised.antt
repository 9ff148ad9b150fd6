-- Laws on tests and promises, cited by every operation. An operation's outcome is a chain of conditions; `around` is
-- what stands around the chain: the condition on the room, or nothing.
--   passed       a test that passed: the outcome is that of the rest of the chain
--   failed       a test that failed: the promise holds of the refusal's answer, and the slice is as it was
--   finished     a result: the promise holds of its count and detail
--   promise-answer   the three numbers fix the answer
-- Assumes nothing.
use Prim.Native.Nat.{ℕ}
use mathlib.Core.Path.{◌≡◌, refl, sym, ap, ◌∙◌}
use mathlib.Core.Bool.{Bool, true, false}
use mathlib.Core.List.{List, [], ◌∷◌}
use mathlib.Core.Option.{Option, none, some}
use native.Mathlib.Omega.{arith}
use types.Run.{OneOf, miss}
use denote.Enum.Declared.{tag_of}
use lib.ListN.{length, get_or}
use lib.Dec.{ltb}
use Rattle.std.specs.Result.{IsErrAnd}
use Rattle.prelude.specs.Lists.{placed}
use Rattle.netlist.specs.declared.Refusal.{Refusal}
use Rattle.netlist.specs.declared.Refusal.TheVariants.{TextTooLong, SyntaxError, OverLimit, DuplicateDeclaration}
use Rattle.netlist.specs.declared.Refusal.TheVariants.{UndeclaredName, MalformedBlock}
use Rattle.netlist.specs.declared.Refusal.TheVariants.{BadSetting, TooManyCopies, NotSettled, NotStraight, NoRoom}
use Rattle.netlist.specs.declared.Refusal.TheVariants.{InterfaceMismatch, NotAPermutation}
use Rattle.std.specs.declared.result.Result.{Result}
use Rattle.std.specs.declared.result.Result.TheVariants.{Ok, Err}
use Rattle.netlist.specs.Answers.{refusal_number, refusal_detail, number_of, count_of, detail_of, Outcome, done, refused}
use Rattle.netlist.specs.Answers.{Answer, refuse_if}
use Rattle.words_refusals.specs.Tests.{Test, test_in, test_of, test_at}
use Rattle.netlist.specs.Answers.{refuse_at, in_room, answer_of, left_in, Told, Promise}

-- ---- answers and promises

-- a promise from the equations of answer and slice
pub tell : {o : Outcome} {r : Answer} → r ≡ answer_of o → Told o r
tell e = record { number = ap number_of e; count = ap count_of e; detail = ap detail_of e }

pub promise : {o : Outcome} {entry exit : List ℕ} {r : Answer} → r ≡ answer_of o → exit ≡ left_in o entry
    → Promise o entry r exit
promise e l = record { told = tell e; leaves = l }

-- the answer with these three numbers
answer_with : ℕ → ℕ → ℕ → Answer
answer_with number count detail =
    get_or
    (Ok (record { count = count; detail = detail })
    ∷ Err TextTooLong
    ∷ Err (SyntaxError detail)
    ∷ Err OverLimit
    ∷ Err (DuplicateDeclaration detail)
    ∷ Err (UndeclaredName detail)
    ∷ Err MalformedBlock
    ∷ Err BadSetting
    ∷ Err TooManyCopies
    ∷ Err (NotSettled detail)
    ∷ Err NotStraight
    ∷ Err NoRoom
    ∷ Err InterfaceMismatch
    ∷ [])
    number (Err NotAPermutation)

answer-with : (r : Answer) → answer_with (number_of r) (count_of r) (detail_of r) ≡ r
unfolding answer_with number_of count_of detail_of refusal_number refusal_detail
answer-with (Ok d) = refl
answer-with (Err TextTooLong) = refl
answer-with (Err (SyntaxError place)) = refl
answer-with (Err OverLimit) = refl
answer-with (Err (DuplicateDeclaration place)) = refl
answer-with (Err (UndeclaredName place)) = refl
answer-with (Err MalformedBlock) = refl
answer-with (Err BadSetting) = refl
answer-with (Err TooManyCopies) = refl
answer-with (Err (NotSettled setting)) = refl
answer-with (Err NotStraight) = refl
answer-with (Err NoRoom) = refl
answer-with (Err InterfaceMismatch) = refl
answer-with (Err NotAPermutation) = refl

pub told-answer : {o : Outcome} {r : Answer} → Told o r → r ≡ answer_of o
told-answer {o} {r} t = sym (answer-with r) ∙ rw (t.number, t.count, t.detail) (answer-with (answer_of o))

pub promise-answer : {o : Outcome} {entry exit : List ℕ} {r : Answer} → Promise o entry r exit → r ≡ answer_of o
promise-answer p = told-answer p.told

-- ---- tests

-- the way behind a test that failed
abbrev pub IsFailed : Test → Type 0
IsFailed t = t ≡ Ok tt → ⊥

pub passed-false : (b : Bool) (why : Refusal) {t : Test} → t ≡ test_of b why → t ≡ Ok tt → b ≡ false
unfolding test_of
passed-false true why e f = let z : ◌≡◌ {A = ℕ} 0 1 = cc in absurd (omega arith)
passed-false false why e f = refl

pub failed-true : (b : Bool) (why : Refusal) {t : Test} → t ≡ test_of b why → IsFailed t → b ≡ true
unfolding test_of
failed-true true why e k = refl
failed-true false why e k = absurd (k e)

-- a test of a condition that tells a place has passed where there is none
pub passed_none : (p : Option ℕ) (why : ℕ → Refusal) {t : Test} → t ≡ test_at p why → t ≡ Ok tt → p ≡ none
unfolding test_at
passed_none (some place) why e f = let z : ◌≡◌ {A = ℕ} 0 1 = cc in absurd (omega arith)
passed_none none why e f = refl

-- a test that hands on a value, by its answer
pub test-ok : {T : Type 0} {a : Result T Refusal} {value : T} → a ≡ Ok value → test_in a ≡ Ok tt
test-ok e = ap test_in e

pub test-err : {T : Type 0} {a : Result T Refusal} {r : Refusal} → a ≡ Err r → test_in a ≡ Err r
test-err e = ap test_in e

-- a test that failed has not passed
pub not-err : {r : Refusal} → ◌≡◌ {A = Test} (Err r) (Ok tt) → ⊥
not-err e = let z : ◌≡◌ {A = ℕ} 0 1 = cc in absurd (omega arith)

-- what `?` answers for a refusal
pub residual : {T : Type 0} {r : Refusal} (a : Result T Refusal) → IsErrAnd a (λ e. e ≡ r) → a ≡ Err r
residual (Ok d) h = absurd h
residual (Err e) h = ap Err h

-- the refusal of a test that failed
refusal_in : Refusal → Test → Refusal
refusal_in r (Err why) = why
refusal_in r (Ok u) = r

-- an operation refuses as its test did
pub same-refusal : {r why : Refusal} → ◌≡◌ {A = Test} (Err r) (Err why) → ◌≡◌ {A = Answer} (Err r) (Err why)
unfolding refusal_in
same-refusal {r} e = ap Err (ap (refusal_in r) e)

-- ---- the conditions of an operation, one after the other

module _ (around : Outcome → Outcome) (keeps : (r : Refusal) → around (refused r) ≡ refused r) {o : Outcome}
    (next : Outcome) where
  module _ (b : Bool) (why : Refusal) {t : Test} (chain : o ≡ around (refuse_if b why next)) (answer : t ≡ test_of b why)
    where
      pub passed : t ≡ Ok tt → o ≡ around next
      unfolding refuse_if
      passed f = rw (passed-false b why answer f) at chain

      pub failed : {r : Refusal} {a : Answer} (entry : List ℕ) → t ≡ Err r → IsErrAnd a (λ e. e ≡ r)
          → Promise o entry a entry
      unfolding refuse_if test_of answer_of left_in
      failed {r} {a = x} entry k g = go b chain answer
        where
          go : (b : Bool) → o ≡ around (refuse_if b why next) → t ≡ test_of b why → Promise o entry x entry
          go true c a =
              promise (rw (c ∙ keeps why) (residual x g ∙ same-refusal (sym k ∙ a))) (rw (c ∙ keeps why) refl)
          go false c a = absurd (not-err (sym k ∙ a))

  module _ (p : Option ℕ) (why : ℕ → Refusal) {t : Test} (chain : o ≡ around (refuse_at p why next))
      (answer : t ≡ test_at p why) where
    pub passed-at : t ≡ Ok tt → o ≡ around next
    unfolding refuse_at
    passed-at f = rw (passed_none p why answer f) at chain

    pub failed-at : {r : Refusal} {a : Answer} (entry : List ℕ) → t ≡ Err r → IsErrAnd a (λ e. e ≡ r)
        → Promise o entry a entry
    unfolding refuse_at test_at answer_of left_in
    failed-at {r} {a = x} entry k g = go p chain answer
      where
        go : (p : Option ℕ) → o ≡ around (refuse_at p why next) → t ≡ test_at p why → Promise o entry x entry
        go (some place) c a =
            promise (rw (c ∙ keeps (why place)) (residual x g ∙ same-refusal (sym k ∙ a)))
            (rw (c ∙ keeps (why place)) refl)
        go none c a = absurd (not-err (sym k ∙ a))

-- what stands around the conditions: the room, or nothing
pub keeps-room : (room : ℕ) (r : Refusal) → in_room room (refused r) ≡ refused r
unfolding in_room
keeps-room room r = refl

pub room-last : (room : ℕ) (result : List ℕ) (count detail : ℕ)
    → in_room room (done result count detail) ≡ refuse_if (ltb room (length result)) NoRoom (done result count detail)
unfolding in_room
room-last room result count detail = refl

abbrev pub bare : Outcome → Outcome
bare o = o

pub keeps-bare : (r : Refusal) → bare (refused r) ≡ refused r
keeps-bare r = refl

-- a result stands in the slice's beginning
pub finished : {o : Outcome} {entry exit result : List ℕ} {count reported detail : ℕ} → o ≡ done result reported detail
    → count ≡ reported
    → exit ≡ placed result entry
    → Promise o entry (Ok (record { count = count; detail = detail })) exit
unfolding answer_of left_in
finished e c x = promise (rw (e, c) refl) (rw (e, x) refl)
