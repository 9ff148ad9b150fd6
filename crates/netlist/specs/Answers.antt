-- SPECIFICATION 7.1, 7.2: the numbers of an answer, and what an operation leaves in the lent slice.
use Rattle.std.specs.Prelude.{ℕ, ◌≡◌, Bool, true, false, List, length, ltb}
use Rattle.std.proofs.Math.Option.{Option, none, some}
use Rattle.std.specs.declared.result.Result.{Result}
use Rattle.std.specs.declared.result.Result.TheVariants.{Ok, Err}
use Rattle.prelude.specs.Lists.{placed}
use Rattle.netlist.specs.declared.Refusal.{Refusal}
use Rattle.netlist.specs.declared.Refusal.TheVariants.{TextTooLong, SyntaxError, OverLimit, DuplicateDeclaration}
use Rattle.netlist.specs.declared.Refusal.TheVariants.{UndeclaredName, MalformedBlock, BadSetting, TooManyCopies}
use Rattle.netlist.specs.declared.Refusal.TheVariants.{NotSettled, NotStraight, NoRoom, InterfaceMismatch}
use Rattle.netlist.specs.declared.Refusal.TheVariants.{NotAPermutation}
use Rattle.netlist.specs.declared.Done.{Done}
use Rattle.netlist.specs.declared.Reply.{Reply}

-- the number of a refusal, by the table in SPECIFICATION 7.2
unfoldable pub refusal_number : Refusal → ℕ
refusal_number TextTooLong = 1
refusal_number (SyntaxError place) = 2
refusal_number OverLimit = 3
refusal_number (DuplicateDeclaration place) = 4
refusal_number (UndeclaredName place) = 5
refusal_number MalformedBlock = 6
refusal_number BadSetting = 7
refusal_number TooManyCopies = 8
refusal_number (NotSettled setting) = 9
refusal_number NotStraight = 10
refusal_number NoRoom = 11
refusal_number InterfaceMismatch = 12
refusal_number NotAPermutation = 13

-- the place or the setting that a refusal tells, or 0
unfoldable pub refusal_detail : Refusal → ℕ
refusal_detail TextTooLong = 0
refusal_detail (SyntaxError place) = place
refusal_detail OverLimit = 0
refusal_detail (DuplicateDeclaration place) = place
refusal_detail (UndeclaredName place) = place
refusal_detail MalformedBlock = 0
refusal_detail BadSetting = 0
refusal_detail TooManyCopies = 0
refusal_detail (NotSettled setting) = setting
refusal_detail NotStraight = 0
refusal_detail NoRoom = 0
refusal_detail InterfaceMismatch = 0
refusal_detail NotAPermutation = 0

-- what an operation answers: count and detail, or a refusal
abbrev pub Answer : Type 0
Answer = Result Done Refusal

-- the number of an answer: its refusal's, or 0 on success
unfoldable pub number_of : Answer → ℕ
number_of (Ok d) = 0
number_of (Err r) = refusal_number r

-- the count of an answer; a refusal counts nothing
unfoldable pub count_of : Answer → ℕ
count_of (Ok d) = d.count
count_of (Err r) = 0

unfoldable pub detail_of : Answer → ℕ
detail_of (Ok d) = d.detail
detail_of (Err r) = refusal_detail r

-- The reply has the three numbers of the answer.
pub record Shows (a : Answer) (r : Reply) : Type 0 where
  pub number : r.number ≡ number_of a
  pub count : r.count ≡ count_of a
  pub detail : r.detail ≡ detail_of a

-- ---- An operation's outcome: its result with count and detail, or a refusal.

pub data Outcome : Type 0 where
  done : (result : List ℕ) (count detail : ℕ) → Outcome
  refused : Refusal → Outcome

-- refuses if the condition holds, else goes on with what comes after it
unfoldable pub refuse_if : Bool → Refusal → Outcome → Outcome
refuse_if true r next = refused r
refuse_if false r next = next

-- refuses at a place if one is told, else succeeds
unfoldable pub refuse_at : Option ℕ → (ℕ → Refusal) → Outcome → Outcome
refuse_at (some place) r next = refused (r place)
refuse_at none r next = next

-- refusal 11: a slice shorter than the result; an equal length is enough
unfoldable pub in_room : ℕ → Outcome → Outcome
in_room room (done result count detail) = refuse_if (ltb room (length result)) NoRoom (done result count detail)
in_room room (refused r) = refused r

unfoldable pub answer_of : Outcome → Answer
answer_of (done result count detail) = Ok (record { count = count; detail = detail })
answer_of (refused r) = Err r

-- what the slice lent for the result holds in the end: the result in front and what was behind it, or, after a refusal,
-- all that was there
unfoldable pub left_in : Outcome → List ℕ → List ℕ
left_in (done result count detail) entry = placed result entry
left_in (refused r) entry = entry

-- ---- What an operation promises, from its outcome: the three numbers of its answer, and what the lent slice holds at
-- exit

pub record Told (o : Outcome) (r : Answer) : Type 0 where
  pub number : number_of r ≡ number_of (answer_of o)
  pub count : count_of r ≡ count_of (answer_of o)
  pub detail : detail_of r ≡ detail_of (answer_of o)

pub record Promise (o : Outcome) (entry : List ℕ) (r : Answer) (exit : List ℕ) : Type 0 where
  pub told : Told o r
  pub leaves : exit ≡ left_in o entry
