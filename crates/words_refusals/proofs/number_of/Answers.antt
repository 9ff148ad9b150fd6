-- `words_refusals::number_of` meets its contract.
use mathlib.Core.Path.{sym, ap}
use borrow.Author.Rules.{rules}
use Rattle.netlist.specs.Answers.{refusal_number}
use Rattle.words_refusals.proofs.number_of.Goals as goal

pub returns-in-TextTooLong : goal.returns-in-TextTooLong
unfolding refusal_number
returns-in-TextTooLong c = sym (ap refusal_number c.in-TextTooLong.is)

pub returns-in-SyntaxError : goal.returns-in-SyntaxError
unfolding refusal_number
returns-in-SyntaxError c = sym (ap refusal_number c.in-SyntaxError.is)

pub returns-in-OverLimit : goal.returns-in-OverLimit
unfolding refusal_number
returns-in-OverLimit c = sym (ap refusal_number c.in-OverLimit.is)

pub returns-in-DuplicateDeclaration : goal.returns-in-DuplicateDeclaration
unfolding refusal_number
returns-in-DuplicateDeclaration c = sym (ap refusal_number c.in-DuplicateDeclaration.is)

pub returns-in-UndeclaredName : goal.returns-in-UndeclaredName
unfolding refusal_number
returns-in-UndeclaredName c = sym (ap refusal_number c.in-UndeclaredName.is)

pub returns-in-MalformedBlock : goal.returns-in-MalformedBlock
unfolding refusal_number
returns-in-MalformedBlock c = sym (ap refusal_number c.in-MalformedBlock.is)

pub returns-in-BadSetting : goal.returns-in-BadSetting
unfolding refusal_number
returns-in-BadSetting c = sym (ap refusal_number c.in-BadSetting.is)

pub returns-in-TooManyCopies : goal.returns-in-TooManyCopies
unfolding refusal_number
returns-in-TooManyCopies c = sym (ap refusal_number c.in-TooManyCopies.is)

pub returns-in-NotSettled : goal.returns-in-NotSettled
unfolding refusal_number
returns-in-NotSettled c = sym (ap refusal_number c.in-NotSettled.is)

pub returns-in-NotStraight : goal.returns-in-NotStraight
unfolding refusal_number
returns-in-NotStraight c = sym (ap refusal_number c.in-NotStraight.is)

pub returns-in-NoRoom : goal.returns-in-NoRoom
unfolding refusal_number
returns-in-NoRoom c = sym (ap refusal_number c.in-NoRoom.is)

pub returns-in-InterfaceMismatch : goal.returns-in-InterfaceMismatch
unfolding refusal_number
returns-in-InterfaceMismatch c = sym (ap refusal_number c.in-InterfaceMismatch.is)

pub returns-in-NotAPermutation : goal.returns-in-NotAPermutation
unfolding refusal_number
returns-in-NotAPermutation c = sym (ap refusal_number c.in-NotAPermutation.is)
