-- `words_refusals::detail_of` meets its contract.
use mathlib.Core.Path.{sym, ap}
use borrow.Author.Rules.{rules}
use Rattle.netlist.specs.Answers.{refusal_detail}
use Rattle.words_refusals.proofs.Plain.{detail-none}
use Rattle.words_refusals.proofs.detail_of.Goals as goal

pub returns-in-SyntaxError : goal.returns-in-SyntaxError
unfolding refusal_detail
returns-in-SyntaxError c = sym (ap refusal_detail c.in-SyntaxError.is)

pub returns-in-DuplicateDeclaration : goal.returns-in-DuplicateDeclaration
unfolding refusal_detail
returns-in-DuplicateDeclaration c = sym (ap refusal_detail c.in-DuplicateDeclaration.is)

pub returns-in-UndeclaredName : goal.returns-in-UndeclaredName
unfolding refusal_detail
returns-in-UndeclaredName c = sym (ap refusal_detail c.in-UndeclaredName.is)

pub returns-in-NotSettled : goal.returns-in-NotSettled
unfolding refusal_detail
returns-in-NotSettled c = sym (ap refusal_detail c.in-NotSettled.is)

pub returns-in_default : goal.returns-in_default
returns-in_default c =
    let d = c.in_default in
    detail-none c.args.why d.not-SyntaxError d.not-DuplicateDeclaration d.not-UndeclaredName d.not-NotSettled
