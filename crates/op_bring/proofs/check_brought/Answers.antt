-- `op_bring::check_brought` meets its contract: the words brought over are tested by today's rules.
use Prim.Native.Nat.{◌+◌}
use mathlib.Core.Path.{◌≡◌, sym, ap, ◌∙◌}
use mathlib.Core.Bool.{Bool}
use lib.ListN.{length, take}
use Rattle.prelude.proofs.Slices.{take-placed}
use Rattle.netlist.specs.declared.Refusal.TheVariants.{MalformedBlock}
use Rattle.netlist.specs.StoredBlock.{is_malformed}
use Rattle.words_refusals.specs.Tests.{test_in, test_of}
use Rattle.words_refusals.proofs.Promised.{test-ok, test-err, residual}
use Rattle.netlist.specs.Bring.{brought, is_malformed_before}
use Rattle.op_bring.proofs.Words.{length-brought, malformed-brought}
use Rattle.op_bring.proofs.check_brought.Goals.{After-check_words}
use Rattle.op_bring.proofs.check_brought.Goals as goal

-- today's test of the words brought over, by the old rules
tested : (c : After-check_words)
    → test_in c.check_words.result ≡ test_of (is_malformed_before c.args.old.now) MalformedBlock
tested c =
    let old = c.args.old.now in
    let words : take (length old + 1) c.put_brought.new.block ≡ brought old =
    ap (take (length old + 1)) c.put_brought.ensures
    ∙ take-placed (brought old) _ (length old + 1) (length-brought old c.requires.in_bounds.0) in
    c.check_words.ensures.tested
    ∙ ap (λ (t : Bool). test_of t MalformedBlock)
    (ap is_malformed words ∙ sym (malformed-brought old c.requires.in_bounds.0 c.requires.bound))

pub returns-in_err-check_words : goal.returns-in_err-check_words
returns-in_err-check_words c =
    residual _ c.from_residual.ensures.1
    ∙ sym (test-err c.in_err-check_words.was) ∙ tested (goal.at.returns-in_err-check_words c).After-check_words

pub returns : goal.returns
returns c = sym (test-ok c.in_ok-check_words.was) ∙ tested (goal.at.returns c).After-check_words
