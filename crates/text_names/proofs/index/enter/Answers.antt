-- `text_names::index::enter` meets its contract: what is stored where no entry was is on no other name's way.
use Prim.Native.Nat.{◌+◌}
use mathlib.Core.Path.{refl, sym}
use mathlib.Core.Bool.{true≢false}
use lib.ListN.{length-set}
use Rattle.text_names.proofs.Indexing.{ends-here, repeats-hit, repeats-miss, held_more, index-more}
use Rattle.text_names.proofs.index.enter.Goals as goal

pub returns-in_default : goal.returns-in_default
returns-in_default c =
    record {
      sized = refl;
      new = λ e. absurd (true≢false e);
      stored = λ e. absurd (true≢false e);
      answer = λ h. absurd (ends-here _ _ _ _ h c.in_default.ensures);
      indexed = λ _ e. absurd (true≢false e);
    }

pub returns-then-index-at-ne0 : goal.returns-then-index-at-ne0
returns-then-index-at-ne0 c =
    record {
      sized = refl;
      new = λ e. absurd (true≢false e);
      stored = λ e. absurd (true≢false e);
      answer = λ _. repeats-hit _ _ _ _ c.requires.held c.in-Some.ensures.1 c.if-index-at-ne0.true;
      indexed = λ _ e. absurd (true≢false e);
    }

pub returns : goal.returns
returns c =
    let a = c.args in
    let found = c.in-Some.ensures in
    let empty = c.if-index-at-ne0.false in
    let new = repeats-miss _ _ _ _ c.requires.held found.1 empty in
    record {
      sized = length-set a.index.now c.in-Some.at (a.i + 1);
      new = λ _. sym new;
      stored = λ _. held_more _ _ _ _ c.requires.held found.1 found.0 c.requires.inside empty;
      answer = λ _. new;
      indexed = λ h _. index-more _ _ _ _ h found.1 c.requires.inside empty;
    }
