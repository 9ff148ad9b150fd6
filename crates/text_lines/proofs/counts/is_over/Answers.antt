-- `text_lines::counts::is_over` meets its contract.
use Prim.Native.Nat.{ℕ}
use mathlib.Core.Path.{◌≡◌, refl}
use mathlib.Core.Bool.{Bool, true, false, not}
use borrow.Author.Tests.{lt-leb, le-leb, ltb-true, ltb-false}
use lib.Dec.{leb, ltb}
use Rattle.netlist.specs.Limits.{max_inputs, max_nevers, max_gates, max_outputs}
use Rattle.text_lines.specs.Counting.{is_over}
use Rattle.text_lines.proofs.counts.is_over.Goals as goal

-- above is not within
above : (a b : ℕ) → ltb a b ≡ not (leb b a)
above a b = go (ltb a b) refl
  where
    go : (t : Bool) → ltb a b ≡ t → t ≡ not (leb b a)
    go true e = rw (lt-leb b a (ltb-true a b e)) refl
    go false e = rw (le-leb b a (ltb-false a b e)) refl

pub returns-then-inputs-gt-MAX_INPUTS : goal.returns-then-inputs-gt-MAX_INPUTS
unfolding is_over
returns-then-inputs-gt-MAX_INPUTS c = rw (lt-leb _ max_inputs c.if-inputs-gt-MAX_INPUTS.true)

pub returns-then-nevers-gt-MAX_NEVERS : goal.returns-then-nevers-gt-MAX_NEVERS
unfolding is_over
returns-then-nevers-gt-MAX_NEVERS c = rw (le-leb _ max_inputs c.if-inputs-gt-MAX_INPUTS.false, lt-leb _ max_nevers c.if-nevers-gt-MAX_NEVERS.true)

pub returns-then-gates-gt-MAX_GATES : goal.returns-then-gates-gt-MAX_GATES
unfolding is_over
returns-then-gates-gt-MAX_GATES c =
    rw (
      le-leb _ max_inputs c.if-inputs-gt-MAX_INPUTS.false,
      le-leb _ max_nevers c.if-nevers-gt-MAX_NEVERS.false,
      lt-leb _ max_gates c.if-gates-gt-MAX_GATES.true,
    )

pub returns : goal.returns
unfolding is_over
returns c =
    rw (
      le-leb _ max_inputs c.if-inputs-gt-MAX_INPUTS.false,
      le-leb _ max_nevers c.if-nevers-gt-MAX_NEVERS.false,
      le-leb _ max_gates c.if-gates-gt-MAX_GATES.false,
    )
    (above max_outputs c.args.c.outputs)
