-- What Read answers, condition by condition, of the legal tree that the text prints.
--   read-start, read-form   the chain of conditions from 1 on, and from 2 on
--   in-form                 a text without a bad byte is a legal tree's
--   read-tree               the chain from 3 on; read-within from 4 on; read-single from 5 on; read_known has 11 left
-- Assumes nothing.
use mathlib.Core.Path.{◌≡◌, refl, ◌∙◌}
use mathlib.Core.Bool.{false}
use mathlib.Core.List.{List}
use mathlib.Core.Option.{none}
use Prim.Native.Nat.{ℕ, ◌≤◌}
use native.Mathlib.Omega.{arith}
use lib.ListN.{length}
use lib.Dec.{ltb}
use borrow.Author.Tests.{le-ltb}
use Rattle.netlist.specs.declared.Refusal.TheVariants.{TextTooLong, SyntaxError, OverLimit, DuplicateDeclaration}
use Rattle.netlist.specs.declared.Refusal.TheVariants.{UndeclaredName, NoRoom}
use Rattle.netlist.specs.Limits.{max_text}
use Rattle.netlist.specs.StoredBlock.{encode}
use Rattle.netlist.specs.Syntax.{Tree, Legal}
use Rattle.netlist.specs.Parse.{Parsed, got, stuck, parse}
use Rattle.netlist.specs.Reading.{is_over_limit, first_duplicate, first_undeclared, block_of}
use Rattle.netlist.specs.Answers.{Outcome, done, refused, refuse_if, refuse_at, in_room}
use Rattle.netlist.specs.Operations.{counted, read_tree, read_parsed, read_text, read}
use Rattle.theory_grammar.proofs.Adequacy.{legal-parses, parsed-legal}
use Rattle.text_recogniser.specs.Scan.{bad_of, first_bad}
use Rattle.text_lines.specs.Trees.{TextOf}
use Rattle.words_refusals.proofs.Promised.{room-last}
use Rattle.op_read.specs.Steps.{TreeText}

-- ---- 1 and 2

pub read-start : (text : List ℕ) (room : ℕ)
    → read text room ≡ in_room room (refuse_if (ltb max_text (length text)) TextTooLong (read_parsed text (parse text)))
unfolding read read_text
read-start text room = refl

-- what follows 2
unfoldable pub after_form : Parsed Tree → Outcome
after_form (got t rest) = read_tree t
after_form (stuck left) = refused TextTooLong

read-parsed : (text : List ℕ) (p : Parsed Tree) → read_parsed text p ≡ refuse_at (bad_of text p) SyntaxError (after_form p)
unfolding read_parsed refuse_at after_form
read-parsed text (got t rest) = refl
read-parsed text (stuck left) = refl

pub read-form : (text : List ℕ) (room : ℕ) → read text room ≡ in_room room (read_parsed text (parse text))
    → read text room ≡ in_room room (refuse_at (first_bad text) SyntaxError (after_form (parse text)))
unfolding first_bad
read-form text room e = e ∙ rw (read-parsed text (parse text)) refl

pub in-form : (text : List ℕ) → length text ≤ max_text → first_bad text ≡ none → TreeText text
unfolding first_bad
in-form text s e = go (parse text) refl e
  where
    go : (p : Parsed Tree) → parse text ≡ p → bad_of text p ≡ none → TreeText text
    go (got t rest) q h = let l = parsed-legal text t rest q in record {
      tree = l.tree;
      is = record { legal = l.legal; printed = l.printed };
      short = s;
    }
    go (stuck left) q h = let z : ◌≡◌ {A = ℕ} 0 1 = cc in absurd (omega arith)

-- ---- 3, 4, 5 and 11

module _ (t : Tree) (text : List ℕ) (room : ℕ) where
  -- the block's words, and behind each condition what is left
  abbrev words : List ℕ
  words = encode (block_of t)

  abbrev after_repeats : Outcome
  after_repeats = refuse_at (first_undeclared t) UndeclaredName (counted words)

  abbrev after_limits : Outcome
  after_limits = refuse_at (first_duplicate t) DuplicateDeclaration after_repeats

  pub read-tree : TextOf t text → length text ≤ max_text
      → read text room ≡ in_room room (refuse_if (is_over_limit t) OverLimit after_limits)
  unfolding read read_text read_parsed read_tree refuse_if
  read-tree p s =
      let l : Legal text = record { tree = t; legal = p.legal; printed = p.printed } in
      rw (le-ltb max_text (length text) s, legal-parses text l) refl

  module _ (is : TextOf t text) (short : length text ≤ max_text) (within : is_over_limit t ≡ false) where
    pub read-within : read text room ≡ in_room room after_limits
    unfolding refuse_if
    read-within = rw within at read-tree is short

    module _ (single : first_duplicate t ≡ none) where
      pub read-single : read text room ≡ in_room room after_repeats
      unfolding refuse_at
      read-single = rw single at read-within

      pub read_known : first_undeclared t ≡ none
          → read text room ≡ refuse_if (ltb room (length words)) NoRoom (done words (length words) 0)
      unfolding refuse_at counted
      read_known e = (rw e at read-single) ∙ room-last room words (length words) 0
