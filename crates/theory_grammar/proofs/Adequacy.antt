-- The parser is right: a text is legal exactly where it parses, and where it does not, the place is that of the first
-- bad byte. These are the statements to cite; `parse-sound` and `parse-complete` are in Sound and Complete.
-- Assumes nothing.
--   legal-parses, parsed-legal: a text is legal exactly when it parses
--   parse-refused: where it does not, the place is that of the first bad byte
--   first-bad-refused, and first-bad-one in FirstBad: there is only one such place
use Prim.Native.Nat.{ℕ, zero, suc, ◌+◌, ◌-◌, ◌≤◌}
use mathlib.Core.Path.{◌≡◌, refl, ap, ◌∙◌}
use mathlib.Core.Logic.{◌⊎◌, inl, inr}
use mathlib.Core.Bool.{true, false≢true}
use mathlib.Core.List.{List, [], ◌++◌}
use native.Mathlib.Omega.{arith}
use lib.ListN.{length, take}
use Rattle.netlist.specs.Syntax.{Tree, print, Legal, Viable, FirstBad}
use Rattle.netlist.specs.Parse.{Parsed, got, stuck, text_reader, parse}
use Rattle.theory_grammar.proofs.Sound.{text_reader-sound, parse-sound}
use Rattle.theory_grammar.proofs.Lengths.{line_count-length}
use Rattle.theory_grammar.proofs.Complete.{text_reader-complete}
use Rattle.theory_grammar.proofs.Refusals.{accepted, Fails}
use Rattle.theory_grammar.proofs.FirstBad.{fails-within, fails-begins, fails-bad, first-bad-one}
use Rattle.theory_grammar.proofs.RefusedText.{text_reader-good}
use Rattle.theory_grammar.proofs.Bound.{text_reader-bound}

-- ---- acceptance is legality

accepted-legal : (n : ℕ) (text : List ℕ) → accepted (text_reader n text) ≡ true → Legal text
accepted-legal n text h = go (text_reader n text) refl h
  where
    go : (p : Parsed Tree) → text_reader n text ≡ p → accepted p ≡ true → Legal text
    go (got t rest) e h = let f = (text_reader-sound n text).holds t rest e in record {
      tree = t;
      legal = f.legal;
      printed = f.printed;
    }
    go (stuck m) e h = absurd (false≢true h)

legal-parsed : (n : ℕ) (text : List ℕ) (l : Legal text) → length text ≤ n → text_reader n text ≡ got l.tree []
legal-parsed n text l le =
    let h : length (print l.tree) ≡ length text = ap length l.printed in
    rw l.printed at (text_reader-complete l.tree n l.legal (omega (arith, line_count-length l.tree)))

-- A legal text parses to its tree.
pub legal-parses : (text : List ℕ) (l : Legal text) → parse text ≡ got l.tree []
unfolding parse
legal-parses text l = legal-parsed (length text) text l (omega arith)

-- A text that parses is legal.
pub parsed-legal : (text : List ℕ) (t : Tree) (rest : List ℕ) → parse text ≡ got t rest → Legal text
parsed-legal text t rest e = let f = parse-sound text t rest e in record { tree = t; legal = f.1; printed = f.2 }

-- A text that does not parse is refused at its first bad byte, and the number of bytes left is within it.
module _ (text : List ℕ) where
  refused-fails : (n left : ℕ) → length text ≤ n → parse text ≡ stuck left → Fails (text_reader n) text left
  unfolding parse
  refused-fails n left le e =
      (text_reader-good n).half.fails text left (text_reader-bound n (length text) text le (omega arith) ∙ e)

  pub refused-within : (left : ℕ) → parse text ≡ stuck left → left ≤ length text
  refused-within left e = fails-within _ text left (refused-fails (length text) left (omega arith) e)

  refused-begins : (left : ℕ) → parse text ≡ stuck left → Viable (take (length text - left) text)
  refused-begins left e =
      let g = text_reader-good (length text) in
      let b = fails-begins (text_reader (length text)) (g.sample, g.accepts) text left
      (refused-fails (length text) left (omega arith) e) in
      record { rest = b.0; legal = accepted-legal (length text) _ b.1 }

  refused-bad : (left : ℕ) → parse text ≡ stuck left
      → (length text - left ≡ length text) ⊎ (Viable (take (suc (length text - left)) text) → ⊥)
  refused-bad zero e = inl (omega arith)
  refused-bad (suc n) e = inr λ v.
      let beginning = take (suc (length text - suc n)) text ++ v.rest in
      let bound = length text + length beginning in
      let p = legal-parsed bound beginning v.legal (omega arith) in
      fails-bad (text_reader bound) text n (refused-fails bound (suc n) (omega arith) e) v.rest (ap accepted p)

  -- Refused place.
  pub parse-refused : (left : ℕ) → parse text ≡ stuck left → FirstBad text (length text - left)
  parse-refused left e = record {
    illegal = λ l. let p = legal-parses text l in let z : ◌≡◌ {A = ℕ} 0 1 = cc in omega arith;
    begins = refused-begins left e;
    bad = refused-bad left e;
  }

module _ (text : List ℕ) where
  -- A text with a first bad byte is refused there.
  pub first-bad-refused : (d : ℕ) → FirstBad text d → parse text ≡ stuck (length text - d)
  first-bad-refused d f = go (parse text) refl
    where
      go : (p : Parsed Tree) → parse text ≡ p → p ≡ stuck (length text - d)
      go (got t rest) e = absurd (f.illegal (parsed-legal text t rest e))
      go (stuck left) e =
          let h = first-bad-one text d (length text - left) f (parse-refused text left e) in
          let g = refused-within text left e in
          ap stuck (let q : left ≡ length text - d = omega arith in q)
