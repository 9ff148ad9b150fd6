-- The loop over a text's lines: how far it has come, one line more, and what the text's form is in the end. Assumes
-- nothing.
use mathlib.Core.Path.{◌≡◌, refl, sym, ap, ◌∙◌}
use mathlib.Core.List.{List, [], ◌∷◌}
use mathlib.Core.Bool.{true, false}
use lib.Dec.{eqb}
use borrow.Author.Tests.{eq-eqb, ne_eqb}
use Rattle.prelude.proofs.Tests.{not-both}
use Prim.Native.Nat.{ℕ, suc, ◌-◌, ◌≤◌, ◌<◌}
use native.Mathlib.Omega.{arith}
use lib.ListN.{length, get_or}
use Rattle.std.specs.Prelude.{Ok, Err}
use Rattle.netlist.specs.Syntax.{Tree}
use Rattle.netlist.specs.Parse.{Parsed, got, stuck, parse}
use Rattle.netlist.specs.declared.Refusal.TheVariants.{SyntaxError}
use Rattle.std.specs.declared.result.Result.TheVariants.{Ok, Err}
use Rattle.words_refusals.specs.Tests.{test_at}
use Rattle.text_recogniser.specs.Readers.{bad_of, scan_of, last_ones}
use Rattle.text_recogniser.proofs.ListFacts.{length_last}
use Rattle.text_recogniser.proofs.Continues.{then_of, stuck-short, then-read, then-refused}
use Rattle.text_recogniser.specs.Scan.{first_bad, line_reader, phase_of}
use Rattle.text_recogniser.proofs.LineChoice.{shortens-line, line-shorter}
use Rattle.text_recogniser.proofs.Phases.{lines_reader, lines_step, lines-over}

-- the test from what is left
form-stuck : (text : List ℕ) (n : ℕ) → scan_of (parse text) ≡ Err n
    → test_at (first_bad text) SyntaxError ≡ Err (SyntaxError (length text - n))
unfolding first_bad test_at
form-stuck text n e = go (parse text) e
  where
    go : (p : Parsed Tree) → scan_of p ≡ Err n
        → test_at (bad_of text p) SyntaxError ≡ Err (SyntaxError (length text - n))
    go (got t rest) e = let z : ◌≡◌ {A = ℕ} 0 1 = cc in absurd (omega arith)
    go (stuck left) e = let f : left ≡ n = cc in rw f

form-legal : (text : List ℕ) (n : ℕ) → scan_of (parse text) ≡ Ok n → test_at (first_bad text) SyntaxError ≡ Ok tt
unfolding first_bad test_at
form-legal text n e = go (parse text) e
  where
    go : (p : Parsed Tree) → scan_of p ≡ Ok n → test_at (bad_of text p) SyntaxError ≡ Ok tt
    go (got t rest) e = refl
    go (stuck left) e = let z : ◌≡◌ {A = ℕ} 0 1 = cc in absurd (omega arith)

-- the lines before `rest` are read, and those of it may be of this phase; `more` bounds their number
pub record Reached (text : List ℕ) (phase : ℕ) (rest : List ℕ) : Type 0 where
  pub within : length rest ≤ length text
  pub more : ℕ
  pub enough : length rest ≤ more
  pub is-rest : scan_of (parse text) ≡ scan_of (lines_reader phase more rest)

pub reached-start : (text : List ℕ) → Reached text 0 text
unfolding parse lines_reader
reached-start text = record { within = omega arith; more = length text; enough = omega arith; is-rest = refl }

some_left : (s : List ℕ) → false ≡ eqb (length s) 0 → 0 < length s
some_left [] e = not-both (eq-eqb 0 0 refl) (sym e)
some_left (c ∷ s) e = omega arith

none_left : (s : List ℕ) → true ≡ eqb (length s) 0 → s ≡ []
none_left [] e = refl
none_left (c ∷ s) e = not-both (sym e) (ne_eqb (length (c ∷ s)) 0 (λ z. omega arith))

module _ (text : List ℕ) (phase : ℕ) (rest : List ℕ) (r : Reached text phase rest)
    (is-left : false ≡ eqb (length rest) 0) where
  open-end : 0 < length rest
  open-end = some_left rest is-left

  -- one line, and then the others: there is room for one
  one_line : scan_of (parse text)
      ≡ then_of (line_reader phase rest) (λ u. scan_of (lines_reader (phase_of (get_or rest 1 0)) (r.more - 1) u))
  one_line =
      let f : r.more ≡ suc (r.more - 1) = omega (arith, r.enough, open-end) in
      r.is-rest ∙ ap (λ (m : ℕ). scan_of (lines_reader phase m rest)) f ∙ lines_step phase (r.more - 1) rest open-end

  module _ {n : ℕ} where
    pub line-left : Ok n ≡ scan_of (line_reader phase rest) → n < length rest
    line-left e = line-shorter phase rest open-end e

    pub line-stuck : Err n ≡ scan_of (line_reader phase rest) → n ≤ length text
    line-stuck e = omega (arith, stuck-short (shortens-line phase) rest e, r.within)

    pub left-less : {t : List ℕ} → Ok n ≡ scan_of (line_reader phase rest) → t ≡ last_ones n rest
        → length t < length rest
    left-less e f = let l : n < length rest = line-left e in rw f (rw (length_last n rest (omega arith)) l)

    pub reached-next : {t : List ℕ} → Ok n ≡ scan_of (line_reader phase rest) → t ≡ last_ones n rest
        → Reached text (phase_of (get_or rest 1 0)) t
    reached-next {t} e f =
        let l : n < length rest = line-left e in
        let k : length t ≡ n = rw f (length_last n rest (omega arith)) in
        record {
          within = omega (arith, r.within);
          more = r.more - 1;
          enough = omega (arith, r.enough);
          is-rest = rw f (one_line ∙ then-read _ (shortens-line phase) rest e);
        }

    pub reached-stuck : Err n ≡ scan_of (line_reader phase rest)
        → test_at (first_bad text) SyntaxError ≡ Err (SyntaxError (length text - n))
    reached-stuck e = form-stuck text n (one_line ∙ then-refused (line_reader phase rest) _ e)

pub reached-end : (text : List ℕ) (phase : ℕ) (rest : List ℕ) → Reached text phase rest → true ≡ eqb (length rest) 0
    → test_at (first_bad text) SyntaxError ≡ Ok tt
reached-end text phase rest r h = form-legal text 0 (r.is-rest ∙ rw (none_left rest h) (lines-over phase r.more))
