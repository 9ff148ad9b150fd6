-- A reader leaves the end of the text that it was given, and is stuck inside it: kept by each way to make a reader, so
-- true of all of them. Assumes nothing.
use mathlib.Core.Path.{◌≡◌, refl, ap, ◌∙◌}
use mathlib.Core.Bool.{Bool, true, false}
use mathlib.Core.List.{List, [], ◌∷◌}
use Prim.Native.Nat.{ℕ, zero, suc, ◌+◌, ◌-◌, ◌≤◌}
use native.Mathlib.Nat.{le_refl, le_trans}
use native.Mathlib.Omega.{arith}
use lib.ListN.{length, drop}
use lib.Seq.{drop-drop}
use lib.Dec.{eqb}
use Rattle.netlist.specs.Limits.{max_name}
use Rattle.netlist.specs.Names.{is_name_byte}
use Rattle.netlist.specs.Parse.{Parsed, got, stuck, Reader, pure, stop, on_test, if_next, expect, on_parsed, bind}
use Rattle.netlist.specs.Parse.{name_bytes, name_after, name_reader}
use Rattle.text_recogniser.specs.Readers.{last_ones, word_reader}

-- the second text is the end of the first
pub record Tail (s rest : List ℕ) : Type 0 where
  pub taken : ℕ
  pub counts : taken + length rest ≡ length s
  pub is-end : rest ≡ drop taken s

pub tail-refl : (s : List ℕ) → Tail s s
tail-refl s = record { taken = 0; counts = omega arith; is-end = refl }

tail-cons : (c : ℕ) {s rest : List ℕ} → Tail s rest → Tail (c ∷ s) rest
tail-cons c {s} {rest} t =
    let e : t.taken + length rest ≡ length s = t.counts in record
    { taken = suc t.taken; counts = omega arith; is-end = t.is-end }

tail-trans : {s t u : List ℕ} → Tail s t → Tail t u → Tail s u
tail-trans {s} {t} {u} p q =
    record {
      taken = p.taken + q.taken;
      counts = omega (arith, p.counts, q.counts);
      is-end = q.is-end ∙ ap (λ (l : List ℕ). drop q.taken l) p.is-end ∙ drop-drop q.taken p.taken s;
    }

-- what is left is no longer, and is the last bytes
pub tail-short : {s rest : List ℕ} → Tail s rest → length rest ≤ length s
tail-short t = omega (arith, t.counts)

pub tail-last : {s rest : List ℕ} → Tail s rest → rest ≡ last_ones (length rest) s
tail-last {s} {rest} t = let e : t.taken ≡ length s - length rest = omega (arith, t.counts) in rw (← e) t.is-end

module _ {A : Type 0} where
  abbrev pub Leaves : List ℕ → Parsed A → Type 0
  Leaves s (got a rest) = Tail s rest
  Leaves s (stuck left) = left ≤ length s

  carried : {s t : List ℕ} → Tail s t → (p : Parsed A) → Leaves t p → Leaves s p
  carried h (got a rest) l = tail-trans h l
  carried h (stuck left) l = le_trans l (tail-short h)

-- the reader leaves the end of every text
pub record Shortens {A : Type 0} (R : Reader A) : Type 0 where
  pub leaves : (s : List ℕ) → Leaves s (R s)

module _ {A : Type 0} where
  pub shortens-pure : (a : A) → Shortens (pure a)
  unfolding pure
  shortens-pure a = record { leaves = λ s. tail-refl s }

  pub shortens-stop : Shortens {A = A} stop
  unfolding stop
  shortens-stop = record { leaves = λ s. le_refl (length s) }

  pub shortens-if : (test : ℕ → Bool) {first : ℕ → Reader A} {second : Reader A}
      → ((c : ℕ) → Shortens (first c)) → Shortens second → Shortens (if_next test first second)
  unfolding if_next on_test
  shortens-if test {first} {second} f g = record { leaves = λ s. go s }
    where
      at : (b : Bool) (c : ℕ) (s : List ℕ) → Leaves (c ∷ s) (on_test b first second c s)
      at true c s = carried (tail-cons c (tail-refl s)) (first c s) ((f c).leaves s)
      at false c s = g.leaves (c ∷ s)

      go : (s : List ℕ) → Leaves s (if_next test first second s)
      go [] = g.leaves []
      go (c ∷ s) = at (test c) c s

  pub shortens-expect : (w : List ℕ) {next : Reader A} → Shortens next → Shortens (expect w next)
  unfolding expect
  shortens-expect [] h = h
  shortens-expect (c ∷ cs) h = let r = shortens-expect cs h in shortens-if (eqb c) (λ _. r) shortens-stop

module _ {A B : Type 0} where
  pub shortens-bind : {first : Reader A} {next : A → Reader B} → Shortens first → ((a : A) → Shortens (next a))
      → Shortens (bind first next)
  unfolding bind on_parsed
  shortens-bind {first} {next} f g = record { leaves = λ s. go s (first s) (f.leaves s) }
    where
      go : (s : List ℕ) (p : Parsed A) → Leaves s p → Leaves s (on_parsed next p)
      go s (got a t) l = carried l (next a t) ((g a).leaves t)
      go s (stuck left) l = l

-- ---- the readers that the code calls

pub shortens-name-bytes : (most : ℕ) → Shortens (name_bytes most)
unfolding name_bytes
shortens-name-bytes zero = shortens-pure []
shortens-name-bytes (suc most) =
    let r = shortens-name-bytes most in
    shortens-if is_name_byte (λ c. shortens-bind r (λ cs. shortens-pure (c ∷ cs))) (shortens-pure [])

pub shortens-name : (start : ℕ → Bool) → Shortens (name_reader start)
unfolding name_reader name_after
shortens-name start =
    shortens-if start (λ c. shortens-bind (shortens-name-bytes (max_name - 1)) (λ cs. shortens-pure (c ∷ cs)))
    shortens-stop

pub shortens-word : (w : List ℕ) → Shortens (word_reader w)
unfolding word_reader
shortens-word w = shortens-expect w (shortens-pure 0)
