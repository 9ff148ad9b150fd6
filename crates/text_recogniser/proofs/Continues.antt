-- A reader that first does what another does, and then goes on: what the code knows of a reader when it has called
-- another. Where the first has read, the second goes on with the last bytes; where it is stuck, so is the whole.
-- Assumes nothing.
use mathlib.Core.Path.{◌≡◌, refl, sym, ap, ◌∙◌}
use mathlib.Core.Bool.{Bool, true, false}
use mathlib.Core.List.{List, [], ◌∷◌}
use Prim.Native.Nat.{ℕ, ◌≤◌}
use native.Mathlib.Omega.{arith}
use lib.ListN.{length}
use lib.Dec.{eqb}
use Rattle.std.specs.Prelude.{Result, Ok, Err}
use Rattle.netlist.specs.Parse.{Parsed, got, stuck, Reader, pure, stop, on_test, if_next, expect, on_parsed, bind}
use Rattle.text_recogniser.specs.Readers.{scan_of, last_ones, word_reader}
use Rattle.text_recogniser.proofs.Shortens.{tail-short, tail-last, Leaves, Shortens}

-- what comes of an answer and of what follows it
abbrev pub then_of : {A : Type 0} → Parsed A → (List ℕ → Result ℕ ℕ) → Result ℕ ℕ
then_of (got a t) k = k t
then_of (stuck left) k = Err left

-- `whole` does what `first` does, and then `k`
pub record Continues {A B : Type 0} (whole : Reader B) (first : Reader A) (k : List ℕ → Result ℕ ℕ) : Type 0 where
  pub goes_on : (s : List ℕ) → scan_of (whole s) ≡ then_of (first s) k

module _ {A B : Type 0} where
  pub continues-bind : (first : Reader A) (next : A → Reader B) (k : List ℕ → Result ℕ ℕ)
      → ((a : A) (t : List ℕ) → scan_of (next a t) ≡ k t)
      → Continues (bind first next) first k
  unfolding bind on_parsed
  continues-bind first next k h = record { goes_on = λ s. go (first s) }
    where
      go : (p : Parsed A) → scan_of (on_parsed next p) ≡ then_of p k
      go (got a t) = h a t
      go (stuck left) = refl

module _ {A B C : Type 0} where
  pub continues-after-bind : (first : Reader C) {next : C → Reader B} {next₀ : C → Reader A} {k : List ℕ → Result ℕ ℕ}
      → ((c : C) → Continues (next c) (next₀ c) k) → Continues (bind first next) (bind first next₀) k
  unfolding bind on_parsed
  continues-after-bind first {next} {next₀} {k} h = record { goes_on = λ s. go (first s) }
    where
      go : (p : Parsed C) → scan_of (on_parsed next p) ≡ then_of (on_parsed next₀ p) k
      go (got a t) = (h a).goes_on t
      go (stuck left) = refl

module _ {A B : Type 0} where
  pub continues-after-if : (test : ℕ → Bool) {first : ℕ → Reader B} {first₀ : ℕ → Reader A} {k : List ℕ → Result ℕ ℕ}
      → ((c : ℕ) → Continues (first c) (first₀ c) k) → Continues (if_next test first stop) (if_next test first₀ stop) k
  unfolding if_next on_test stop
  continues-after-if test {first} {first₀} {k} h = record { goes_on = λ s. go s }
    where
      at : (b : Bool) (c : ℕ) (s : List ℕ) → scan_of (on_test b first stop c s) ≡ then_of (on_test b first₀ stop c s) k
      at true c s = (h c).goes_on s
      at false c s = refl

      go : (s : List ℕ) → scan_of (if_next test first stop s) ≡ then_of (if_next test first₀ stop s) k
      go [] = refl
      go (c ∷ s) = at (test c) c s

  pub continues-after-expect : (w : List ℕ) {next : Reader B} {next₀ : Reader A} {k : List ℕ → Result ℕ ℕ}
      → Continues next next₀ k → Continues (expect w next) (expect w next₀) k
  unfolding expect
  continues-after-expect [] h = h
  continues-after-expect (c ∷ cs) h = let r = continues-after-expect cs h in continues-after-if (eqb c) (λ _. r)

  pub continues-pure : (a : A) (next : Reader B) → Continues next (pure a) (λ t. scan_of (next t))
  unfolding pure
  continues-pure a next = record { goes_on = λ s. refl }

-- a word, and then
pub continues-word : {B : Type 0} (w : List ℕ) (next : Reader B)
    → Continues (expect w next) (word_reader w) (λ t. scan_of (next t))
unfolding word_reader
continues-word w next = continues-after-expect w (continues-pure 0 next)

-- a reader whose value is not used, and then
pub continues-skip : {A B : Type 0} (R : Reader A) (next : Reader B)
    → Continues (bind R (λ _. next)) R (λ t. scan_of (next t))
continues-skip R next = continues-bind R (λ _. next) (λ t. scan_of (next t)) (λ _ _. refl)

-- where what follows is the same
pub continues-same : {A B : Type 0} {whole : Reader B} {first : Reader A} {k j : List ℕ → Result ℕ ℕ}
    → Continues whole first k → ((t : List ℕ) → k t ≡ j t)
    → Continues whole first j
continues-same {A} {B} {whole} {first} {k} {j} c h = record { goes_on = λ s. c.goes_on s ∙ go (first s) }
  where
    go : (p : Parsed A) → then_of p k ≡ then_of p j
    go (got a t) = h t
    go (stuck left) = refl

-- the value of a reader plays no part in its scan
pub scan-map : {A B : Type 0} (R : Reader A) (f : A → B) (s : List ℕ)
    → scan_of (bind R (λ a. pure (f a)) s) ≡ scan_of (R s)
unfolding bind on_parsed pure
scan-map {A} R f s = go (R s)
  where
    go : (p : Parsed A) → scan_of (on_parsed (λ a. pure (f a)) p) ≡ scan_of p
    go (got a t) = refl
    go (stuck left) = refl

-- ---- what a call tells

-- what is left is no more than there was
pub left-short : {A : Type 0} {R : Reader A} → Shortens R → (s : List ℕ) {n : ℕ} → Ok n ≡ scan_of (R s) → n ≤ length s
left-short {A} {R} h s {n} e = go (R s) (h.leaves s) e
  where
    go : (p : Parsed A) → Leaves s p → Ok n ≡ scan_of p → n ≤ length s
    go (got a t) l e = let f : n ≡ length t = cc in rw f (tail-short l)
    go (stuck left) l e = let z : ◌≡◌ {A = ℕ} 0 1 = cc in omega arith

-- the call has read: what follows goes on with what is left
pub then-read : {A : Type 0} {R : Reader A} (k : List ℕ → Result ℕ ℕ) → Shortens R → (s : List ℕ) {n : ℕ}
    → Ok n ≡ scan_of (R s) → then_of (R s) k ≡ k (last_ones n s)
then-read {A} {R} k h s {n} e = go (R s) (h.leaves s) e
  where
    go : (p : Parsed A) → Leaves s p → Ok n ≡ scan_of p → then_of p k ≡ k (last_ones n s)
    go (got a t) l e = let f : n ≡ length t = cc in rw f (ap k (tail-last l))
    go (stuck left) l e = let z : ◌≡◌ {A = ℕ} 0 1 = cc in absurd (omega arith)

-- the call has refused: nothing follows
pub then-refused : {A : Type 0} (p : Parsed A) (k : List ℕ → Result ℕ ℕ) {n : ℕ} → Err n ≡ scan_of p
    → then_of p k ≡ Err n
then-refused (got a t) k e = let z : ◌≡◌ {A = ℕ} 0 1 = cc in absurd (omega arith)
then-refused (stuck left) k e = sym e

pub stuck-short : {A : Type 0} {R : Reader A} → Shortens R → (s : List ℕ) {n : ℕ} → Err n ≡ scan_of (R s) → n ≤ length s
stuck-short {A} {R} h s {n} e = go (R s) (h.leaves s) e
  where
    go : (p : Parsed A) → Leaves s p → Err n ≡ scan_of p → n ≤ length s
    go (got a t) l e = let z : ◌≡◌ {A = ℕ} 0 1 = cc in omega arith
    go (stuck left) l e = let f : n ≡ left = cc in rw f l
