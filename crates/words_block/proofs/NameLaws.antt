-- The eight bytes of a name, read one by one: where each stands, and what it says of the rest. Assumes nothing.
use mathlib.Core.Path.{◌≡◌, refl, sym, ap, ◌∙◌}
use mathlib.Core.Bool.{Bool, true, false, cond, ◌&&◌}
use mathlib.Core.List.{List, []}
use Prim.Native.Nat.{ℕ, zero, suc, ◌+◌, ◌*◌, ◌/◌, ◌%◌, ◌≤◌, ◌<◌}
use native.Mathlib.Nat.{mul-le-mul}
use native.Mathlib.Numerals.{add-one}
use native.Mathlib.Omega.{arith}
use lib.ListN.{length, get_or, drop}
use lib.Seq.{drop-cons}
use lib.Dec.{eqb}
use borrow.Author.Tests.{ne_eqb}
use Rattle.netlist.specs.StoredBlock.{bytes_at}
use Rattle.netlist.specs.Names.{is_name_byte}
use Rattle.theory_encoding.specs.Rules.{padded}
use Rattle.words_block.specs.NameSteps.{zeros_from}

-- byte i is in word i / 2, the lower half of the word first
pub byte-is : (ws : List ℕ) (at i : ℕ) → i < 8 →
    cond (eqb (i % 2) 0) (get_or ws (at + i / 2) 0 % 256) (get_or ws (at + i / 2) 0 / 256) ≡ get_or (bytes_at ws at) i 0
unfolding bytes_at
byte-is ws at zero h = refl
byte-is ws at (suc zero) h = refl
byte-is ws at (suc (suc zero)) h = refl
byte-is ws at (suc (suc (suc zero))) h = refl
byte-is ws at (suc (suc (suc (suc zero)))) h = refl
byte-is ws at (suc (suc (suc (suc (suc zero))))) h = refl
byte-is ws at (suc (suc (suc (suc (suc (suc zero)))))) h = refl
byte-is ws at (suc (suc (suc (suc (suc (suc (suc zero))))))) h = refl
byte-is ws at (suc (suc (suc (suc (suc (suc (suc (suc i)))))))) h = absurd (omega arith)

-- a name has eight bytes
pub bytes-length : (ws : List ℕ) (at : ℕ) → length (bytes_at ws at) ≡ 8
unfolding bytes_at
bytes-length ws at = refl

bytes-end : (ws : List ℕ) (at i : ℕ) → 8 ≤ i → i ≤ 8 → drop i (bytes_at ws at) ≡ []
unfolding bytes_at
bytes-end ws at i a b = let e : i ≡ 8 = omega arith in rw e

-- what element i says of the list from i on
module _ (bs : List ℕ) (i : ℕ) (inside : i < length bs) where
  padded-from : padded (drop i bs) ≡ cond (eqb (get_or bs i 0) 0) (zeros_from bs (i + 1))
      (is_name_byte (get_or bs i 0) && padded (drop (i + 1) bs))
  unfolding padded
  padded-from = rw (add-one, drop-cons bs i 0)

-- The invariant of a loop over the eight bytes: i of them are passed, and a test of all is the test of the others.
pub record Rest (test : List ℕ → Bool) (ws : List ℕ) (at first i : ℕ) : Type 0 where
  pub within : i ≤ 8
  pub same : test (drop first (bytes_at ws at)) ≡ test (drop i (bytes_at ws at))

pub rest-start : {test : List ℕ → Bool} {ws : List ℕ} {at first : ℕ} → first ≤ 8 → Rest test ws at first first
rest-start l = record { within = l; same = refl }

-- past the last byte nothing is left
pub rest_end : {test : List ℕ → Bool} {ws : List ℕ} {at first i : ℕ} → Rest test ws at first i → 8 ≤ i
    → test [] ≡ test (drop first (bytes_at ws at))
rest_end {test} {ws} {at} {first} {i} h l = sym (h.same ∙ ap test (bytes-end ws at i l h.within))

inside-bytes : (ws : List ℕ) (at i : ℕ) → i < 8 → i < length (bytes_at ws at)
inside-bytes ws at i h = rw (bytes-length ws at) h

-- byte i, which was read as r, decides the test or leaves it to the bytes behind it
module _ {ws : List ℕ} {at first i r : ℕ} (inside : i < 8) (read : r ≡ get_or (bytes_at ws at) i 0) where
  pub padded-zero : Rest padded ws at first i → r ≡ 0
      → zeros_from (bytes_at ws at) (i + 1) ≡ padded (drop first (bytes_at ws at))
  padded-zero h e = sym (h.same ∙ rw (padded-from (bytes_at ws at) i (inside-bytes ws at i inside), ← read, e))

  pub padded-more : Rest padded ws at first i → (r ≡ 0 → ⊥) → is_name_byte r ≡ true
      → Rest padded ws at first (i + 1)
  padded-more h e t =
      record {
        within = omega arith;
        same = h.same
            ∙ rw (padded-from (bytes_at ws at) i (inside-bytes ws at i inside), ← read, ne_eqb r 0 e, t);
      }

  pub padded-fails : Rest padded ws at first i → (r ≡ 0 → ⊥) → is_name_byte r ≡ false
      → false ≡ padded (drop first (bytes_at ws at))
  padded-fails h e t =
      sym (h.same ∙ rw (padded-from (bytes_at ws at) i (inside-bytes ws at i inside), ← read, ne_eqb r 0 e, t))

-- where name i stands
pub place-le : (at size i : ℕ) → at ≤ 8192 → size ≤ 5 → i ≤ 1024 → at + size * i ≤ 65535
place-le at size i a b c = let h : size * i ≤ 5 * 1024 = mul-le-mul b c in omega arith
