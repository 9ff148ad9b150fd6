-- The four words of a port's number are those of its name. Assumes nothing.
use mathlib.Core.Path.{◌≡◌, refl, ◌∙◌}
use mathlib.Core.Bool.{true, ◌&&◌}
use mathlib.Core.List.{List, [], ◌∷◌}
use Prim.Native.Nat.{ℕ, ◌+◌, ◌*◌, ◌/◌, ◌%◌}
use native.Mathlib.Omega.{arith}
use lib.ListN.{get_or, drop}
use lib.Seq.{get_or-drop}
use Rattle.prelude.specs.Lists.{all}
use Rattle.prelude.proofs.Tests.{and_left, and_right}
use Rattle.netlist.specs.Netlist.{Name}
use Rattle.netlist.specs.StoredBlock.{name_words}
use Rattle.netlist.specs.Names.{is_name_byte}
use Rattle.text_names.specs.Packed.{packed}
use Rattle.text_names.proofs.Packing.{name-byte-range}
use Rattle.text_names.specs.Ports.{port_words}

record Halves (x : Name) : Type 0 where
  low : packed x % 65536 ≡ get_or x 0 0 + 256 * get_or x 1 0
  high : packed x / 65536 ≡ packed (drop 2 x)
  legal : all is_name_byte (drop 2 x) ≡ true

halves : (x : Name) → all is_name_byte x ≡ true → Halves x
halves [] h = record { low = refl; high = refl; legal = refl }
halves (a ∷ []) h =
    let p = (name-byte-range a (and_left (is_name_byte a) true h)).1 in
    record { low = omega arith; high = omega arith; legal = refl }
halves (a ∷ b ∷ x) h =
    let p = (name-byte-range a (and_left (is_name_byte a) (is_name_byte b && all is_name_byte x) h)).1 in
    let r = and_right (is_name_byte a) (is_name_byte b && all is_name_byte x) h in
    let q = (name-byte-range b (and_left (is_name_byte b) (all is_name_byte x) r)).1 in
    record { low = omega arith; high = omega arith; legal = and_right (is_name_byte b) (all is_name_byte x) r }

four : {a b c d e f g h : ℕ} → a ≡ e → b ≡ f → c ≡ g → d ≡ h
    → ◌≡◌ {A = List ℕ} (a ∷ b ∷ c ∷ d ∷ []) (e ∷ f ∷ g ∷ h ∷ [])
four p q r s = rw (p, q, r, s)

pub port-words : (x : Name) → all is_name_byte x ≡ true → port_words (packed x) ≡ name_words x
unfolding port_words name_words
port-words x h =
    let y = drop 2 x in
    let z = drop 2 y in
    let a = halves x h in
    let b = halves y a.legal in
    let c = halves z b.legal in
    let d = halves (drop 2 z) c.legal in
    let e : packed x / 4294967296 ≡ packed z = omega (arith, a.high, b.high) in
    let f : packed x / 281474976710656 ≡ packed (drop 2 z) = omega (arith, e, c.high) in
    let z₀ : (i : ℕ) → get_or z i 0 ≡ get_or x (2 + (2 + i)) 0 = λ i. get_or-drop 2 y i 0 ∙ get_or-drop 2 x (2 + i) 0 in
    let v₀ : (i : ℕ) → get_or (drop 2 z) i 0 ≡ get_or x (2 + (2 + (2 + i))) 0 = λ i. get_or-drop 2 z i 0 ∙ z₀ (2 + i) in
    let p : packed x / 65536 % 65536 ≡ get_or x 2 0 + 256 * get_or x 3 0 = rw
    (a.high, b.low, get_or-drop 2 x 0 0, get_or-drop 2 x 1 0) in
    let q : packed x / 4294967296 % 65536 ≡ get_or x 4 0 + 256 * get_or x 5 0 = rw (e, c.low, z₀ 0, z₀ 1) in
    let r : packed x / 281474976710656 % 65536 ≡ get_or x 6 0 + 256 * get_or x 7 0 = rw (f, d.low, v₀ 0, v₀ 1) in
    four a.low p q r
