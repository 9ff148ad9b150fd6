-- A legal name at the front of a text: its bytes are name bytes, it has at most 8, and it is what is read there.
-- Assumes nothing.
use Prim.Native.Nat.{ℕ, zero, suc, ◌≤◌}
use mathlib.Core.Path.{◌≡◌, refl}
use mathlib.Core.Bool.{Bool, true, false, ◌&&◌}
use mathlib.Core.List.{List, [], ◌∷◌, ◌++◌}
use native.Mathlib.Omega.{arith}
use lib.ListN.{length, get_or, drop}
use lib.Dec.{leb}
use borrow.Author.Tests.{leb-true}
use Rattle.prelude.specs.Lists.{all}
use Rattle.prelude.proofs.Tests.{and_left, and_right}
use Rattle.netlist.specs.Netlist.{Name}
use Rattle.netlist.specs.Names.{is_legal_name, is_name_byte}
use Rattle.text_names.specs.Packed.{packed, name_front, name_from, packed_at}

pub name-bytes : (start : ℕ → Bool) (s : Name) → is_legal_name start s ≡ true → all is_name_byte s ≡ true
unfolding is_legal_name
name-bytes start s h = and_right (leb 1 (length s) && leb (length s) 8 && start (get_or s 0 0)) (all is_name_byte s) h

-- the name at the front of a text ends with the first byte that is no name byte
pub front-name : (most : ℕ) (s : List ℕ) (c : ℕ) (rest : List ℕ) → all is_name_byte s ≡ true → length s ≤ most
    → is_name_byte c ≡ false
    → name_front most (s ++ c ∷ rest) ≡ s
unfolding name_front
front-name zero [] c rest a l n = refl
front-name (suc most) [] c rest a l n = rw n
front-name zero (x ∷ xs) c rest a l n = absurd (omega arith)
front-name (suc most) (x ∷ xs) c rest a l n =
    rw (
      and_left (is_name_byte x) (all is_name_byte xs) a,
      front-name most xs c rest (and_right (is_name_byte x) (all is_name_byte xs) a) (omega arith) n,
    )

pub name-length : (start : ℕ → Bool) (s : Name) → is_legal_name start s ≡ true → length s ≤ 8
unfolding is_legal_name
name-length start s h =
    let a = and_left (leb 1 (length s) && leb (length s) 8 && start (get_or s 0 0)) (all is_name_byte s) h in
    let b = and_left (leb 1 (length s) && leb (length s) 8) (start (get_or s 0 0)) a in
    leb-true (length s) 8 (and_right (leb 1 (length s)) (leb (length s) 8) b)

pub front-legal : (start : ℕ → Bool) (s : Name) (c : ℕ) (rest : List ℕ) → is_legal_name start s ≡ true
    → is_name_byte c ≡ false → name_front 8 (s ++ c ∷ rest) ≡ s
front-legal start s c rest h n = front-name 8 s c rest (name-bytes start s h) (name-length start s h) n

-- the number of the name at a place of a text
pub packed-at : (start : ℕ → Bool) (text : List ℕ) (at : ℕ) (s : Name) (c : ℕ) (rest : List ℕ)
    → drop at text ≡ s ++ c ∷ rest → is_legal_name start s ≡ true
    → is_name_byte c ≡ false → packed_at text at ≡ packed s
unfolding name_from packed_at
packed-at start text at s c rest e h n = rw (e, front-legal start s c rest h n)
