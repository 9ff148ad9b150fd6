-- Searching a table of numbers of names finds what searching the names themselves does: membership, the first repeat
-- and what a name stands for. Assumes nothing.
use Prim.Native.Nat.{ℕ, zero, suc, ◌≤◌, ◌<◌}
use mathlib.Core.Path.{◌≡◌, refl, sym, ap, ◌∙◌}
use mathlib.Core.Bool.{Bool, true, false, cond, ◌||◌, false≢true}
use mathlib.Core.List.{List, [], ◌∷◌, map}
use native.Mathlib.Omega.{arith}
use lib.ListN.{length, get_or, take}
use lib.Seq.{get_or-take, length-take-le}
use lib.Dec.{eqb, ltb, leb-suc-suc}
use borrow.Author.Tests.{eqb-true, eq-eqb, lt-ltb}
use Rattle.prelude.specs.Lists.{all, same, member_list, least_from, least}
use Rattle.prelude.proofs.Tests.{and_left, and_right, same_test}
use Rattle.prelude.proofs.Same.{same-eq, eq-same}
use Rattle.prelude.proofs.Least.{least-le, least-below, least_at, least-is}
use Rattle.netlist.specs.Netlist.{Name, Operand}
use Rattle.netlist.specs.Names.{is_name_byte}
use Rattle.netlist.specs.Reading.{Binding, lookup}
use Rattle.text_names.specs.Packed.{packed}
use Rattle.text_names.specs.Search.{is_at, index_of}
use Rattle.text_names.proofs.Packing.{packed-injective}

-- ---- one name

-- all bytes are name bytes, of each name
abbrev pub Bytes : List Name → Type 0
Bytes names = all (all is_name_byte) names ≡ true

pub same-packed : (s u : Name) → all is_name_byte s ≡ true → all is_name_byte u ≡ true
    → eqb (packed u) (packed s) ≡ same s u
same-packed s u a b =
    same_test (eqb (packed u) (packed s)) (same s u)
    (λ e. eq-same s u (sym (packed-injective u s b a (eqb-true (packed u) (packed s) e))))
    (λ e. eq-eqb (packed u) (packed s) (ap packed (sym (same-eq s u e))))

-- ---- the index of a name

least_from-suc : (p : ℕ → Bool) (k n : ℕ) → least_from p (suc k) n ≡ suc (least_from (λ i. p (suc i)) k n)
least_from-suc p k zero = refl
least_from-suc p k (suc n) = go (p (suc k)) (least_from-suc p (suc k) n)
  where
    go : (b : Bool) → least_from p (suc (suc k)) n ≡ suc (least_from (λ i. p (suc i)) (suc k) n)
        → cond b (suc k) (least_from p (suc (suc k)) n) ≡ suc (cond b k (least_from (λ i. p (suc i)) (suc k) n))
    go true e = refl
    go false e = e

-- only the first `count` numbers matter
pub index_same : (xs ys : List ℕ) (count x : ℕ) → ((i : ℕ) → i < count → get_or xs i 0 ≡ get_or ys i 0)
    → index_of xs count x ≡ index_of ys count x
unfolding index_of is_at
index_same xs ys count x h =
    least-is (is_at xs x) count (least (is_at ys x) count) (least-le (is_at ys x) count)
    (λ i l. let le = least-le (is_at ys x) count in rw (h i (omega arith)) (least-below (is_at ys x) count i l))
    (λ l. rw (h (least (is_at ys x) count) l) (least_at (is_at ys x) count l))

pub index-cut : (xs : List ℕ) (i x : ℕ) → i ≤ length xs
    → index_of (take i xs) (length (take i xs)) x ≡ index_of xs i x
index-cut xs i x l =
    rw (length-take-le i xs l) (index_same (take i xs) xs i x (λ j h. get_or-take i xs j 0 h))

pub index-cons : (y : ℕ) (ys : List ℕ) (count x : ℕ)
    → index_of (y ∷ ys) (suc count) x ≡ cond (eqb y x) 0 (suc (index_of ys count x))
unfolding index_of is_at
index-cons y ys count x = ap (cond (eqb y x) 0) (least_from-suc (is_at (y ∷ ys) x) 0 count)

-- a name is found exactly where it is one of them
pub index-member : (s : Name) (names : List Name) → all is_name_byte s ≡ true → Bytes names
    → ltb (index_of (map packed names) (length names) (packed s)) (length names) ≡ member_list s names
unfolding index_of
index-member s [] a b = refl
index-member s (u ∷ us) a b =
    rw (
      index-cons (packed u) (map packed us) (length us) (packed s),
      same-packed s u a (and_left (all is_name_byte u) (all (all is_name_byte) us) b),
    )
    (go (same s u) (index-member s us a (and_right (all is_name_byte u) (all (all is_name_byte) us) b)))
  where
    go : (b : Bool) → ltb (index_of (map packed us) (length us) (packed s)) (length us) ≡ member_list s us
        → ltb (cond b 0 (suc (index_of (map packed us) (length us) (packed s)))) (suc (length us))
        ≡ (b || member_list s us)
    go true e = lt-ltb 0 (suc (length us)) (omega arith)
    go false e = leb-suc-suc (suc (index_of (map packed us) (length us) (packed s))) (length us) ∙ e

-- what a name stands for stands at its index
pub index-lookup : (f : Operand → ℕ) (s : Name) (bs : List Binding) → all is_name_byte s ≡ true
    → Bytes (map (λ (b : Binding). b.name) bs)
    → member_list s (map (λ (b : Binding). b.name) bs) ≡ true
    → get_or (map (λ (b : Binding). f b.node) bs)
    (index_of (map packed (map (λ (b : Binding). b.name) bs)) (length bs) (packed s)) 0 ≡ f (lookup bs s)
unfolding lookup
index-lookup f s [] a b m = absurd (false≢true m)
index-lookup f s (x ∷ xs) a b m =
    let names = map (λ (b : Binding). b.name) xs in
    rw (
      index-cons (packed x.name) (map packed names) (length xs) (packed s),
      same-packed s x.name a (and_left (all is_name_byte x.name) (all (all is_name_byte) names) b),
    )
    (go (same s x.name) m (index-lookup f s xs a
    (and_right (all is_name_byte x.name) (all (all is_name_byte) names) b)))
  where
    go : (t : Bool) → t || member_list s (map (λ (b : Binding). b.name) xs) ≡ true
        → (member_list s (map (λ (b : Binding). b.name) xs) ≡ true
        → get_or (map (λ (b : Binding). f b.node) xs)
        (index_of (map packed (map (λ (b : Binding). b.name) xs)) (length xs) (packed s)) 0 ≡ f (lookup xs s))
        → get_or (f x.node ∷ map (λ (b : Binding). f b.node) xs)
        (cond t 0 (suc (index_of (map packed (map (λ (b : Binding). b.name) xs)) (length xs) (packed s)))) 0
        ≡ f (cond t x.node (lookup xs s))
    go true m e = refl
    go false m e = e m
