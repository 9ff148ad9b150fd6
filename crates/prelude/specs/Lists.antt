-- Tests and searches over lists and numbers, as functions that compute. The toolchain's own are over another ℕ or do
-- not unfold. Every crate above cites these. Assumes nothing.
use Rattle.std.specs.Prelude.{ℕ, zero, suc, ◌+◌, Bool, true, false, cond, ◌&&◌, ◌||◌, List, [], ◌∷◌, ◌++◌, eqb, ◌<◌, length, drop}
use Rattle.std.specs.Prelude.{Option, SomeIff}
use Prim.Native.Char.{Char, code}
use Prim.Native.String.{String, [] as []ˢ, ◌∷◌ as ◌∷ˢ◌}

-- the bytes of an ASCII text
abbrev pub ascii : String → List ℕ
ascii []ˢ = []
ascii (c ∷ˢ s) = code c ∷ ascii s

-- the byte is this character
abbrev pub is : Char → ℕ → Bool
is c = eqb (code c)

-- the numbers are the same, one by one
abbrev pub same : List ℕ → List ℕ → Bool
same [] [] = true
same [] (y ∷ ys) = false
same (x ∷ xs) [] = false
same (x ∷ xs) (y ∷ ys) = eqb x y && same xs ys

module _ {A : Type 0} where
  abbrev pub all : (A → Bool) → List A → Bool
  all p [] = true
  all p (x ∷ xs) = p x && all p xs

  abbrev pub any : (A → Bool) → List A → Bool
  any p [] = false
  any p (x ∷ xs) = p x || any p xs

  -- the elements that pass the test, in order
  abbrev pub keep : (A → Bool) → List A → List A
  keep p [] = []
  keep p (x ∷ xs) = cond (p x) (x ∷ keep p xs) (keep p xs)

  -- f 0, f 1, .., f (n - 1)
  abbrev pub tab : (ℕ → A) → ℕ → List A
  tab f zero = []
  tab f (suc n) = tab f n ++ (f n ∷ [])

  -- the list, and then what stood behind it in `entry`
  abbrev pub placed : List A → List A → List A
  placed xs entry = xs ++ drop (length xs) entry

  -- one list after the other
  abbrev pub joined : List (List A) → List A
  joined [] = []
  joined (x ∷ xs) = x ++ joined xs

  -- a list n times over
  abbrev pub repeated : ℕ → List A → List A
  repeated zero xs = []
  repeated (suc n) xs = repeated n xs ++ xs

-- 0, 1, .., n - 1
abbrev pub up_to : ℕ → List ℕ
up_to = tab (λ k. k)

abbrev pub sum : List ℕ → ℕ
sum [] = 0
sum (x ∷ xs) = x + sum xs

-- how many of 0, .., n - 1 pass the test
abbrev pub count_below : (ℕ → Bool) → ℕ → ℕ
count_below p zero = 0
count_below p (suc n) = count_below p n + cond (p n) 1 0

-- the first of k, k + 1, .. that passes the test, or k + n where none of the first n does
abbrev pub least_from : (ℕ → Bool) → ℕ → ℕ → ℕ
least_from p k zero = k
least_from p k (suc n) = let r = least_from p (suc k) n in cond (p k) k r

-- the lowest number below n that passes the test, or n where none does
abbrev pub least : (ℕ → Bool) → ℕ → ℕ
least p n = least_from p 0 n

-- r is the number k where k is below n, and none where it is not: for `least p n`, the lowest number below n that passes
-- the test, where one does
abbrev pub IfBelow : ℕ → ℕ → Option ℕ → Type 0
IfBelow k n r = SomeIff r (k < n) k

-- the number is in the list; the list of numbers is in the list
abbrev pub member : ℕ → List ℕ → Bool
member x = any (eqb x)

abbrev pub member_list : List ℕ → List (List ℕ) → Bool
member_list x = any (same x)

-- no list of numbers stands twice
abbrev pub distinct : List (List ℕ) → Bool
distinct [] = true
distinct (x ∷ xs) = cond (member_list x xs) false (distinct xs)

-- a number put in front of a list, where a 0 in front of no number is dropped: so `trimmed` drops all zeros at a list's
-- end
abbrev pub onto : ℕ → List ℕ → List ℕ
onto x [] = cond (eqb x 0) [] (x ∷ [])
onto x (y ∷ ys) = x ∷ y ∷ ys

abbrev pub trimmed : List ℕ → List ℕ
trimmed [] = []
trimmed (x ∷ xs) = onto x (trimmed xs)
