-- Names in the stored block: the rule on the words is "a legal name", a name and its four words are each other's, and
-- two names are the same when their words are. Cited by RoundTrip and Intact. Assumes nothing.
--   plain-name_at: the rule on the words is the rule on the name
--   name_words-name_at, name_at-name_words: a name and its four words are each other's
--   same_name-same: two names are the same when their words are
--   names_rule-names: a run of names: all legal, none twice
use mathlib.Core.Path.{◌≡◌, refl, sym, ap, ◌∙◌}
use mathlib.Core.Logic.{⊎_elim}
use mathlib.Core.Bool.{Bool, true, false, cond, not, ◌&&◌, ◌||◌, and-false}
use mathlib.Core.List.{List, [], ◌∷◌}
use Prim.Native.Nat.{ℕ, suc, ◌+◌, ◌*◌, ◌/◌, ◌%◌, ◌≤◌, ◌<◌}
use native.Mathlib.Nat.{add-zero}
use native.Mathlib.Omega.{arith}
use lib.ListN.{length, get_or, get_or-eq_default}
use lib.Dec.{eqb, leb}
use borrow.Author.Tests.{eqb-true, eqb-false, leb-true, eq-eqb, ne_eqb, le-leb, not-true}
use Rattle.prelude.specs.Lists.{all, tab, joined, up_to, same, distinct, onto, trimmed}
use Rattle.prelude.proofs.Tests.{and_left, and_right, same_test, or_cases, lt-or-le}
use Rattle.prelude.proofs.Tab.{length-tab, get_d-tab, tab-ext}
use Rattle.prelude.proofs.Same.{same-eq, eq-same}
use Rattle.prelude.proofs.Quantifiers.{all-at, all-below, below_all}
use Rattle.netlist.specs.Limits.{max_name}
use Rattle.netlist.specs.Netlist.{Name}
use Rattle.netlist.specs.StoredBlock.{name_size, name_words, bytes_at, name_at}
use Rattle.netlist.specs.Names.{is_letter, is_digit, is_underscore, is_name_byte, is_legal_name, is_plain_name}
use Rattle.theory_encoding.specs.Rules.{padded, name_rule, same_name, names_rule}
use Rattle.theory_encoding.proofs.ListFacts.{all-and, all-tab, joined-tab, distinct_from, distinct-at}
use Rattle.theory_encoding.proofs.ListFacts.{get_d-trimmed, length-trimmed}

-- ---- the rule on the bytes

-- a name byte is neither 0 nor above 122
pub name_byte-range : (c : ℕ) → is_name_byte c ≡ true → (48 ≤ c) × (c ≤ 122)
unfolding is_name_byte is_letter is_digit is_underscore
name_byte-range c h =
    ⊎_elim
    (λ g. ⊎_elim (λ l. range 97 122 (omega arith) (omega arith) l) (λ d. range 48 57 (omega arith) (omega arith) d)
    (or_cases (is_letter c) (is_digit c) g))
    (λ u. let e : c ≡ 95 = eqb-true c 95 u in (omega arith, omega arith))
    (or_cases (is_letter c || is_digit c) (is_underscore c) h)
  where
    range : (low high : ℕ) → 48 ≤ low → high ≤ 122 → leb low c && leb c high ≡ true → (48 ≤ c) × (c ≤ 122)
    range low high a b l =
        let p : low ≤ c = leb-true low c (and_left (leb low c) (leb c high) l) in
        let q : c ≤ high = leb-true c high (and_right (leb low c) (leb c high) l) in
        (omega arith, omega arith)

abbrev empty : List ℕ → Bool
empty [] = true
empty (x ∷ xs) = false

zeros-trimmed : (cs : List ℕ) → all (eqb 0) cs ≡ empty (trimmed cs)
zeros-trimmed [] = refl
zeros-trimmed (c ∷ cs) = rw (zeros-trimmed cs) (go (trimmed cs) (eqb c 0) refl)
  where
    flip : (b : Bool) → eqb c 0 ≡ b → eqb 0 c ≡ b
    flip true e = eq-eqb 0 c (sym (eqb-true c 0 e))
    flip false e = ne_eqb 0 c (λ q. eqb-false c 0 e (sym q))

    go : (t : List ℕ) (b : Bool) → eqb c 0 ≡ b → eqb 0 c && empty t ≡ empty (onto c t)
    go [] true e = rw (flip true e, e)
    go [] false e = rw (flip false e, e)
    go (y ∷ t) b e = and-false (eqb 0 c)

-- name bytes and then only zeros: without the zeros, only name bytes
pub padded-trimmed : (cs : List ℕ) → padded cs ≡ all is_name_byte (trimmed cs)
unfolding padded is_name_byte is_letter is_digit is_underscore
padded-trimmed [] = refl
padded-trimmed (c ∷ cs) = rw (zeros-trimmed cs, padded-trimmed cs) (go (trimmed cs) (eqb c 0) refl)
  where
    go : (t : List ℕ) (b : Bool) → eqb c 0 ≡ b
        → cond b (empty t) (is_name_byte c && all is_name_byte t) ≡ all is_name_byte (onto c t)
    go [] true e = rw e
    go [] false e = rw e
    go (y ∷ t) true e = rw (eqb-true c 0 e)
    go (y ∷ t) false e = refl

-- a name of at most eight bytes
plain-short : (s : Name) → length s ≤ max_name → is_plain_name s ≡ is_letter (get_or s 0 0) && all is_name_byte s
unfolding is_plain_name is_legal_name is_letter
plain-short [] h = refl
plain-short (c ∷ cs) h = rw (le-leb 1 (suc (length cs)) (omega arith), le-leb (suc (length cs)) max_name h)

length-bytes : (ws : List ℕ) (at : ℕ) → length (bytes_at ws at) ≡ max_name
unfolding bytes_at
length-bytes ws at = refl

-- the rule on the words is the rule on the name
pub plain-name_at : (ws : List ℕ) (at : ℕ) → is_plain_name (name_at ws at) ≡ name_rule ws at
unfolding name_rule name_at
plain-name_at ws at =
    plain-short (trimmed (bytes_at ws at)) (omega (arith, length-trimmed (bytes_at ws at), length-bytes ws at))
    ∙ rw (get_d-trimmed (bytes_at ws at) 0, padded-trimmed (bytes_at ws at))

-- ---- a name and its words

pub length-name_words : (s : Name) → length (name_words s) ≡ name_size
unfolding name_words
length-name_words s = refl

word : (w : ℕ) → w % 256 + 256 * (w / 256) ≡ w
word w = omega arith

-- the words of a name read from words are those words
pub name_words-name_at : (ws : List ℕ) (at : ℕ) → name_words (name_at ws at) ≡ tab (λ i. get_or ws (at + i) 0) name_size
unfolding name_words name_at bytes_at
name_words-name_at ws at = simp (get_d-trimmed, word)

trimmed-is : (xs s : List ℕ) → ((i : ℕ) → get_or xs i 0 ≡ get_or s i 0) → all is_name_byte s ≡ true → trimmed xs ≡ s
trimmed-is [] [] h n = refl
trimmed-is [] (c ∷ s) h n =
    let e : 0 ≡ c = h 0 in
    let r : 48 ≤ c = (name_byte-range c (and_left (is_name_byte c) (all is_name_byte s) n)).0 in absurd (omega arith)
trimmed-is (x ∷ xs) [] h n = let e : x ≡ 0 = h 0 in rw (e, trimmed-is xs [] (λ i. h (suc i)) refl)
trimmed-is (x ∷ xs) (c ∷ s) h n =
    let e : x ≡ c = h 0 in
    let r : 48 ≤ c = (name_byte-range c (and_left (is_name_byte c) (all is_name_byte s) n)).0 in
    rw (e, trimmed-is xs s (λ i. h (suc i)) (and_right (is_name_byte c) (all is_name_byte s) n))
    (go s (ne_eqb c 0 (omega arith)))
  where
    go : (t : List ℕ) → eqb c 0 ≡ false → onto c t ≡ c ∷ t
    go [] e = rw e
    go (y ∷ t) e = refl

-- what "legal" says of a name's bytes, whatever may come first
module _ (start : ℕ → Bool) (s : Name) (legal : is_legal_name start s ≡ true) where
  legal-bytes : all is_name_byte s ≡ true
  unfolding is_legal_name
  legal-bytes = and_right (leb 1 (length s) && leb (length s) max_name && start (get_or s 0 0)) (all is_name_byte s) legal

  pub legal-short : length s ≤ max_name
  unfolding is_legal_name
  legal-short =
      leb-true (length s) max_name
      (and_right (leb 1 (length s)) (leb (length s) max_name)
      (and_left (leb 1 (length s) && leb (length s) max_name) (start (get_or s 0 0))
      (and_left (leb 1 (length s) && leb (length s) max_name && start (get_or s 0 0)) (all is_name_byte s) legal)))

  pub legal-byte : (i : ℕ) → get_or s i 0 < 256
  legal-byte i =
      ⊎_elim (λ l. let r : get_or s i 0 ≤ 122 = (name_byte-range (get_or s i 0) (all-at is_name_byte s i 0 legal-bytes l)).1 in
      omega arith)
      (λ l. rw (get_or-eq_default s 0 {n = i} l) (omega arith))
      (lt-or-le i (length s))

  -- the words of a legal name are 16-bit words
  pub legal-words : (i : ℕ) → i < name_size → get_or (name_words s) i 0 < 65536
  unfolding name_words
  legal-words i l =
      rw (get_d-tab (λ i. get_or s (2 * i) 0 + 256 * get_or s (2 * i + 1) 0) name_size i 0 l)
      (omega (arith, legal-byte (2 * i), legal-byte (2 * i + 1)))

  -- where its words stand, it is read
  pub name_at-legal : (ws : List ℕ) (at : ℕ) → ((i : ℕ) → i < name_size → get_or ws (at + i) 0 ≡ get_or (name_words s) i 0)
      → name_at ws at ≡ s
  unfolding name_at bytes_at name_words
  name_at-legal ws at stands =
      trimmed-is (bytes_at ws at) s (λ i. ap (λ (bs : List ℕ). get_or bs i 0) bytes ∙ elements i) legal-bytes
    where
      pair : (i : ℕ) → i < name_size
          → get_or ws (at + i) 0 % 256 ∷ get_or ws (at + i) 0 / 256 ∷ [] ≡ tab (λ k. get_or s (2 * i + k) 0) 2
      pair i l =
          let w : get_or ws (at + i) 0 ≡ get_or s (2 * i) 0 + 256 * get_or s (2 * i + 1) 0 = stands i l
          ∙ get_d-tab (λ i. get_or s (2 * i) 0 + 256 * get_or s (2 * i + 1) 0) name_size i 0 l in
          let b : get_or s (2 * i) 0 < 256 = legal-byte (2 * i) in
          let low : get_or ws (at + i) 0 % 256 ≡ get_or s (2 * i) 0 = omega arith in
          let high : get_or ws (at + i) 0 / 256 ≡ get_or s (2 * i + 1) 0 = omega arith in
          rw (low, high, add-zero)

      bytes : bytes_at ws at ≡ tab (λ i. get_or s i 0) max_name
      bytes =
          ap joined
          (tab-ext (λ i. get_or ws (at + i) 0 % 256 ∷ get_or ws (at + i) 0 / 256 ∷ [])
          (λ i. tab (λ k. get_or s (2 * i + k) 0) 2) name_size pair)
          ∙ joined-tab (λ i. get_or s i 0) 2 name_size

      elements : (i : ℕ) → get_or (tab (λ i. get_or s i 0) max_name) i 0 ≡ get_or s i 0
      elements i =
          ⊎_elim (λ l. get_d-tab (λ i. get_or s i 0) max_name i 0 l)
          (λ l. get_or-eq_default (tab (λ i. get_or s i 0) max_name) 0 l
          ∙ sym (get_or-eq_default s 0 (omega (arith, legal-short))))
          (lt-or-le i max_name)

pub name_at-name_words : (ws : List ℕ) (at : ℕ) (s : Name) → is_plain_name s ≡ true
    → ((i : ℕ) → i < name_size → get_or ws (at + i) 0 ≡ get_or (name_words s) i 0) → name_at ws at ≡ s
unfolding is_plain_name
name_at-name_words ws at s h stands = name_at-legal is_letter s h ws at stands

-- ---- names, not twice

-- the same words hold the same name, in one block or in two
pub name_at-agrees : (ws vs : List ℕ) (at other : ℕ)
    → ((i : ℕ) → i < name_size → get_or ws (at + i) 0 ≡ get_or vs (other + i) 0)
    → name_at ws at ≡ name_at vs other
unfolding name_at bytes_at
name_at-agrees ws vs at other h =
    ap (λ (bs : List (List ℕ)). trimmed (joined bs))
    (tab-ext (bytes ws at) (bytes vs other) name_size (λ i l. ap (λ (w : ℕ). w % 256 ∷ w / 256 ∷ []) (h i l)))
  where
    bytes : List ℕ → ℕ → ℕ → List ℕ
    bytes us at i = get_or us (at + i) 0 % 256 ∷ get_or us (at + i) 0 / 256 ∷ []

-- two names are the same when their words are
pub names_same : (ws vs : List ℕ) (at other : ℕ)
    → all (λ i. eqb (get_or ws (at + i) 0) (get_or vs (other + i) 0)) (up_to name_size)
    ≡ same (name_at ws at) (name_at vs other)
names_same ws vs at other = same_test (all agree (up_to name_size)) (same (name_at ws at) (name_at vs other)) forth back
  where
    agree : ℕ → Bool
    agree i = eqb (get_or ws (at + i) 0) (get_or vs (other + i) 0)

    words : List ℕ → ℕ → List ℕ
    words us at = tab (λ i. get_or us (at + i) 0) name_size

    forth : all agree (up_to name_size) ≡ true → same (name_at ws at) (name_at vs other) ≡ true
    forth h =
        eq-same (name_at ws at) (name_at vs other)
        (name_at-agrees ws vs at other
        (λ i l. eqb-true (get_or ws (at + i) 0) (get_or vs (other + i) 0) (all-below agree name_size i h l)))

    back : same (name_at ws at) (name_at vs other) ≡ true → all agree (up_to name_size) ≡ true
    back h =
        let e : words ws at ≡ words vs other =
        sym (name_words-name_at ws at) ∙ ap name_words (same-eq (name_at ws at) (name_at vs other) h)
        ∙ name_words-name_at vs other in
        below_all agree name_size
        (λ i l. eq-eqb (get_or ws (at + i) 0) (get_or vs (other + i) 0)
        (sym (get_d-tab (λ i. get_or ws (at + i) 0) name_size i 0 l)
        ∙ ap (λ (t : List ℕ). get_or t i 0) e
        ∙ get_d-tab (λ i. get_or vs (other + i) 0) name_size i 0 l))

pub same_name-same : (ws : List ℕ) (at other : ℕ) → same_name ws at other ≡ same (name_at ws at) (name_at ws other)
unfolding same_name
same_name-same ws at other = names_same ws ws at other

distinct-tab : (f : ℕ → Name) (n : ℕ)
    → distinct (tab f n) ≡ all (λ j. all (λ i. not (same (f i) (f j))) (up_to j)) (up_to n)
distinct-tab f n =
    same_test (distinct (tab f n)) (all (λ j. all (λ i. not (same (f i) (f j))) (up_to j)) (up_to n)) forth back
  where
    at : (i : ℕ) → i < n → get_or (tab f n) i [] ≡ f i
    at i l = get_d-tab f n i [] l

    forth : distinct (tab f n) ≡ true → all (λ j. all (λ i. not (same (f i) (f j))) (up_to j)) (up_to n) ≡ true
    forth h =
        below_all (λ j. all (λ i. not (same (f i) (f j))) (up_to j)) n
        (λ j l. below_all (λ i. not (same (f i) (f j))) j
        (λ i k. let e : same (get_or (tab f n) i []) (get_or (tab f n) j [])
        ≡ false = distinct-at (tab f n) i j h k (rw (length-tab f n) l) in
        ap not (rw (at i (omega arith), at j l) at e)))

    back : all (λ j. all (λ i. not (same (f i) (f j))) (up_to j)) (up_to n) ≡ true → distinct (tab f n) ≡ true
    back h =
        distinct_from (tab f n)
        (λ i j k l. let l' : j < n = rw (length-tab f n) at l in
        rw (at i (omega arith), at j l')
        (not-true (same (f i) (f j))
        (all-below (λ i. not (same (f i) (f j))) j i
        (all-below (λ j. all (λ i. not (same (f i) (f j))) (up_to j)) n j h l') k)))

-- the rule on a run of names: all are legal, and none stands twice
pub names_rule-names : (ws : List ℕ) (at size count : ℕ)
    → names_rule ws at size count ≡ all is_plain_name (tab (λ j. name_at ws (at + size * j)) count) && distinct
    (tab (λ j. name_at ws (at + size * j)) count)
unfolding names_rule
names_rule-names ws at size count =
    rw (all-tab is_plain_name (λ j. name_at ws (at + size * j)) count, distinct-tab (λ j. name_at ws (at + size * j)) count)
    (simp (same_name-same, plain-name_at)
    (all-and (λ j. name_rule ws (at + size * j))
    (λ j. all (λ i. not (same (name_at ws (at + size * i)) (name_at ws (at + size * j)))) (up_to j)) (up_to count)))
