-- What pairs give the inputs, by their tables. Assumes nothing.
use Prim.Native.Nat.{ℕ, suc, ◌≤◌, ◌<◌}
use mathlib.Core.Path.{◌≡◌, refl, sym, ap, ◌∙◌}
use mathlib.Core.Bool.{Bool, true, false, cond}
use mathlib.Core.List.{List, [], ◌∷◌, map, map-map}
use mathlib.Core.Logic.{◌⊎◌, inl, inr}
use native.Mathlib.Omega.{arith}
use lib.ListN.{length, get_or, length-map}
use lib.Seq.{get_or-take}
use lib.Dec.{ltb, leb-suc-suc}
use borrow.Author.Tests.{lt-ltb, le-ltb}
use Rattle.prelude.specs.Lists.{all, same, tab}
use Rattle.prelude.proofs.Tests.{lt-or-le, and_left, and_right}
use Rattle.prelude.proofs.Quantifiers.{all-at}
use Rattle.theory_encoding.proofs.ListFacts.{tab-is, get_d_map}
use Rattle.netlist.specs.Values.{code, val, value_of}
use Rattle.netlist.specs.Netlist.{Name}
use Rattle.netlist.specs.Names.{is_name_byte}
use Rattle.netlist.specs.Syntax.{Pair, is_legal_pair}
use Rattle.netlist.specs.Reading.{given_value}
use Rattle.text_names.specs.Packed.{packed}
use Rattle.text_names.specs.Search.{index_of}
use Rattle.text_names.proofs.Lookup.{same-packed, index_same, index-cons}
use Rattle.theory_fixpoint.proofs.Values.{values-codes}
use Rattle.text_pairs.specs.PairBytes.{given_code, input_code}
use Rattle.text_pairs.specs.Tables.{NamesAre, CodesAre, InputsAre}
use Rattle.text_pairs.proofs.NameTests.{name-legal}

abbrev keys : List Pair → List ℕ
keys ps = map (λ (p : Pair). packed p.name) ps

abbrev bits : List Pair → List ℕ
bits ps = map (λ (p : Pair). code (val p.value)) ps

given-none : (s : Name) → given_code [] [] 0 (packed s) ≡ code (given_value [] s)
unfolding given_code given_value code index_of
given-none s = refl

-- by the pairs' own numbers and codes
given_is : (ps : List Pair) → all is_legal_pair ps ≡ true → (s : Name) → all is_name_byte s ≡ true
    → given_code (keys ps) (bits ps) (length ps) (packed s) ≡ code (given_value ps s)
unfolding given_code given_value code
given_is [] legal s h = given-none s
given_is (p ∷ ps) legal s h =
    let e = index-cons (packed p.name) (keys ps) (length ps) (packed s) in
    let f = same-packed s p.name h (name-legal p (and_left (is_legal_pair p) (all is_legal_pair ps) legal)) in
    rw (e, f) (go (same s p.name) (given_is ps (and_right (is_legal_pair p) (all is_legal_pair ps) legal) s h))
  where
    k : ℕ
    k = index_of (keys ps) (length ps) (packed s)

    go : (b : Bool) → cond (ltb k (length ps)) (get_or (bits ps) k 0) 2 ≡ code (given_value ps s)
        → cond (ltb (cond b 0 (suc k)) (suc (length ps))) (get_or (bits (p ∷ ps)) (cond b 0 (suc k)) 0) 2
        ≡ code (cond b (val p.value) (given_value ps s))
    go true i = rw (lt-ltb 0 (suc (length ps)) (omega arith))
    go false i = rw (leb-suc-suc (suc k) (length ps)) i

-- by tables that hold them
module _ (ps : List Pair) (legal : all is_legal_pair ps ≡ true) {names codes : List ℕ} (named : NamesAre ps names)
    (coded : CodesAre ps codes) where
  key-held : (i : ℕ) → i < length ps → get_or names i 0 ≡ get_or (keys ps) i 0
  key-held i l = sym (get_or-take (length ps) names i 0 l) ∙ ap (λ (xs : List ℕ). get_or xs i 0) named.numbers

  bit-held : (i : ℕ) → i < length ps → get_or codes i 0 ≡ get_or (bits ps) i 0
  bit-held i l = sym (get_or-take (length ps) codes i 0 l) ∙ ap (λ (xs : List ℕ). get_or xs i 0) coded.values

  given-held : (s : Name) → all is_name_byte s ≡ true
      → given_code names codes (length ps) (packed s) ≡ code (given_value ps s)
  unfolding given_code
  given-held s h =
      let e = index_same names (keys ps) (length ps) (packed s) key-held in
      rw e (by_index (lt-or-le k (length ps)) (given_is ps legal s h))
    where
      k : ℕ
      k = index_of (keys ps) (length ps) (packed s)

      by_index : (k < length ps) ⊎ (length ps ≤ k)
          → cond (ltb k (length ps)) (get_or (bits ps) k 0) 2 ≡ code (given_value ps s)
          → cond (ltb k (length ps)) (get_or codes k 0) 2 ≡ code (given_value ps s)
      by_index (inl l) g = rw (bit-held k l) g
      by_index (inr l) g = rw (le-ltb k (length ps) l) (rw (le-ltb k (length ps) l) at g)

  module _ {known : List Name} {n : ℕ} {inputs : List ℕ} (ins : InputsAre known n inputs) where
    setting-is : tab (input_code names codes (length ps) inputs) n ≡ map code (map (given_value ps) known)
    unfolding input_code
    setting-is =
        let size : length (map code (map (given_value ps) known)) ≡ n =
        length-map (map (given_value ps) known) code ∙ length-map known (given_value ps)
        ∙ ins.counted in
        ap (tab (input_code names codes (length ps) inputs)) (sym size)
        ∙ tab-is (input_code names codes (length ps) inputs) (map code (map (given_value ps) known)) 0 (λ j h.
        let l : j < n = rw size at h in
        let l' : j < length known = rw ins.counted l in
        let e : get_or inputs j 0 ≡ packed (get_or known j []) =
        sym (get_or-take n inputs j 0 l) ∙ ap (λ (xs : List ℕ). get_or xs j 0) ins.numbers
        ∙ get_d_map packed known j [] 0 l' in
        rw e (given-held (get_or known j []) (all-at (all is_name_byte) known j [] ins.bytes l'))
        ∙ sym (ap (λ (xs : List ℕ). get_or xs j 0) (map-map code (given_value ps) known)
        ∙ get_d_map (λ s. code (given_value ps s)) known j [] 0 l'))

    -- what the inputs are given
    pub values-given : map value_of (tab (input_code names codes (length ps) inputs) n) ≡ map (given_value ps) known
    values-given = ap (map value_of) setting-is ∙ values-codes (map (given_value ps) known)
