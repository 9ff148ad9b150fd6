-- The array of values before the first round: constants, then inputs one by one. Assumes nothing.
--   blank, empty                      arrays as they are made
--   starting-none, starting-more      no input, and one more
--   starting-copied                   all inputs, copied at once
use mathlib.Core.Path.{◌≡◌, refl, sym, ap, ◌∙◌}
use mathlib.Core.Logic.{⊎_elim}
use mathlib.Core.List.{List, [], ◌∷◌, ◌++◌, map, map-append}
use Prim.Native.Nat.{ℕ, zero, suc, ◌+◌, ◌≤◌, ◌<◌}
use native.Mathlib.Omega.{arith}
use lib.ListN.{length, get_or, set, take, replicate, length-set, length-map, length-append, length-replicate, get_or-replicate}
use lib.ListN.{get_or-append, get_or-eq_default}
use lib.Seq.{get_or-set_same, get_or-set_other, get_or-append-add, take-suc, length-take-le, paste, paste-zero, paste-suc}
use Rattle.prelude.proofs.Tests.{lt-or-le, eq-or-ne}
use Rattle.netlist.specs.Limits.{max_inputs, max_gates}
use Rattle.netlist.specs.Values.{Value, undefined, value_of}
use Rattle.graph_gates.specs.Places.{first_input, first_gate, place_count}
use Rattle.graph_gates.specs.Fanout.{fanout_size, Empty}
use Rattle.graph_simulation.specs.Rounded.{Blank, Bytes, Starting}

-- zeros
zeros : (n k : ℕ) → ◌≡◌ {A = ℕ} (get_or (replicate n 0) k 0) 0
zeros zero k = refl
zeros (suc n) zero = refl
zeros (suc n) (suc k) = zeros n k

pub empty : Empty (replicate fanout_size 0)
empty = record { long = length-replicate {A = ℕ} fanout_size 0; zeros = zeros fanout_size }

pub blank : Blank (replicate place_count 2)
blank = record { long = length-replicate {A = ℕ} place_count 2; all = λ p l. get_or-replicate {A = ℕ} place_count p 2 0 l }

-- in codes that are all 2 no gate of m has a value
pub nothing-found : {m : ℕ} → m ≤ max_gates → (j : ℕ) → j < m → ◌≡◌ {A = ℕ} (get_or (replicate max_gates 2) j 0) 2
nothing-found few j l = get_or-replicate {A = ℕ} max_gates j 2 0 (omega arith)

-- no input has a value
module _ {values : List ℕ} (b : Blank values) where
  abbrev started : List ℕ
  started = set (set values 0 0) 1 1

  long : length started ≡ place_count
  long = length-set (set values 0 0) 1 1 ∙ length-set values 0 0 ∙ b.long

  at_zero : get_or started 0 0 ≡ 0
  at_zero =
      get_or-set_other (set values 0 0) 1 0 1 0 (λ e. omega arith) ∙ get_or-set_same values 0 0 0 (omega (arith, b.long))

  at_one : get_or started 1 0 ≡ 1
  at_one = get_or-set_same (set values 0 0) 1 1 0 (rw (length-set values 0 0) (omega (arith, b.long)))

  behind : (p : ℕ) → 2 ≤ p → p < place_count → get_or started p 0 ≡ 2
  behind p l h =
      get_or-set_other (set values 0 0) 1 p 1 0 (λ e. omega arith) ∙ get_or-set_other values 0 p 0 0 (λ e. omega arith)
      ∙ b.all p h

  most : (p : ℕ) → get_or started p 0 ≤ 2
  most p =
      ⊎_elim (λ e. let h : get_or started p 0 ≡ 0 = ap (λ (q : ℕ). get_or started q 0) e ∙ at_zero in omega arith)
      (λ ne. ⊎_elim (λ e. let h : get_or started p 0 ≡ 1 = ap (λ (q : ℕ). get_or started q 0) e ∙ at_one in omega arith)
      (λ nf. ⊎_elim (λ l. omega (arith, behind p (omega arith) l))
      (λ l. let past : length started ≤ p = omega (arith, long) in let e : get_or started p 0
      ≡ 0 = get_or-eq_default started 0 past in omega arith)
      (lt-or-le p place_count))
      (eq-or-ne p 1))
      (eq-or-ne p 0)

  pub starting-none : Starting [] started
  unfolding value_of
  starting-none =
      record {
        unsettled =
            record {
              coded = record { long = long; zero = at_zero; one = at_one; most = most };
              none = λ j l. behind (first_gate + j) (omega arith) (omega arith);
            };
        few = omega arith;
        given = λ i l. ap value_of (behind (first_input + i) (omega arith) (omega arith));
      }

-- one more has
module _ {x : List Value} {values : List ℕ} (s : Starting x values) (i v : ℕ) (is : length x ≡ i) (il : i < max_inputs)
    (vl : v ≤ 2) where
  abbrev after : List ℕ
  after = set values (first_input + i) v

  other : (p : ℕ) → (p ≡ first_input + i → ⊥) → get_or after p 0 ≡ get_or values p 0
  other p ne = get_or-set_other values (first_input + i) p v 0 ne

  here' : get_or after (first_input + i) 0 ≡ v
  here' = get_or-set_same values (first_input + i) v 0 (omega (arith, s.unsettled.coded.long))

  coded-most : (p : ℕ) → get_or after p 0 ≤ 2
  coded-most p =
      ⊎_elim (λ e. let h : get_or after p 0 ≡ v = ap (λ (q : ℕ). get_or after q 0) e ∙ here' in omega arith)
      (λ ne. rw (other p ne)
      (s.unsettled.coded.most p)) (eq-or-ne p (first_input + i))

  given' : (k : ℕ) → k < max_inputs → value_of (get_or after (first_input + k) 0) ≡ get_or (x ++ (value_of v ∷ [])) k undefined
  given' k l = ⊎_elim below (λ h. ⊎_elim at-it (above h) (eq-or-ne k i)) (lt-or-le k i)
    where
      below : k < i → value_of (get_or after (first_input + k) 0) ≡ get_or (x ++ (value_of v ∷ [])) k undefined
      below h =
          ap value_of (other (first_input + k) (λ e. omega arith)) ∙ s.given k l
          ∙ sym (get_or-append x (value_of v ∷ []) undefined k (omega arith))

      at-it : k ≡ i → value_of (get_or after (first_input + k) 0) ≡ get_or (x ++ (value_of v ∷ [])) k undefined
      at-it e =
          let z : length x + 0 ≡ k = omega arith in
          let last : get_or (x ++ (value_of v ∷ [])) k undefined ≡ value_of v =
          rw z at (get_or-append-add x (value_of v ∷ []) 0 undefined) in
          ap value_of (ap (λ (q : ℕ). get_or after (first_input + q) 0) e ∙ here') ∙ sym last

      above : i ≤ k → (k ≡ i → ⊥) → value_of (get_or after (first_input + k) 0) ≡ get_or (x ++ (value_of v ∷ [])) k undefined
      above h ne =
          let past : length (x ++ (value_of v ∷ [])) ≤ k = rw (length-append x (value_of v ∷ [])) (omega arith) in
          let far : length x ≤ k = omega arith in
          ap value_of (other (first_input + k) (λ e. omega arith)) ∙ s.given k l
          ∙ get_or-eq_default x undefined far ∙ sym (get_or-eq_default (x ++ (value_of v ∷ [])) undefined past)

  pub starting-more : Starting (x ++ (value_of v ∷ [])) after
  starting-more =
      let c = s.unsettled.coded in
      record {
        unsettled =
            record {
              coded =
                  record {
                    long = length-set values (first_input + i) v ∙ c.long;
                    zero = other 0 (λ e. omega arith) ∙ c.zero;
                    one = other 1 (λ e. omega arith) ∙ c.one;
                    most = coded-most;
                  };
              none = λ j l. other (first_gate + j) (λ e. omega arith) ∙ s.unsettled.none j l;
            };
        few = rw (length-append x (value_of v ∷ [])) (omega arith);
        given = given';
      }

-- and of all of them, as the first i of their bytes are copied
pub starting-copied : {values : List ℕ} (setting : List ℕ) → Bytes setting → Starting [] values → (i : ℕ)
    → i ≤ length setting
    → Starting (map value_of (take i setting)) (paste values first_input setting i)
starting-copied {values} setting b s zero h = rw (← paste-zero values first_input setting) s
starting-copied {values} setting b s (suc i) h =
    let few : i < length setting = omega arith in
    let before : Starting (map value_of (take i setting)) (paste values first_input setting i) =
    starting-copied setting b s i (omega arith) in
    let long : length (map value_of (take i setting)) ≡ i =
    length-map (take i setting) value_of ∙ length-take-le i setting (omega arith) in
    let more : map value_of (take (suc i) setting) ≡ map value_of (take i setting) ++ (value_of (get_or setting i 0) ∷ []) =
    rw (take-suc setting i 0 few) (map-append value_of (take i setting) (get_or setting i 0 ∷ [])) in
    let turn : set (paste values first_input setting i) (first_input + i) (get_or setting i 0)
    ≡ paste values first_input setting (suc i) =
    paste-suc values first_input setting i 0 (omega (arith, s.unsettled.coded.long, b.few)) few in
    rw (more, ← turn) (starting-more before i (get_or setting i 0) long (omega (arith, b.few)) (b.most i))
