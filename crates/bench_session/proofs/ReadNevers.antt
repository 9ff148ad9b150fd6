-- The never lines of a block that was read fit it: each fixes some input, and only inputs that are there. Assumes
-- nothing.
--   nevers-fit: the law, of legal lines whose names are those of inputs
use Prim.Native.Nat.{ℕ, ◌^◌, ◌≤◌, ◌<◌}
use mathlib.Core.Path.{◌≡◌, refl}
use mathlib.Core.Bool.{true, false, cond, and-eq-true_iff}
use mathlib.Core.List.{List, [], ◌∷◌, map}
use native.Mathlib.Omega.{arith}
use lib.ListN.{length, get_or, length-map}
use lib.Dec.{leb}
use borrow.Author.Tests.{leb-true, le-leb, lt-ltb}
use Rattle.prelude.specs.Lists.{all, same, member_list}
use Rattle.prelude.proofs.Quantifiers.{any_at, below_all}
use Rattle.prelude.proofs.Same.{same-eq, same_refl}
use Rattle.words_layout.proofs.Gathered.{mask_below}
use Rattle.netlist.specs.Values.{Value, undefined, val, is_defined}
use Rattle.netlist.specs.Assignments.{bit, mask_of, is_one, is_within, are_masks}
use Rattle.netlist.specs.Netlist.{Name, Block}
use Rattle.netlist.specs.StoredBlock.{never_fits}
use Rattle.netlist.specs.Syntax.{Pair, is_legal_pair, is_legal_never}
use Rattle.netlist.specs.Reading.{given_value, assignment_of}
use Rattle.theory_encoding.proofs.ListFacts.{get_d_map}
use Rattle.theory_grammar.proofs.Masks.{mask-bit, mask-some}

-- a value that is 1 is a value
one-defined : (v : Value) → cond {A = ℕ} (is_one v) 1 0 ≤ cond (is_defined v) 1 0
unfolding is_one is_defined
one-defined undefined = omega arith
one-defined (val true) = omega arith
one-defined (val false) = omega arith

-- in any row of values the mask of those at 1 is within that of all that are there
masks-within : (vs : List Value) → is_within (length vs) (mask_of is_defined vs) (mask_of is_one vs) ≡ true
unfolding is_within
masks-within vs =
    below_all (λ i. leb (bit (mask_of is_one vs) i) (bit (mask_of is_defined vs) i)) (length vs)
    (λ i l. le-leb (bit (mask_of is_one vs) i) (bit (mask_of is_defined vs) i)
    (rw (mask-bit is_one vs i l, mask-bit is_defined vs i l) (one-defined (get_or vs i undefined))))

module _ (inputs : List Name) (ps : List Pair) where
  values : List Value
  values = map (given_value ps) inputs

  many : length values ≡ length inputs
  unfolding values
  many = length-map inputs (given_value ps)

  masks-fit : are_masks (length inputs) (mask_of is_defined values) (mask_of is_one values) ≡ true
  unfolding are_masks
  masks-fit =
      rw (
        ← many,
        lt-ltb (mask_of is_defined values) (2 ^ length values) (mask_below is_defined values),
        lt-ltb (mask_of is_one values) (2 ^ length values) (mask_below is_one values),
      ) (masks-within values)

-- the first pair's input is fixed
some-fixed : (inputs : List Name) (p : Pair) (ps : List Pair) → member_list p.name inputs ≡ true
    → 0 < mask_of is_defined (map (given_value (p ∷ ps)) inputs)
unfolding given_value is_defined
some-fixed inputs p ps m =
    let at = any_at (same p.name) inputs [] m in
    let e : p.name ≡ get_or inputs at.0 [] = same-eq p.name (get_or inputs at.0 []) at.2 in
    mask-some is_defined (map (given_value (p ∷ ps)) inputs) at.0
    (rw (length-map inputs (given_value (p ∷ ps))) at.1)
    (rw (get_d_map (given_value (p ∷ ps)) inputs at.0 [] undefined at.1, ← e, same_refl p.name) refl)

module _ (b : Block) where
  never-fits : (ps : List Pair) → is_legal_never ps ≡ true
      → all (λ (p : Pair). member_list p.name b.inputs) ps ≡ true
      → never_fits b (assignment_of b.inputs ps) ≡ true
  unfolding never_fits assignment_of is_legal_never values
  never-fits [] legal names =
      let z = leb-true 1 0 ((and-eq-true_iff (leb 1 0) (all is_legal_pair [])).0 legal).0 in absurd (omega arith)
  never-fits (p ∷ ps) legal names =
      let here = ((and-eq-true_iff (member_list p.name b.inputs)
      (all (λ (p : Pair). member_list p.name b.inputs) ps)).0 names).0 in
      rw (lt-ltb 0 _ (some-fixed b.inputs p ps here)) (masks-fit b.inputs (p ∷ ps))

  pub nevers-fit : (ns : List (List Pair)) → all is_legal_never ns ≡ true
      → all (all (λ (p : Pair). member_list p.name b.inputs)) ns ≡ true
      → all (never_fits b) (map (assignment_of b.inputs) ns) ≡ true
  nevers-fit [] legal names = refl
  nevers-fit (ps ∷ ns) legal names =
      let l = (and-eq-true_iff (is_legal_never ps) (all is_legal_never ns)).0 legal in
      let k = (and-eq-true_iff (all (λ (p : Pair). member_list p.name b.inputs) ps)
      (all (all (λ (p : Pair). member_list p.name b.inputs)) ns)
      ).0 names in
      rw (never-fits ps l.0 k.0) (nevers-fit ns l.1 k.1)
