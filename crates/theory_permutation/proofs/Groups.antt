-- Groups in a block with its gates in another order: a gate reads, reaches and shares a group as it did under its old
-- number.
--   read_by-moved, reads-kept   what a gate reads
--   path-kept, path-back       chains of reads, both ways
--   reaches-kept, same_group-kept
-- Assumes nothing.
use Prim.Native.Nat.{ℕ, ◌<◌}
use mathlib.Core.Path.{◌≡◌, refl, sym, ap, ap₂, ◌∙◌}
use mathlib.Core.Bool.{◌&&◌, true}
use mathlib.Core.List.{List, [], ◌∷◌, ◌++◌, map, map-append}
use lib.ListN.{length, get_or, length-map}
use Rattle.prelude.specs.Lists.{joined, member}
use Rattle.prelude.proofs.Tests.{same_test}
use Rattle.prelude.proofs.Quantifiers.{member-at, member-from}
use Rattle.netlist.specs.Netlist.{Operand, input, gate, constant, Block, gate_count, gate_of}
use Rattle.netlist.specs.Groups.{gate_operand, read_by, reads, OperandPath, stay, step, reaches, same_group}
use Rattle.netlist.specs.Gather.{renumbered, renumbered_gate, arranged, number_at}
use Rattle.theory_encoding.proofs.ListFacts.{get_d_map}
use Rattle.theory_reach.specs.Inside.{Inside}
use Rattle.theory_reach.proofs.Reach.{reads-below, path-reaches, reaches-path}
use Rattle.theory_permutation.specs.Renumbering.{Renumbers}
use Rattle.theory_permutation.proofs.Arranged.{arranged-count, arranged-gate}

-- the gates among renumbered operands are the renumbered ones
operand-gates : (number : ℕ → ℕ) (o : Operand) → gate_operand (renumbered number o) ≡ map number (gate_operand o)
unfolding gate_operand renumbered
operand-gates number (input i) = refl
operand-gates number (gate j) = refl
operand-gates number (constant c) = refl

gates-renumbered : (number : ℕ → ℕ) (os : List Operand)
    → joined (map gate_operand (map (renumbered number) os)) ≡ map number (joined (map gate_operand os))
gates-renumbered number [] = refl
gates-renumbered number (o ∷ os) =
    ap₂ {C = List ℕ} (λ (xs ys : List ℕ). xs ++ ys) (operand-gates number o) (gates-renumbered number os)
    ∙ sym (map-append number (gate_operand o) (joined (map gate_operand os)))

pub member-map : (f : ℕ → ℕ) (x : ℕ) (xs : List ℕ) → member x (map f xs) ≡ true
    → (y : ℕ) × (member y xs ≡ true) × (x ≡ f y)
member-map f x xs h =
    let (i, l, e) = member-at x (map f xs) h in
    let l' : i < length xs = rw (length-map xs f) at l in
    (get_or xs i 0, member-from (get_or xs i 0) xs i l' refl, sym e ∙ get_d_map f xs i 0 0 l')

pub map-member : (f : ℕ → ℕ) (y : ℕ) (xs : List ℕ) → member y xs ≡ true → member (f y) (map f xs) ≡ true
map-member f y xs h =
    let (i, l, e) = member-at y xs h in
    member-from (f y) (map f xs) i (rw (length-map xs f) l) (get_d_map f xs i 0 0 l ∙ ap f e)

module _ (b : Block) (inside : Inside b) (order : List ℕ) (number : ℕ → ℕ)
    (r : Renumbers (gate_count b) order number) where
  abbrev c : Block
  c = arranged order number b

  -- new gate t reads what its old one reads, renumbered
  read_by-moved : (t : ℕ) → t < gate_count b → read_by c t ≡ map number (read_by b (number_at order t))
  unfolding read_by renumbered_gate
  read_by-moved t l =
      rw (arranged-gate order number b t (rw r.length_is l))
      (gates-renumbered number (gate_of b (number_at order t)).operands)

  below-kept : (t : ℕ) → t < gate_count c → t < gate_count b
  below-kept t l = rw (arranged-count order number b, r.length_is) at l

  -- forth
  pub reads_old : (t u : ℕ) → reads c t u ≡ true → reads b (number_at order t) (number_at order u) ≡ true
  unfolding reads
  reads_old t u h =
      let l : t < gate_count b = below-kept t (reads-below c t u h) in
      let (k, m, e) = member-map number u (read_by b (number_at order t)) (rw (read_by-moved t l) at h) in
      let there : number_at order u ≡ k = ap (number_at order) e ∙ r.old_of_new k (inside (number_at order t) k m) in
      rw there m

  -- a read of the block is one of the renumbered block
  reads-new : (i k : ℕ) → reads b i k ≡ true → reads c (number i) (number k) ≡ true
  unfolding reads
  reads-new i k h =
      let l : i < gate_count b = reads-below b i k h in
      rw (read_by-moved (number i) (r.new_below i l), r.old_of_new i l) (map-member number k (read_by b i) h)

  path-old : {t u : ℕ} → OperandPath c t u → OperandPath b (number_at order t) (number_at order u)
  path-old stay = stay
  path-old (step {i} {j} h p) = step (reads_old i j h) (path-old p)

  path-new : {i k : ℕ} → OperandPath b i k → OperandPath c (number i) (number k)
  path-new stay = stay
  path-new (step {i} {j} h p) = step (reads-new i j h) (path-new p)

  pub reaches-kept : (t u : ℕ) → t < gate_count b → u < gate_count b
      → reaches c t u ≡ reaches b (number_at order t) (number_at order u)
  reaches-kept t u l k =
      same_test (reaches c t u) (reaches b (number_at order t) (number_at order u))
      (λ h. path-reaches b (number_at order t) (number_at order u) (r.old_below u k) (path-old (reaches-path c t u h)))
      (λ h. path-reaches c t u (rw (arranged-count order number b, r.length_is) k)
      (rw (r.new_of_old t l, r.new_of_old u k) at (path-new (reaches-path b (number_at order t) (number_at order u) h))))

  -- the groups are the same sets
  pub same_group-kept : (t u : ℕ) → t < gate_count b → u < gate_count b
      → same_group c t u ≡ same_group b (number_at order t) (number_at order u)
  unfolding same_group
  same_group-kept t u l k = ap₂ ◌&&◌ (reaches-kept t u l k) (reaches-kept u t k l)
