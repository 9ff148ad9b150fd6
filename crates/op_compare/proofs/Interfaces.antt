-- Two blocks have the same interface when the words of their names are the same. Assumes nothing.
use mathlib.Core.Path.{◌≡◌, refl, sym, ap, ◌∙◌}
use mathlib.Core.Bool.{Bool, true, false, not}
use mathlib.Core.List.{List, [], ◌∷◌}
use Prim.Native.Nat.{ℕ, ◌+◌, ◌*◌}
use lib.ListN.{length, get_or}
use borrow.Author.Tests.{not-true, not-false}
use Rattle.prelude.specs.Lists.{same, all, tab, up_to}
use Rattle.prelude.proofs.Tests.{and_left, and_right, not-true-false, not-both, same_test}
use Rattle.prelude.proofs.Same.{same-eq, eq-same, same_refl}
use Rattle.prelude.proofs.Tab.{length-tab, get_d-tab, tab-ext}
use Rattle.prelude.proofs.Quantifiers.{all-below, below_all, all-ext}
use Rattle.netlist.specs.Netlist.{Name}
use Rattle.netlist.specs.StoredBlock.{name_size, output_size, inputs_at, outputs_at, name_at, decode}
use Rattle.netlist.specs.Compare.{same_names, ports, same_interface}
use Rattle.theory_encoding.proofs.Names.{names_same}
use Rattle.theory_encoding.proofs.Decoded.{decode-ports}
use Rattle.op_compare.specs.Interface.{same_name_at}

-- ---- lists of names

pub same_names-eq : (xs ys : List Name) → same_names xs ys ≡ true → xs ≡ ys
unfolding same_names
same_names-eq [] [] h = refl
same_names-eq [] (y ∷ ys) h = not-both refl (sym h)
same_names-eq (x ∷ xs) [] h = not-both refl (sym h)
same_names-eq (x ∷ xs) (y ∷ ys) h =
    rw (
      same-eq x y (and_left (same x y) (same_names xs ys) h),
      same_names-eq xs ys (and_right (same x y) (same_names xs ys) h),
    ) refl

same_names-refl : (xs : List Name) → same_names xs xs ≡ true
unfolding same_names
same_names-refl [] = refl
same_names-refl (x ∷ xs) = rw (same_refl x) (same_names-refl xs)

pub eq-same_names : (xs ys : List Name) → xs ≡ ys → same_names xs ys ≡ true
eq-same_names xs ys e = rw e (same_names-refl ys)

module _ (f g : ℕ → Name) (n : ℕ) where
  abbrev same_each : ℕ → Bool
  same_each i = same (f i) (g i)

  same_names-tab : same_names (tab f n) (tab g n) ≡ all same_each (up_to n)
  same_names-tab = same_test (same_names (tab f n) (tab g n)) (all same_each (up_to n)) forth back
    where
      forth : same_names (tab f n) (tab g n) ≡ true → all same_each (up_to n) ≡ true
      forth h =
          below_all same_each n
          (λ i l. eq-same (f i) (g i)
          (sym (get_d-tab f n i [] l) ∙ ap (λ (t : List Name). get_or t i []) (same_names-eq (tab f n) (tab g n) h)
          ∙ get_d-tab g n i [] l))

      back : all same_each (up_to n) ≡ true → same_names (tab f n) (tab g n) ≡ true
      back h =
          eq-same_names (tab f n) (tab g n) (tab-ext f g n (λ i l. same-eq (f i) (g i) (all-below same_each n i h l)))

-- `n` names from `at` and from `other` on, `size` words apart
names-rule : (ws vs : List ℕ) (at other size n : ℕ)
    → same_names (tab (λ i. name_at ws (at + size * i)) n) (tab (λ i. name_at vs (other + size * i)) n)
    ≡ all (same_name_at ws at vs other size) (up_to n)
names-rule ws vs at other size n =
    same_names-tab (λ i. name_at ws (at + size * i)) (λ i. name_at vs (other + size * i)) n
    ∙ sym (all-ext (same_name_at ws at vs other size)
    (λ i. same (name_at ws (at + size * i)) (name_at vs (other + size * i))) n
    (λ i l. names_same ws vs (at + size * i) (other + size * i)))

-- ---- two blocks

module _ (ours theirs : List ℕ) where
  inputs_are : (ws : List ℕ) → (decode ws).inputs ≡ tab (λ i. name_at ws (inputs_at + name_size * i)) (get_or ws 0 0)
  unfolding decode
  inputs_are ws = refl

  ports-are : (ws : List ℕ)
      → ports (decode ws)
      ≡ tab (λ o. name_at ws (outputs_at (get_or ws 0 0) (get_or ws 3 0) (get_or ws 1 0) + output_size * o)) (get_or ws 2 0)
  unfolding ports
  ports-are ws = decode-ports ws

  input-names : Bool
  input-names = same_names (decode ours).inputs (decode theirs).inputs

  port-names : Bool
  port-names = same_names (ports (decode ours)) (ports (decode theirs))

  counts_of : (f g : ℕ → Name) (n m : ℕ) → tab f n ≡ tab g m → m ≡ n
  counts_of f g n m e = sym (length-tab g m) ∙ ap length (sym e) ∙ length-tab f n

  -- the same interface: as many inputs and outputs
  pub interface-inputs : same_interface (decode ours) (decode theirs) ≡ true → get_or theirs 0 0 ≡ get_or ours 0 0
  unfolding same_interface input-names port-names
  interface-inputs h =
      counts_of _ _ (get_or ours 0 0) (get_or theirs 0 0)
      (sym (inputs_are ours)
      ∙ same_names-eq (decode ours).inputs (decode theirs).inputs (and_left input-names port-names h)
      ∙ inputs_are theirs)

  pub interface-outputs : same_interface (decode ours) (decode theirs) ≡ true → get_or theirs 2 0 ≡ get_or ours 2 0
  unfolding same_interface input-names port-names
  interface-outputs h =
      counts_of _ _ (get_or ours 2 0) (get_or theirs 2 0)
      (sym (ports-are ours)
      ∙ same_names-eq (ports (decode ours)) (ports (decode theirs)) (and_right input-names port-names h)
      ∙ ports-are theirs)

  -- one law for each way through the test
  pub other-inputs : (get_or theirs 0 0 ≡ get_or ours 0 0 → ⊥) → false ≡ same_interface (decode ours) (decode theirs)
  other-inputs h = sym (not-true-false (same_interface (decode ours) (decode theirs)) (λ t. h (interface-inputs t)))

  pub other-outputs : (get_or theirs 2 0 ≡ get_or ours 2 0 → ⊥) → false ≡ same_interface (decode ours) (decode theirs)
  other-outputs h = sym (not-true-false (same_interface (decode ours) (decode theirs)) (λ t. h (interface-outputs t)))

  module _ (e : get_or theirs 0 0 ≡ get_or ours 0 0) where
    inputs-rule : input-names ≡ all (same_name_at ours inputs_at theirs inputs_at name_size) (up_to (get_or ours 0 0))
    unfolding input-names
    inputs-rule =
        rw (inputs_are ours, inputs_are theirs, e) (names-rule ours theirs inputs_at inputs_at name_size (get_or ours 0 0))

    pub other-names : {r : Bool} → r ≡ all (same_name_at ours inputs_at theirs inputs_at name_size) (up_to (get_or ours 0 0))
        → not r ≡ true
        → false ≡ same_interface (decode ours) (decode theirs)
    unfolding same_interface input-names port-names
    other-names {r} a t = let f : input-names ≡ false = inputs-rule ∙ sym a ∙ not-true r t in rw f refl

    module _ (f : get_or theirs 2 0 ≡ get_or ours 2 0) where
      abbrev ports_at : List ℕ → ℕ
      ports_at ws = outputs_at (get_or ours 0 0) (get_or ws 3 0) (get_or ws 1 0)

      ports-rule : port-names
          ≡ all (same_name_at ours (ports_at ours) theirs (ports_at theirs) output_size) (up_to (get_or ours 2 0))
      unfolding port-names
      ports-rule =
          rw (ports-are ours, ports-are theirs, f, e)
          (names-rule ours theirs (ports_at ours) (ports_at theirs) output_size (get_or ours 2 0))

      pub both-names : {r q : Bool} → r ≡ all (same_name_at ours inputs_at theirs inputs_at name_size) (up_to (get_or ours 0 0))
          → not r ≡ false
          → q ≡ all (same_name_at ours (ports_at ours) theirs (ports_at theirs) output_size) (up_to (get_or ours 2 0))
          → q ≡ same_interface (decode ours) (decode theirs)
      unfolding same_interface input-names port-names
      both-names {r} {q} a t b =
          let i : input-names ≡ true = inputs-rule ∙ sym a ∙ not-false r t in
          rw i (b ∙ sym ports-rule)

-- ---- the same laws, of the counts and places that were read

module _ (ours theirs : List ℕ) where
  pub outputs-differ : {k other : ℕ} → k ≡ get_or ours 2 0 → other ≡ get_or theirs 2 0 → (other ≡ k → ⊥)
      → false ≡ same_interface (decode ours) (decode theirs)
  outputs-differ outputs others h = other-outputs ours theirs (λ e. h (others ∙ e ∙ sym outputs))

  module _ {n other : ℕ} (inputs : n ≡ get_or ours 0 0) (others : other ≡ get_or theirs 0 0) where
    pub inputs-differ : (other ≡ n → ⊥) → false ≡ same_interface (decode ours) (decode theirs)
    inputs-differ h = other-inputs ours theirs (λ e. h (others ∙ e ∙ sym inputs))

    module _ (same : other ≡ n) {r : Bool}
        (told : r ≡ all (same_name_at ours inputs_at theirs inputs_at name_size) (up_to n)) where
      same-inputs : get_or theirs 0 0 ≡ get_or ours 0 0
      same-inputs = sym others ∙ same ∙ inputs

      names-told : r ≡ all (same_name_at ours inputs_at theirs inputs_at name_size) (up_to (get_or ours 0 0))
      names-told = told ∙ rw inputs refl

      pub names-differ : not r ≡ true → false ≡ same_interface (decode ours) (decode theirs)
      names-differ t = other-names ours theirs same-inputs names-told t

      pub names-same : {k others : ℕ} {at other : ℕ} {q : Bool} → not r ≡ false
          → k ≡ get_or ours 2 0 → others ≡ get_or theirs 2 0 → others ≡ k
          → at ≡ outputs_at (get_or ours 0 0) (get_or ours 3 0) (get_or ours 1 0)
          → other ≡ outputs_at (get_or theirs 0 0) (get_or theirs 3 0) (get_or theirs 1 0)
          → q ≡ all (same_name_at ours at theirs other output_size) (up_to k)
          → q ≡ same_interface (decode ours) (decode theirs)
      names-same t outputs others same here there ports =
          both-names ours theirs same-inputs (sym others ∙ same ∙ outputs) names-told t
          (ports ∙ rw (here, there, outputs, same-inputs) refl)
