-- A name that is looked up by its number in the table: its node's word, and whether it is declared. Assumes nothing.
use mathlib.Core.Path.{◌≡◌, refl, sym}
use mathlib.Core.Bool.{Bool, true, false, cond, ◌||◌, false≢true}
use mathlib.Core.Logic.{⊎_elim}
use mathlib.Core.List.{List, [], ◌∷◌, ◌++◌, map, map-map}
use Prim.Native.Nat.{ℕ}
use lib.ListN.{length, get_or, length-map}
use lib.Dec.{ltb}
use Rattle.prelude.specs.Lists.{all, same, member_list}
use Rattle.prelude.proofs.Tests.{and_left, and_right, and_intro, bool_cases}
use Rattle.netlist.specs.Netlist.{Name, constant}
use Rattle.netlist.specs.StoredBlock.{node_word}
use Rattle.netlist.specs.Names.{is_name_byte, is_name_start, is_legal_name, is_node_name}
use Rattle.netlist.specs.Reading.{Binding, lookup}
use Rattle.text_names.specs.Packed.{packed, name_front}
use Rattle.text_names.specs.Search.{index_of}
use Rattle.text_names.proofs.LegalNames.{name-bytes, front-legal}
use Rattle.text_names.proofs.Lookup.{Bytes, index-member, index-lookup}
use Rattle.text_expressions.specs.Walk.{Ends, declared_names}

-- the name in front of a byte that no name has
pub front-back : (start : ℕ → Bool) (x rest : List ℕ) → is_legal_name start x ≡ true → Ends rest
    → name_front 8 (x ++ rest) ≡ x
front-back start x [] h e = absurd e
front-back start x (c ∷ rest) h e = front-legal start x c rest h e

abbrev pub numbers_of : List Binding → List ℕ
numbers_of bs = map (λ (b : Binding). packed b.name) bs

abbrev pub nodes_of : ℕ → List Binding → List ℕ
nodes_of n bs = map (λ (b : Binding). node_word n b.node) bs

-- what the table has at the index i that the search gave
pub record Looked (n : ℕ) (bs : List Binding) (x : Name) (i : ℕ) : Type 0 where
  pub word : cond (ltb i (length (numbers_of bs))) (get_or (nodes_of n bs) i 0) 65534 ≡ node_word n (lookup bs x)
  pub known : ltb i (length (numbers_of bs)) ≡ member_list x (declared_names bs)

legal-bytes : (xs : List Name) → all is_node_name xs ≡ true → Bytes xs
unfolding is_node_name
legal-bytes [] h = refl
legal-bytes (x ∷ xs) h =
    and_intro (all is_name_byte x) (all (all is_name_byte) xs)
    (name-bytes is_name_start x (and_left (is_node_name x) (all is_node_name xs) h))
    (legal-bytes xs (and_right (is_node_name x) (all is_node_name xs) h))

-- what is not declared stands for constant 0
lookup-none : (bs : List Binding) (x : Name) → member_list x (declared_names bs) ≡ false → lookup bs x ≡ constant false
unfolding lookup declared_names
lookup-none [] x h = refl
lookup-none (b ∷ bs) x h = go (same x b.name) h (lookup-none bs x)
  where
    go : (t : Bool) → t || member_list x (declared_names bs) ≡ false
        → (member_list x (declared_names bs) ≡ false → lookup bs x ≡ constant false)
        → cond t b.node (lookup bs x) ≡ constant false
    go true h r = absurd (false≢true (sym h))
    go false h r = r h

pub looked : (n : ℕ) (bs : List Binding) (x : Name) → is_node_name x ≡ true → all is_node_name (declared_names bs) ≡ true
    → Looked n bs x (index_of (numbers_of bs) (length (numbers_of bs)) (packed x))
unfolding declared_names is_node_name node_word
looked n bs x h a = record {
  word = ⊎_elim declared undeclared (bool_cases (member_list x (declared_names bs)));
  known =
      known;
}
  where
    numbers : numbers_of bs ≡ map packed (declared_names bs)
    numbers = sym (map-map packed (λ (b : Binding). b.name) bs)

    bytes : all is_name_byte x ≡ true
    bytes = name-bytes is_name_start x h

    known : ltb (index_of (numbers_of bs) (length (numbers_of bs)) (packed x)) (length (numbers_of bs)) ≡ member_list x
        (declared_names bs)
    known = rw (numbers, length-map (declared_names bs) packed)
        (index-member x (declared_names bs) bytes (legal-bytes (declared_names bs) a))

    declared : member_list x (declared_names bs) ≡ true
        → cond (ltb (index_of (numbers_of bs) (length (numbers_of bs)) (packed x)) (length (numbers_of bs)))
        (get_or (nodes_of n bs) (index_of (numbers_of bs) (length (numbers_of bs)) (packed x)) 0) 65534
        ≡ node_word n (lookup bs x)
    declared m =
        rw (known, m, length-map bs (λ (b : Binding). packed b.name), numbers)
        (index-lookup (node_word n) x bs bytes (legal-bytes (declared_names bs) a) m)

    undeclared : member_list x (declared_names bs) ≡ false
        → cond (ltb (index_of (numbers_of bs) (length (numbers_of bs)) (packed x)) (length (numbers_of bs)))
        (get_or (nodes_of n bs) (index_of (numbers_of bs) (length (numbers_of bs)) (packed x)) 0) 65534
        ≡ node_word n (lookup bs x)
    undeclared m = rw (known, m, lookup-none bs x m)
