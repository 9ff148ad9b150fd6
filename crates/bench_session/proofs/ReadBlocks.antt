-- What is known of a text that was read: it is a tree's, the tree passed every test, and the words are its block's.
-- Assumes nothing.
use Prim.Native.Nat.{ℕ, ◌≤◌}
use mathlib.Core.Path.{◌≡◌, refl}
use mathlib.Core.Bool.{Bool, true, false}
use mathlib.Core.Option.{Option, none, some}
use mathlib.Core.List.{List}
use native.Mathlib.Omega.{arith}
use lib.ListN.{length}
use lib.Dec.{ltb}
use Rattle.prelude.proofs.Tab.{length-tab}
use Rattle.netlist.specs.declared.Refusal.{Refusal}
use Rattle.netlist.specs.declared.Refusal.TheVariants.{TextTooLong, OverLimit, DuplicateDeclaration, UndeclaredName}
use Rattle.netlist.specs.Limits.{max_text, max_inputs}
use Rattle.netlist.specs.Netlist.{input_count}
use Rattle.netlist.specs.StoredBlock.{encode, decode}
use Rattle.netlist.specs.Syntax.{Tree}
use Rattle.netlist.specs.Parse.{Parsed, got, stuck, parse}
use Rattle.netlist.specs.Reading.{is_over_limit, first_duplicate, first_undeclared, block_of}
use Rattle.netlist.specs.Answers.{done, refused, refuse_if, refuse_at}
use Rattle.netlist.specs.Operations.{counted, read_tree, read_parsed, read_text}
use Rattle.theory_grammar.proofs.Limits.{limits-within}

pub record Accepted (text ws : List ℕ) : Type 0 where
  pub tree : Tree
  pub rest : List ℕ
  pub parsed : parse text ≡ got tree rest
  pub within : is_over_limit tree ≡ false
  pub unrepeated : first_duplicate tree ≡ none
  pub declared : first_undeclared tree ≡ none
  pub words : ws ≡ encode (block_of tree)

module _ (text ws : List ℕ) (count detail : ℕ) where
  not-refused : {A : Type 0} {r : Refusal} → refused r ≡ done ws count detail → A
  not-refused e = let z : ◌≡◌ {A = ℕ} 0 1 = cc in absurd (omega arith)

  in_tree : (t : Tree) (rest : List ℕ) → parse text ≡ got t rest → read_tree t ≡ done ws count detail → Accepted text ws
  unfolding read_tree counted refuse_if refuse_at
  in_tree t rest p e = go (is_over_limit t) (first_duplicate t) (first_undeclared t) refl refl refl e
    where
      go : (o : Bool) (d u : Option ℕ) → is_over_limit t ≡ o → first_duplicate t ≡ d → first_undeclared t ≡ u
          → refuse_if o OverLimit (refuse_at d DuplicateDeclaration
          (refuse_at u UndeclaredName (counted (encode (block_of t))))) ≡ done ws count detail
          → Accepted text ws
      go true d u eo ed eu h = not-refused h
      go false (some x) u eo ed eu h = not-refused h
      go false none (some x) eo ed eu h = not-refused h
      go false none none eo ed eu h =
          record { tree = t; rest = rest; parsed = p; within = eo; unrepeated = ed; declared = eu; words = cc }

  in-parsed : (p : Parsed Tree) → parse text ≡ p → read_parsed text p ≡ done ws count detail → Accepted text ws
  unfolding read_parsed
  in-parsed (stuck left) e h = not-refused h
  in-parsed (got t rest) e h = in_tree t rest e h

  pub read-accepted : read_text text ≡ done ws count detail → Accepted text ws
  unfolding read_text refuse_if
  read-accepted e = go (ltb max_text (length text)) refl e
    where
      go : (l : Bool) → ltb max_text (length text) ≡ l
          → refuse_if l TextTooLong (read_parsed text (parse text)) ≡ done ws count detail → Accepted text ws
      go true p h = not-refused h
      go false p h = in-parsed (parse text) refl h

-- A block that was read has few enough inputs.
pub read-few-inputs : (text ws : List ℕ) (count detail : ℕ) → read_text text ≡ done ws count detail
    → input_count (decode ws) ≤ max_inputs
unfolding decode encode block_of
read-few-inputs text ws count detail e =
    let a = read-accepted text ws count detail e in
    let f = (limits-within a.tree a.within).inputs in
    rw (a.words, length-tab) f
