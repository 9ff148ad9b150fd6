-- The five parts of a block, stored one behind the other. Assumes nothing.
use borrow.Rule.Slice.PartMut.{put_mid}
use Rattle.std.proofs.lemmas.Slice.{put_mid-paste}
use Rattle.std.proofs.lemmas.List.Edits.{sets-eq}
use Rattle.prelude.proofs.Tab.{tab-ext, tab-get_d}
use lib.Seq.{take_all, get_or-take, length-take-le}
use mathlib.Core.Path.{◌≡◌, refl, sym, ap, ◌∙◌}
use mathlib.Core.List.{List, [], ◌∷◌, ◌++◌}
use Prim.Native.Nat.{ℕ, suc, ◌+◌, ◌*◌, ◌≤◌}
use native.Mathlib.Omega.{arith}
use lib.ListN.{length, set, get_or, take, length-append}
use lib.Seq.{sets}
use Rattle.prelude.specs.Lists.{tab, joined}
use Rattle.prelude.proofs.Tab.{length-tab}
use Rattle.prelude.proofs.Stores.{sets-append, length-joined-tab}
use Rattle.netlist.specs.StoredBlock.{inputs_at, nevers_at, gates_at, outputs_at}
use Rattle.text_lines.specs.declared.counts.Counts.{Counts}
use Rattle.text_names.specs.Ports.{port_words}
use Rattle.text_block.specs.Words.{name_of, word_of, tree_block_words}

module _ {A : Type 0} where
  -- four stores, one behind the other
  pub four-stores : (d : List A) (at : ℕ) (w x y z : A)
      → set (set (set (set d at w) (at + 1) x) (at + 2) y) (at + 3) z ≡ sets d at (w ∷ x ∷ y ∷ z ∷ [])
  four-stores d at w x y z =
      let e : at + 1 ≡ suc at = omega arith in
      let f : at + 2 ≡ suc (suc at) = omega arith in
      let g : at + 3 ≡ suc (suc (suc at)) = omega arith in
      rw (e, f, g)

pub name-size : (names : List ℕ) (i : ℕ) → length (name_of names i) ≡ 4
unfolding name_of port_words
name-size names i = refl

pub block_written : (c : Counts) (names masks gates outputs block a b d e f : List ℕ)
    → a ≡ sets block 0 (c.inputs ∷ c.gates ∷ c.outputs ∷ c.nevers ∷ [])
    → b ≡ sets a inputs_at (joined (tab (name_of names) c.inputs))
    → d ≡ sets b (nevers_at c.inputs) (tab (word_of masks) (2 * c.nevers))
    → e ≡ sets d (gates_at c.inputs c.nevers) (tab (word_of gates) (5 * c.gates))
    → f ≡ sets e (outputs_at c.inputs c.nevers c.gates) (tab (word_of outputs) (5 * c.outputs))
    → f ≡ sets block 0 (tree_block_words c names masks gates outputs)
unfolding tree_block_words nevers_at gates_at outputs_at
block_written c names masks gates outputs block a b d e f p q m r s =
    let head = c.inputs ∷ c.gates ∷ c.outputs ∷ c.nevers ∷ [] in
    let ns = joined (tab (name_of names) c.inputs) in
    let ms = tab (word_of masks) (2 * c.nevers) in
    let gs = tab (word_of gates) (5 * c.gates) in
    let os = tab (word_of outputs) (5 * c.outputs) in
    let x : length (head ++ ns) ≡ 4 + 4 * c.inputs = omega
    (arith, length-append head ns, length-joined-tab (name_of names) 4 (name-size names) c.inputs) in
    let y : length (head ++ ns ++ ms) ≡ 4 + 4 * c.inputs + 2 * c.nevers = omega
    (arith, length-append (head ++ ns) ms, x, length-tab (word_of masks) (2 * c.nevers)) in
    let z : length (head ++ ns ++ ms ++ gs) ≡ 4 + 4 * c.inputs + 2 * c.nevers + 5 * c.gates = omega
    (arith, length-append (head ++ ns ++ ms) gs, y, length-tab (word_of gates) (5 * c.gates)) in
    let u : b ≡ sets block 0 (head ++ ns) = q ∙ rw p (sets-append head block 0 4 ns (omega arith)) in
    let v : d ≡ sets block 0 (head ++ ns ++ ms) =
    m ∙ rw u (sets-append (head ++ ns) block 0 (4 + 4 * c.inputs) ms (omega (arith, x))) in
    let w : e ≡ sets block 0 (head ++ ns ++ ms ++ gs) = r
    ∙ rw v (sets-append (head ++ ns ++ ms) block 0 (4 + 4 * c.inputs + 2 * c.nevers) gs (omega (arith, y))) in
    s ∙ rw w (sets-append (head ++ ns ++ ms ++ gs) block 0 (4 + 4 * c.inputs + 2 * c.nevers + 5 * c.gates) os
    (omega (arith, z)))

-- ---- words copied into a part of a block

pub words-tab : (words : List ℕ) (n : ℕ) → n ≤ length words → take n words ≡ tab (word_of words) n
unfolding word_of
words-tab words n l =
    sym
    (tab-ext (word_of words) (λ i. get_or (take n words) i 0) n (λ i h. sym (get_or-take n words i 0 h))
    ∙ tab-get_d 0 (take n words) n (length-take-le n words l))

-- the names of the first n numbers
pub names-tab : (names : List ℕ) (n : ℕ) → n ≤ length names
    → tab (name_of (take n names)) (length (take n names)) ≡ tab (name_of names) n
unfolding name_of
names-tab names n l =
    rw (length-take-le n names l)
    (tab-ext (name_of (take n names)) (name_of names) n (λ i h. ap port_words (get_or-take n names i 0 h)))

pub words-put : (block words part : List ℕ) (at k : ℕ) → at + length words ≤ length block → length words ≡ k
    → part ≡ words → put_mid at k block part ≡ sets block at words
words-put block words part at k room e copied =
    put_mid-paste at k block part words (length words) copied e refl
    ∙ rw (sets-eq words block at room, take_all (length words) words (omega arith))
