-- What `kind_here` and `word_length` answer, way by way. Assumes nothing.
use mathlib.Core.Path.{◌≡◌, refl, sym, ap, ◌∙◌}
use mathlib.Core.Bool.{cond}
use mathlib.Core.List.{List}
use Prim.Native.Nat.{ℕ, ◌≤◌}
use lib.ListN.{length, take, get_or}
use lib.Seq.{length-take-le}
use lib.Dec.{eqb}
use borrow.Author.Tests.{ne_eqb}
use Rattle.prelude.specs.Lists.{trimmed}
use Rattle.netlist.specs.Kinds.{keyword, signature_of}
use Rattle.text_recogniser.specs.Keywords.{kind_behind_x, kind_here, word_length}

module _ (s : List ℕ) where
  pub kind-and : get_or s 0 0 ≡ 97 → 1 ≡ kind_here s
  unfolding kind_here
  kind-and e = rw e

  pub kind-or : get_or s 0 0 ≡ 111 → 2 ≡ kind_here s
  unfolding kind_here
  kind-or e = rw e

  pub kind-x : get_or s 0 0 ≡ 120 → kind_behind_x (get_or s 1 0) ≡ kind_here s
  unfolding kind_here
  kind-x e = rw e

  module _ (a : get_or s 0 0 ≡ 97 → ⊥) (b : get_or s 0 0 ≡ 111 → ⊥) (x : get_or s 0 0 ≡ 120 → ⊥) where
    behind-n : cond (eqb (get_or s 1 0) 97) 3 (cond (eqb (get_or s 2 0) 116) 0 4) ≡ kind_here s
    unfolding kind_here
    behind-n = rw (ne_eqb (get_or s 0 0) 97 a, ne_eqb (get_or s 0 0) 111 b, ne_eqb (get_or s 0 0) 120 x)

    pub kind-nand : get_or s 1 0 ≡ 97 → 3 ≡ kind_here s
    kind-nand e = rw e at behind-n

    pub kind-not : (get_or s 1 0 ≡ 97 → ⊥) → get_or s 2 0 ≡ 116 → 0 ≡ kind_here s
    kind-not d e = rw (ne_eqb (get_or s 1 0) 97 d, e) at behind-n

    pub kind-nor : (get_or s 1 0 ≡ 97 → ⊥) → (get_or s 2 0 ≡ 116 → ⊥) → 4 ≡ kind_here s
    kind-nor d e = rw (ne_eqb (get_or s 1 0) 97 d, ne_eqb (get_or s 2 0) 116 e) at behind-n

-- read off the kind's signature, whose keyword ends in zeros
pub word_read : (k r : ℕ) (bytes : List ℕ) → bytes ≡ (signature_of k).keyword → r ≤ length bytes
    → take r bytes ≡ trimmed bytes → r ≡ word_length k
unfolding word_length keyword
word_read k r bytes e h t = sym (length-take-le r bytes h) ∙ ap length t ∙ rw e refl
