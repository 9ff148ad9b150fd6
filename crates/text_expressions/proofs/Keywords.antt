-- A kind's word at the front of a print is that kind's. Assumes nothing.
use mathlib.Core.Path.{◌≡◌, refl}
use mathlib.Core.Bool.{true}
use mathlib.Core.List.{List, ◌++◌}
use Prim.Native.Nat.{ℕ}
use lib.ListN.{length}
use Rattle.netlist.specs.Kinds.{is_kind, keyword, signature_of}
use Rattle.theory_encoding.proofs.Gates.{by_kind}
use Rattle.text_recogniser.specs.Keywords.{kind_behind_x, kind_here, word_length}

-- at a kind's word it is that kind
pub kind-back : (rest : List ℕ) (k : ℕ) → is_kind k ≡ true → kind_here (keyword k ++ rest) ≡ k
unfolding kind_here kind_behind_x keyword signature_of
kind-back rest = by_kind (λ k. kind_here (keyword k ++ rest) ≡ k) refl refl refl refl refl refl refl

pub word_back : (k : ℕ) → word_length k ≡ length (keyword k)
unfolding word_length
word_back k = refl
