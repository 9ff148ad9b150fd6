-- The kind that the first bytes tell is the kind that netlist's reader answers where its word stands there, and where
-- none does, the reader breaks at the byte where that kind's word breaks. Assumes nothing.
use mathlib.Core.Path.{◌≡◌, refl, sym, ap, ◌∙◌}
use mathlib.Core.Logic.{⊎_elim}
use mathlib.Core.Bool.{Bool, true, false, cond}
use mathlib.Core.List.{List, [], ◌∷◌}
use Prim.Native.Nat.{ℕ, suc}
use lib.ListN.{length, get_or, take}
use lib.Dec.{eqb}
use borrow.Author.Tests.{ne_eqb}
use Rattle.std.specs.Prelude.{Result}
use Rattle.prelude.specs.Lists.{trimmed}
use Rattle.prelude.proofs.Tests.{eq-or-ne}
use Rattle.netlist.specs.Kinds.{keyword, signature_of}
use Rattle.netlist.specs.Parse.{Reader, stuck, pure, stop, on_test, if_next, expect, on_parsed, kind_reader}
use Rattle.text_recogniser.specs.Readers.{scan_of, word_reader}
use Rattle.text_recogniser.specs.Keywords.{kind_behind_x, kind_here}

-- the reader of a kind's word that answers the kind
abbrev word_of : ℕ → Reader ℕ
word_of k = expect (keyword k) (pure k)

abbrev Told : List ℕ → Type 0
Told s = kind_reader s ≡ word_of (kind_here s) s

-- `x` and what is behind it
at_x : (t : List ℕ) → Told (120 ∷ t)
unfolding kind_reader kind_here kind_behind_x keyword signature_of expect pure stop if_next on_test
at_x [] = refl
at_x (d ∷ u) = ⊎_elim same other (eq-or-ne d 111)
  where
    same : d ≡ 111 → Told (120 ∷ d ∷ u)
    same e = rw e refl

    other : (d ≡ 111 → ⊥) → Told (120 ∷ d ∷ u)
    other n = rw (ne_eqb d 111 n, ne_eqb 111 d (λ z. n (sym z))) refl

-- `no` and what is behind it
at-no : (t : List ℕ) → Told (110 ∷ 111 ∷ t)
unfolding kind_reader kind_here keyword signature_of expect pure stop if_next on_test
at-no [] = refl
at-no (d ∷ u) = ⊎_elim same other (eq-or-ne d 116)
  where
    same : d ≡ 116 → Told (110 ∷ 111 ∷ d ∷ u)
    same e = rw e refl

    other : (d ≡ 116 → ⊥) → Told (110 ∷ 111 ∷ d ∷ u)
    other n = rw (ne_eqb d 116 n, ne_eqb 116 d (λ z. n (sym z))) refl

-- `n` and what is behind it
at_n : (t : List ℕ) → Told (110 ∷ t)
unfolding kind_reader kind_here keyword signature_of expect pure stop if_next on_test
at_n [] = refl
at_n (d ∷ u) = ⊎_elim nand (λ n. ⊎_elim no (none n) (eq-or-ne d 111)) (eq-or-ne d 97)
  where
    nand : d ≡ 97 → Told (110 ∷ d ∷ u)
    nand e = rw e refl

    no : d ≡ 111 → Told (110 ∷ d ∷ u)
    no e = rw e (at-no u)

    breaks : eqb 111 d ≡ false → (t : Bool) → stuck (suc (length u)) ≡ word_of (cond t 0 4) (110 ∷ d ∷ u)
    breaks f true = rw f refl
    breaks f false = rw f refl

    none : (d ≡ 97 → ⊥) → (d ≡ 111 → ⊥) → Told (110 ∷ d ∷ u)
    none n m =
        let f : eqb 111 d ≡ false = ne_eqb 111 d (λ z. m (sym z)) in
        rw (ne_eqb d 97 n, ne_eqb 97 d (λ z. n (sym z)), f) (breaks f (eqb (get_or u 0 0) 116))

-- a first byte that no keyword has
no-first : (c : ℕ) (t : List ℕ) → (c ≡ 97 → ⊥) → (c ≡ 111 → ⊥) → (c ≡ 120 → ⊥) → (c ≡ 110 → ⊥) → Told (c ∷ t)
unfolding kind_reader kind_here keyword signature_of expect pure stop if_next on_test
no-first c t a o x n =
    let f : eqb 110 c ≡ false = ne_eqb 110 c (λ z. n (sym z)) in
    rw (
      ne_eqb c 97 a,
      ne_eqb c 111 o,
      ne_eqb c 120 x,
      ne_eqb 97 c (λ z. a (sym z)),
      ne_eqb 111 c (λ z. o (sym z)),
      f,
      ne_eqb 120 c (λ z. x (sym z)),
    ) (breaks f (eqb (get_or t 0 0) 97) (eqb (get_or t 1 0) 116))
  where
    breaks : eqb 110 c ≡ false → (p q : Bool) → stuck (suc (length t)) ≡ word_of (cond p 3 (cond q 0 4)) (c ∷ t)
    breaks f true q = rw f refl
    breaks f false true = rw f refl
    breaks f false false = rw f refl

pub kind-is : (s : List ℕ) → kind_reader s ≡ expect (keyword (kind_here s)) (pure (kind_here s)) s
unfolding kind_reader kind_here keyword signature_of expect pure stop if_next on_test
kind-is [] = refl
kind-is (c ∷ t) =
    ⊎_elim (λ e. rw e refl)
    (λ a. ⊎_elim (λ e. rw e refl)
    (λ o. ⊎_elim (λ e. rw e (at_x t))
    (λ x. ⊎_elim (λ e. rw e (at_n t))
    (λ n. no-first c t a o x n)
    (eq-or-ne c 110)) (eq-or-ne c 120)) (eq-or-ne c 111)) (eq-or-ne c 97)

-- a word whose value is handed on is that word and then what follows
pub word-handed : {A B : Type 0} (w : List ℕ) (next : A → Reader B) (a : A) (s : List ℕ)
    → on_parsed next (expect w (pure a) s) ≡ expect w (next a) s
unfolding expect pure if_next on_test stop on_parsed
word-handed [] next a s = refl
word-handed (c ∷ cs) next a [] = refl
word-handed {A} {B} (c ∷ cs) next a (d ∷ s) = go (eqb c d) (word-handed cs next a s)
  where
    go : (b : Bool) → on_parsed next (expect cs (pure a) s) ≡ expect cs (next a) s
        → on_parsed next (on_test b (λ _. expect cs (pure a)) stop d s) ≡ on_test b (λ _. expect cs (next a)) stop d s
    go true h = h
    go false h = refl

-- the keyword in the table of kinds, without the zeros at its end
pub keyword-read : (k n : ℕ) (bytes s : List ℕ) → bytes ≡ (signature_of k).keyword → take n bytes ≡ trimmed bytes
    → {r : Result ℕ ℕ} → r ≡ scan_of (word_reader (take n bytes) s) → r ≡ scan_of (word_reader (keyword k) s)
unfolding keyword
keyword-read k n bytes s e t f = f ∙ ap (λ w. scan_of (word_reader w s)) (t ∙ ap trimmed e)
