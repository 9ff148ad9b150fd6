-- Where a reader refuses: `Fails r s n` says that n bytes are left from the first byte on that no accepted text has
-- there. A reader is half good if its refusals are such failures, and good if besides it accepts something. One lemma
-- for each way to make a reader. Assumes nothing.
--   Fails: n bytes are left from the first one on that no accepted text has there
--   HalfGood, Good: a reader whose refusals are such failures; which besides accepts something
--   GoodBefore, HalfGoodBefore: the same of a reader with another behind it
--   half-.., good-.., before-..: one law for each way to make a reader
use Prim.Native.Nat.{ℕ, suc}
use mathlib.Core.Path.{◌≡◌, refl, sym, ap, ◌∙◌, fun_ext}
use mathlib.Core.Logic.{◌⊎◌, inl, inr}
use mathlib.Core.Bool.{Bool, true, false, false≢true}
use mathlib.Core.List.{List, [], ◌∷◌}
use native.Mathlib.Omega.{arith}
use lib.ListN.{length}
use lib.Dec.{eqb}
use borrow.Author.Tests.{eq-eqb}
use Rattle.netlist.specs.Parse.{Parsed, got, stuck, Reader, pure, stop, on_test, if_next, expect, nothing_behind, on_parsed}
use Rattle.netlist.specs.Parse.{bind}

abbrev pub accepted : {A : Type 0} → Parsed A → Bool
accepted (got a s) = true
accepted (stuck n) = false

abbrev pub Fails : {T : Type 0} → Reader T → List ℕ → ℕ → Type 0
Fails r [] n = n ≡ 0
Fails r (c ∷ s) n =
    ((n ≡ suc (length s)) × ((w : List ℕ) → accepted (r (c ∷ w)) ≡ true → ⊥))
    ⊎ (((w : List ℕ) × (accepted (r (c ∷ w)) ≡ true)) × Fails (λ w. r (c ∷ w)) s n)

pub record HalfGood {T : Type 0} (r : Reader T) : Type 0 where
  pub fails : (s : List ℕ) (n : ℕ) → r s ≡ stuck n → Fails r s n

pub record Good {T : Type 0} (r : Reader T) : Type 0 where
  pub half : HalfGood r
  pub sample : List ℕ
  pub accepts : accepted (r sample) ≡ true

-- `Fails` at a byte, over what is read behind it
abbrev FailsBehind : {T : Type 0} → Reader T → List ℕ → ℕ → Type 0
FailsBehind r s n =
    ((n ≡ suc (length s)) × ((w : List ℕ) → accepted (r w) ≡ true → ⊥))
    ⊎ (((w : List ℕ) × (accepted (r w) ≡ true)) × Fails r s n)

pub half-stop : {T : Type 0} → HalfGood {T = T} stop
unfolding stop
half-stop {T} = record { fails = go }
  where
    go : (s : List ℕ) (n : ℕ) → stop {A = T} s ≡ stuck n → Fails {T = T} stop s n
    go [] n e = cc
    go (c ∷ s) n e = inl (cc, λ w h. false≢true h)

module _ {T : Type 0} (test : ℕ → Bool) (first : ℕ → Reader T) (second : Reader T)
    (hit : (c : ℕ) → test c ≡ true → Good (first c))
    (miss : HalfGood second) where
  pub half-if_next : HalfGood (if_next test first second)
  unfolding if_next on_test
  half-if_next = record { fails = go }
    where
      behind : (c : ℕ) (s : List ℕ) (n : ℕ) (b : Bool) → test c ≡ b → on_test b first second c s ≡ stuck n
          → FailsBehind (on_test b first second c) s n
      behind c s n true q e = let g = hit c q in inr ((g.sample, g.accepts), g.half.fails s n e)
      behind c s n false q e = miss.fails (c ∷ s) n e

      go : (s : List ℕ) (n : ℕ) → if_next test first second s ≡ stuck n → Fails (if_next test first second) s n
      go [] n e = miss.fails [] n e
      go (c ∷ s) n e = behind c s n (test c) refl e

  pub good-if_next : (c : ℕ) → test c ≡ true → Good (if_next test first second)
  unfolding if_next on_test
  good-if_next c q = record { half = half-if_next; sample = c ∷ (hit c q).sample; accepts = rw q (hit c q).accepts }

pub good-expect : {T : Type 0} (cs : List ℕ) (next : Reader T) → Good next → Good (expect cs next)
unfolding expect
good-expect [] next g = g
good-expect (c ∷ cs) next g =
    good-if_next (eqb c) (λ _. expect cs next) stop (λ d q. good-expect cs next g) half-stop c (eq-eqb c c refl)

-- ---- a reader before any good one

pub record GoodBefore {A : Type 0} (r : Reader A) : Type 1 where
  pub good : {T : Type 0} (next : A → Reader T) → ((a : A) → Good (next a)) → Good (bind r next)

pub record HalfGoodBefore {A : Type 0} (r : Reader A) : Type 1 where
  pub half : {T : Type 0} (next : A → Reader T) → ((a : A) → Good (next a)) → HalfGood (bind r next)

module _ {A : Type 0} where
  pub before-pure : (a : A) → GoodBefore (pure a)
  unfolding pure bind on_parsed
  before-pure a = record { good = λ next g. g a }

  pub before-stop : HalfGoodBefore {A = A} stop
  unfolding stop bind on_parsed
  before-stop = record { half = λ next g. half-stop }

  module _ {T : Type 0} (test : ℕ → Bool) (first : ℕ → Reader A) (second : Reader A) (next : A → Reader T) where
    bind-if_next : bind (if_next test first second) next ≡ if_next test (λ c. bind (first c) next) (bind second next)
    unfolding bind on_parsed if_next on_test
    bind-if_next = fun_ext go
      where
        behind : (b : Bool) (c : ℕ) (s : List ℕ)
            → on_parsed next (on_test b first second c s) ≡ on_test b (λ c. bind (first c) next) (bind second next) c s
        behind true c s = refl
        behind false c s = refl

        go : (s : List ℕ) → on_parsed next (if_next test first second s)
            ≡ if_next test (λ c. bind (first c) next) (bind second next) s
        go [] = refl
        go (c ∷ s) = behind (test c) c s

  module _ (test : ℕ → Bool) (first : ℕ → Reader A) (second : Reader A)
      (hit : (c : ℕ) → test c ≡ true → GoodBefore (first c))
      (miss : HalfGoodBefore second) where
    pub half_before-if_next : HalfGoodBefore (if_next test first second)
    half_before-if_next = record {
      half =
          λ next g. rw (bind-if_next test first second next)
          (half-if_next test _ _ (λ c q. (hit c q).good next g) (miss.half next g));
    }

    pub before-if_next : (c : ℕ) → test c ≡ true → GoodBefore (if_next test first second)
    before-if_next c q = record {
      good =
          λ next g. rw (bind-if_next test first second next)
          (good-if_next test _ _ (λ d p. (hit d p).good next g) (miss.half next g) c q);
    }

  pub before-half : {r : Reader A} → GoodBefore r → HalfGoodBefore r
  before-half b = record { half = λ next g. (b.good next g).half }

  pub before-expect : (cs : List ℕ) (r : Reader A) → GoodBefore r → GoodBefore (expect cs r)
  unfolding expect
  before-expect [] r b = b
  before-expect (c ∷ cs) r b =
      before-if_next (eqb c) (λ _. expect cs r) stop (λ d q. before-expect cs r b) before-stop c (eq-eqb c c refl)

module _ {A B : Type 0} where
  bind-bind : {T : Type 0} (r : Reader A) (f : A → Reader B) (next : B → Reader T)
      → bind (bind r f) next ≡ bind r (λ a. bind (f a) next)
  unfolding bind on_parsed
  bind-bind r f next = fun_ext λ s. go (r s)
    where
      go : (p : Parsed A) → on_parsed next (on_parsed f p) ≡ on_parsed (λ a. bind (f a) next) p
      go (got a s) = refl
      go (stuck n) = refl

  pub before-bind : (r : Reader A) (f : A → Reader B) → GoodBefore r → ((a : A) → GoodBefore (f a))
      → GoodBefore (bind r f)
  before-bind r f b c = record { good = λ next g. rw (bind-bind r f next) (b.good _ λ a. (c a).good next g) }

-- ---- a good reader, and then a value made of what it read

same-fails : {T U : Type 0} (r : Reader T) (q : Reader U) → ((w : List ℕ) → accepted (r w) ≡ accepted (q w))
    → (s : List ℕ) (n : ℕ) → Fails r s n → Fails q s n
same-fails r q same [] n f = f
same-fails r q same (c ∷ s) n (inl f) = inl (f.0, λ w h. f.1 w (same (c ∷ w) ∙ h))
same-fails r q same (c ∷ s) n (inr f) =
    inr (
      (f.0.0, sym (same (c ∷ f.0.0)) ∙ f.0.1),
      same-fails (λ w. r (c ∷ w)) (λ w. q (c ∷ w)) (λ w. same (c ∷ w)) s n f.1,
    )

pub good-made : {T U : Type 0} (r : Reader T) (make : T → U) → Good r → Good (bind r (λ t. pure (make t)))
unfolding bind on_parsed pure
good-made {T} r make g = record {
  half = record { fails = λ s n e. same-fails r _ (λ w. same (r w)) s n (g.half.fails s n (same-stuck (r s) n e)) };
  sample = g.sample;
  accepts = sym (same (r g.sample)) ∙ g.accepts;
}
  where
    same : (p : Parsed T) → accepted p ≡ accepted (on_parsed (λ t. pure (make t)) p)
    same (got a s) = refl
    same (stuck n) = refl

    same-stuck : (p : Parsed T) (n : ℕ) → on_parsed (λ t. pure (make t)) p ≡ stuck n → p ≡ stuck n
    same-stuck (got a s) n e = let z : ◌≡◌ {A = ℕ} 0 1 = cc in absurd (omega arith)
    same-stuck (stuck m) n e = let f : m ≡ n = cc in ap stuck f

-- the end of the text
pub good-end : {T : Type 0} (t : T) → Good (nothing_behind t)
good-end {T} t = record { half = record { fails = go }; sample = []; accepts = refl }
  where
    go : (s : List ℕ) (n : ℕ) → nothing_behind t s ≡ stuck n → Fails (nothing_behind t) s n
    go [] n e = let z : ◌≡◌ {A = ℕ} 0 1 = cc in absurd (omega arith)
    go (c ∷ s) n e = inl (cc, λ w h. false≢true h)
