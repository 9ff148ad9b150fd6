-- Of any sort of tree, for netlist texts and set lines alike. Assumes nothing.
--   refused-first-bad: a good reader that accepts exactly the legal texts refuses at the first bad byte
--   first-bad-one: there is one such place
--   first-bad-refused-at: a text with a first bad byte is refused there
use Prim.Native.Nat.{ℕ, zero, suc, ◌-◌, ◌≤◌, ◌<◌}
use mathlib.Core.Path.{◌≡◌, refl, sym, ap, ◌∙◌}
use mathlib.Core.Logic.{◌⊎◌, inl, inr}
use mathlib.Core.Bool.{Bool, true, false≢true}
use mathlib.Core.List.{List, [], ◌∷◌, ◌++◌, append_assoc}
use native.Mathlib.Omega.{arith}
use lib.ListN.{length, take, drop, take-append-drop}
use lib.Seq.{take-take, take_all}
use Rattle.prelude.proofs.Tests.{lt-or-le}
use Rattle.netlist.specs.Syntax.{LegalOf, ViableOf, FirstBadOf}
use Rattle.netlist.specs.Parse.{Parsed, Reader, got, stuck}
use Rattle.theory_grammar.proofs.Refusals.{accepted, Fails, Good}

-- ---- what a failure says of the whole text

module _ {T : Type 0} where
  pub fails-within : (r : Reader T) (s : List ℕ) (n : ℕ) → Fails r s n → n ≤ length s
  fails-within r [] n f = omega arith
  fails-within r (c ∷ s) n (inl f) = omega arith
  fails-within r (c ∷ s) n (inr f) = let h = fails-within (λ w. r (c ∷ w)) s n f.1 in omega arith

  -- what stands before the place begins an accepted text
  pub fails-begins : (r : Reader T) → (w : List ℕ) × (accepted (r w) ≡ true) → (s : List ℕ) (n : ℕ) → Fails r s n
      → (w : List ℕ) × (accepted (r (take (length s - n) s ++ w)) ≡ true)
  fails-begins r sample [] n f = let e : n ≡ 0 = f in rw e sample
  fails-begins r sample (c ∷ s) n (inl f) = let e : suc (length s) - n ≡ 0 = omega arith in rw e sample
  fails-begins r sample (c ∷ s) n (inr f) =
      let h = fails-within (λ w. r (c ∷ w)) s n f.1 in
      let e : suc (length s) - n ≡ suc (length s - n) = omega arith in
      rw e (fails-begins (λ w. r (c ∷ w)) f.0 s n f.1)

  -- with the byte at the place, nothing accepted begins so
  pub fails-bad : (r : Reader T) (s : List ℕ) (n : ℕ) → Fails r s (suc n) → (w : List ℕ)
      → accepted (r (take (suc (length s - suc n)) s ++ w)) ≡ true → ⊥
  fails-bad r [] n f w h = absurd (omega arith)
  fails-bad r (c ∷ s) n (inl f) w h = f.1 _ h
  fails-bad r (c ∷ s) n (inr f) w h =
      let g = fails-within (λ w. r (c ∷ w)) s (suc n) f.1 in
      let e : suc (length s) - suc n ≡ suc (length s - suc n) = omega arith in
      fails-bad (λ w. r (c ∷ w)) s n f.1 w (rw e at h)

-- ---- where a reader that accepts exactly the legal texts refuses

module _ {T : Type 0} (is_legal_tree : T → Bool) (print : T → List ℕ) (reader : Reader T) (good : Good reader)
    (sound : (text : List ℕ) → accepted (reader text) ≡ true → LegalOf is_legal_tree print text)
    (complete : (text : List ℕ) → LegalOf is_legal_tree print text → accepted (reader text) ≡ true) (text : List ℕ) where
  refused-bad : (left : ℕ) → reader text ≡ stuck left
      → (length text - left ≡ length text) ⊎ (ViableOf is_legal_tree print (take (suc (length text - left)) text) → ⊥)
  refused-bad zero e = inl (omega arith)
  refused-bad (suc n) e =
      inr λ v. fails-bad reader text n (good.half.fails text (suc n) e) v.rest (complete _ v.legal)

  pub refused-first-bad : (left : ℕ) → reader text ≡ stuck left → FirstBadOf is_legal_tree print text (length text - left)
  refused-first-bad left e =
      let b = fails-begins reader (good.sample, good.accepts) text left (good.half.fails text left e) in
      record {
        illegal = λ l. false≢true (sym (ap accepted e) ∙ complete text l);
        begins = record { rest = b.0; legal = sound _ b.1 };
        bad = refused-bad left e;
      }

-- ---- there is one such place

module _ {T : Type 0} {is_legal_tree : T → Bool} {print : T → List ℕ} where
  viable-shorter : (a b : List ℕ) → ViableOf is_legal_tree print (a ++ b) → ViableOf is_legal_tree print a
  viable-shorter a b v = record { rest = b ++ v.rest; legal = rw append_assoc at v.legal }

  viable-take : (text : List ℕ) (m n : ℕ) → m ≤ n → ViableOf is_legal_tree print (take n text)
      → ViableOf is_legal_tree print (take m text)
  viable-take text m n le v =
      viable-shorter (take m text) (drop m (take n text))
      (rw (← take-take m n text le, take-append-drop m (take n text)) v)

  module _ (text : List ℕ) where
    first-bad-within : (d : ℕ) → FirstBadOf is_legal_tree print text d → d ≤ length text
    first-bad-within d f = go (lt-or-le (length text) d) f.bad
      where
        go : (length text < d) ⊎ (d ≤ length text)
            → (d ≡ length text) ⊎ (ViableOf is_legal_tree print (take (suc d) text) → ⊥)
            → d ≤ length text
        go (inr le) b = le
        go (inl l) (inl e) = omega arith
        go (inl l) (inr no_more) =
            let e : take (suc d) text ≡ take d text =
            take_all (suc d) text (omega arith) ∙ sym (take_all d text (omega arith)) in
            absurd (no_more (rw e f.begins))

    not_earlier : (d e : ℕ) → FirstBadOf is_legal_tree print text d → FirstBadOf is_legal_tree print text e → d < e → ⊥
    not_earlier d e f g l = go f.bad
      where
        go : (d ≡ length text) ⊎ (ViableOf is_legal_tree print (take (suc d) text) → ⊥) → ⊥
        go (inl p) = let h = first-bad-within e g in omega arith
        go (inr no_more) = no_more (viable-take text (suc d) e l g.begins)

    -- The place of the first bad byte is one.
    pub first-bad-one : (d e : ℕ) → FirstBadOf is_legal_tree print text d → FirstBadOf is_legal_tree print text e → d ≡ e
    first-bad-one d e f g = go (lt-or-le d e) (lt-or-le e d)
      where
        go : (d < e) ⊎ (e ≤ d) → (e < d) ⊎ (d ≤ e) → d ≡ e
        go (inl l) b = absurd (not_earlier d e f g l)
        go (inr a) (inl l) = absurd (not_earlier e d g f l)
        go (inr a) (inr b) = omega arith

module _ {T : Type 0} (legal_tree : T → Bool) (print : T → List ℕ) (reader : Reader T) (good : Good reader)
    (sound : (text : List ℕ) → accepted (reader text) ≡ true → LegalOf legal_tree print text)
    (complete : (text : List ℕ) → LegalOf legal_tree print text → accepted (reader text) ≡ true) (text : List ℕ) where
  pub first-bad-refused-at : (d : ℕ) → FirstBadOf legal_tree print text d → reader text ≡ stuck (length text - d)
  first-bad-refused-at d f = go (reader text) refl
    where
      go : (p : Parsed T) → reader text ≡ p → p ≡ stuck (length text - d)
      go (got t rest) e = absurd (f.illegal (sound text (ap accepted e)))
      go (stuck left) e =
          let h = first-bad-one text d (length text - left) f
          (refused-first-bad legal_tree print reader good sound complete text left e) in
          let g = fails-within reader text left (good.half.fails text left e) in
          ap stuck (let q : left ≡ length text - d = omega arith in q)
