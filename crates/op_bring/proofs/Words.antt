-- The words of a block stored before there were never lines, and the same with a fourth count. Assumes nothing.
--   length-brought, brought-put        the number of words; all of them, as they are written
--   word-before, word-four             where the counts stand
--   malformed-short, malformed-inputs, malformed-long what the old rules refuse at once
--   malformed-brought                       what is left: the old rules are today's, of the words with a fourth count
--   encode-brought, whole_before       the words of today are the old ones with a fourth count; what the old rules say
--   bring-start, bring-room            the conditions one after the other
use mathlib.Core.Path.{◌≡◌, refl, sym, ap, subst, ◌∙◌}
use mathlib.Core.Bool.{Bool, true, false, ◌&&◌}
use mathlib.Core.List.{List, [], ◌∷◌, ◌++◌, map, append-nil}
use Prim.Native.Nat.{ℕ, zero, suc, ◌+◌, ◌-◌, ◌≤◌, ◌<◌}
use native.Mathlib.Omega.{arith}
use lib.ListN.{length, get_or, set, take, drop}
use borrow.Rule.Slice.PartMut.{put_mid}
use Rattle.std.proofs.lemmas.List.{take_rest}
use lib.Dec.{leb, ltb}
use borrow.Author.Tests.{leb-true, le-leb, not-false}
use Rattle.prelude.specs.Lists.{same, joined, placed}
use Rattle.prelude.proofs.Tests.{and_left, and_right, same_test}
use Rattle.prelude.proofs.Same.{same-eq, eq-same}
use Rattle.netlist.specs.Limits.{max_block}
use Rattle.netlist.specs.Netlist.{Block, input_count}
use Rattle.netlist.specs.StoredBlock.{name_words, encode, decode, is_well_formed, is_malformed}
use Rattle.netlist.specs.declared.Refusal.TheVariants.{MalformedBlock, NoRoom}
use Rattle.netlist.specs.Answers.{done, refuse_if, in_room}
use Rattle.netlist.specs.Operations.{counted}
use Rattle.netlist.specs.Bring.{max_inputs_before, encode_before, brought, is_malformed_before, bring_words, bring}
use Rattle.theory_encoding.proofs.Decoded.{decode-input_count}
use Rattle.theory_encoding.proofs.Sizes.{whole-longest}

-- ---- words

pub length-brought : (ws : List ℕ) → 3 ≤ length ws → length (brought ws) ≡ length ws + 1
unfolding brought
length-brought [] l = absurd (omega arith)
length-brought (a ∷ []) l = absurd (omega arith)
length-brought (a ∷ b ∷ []) l = absurd (omega arith)
length-brought (a ∷ b ∷ c ∷ ws) l = omega arith

pub word-before : (ws : List ℕ) (p : ℕ) → 3 ≤ length ws → p < 3 → get_or ws p 0 ≡ get_or (brought ws) p 0
unfolding brought
word-before [] p l k = absurd (omega arith)
word-before (a ∷ []) p l k = absurd (omega arith)
word-before (a ∷ b ∷ []) p l k = absurd (omega arith)
word-before (a ∷ b ∷ c ∷ ws) zero l k = refl
word-before (a ∷ b ∷ c ∷ ws) (suc zero) l k = refl
word-before (a ∷ b ∷ c ∷ ws) (suc (suc zero)) l k = refl
word-before (a ∷ b ∷ c ∷ ws) (suc (suc (suc p))) l k = absurd (omega arith)

pub word-four : (ws : List ℕ) → 3 ≤ length ws → get_or (brought ws) 3 0 ≡ 0
unfolding brought
word-four [] l = absurd (omega arith)
word-four (a ∷ []) l = absurd (omega arith)
word-four (a ∷ b ∷ []) l = absurd (omega arith)
word-four (a ∷ b ∷ c ∷ ws) l = refl

-- the counts, the fourth, and the words behind them, written one after the other
pub brought-put : (old block : List ℕ) {first rest : List ℕ} → 3 ≤ length old → length old < length block
    → first ≡ take 3 old → rest ≡ take (length old - 3) (drop 3 old)
    → put_mid 4 (length old + 1 - 4) (set (first ++ drop 3 block) 3 0) rest ≡ placed (brought old) block
unfolding brought
brought-put [] block l h f r = absurd (omega arith)
brought-put (a ∷ []) block l h f r = absurd (omega arith)
brought-put (a ∷ b ∷ []) block l h f r = absurd (omega arith)
brought-put (a ∷ b ∷ c ∷ ws) [] l h f r = absurd (omega arith)
brought-put (a ∷ b ∷ c ∷ ws) (x ∷ []) l h f r = absurd (omega arith)
brought-put (a ∷ b ∷ c ∷ ws) (x ∷ y ∷ []) l h f r = absurd (omega arith)
brought-put (a ∷ b ∷ c ∷ ws) (x ∷ y ∷ z ∷ []) l h f r = absurd (omega arith)
brought-put (a ∷ b ∷ c ∷ ws) (x ∷ y ∷ z ∷ w ∷ bs) l h f r =
    let k : suc (suc (suc (length ws))) + 1 - 4 ≡ length ws = omega arith in
    rw (f, r, take_rest (a ∷ b ∷ c ∷ ws) 3, k) refl

-- ---- the old rules

abbrev block_of : List ℕ → Block
block_of ws = decode (brought ws)

-- no never line
pub brought-nevers : (ws : List ℕ) → 3 ≤ length ws → (block_of ws).nevers ≡ []
unfolding decode
brought-nevers ws l = rw (word-four ws l) refl

-- without never lines the words of today are those of before with a fourth count
pub encode-brought : (b : Block) → b.nevers ≡ [] → encode b ≡ brought (encode_before b)
unfolding encode encode_before brought
encode-brought b e = rw (e, append-nil (joined (map name_words b.inputs))) refl

-- a list of so many words comes back from its first three and the rest
brought-same : (us ws : List ℕ) → 3 ≤ length us → 3 ≤ length ws → brought us ≡ brought ws → us ≡ ws
unfolding brought
brought-same [] ws l k e = absurd (omega arith)
brought-same (a ∷ []) ws l k e = absurd (omega arith)
brought-same (a ∷ b ∷ []) ws l k e = absurd (omega arith)
brought-same (a ∷ b ∷ c ∷ us) [] l k e = absurd (omega arith)
brought-same (a ∷ b ∷ c ∷ us) (x ∷ []) l k e = absurd (omega arith)
brought-same (a ∷ b ∷ c ∷ us) (x ∷ y ∷ []) l k e = absurd (omega arith)
brought-same (a ∷ b ∷ c ∷ us) (x ∷ y ∷ z ∷ ws) l k e =
    let first : a ≡ x = ap (λ v. get_or v 0 0) e in
    let second : b ≡ y = ap (λ v. get_or v 1 0) e in
    let third : c ≡ z = ap (λ v. get_or v 2 0) e in
    let rest : us ≡ ws = ap (drop 4) e in
    rw (first, second, third, rest) refl

long-before : (b : Block) → 3 ≤ length (encode_before b)
unfolding encode_before
long-before b = omega arith

-- the words are the old words of their block exactly when those brought over are its words of today
same-brought : (ws : List ℕ) → 3 ≤ length ws
    → same (encode_before (block_of ws)) ws ≡ same (encode (block_of ws)) (brought ws)
same-brought ws l =
    same_test (same (encode_before (block_of ws)) ws) (same (encode (block_of ws)) (brought ws))
    (λ h. eq-same _ _ (encode-brought (block_of ws) (brought-nevers ws l) ∙ ap brought (same-eq _ _ h)))
    (λ h. eq-same _ _
    (brought-same (encode_before (block_of ws)) ws (long-before (block_of ws)) l
    (sym (encode-brought (block_of ws) (brought-nevers ws l)) ∙ same-eq _ _ h)))

-- what is left of the old rules
pub malformed-brought : (ws : List ℕ) → 3 ≤ length ws → get_or ws 0 0 ≤ max_inputs_before
    → is_malformed_before ws ≡ is_malformed (brought ws)
unfolding is_malformed_before is_malformed
malformed-brought ws l few =
    let n : input_count (block_of ws) ≡ get_or ws 0 0 =
    decode-input_count (brought ws) ∙ sym (word-before ws 0 l (omega arith)) in
    rw (n, le-leb (get_or ws 0 0) max_inputs_before few, same-brought ws l) refl

-- ---- what they refuse at once

malformed-when : (ws : List ℕ) → (is_malformed_before ws ≡ false → ⊥) → is_malformed_before ws ≡ true
malformed-when ws = go (is_malformed_before ws)
  where
    go : (t : Bool) → (t ≡ false → ⊥) → t ≡ true
    go true h = refl
    go false h = absurd (h refl)

-- the parts of the old rules
pub whole_before : (ws : List ℕ) → is_malformed_before ws ≡ false
    → (input_count (block_of ws) ≤ max_inputs_before) × (encode_before (block_of ws) ≡ ws)
unfolding is_malformed_before
whole_before ws h =
    let all = not-false (leb (input_count (block_of ws)) max_inputs_before && is_well_formed (block_of ws)
    && same (encode_before (block_of ws)) ws) h in (
      leb-true _ _ (and_left (leb (input_count (block_of ws)) max_inputs_before) (is_well_formed (block_of ws))
          (and_left (leb (input_count (block_of ws)) max_inputs_before && is_well_formed (block_of ws))
          (same (encode_before (block_of ws)) ws) all)),
      same-eq _ _ (and_right (leb (input_count (block_of ws)) max_inputs_before && is_well_formed (block_of ws))
          (same (encode_before (block_of ws)) ws) all),
    )

pub malformed-short : (ws : List ℕ) → length ws < 3 → is_malformed_before ws ≡ true
malformed-short ws l =
    malformed-when ws (λ h. let long : 3 ≤ length ws = subst (λ (v : List ℕ). 3 ≤ length v) (whole_before ws h).1
    (long-before (block_of ws)) in omega arith)

pub malformed-inputs : (ws : List ℕ) → 3 ≤ length ws → max_inputs_before < get_or ws 0 0 → is_malformed_before ws ≡ true
malformed-inputs ws l many =
    malformed-when ws (λ h. omega (
      arith,
      (whole_before ws h).0,
      decode-input_count (brought ws),
      word-before ws 0 l (omega arith),
    ))

pub malformed-long : (ws : List ℕ) → 3 ≤ length ws → max_block ≤ length ws → is_malformed_before ws ≡ true
malformed-long ws l many =
    malformed-when ws
    (λ h. let few = rw (decode-input_count (brought ws)
    ∙ sym (word-before ws 0 l (omega arith))) at (whole_before ws h).0 in
    omega (arith, whole-longest (brought ws) (sym (malformed-brought ws l few) ∙ h), length-brought ws l))

-- words that the old rules let through are at least three
pub whole_long : (ws : List ℕ) → is_malformed_before ws ≡ false → 3 ≤ length ws
whole_long ws h = subst (λ (v : List ℕ). 3 ≤ length v) (whole_before ws h).1 (long-before (block_of ws))

-- ---- the chain of conditions: from 6 on, and from 11 on

pub bring-start : (ws : List ℕ) (room : ℕ)
    → bring ws room ≡ in_room room (refuse_if (is_malformed_before ws) MalformedBlock (counted (brought ws)))
unfolding bring bring_words
bring-start ws room = refl

pub bring-room : (ws : List ℕ) (room : ℕ) → is_malformed_before ws ≡ false
    → bring ws room ≡ refuse_if (ltb room (length ws + 1)) NoRoom (done (brought ws) (length ws + 1) 0)
unfolding bring bring_words counted refuse_if in_room
bring-room ws room whole = rw (whole, length-brought ws (whole_long ws whole)) refl
