-- How the table of soundness grows: `join_halves` byte by byte, `add_setting` input by input, `fill_sound` setting by
-- setting. Laws over plain lists and numbers. Assumes nothing.
use mathlib.Core.Path.{◌≡◌, refl, sym, ap, ◌∙◌}
use mathlib.Core.Logic.{⊎_elim}
use mathlib.Core.Bool.{Bool}
use mathlib.Core.List.{List}
use Prim.Native.Nat.{ℕ, suc, ◌+◌, ◌-◌, ◌*◌, ◌/◌, ◌%◌, ◌^◌, ◌≤◌, ◌<◌}
use native.Mathlib.Nat.{not-suc-le-zero, pow-suc, mul_assoc, mul_comm, add-mul, div-one, div-div-eq-div-mul}
use native.Mathlib.Nat.{div-eq_of_lt, one-le-pow}
use native.Mathlib.Nat.{div-lt_iff_lt-mul}
use native.Mathlib.Numerals.{add-one}
use native.Mathlib.Omega.{arith}
use lib.Arith.{digits_lt, digits_div}
use lib.Bits.{bit_and}
use lib.ListN.{length, get_or, set, take, length-set}
use lib.Pow.{pow-add, pow_pos}
use lib.Seq.{get_or-set_same, get_or-set_other, length-take-le}
use borrow.Author.Tests.{eq-eqb, ne_eqb}
use Rattle.std.proofs.lemmas.List.{get_or-take}
use Rattle.prelude.proofs.Tests.{eq-or-ne, lt-or-le}
use Rattle.netlist.specs.Limits.{max_inputs}
use Rattle.netlist.specs.Assignments.{bit}
use Rattle.theory_cover.specs.Digits.{ternary_digit, numeral}
use Rattle.theory_cover.specs.Tables.{settled_by, sound_byte, byte_of, weight_of, Filled, HalvesJoined}
use Rattle.theory_cover.proofs.Agree.{bit-lt}
use Rattle.op_cover.proofs.Bounds.{power-next}
use Rattle.theory_cover.proofs.Digits.{numeral-ext, numeral-digit, digit-numeral}
use Rattle.theory_cover.proofs.Numbers.{weight-lt}
use Rattle.theory_cover.proofs.SoundTable.{byte_full, byte-free}
use Rattle.op_cover.proofs.Weights.{weight-half, weight-shift, weight-next, weight-top, weight-none}
use Rattle.op_cover.proofs.Weights.{weight-power}

pub joined-none : (entry : List ℕ) (k power : ℕ) → HalvesJoined entry entry k power 0
joined-none entry k power = record { same_length = refl; kept = λ j l. refl; both = λ j l. absurd (not-suc-le-zero l) }

-- one byte more: both bytes that it is made of stand below k
pub joined-next : {entry exit : List ℕ} {k power m : ℕ} → HalvesJoined entry exit k power m → 2 * power ≤ k
    → k + power ≤ length exit → m < power
    → HalvesJoined entry (set exit (k + m)
    (bit_and (get_or exit (k - power + m) 0) (get_or exit (k - 2 * power + m) 0))) k power (m + 1)
joined-next {entry} {exit} {k} {power} {m} w l r h = record {
  same_length = simp length-set w.same_length;
  kept = λ j b. get_or-set_other exit (k + m) j _ 0 (λ e. omega arith) ∙ w.kept j b;
  both = λ j b.
      ⊎_elim
      (λ (e : j ≡ m).
      rw (
        e,
        get_or-set_same exit (k + m) (bit_and (get_or exit (k - power + m) 0) (get_or exit (k - 2 * power + m) 0)) 0
            (omega arith),
        w.kept (k - power + m) (omega arith),
        w.kept (k - 2 * power + m) (omega arith),
      ))
      (λ (ne : j ≡ m → ⊥). get_or-set_other exit (k + m) (k + j) _ 0 (λ e. ne (omega arith)) ∙ w.both j (omega arith))
      (eq-or-ne j m);
}

-- the number of the assignment that fixes every input as a setting does, and its byte
module _ (n s : ℕ) (l : s < 2 ^ n) where
  setting-digit : (i : ℕ) → i < n → ternary_digit 3 (weight_of n s) i ≡ bit s i
  unfolding weight_of
  setting-digit i m =
      digit-numeral 3 (omega arith) (bit s) n i (λ j b. let c : bit s j < 2 = bit-lt s j in omega arith) m

  setting-digits : numeral 2 (ternary_digit 3 (weight_of n s)) n ≡ s
  unfolding bit ternary_digit
  setting-digits =
      numeral-ext 2 (omega arith) (ternary_digit 3 (weight_of n s)) (ternary_digit 2 s) n setting-digit
      ∙ numeral-digit 2 (omega arith) s n l

  setting-byte : (p : ℕ → Bool) → sound_byte p n (weight_of n s) ≡ byte_of (p s)
  setting-byte p =
      byte_full p n (weight_of n s) (λ i m. rw (setting-digit i m) (bit-lt s i))
      ∙ ap (λ (x : ℕ). byte_of (p x)) setting-digits

-- a setting's byte, by its flag
module _ (settled : List ℕ) (s : ℕ) where
  pub byte_one : get_or settled s 0 ≡ 1 → byte_of (settled_by settled s) ≡ 1
  unfolding settled_by byte_of
  byte_one e = rw (eq-eqb (get_or settled s 0) 1 e)

  pub byte-none : (get_or settled s 0 ≡ 1 → ⊥) → byte_of (settled_by settled s) ≡ 0
  unfolding settled_by byte_of
  byte-none ne = rw (ne_eqb (get_or settled s 0) 1 ne)

-- the bytes below `end` are right; the setting's lowest i inputs are at 1, and `end` is where the assignments with
-- these inputs free end
pub record Joining (settled sound : List ℕ) (n setting end power i : ℕ) : Type 0 where
  pub few : n ≤ max_inputs
  pub settings : 2 ^ n ≤ length settled
  pub room : 3 ^ n ≤ length sound
  pub legal : setting < 2 ^ n
  pub within : i ≤ n
  pub power-is : power ≡ 3 ^ i
  pub ones : (setting / 2 ^ i + 1) * 2 ^ i ≡ setting + 1
  pub number : end ≡ (weight_of (suc (n - i)) (setting / 2 ^ i) + 1) * 3 ^ i
  pub right : (j : ℕ) → j < end → get_or sound j 0 ≡ sound_byte (settled_by settled) n j

-- the setting's own byte
module _ {settled sound : List ℕ} {n s k : ℕ} (f : Filled settled sound n s k) (l : s < 2 ^ n) where
  setting-number : k ≡ weight_of n s
  setting-number = f.number ∙ rw (add-one n) (weight-top n s l)

  pub setting-below : k < 3 ^ n
  setting-below = rw setting-number (weight-lt n s)

  pub joining-start : {v : ℕ} → v ≡ byte_of (settled_by settled s) → Joining settled (set sound k v) n s (k + 1) 1 0
  joining-start {v} e = record {
    few = f.few;
    settings = f.settings;
    room = simp length-set f.room;
    legal = l;
    within = omega arith;
    power-is = refl;
    ones = rw (div-one s) (omega arith);
    number =
        rw (div-one s)
        (omega (arith, f.number, ap (λ (m : ℕ). weight_of m s) (let z : n + 1 ≡ suc (n - 0) = omega arith in z)));
    right = λ j b.
        ⊎_elim
        (λ (q : j ≡ k).
        rw (q, get_or-set_same sound k v 0 (omega (arith, f.room, setting-below)), setting-number)
        (e ∙ sym (setting-byte n s l (settled_by settled))))
        (λ (ne : j ≡ k → ⊥). get_or-set_other sound k j v 0 ne ∙ f.right j (omega arith)) (eq-or-ne j k);
  }

-- products as sums of products
spread : (a c x : ℕ) → (a * 3 + c) * x ≡ a * (x * 3) + c * x
spread a c x = rw (add-mul (a * 3) c x, mul_assoc a 3 x, mul_comm 3 x)

gather : (r h x : ℕ) → (h + 1) * 2 ≡ r + 1 → (h + 1) * (x * 2) ≡ (r + 1) * x
gather r h x e = rw (mul_comm x 2, ← mul_assoc (h + 1) 2 x, e)

module _ {settled sound : List ℕ} {n s end power i : ℕ} (w : Joining settled sound n s end power i) where
  -- input i of the setting is at 1 too
  module _ (one : s / 2 ^ i % 2 ≡ 1) where
    half : s / 2 ^ (i + 1) ≡ s / 2 ^ i / 2
    half = rw (add-one i, pow-suc 2 i, ← div-div-eq-div-mul s (2 ^ i) 2)

    pub joining-in : i < n
    joining-in =
        ⊎_elim (λ l. l)
        (λ (l : n ≤ i).
        let e : i ≡ n = omega (arith, w.within) in
        let z : s / 2 ^ i ≡ 0 = rw e (div-eq_of_lt w.legal) in
        absurd (omega arith))
        (lt-or-le i n)

    above : ℕ
    above = weight_of (n - i) (s / 2 ^ i / 2)

    end_is : end ≡ (above * 3 + 2) * 3 ^ i
    unfolding above
    end_is = w.number ∙ rw (weight-half (n - i) (s / 2 ^ i), one) (omega arith)

    above-lt : above * (3 ^ i * 3) + 3 ^ i * 3 ≤ 3 ^ n
    unfolding above
    above-lt =
        let l : i < n = joining-in in
        let m : n - i ≡ suc (n - suc i) = omega arith in
        let two : 2 ^ (n - suc i) * 2 ^ (i + 1) ≡ 2 ^ n =
        sym (pow-add 2 (n - suc i) (i + 1)) ∙ ap (λ (k : ℕ). 2 ^ k) (omega arith) in
        let three : 3 ^ (n - suc i) * 3 ^ (i + 1) ≡ 3 ^ n =
        sym (pow-add 3 (n - suc i) (i + 1)) ∙ ap (λ (k : ℕ). 3 ^ k) (omega arith) in
        let y : s / 2 ^ i / 2 < 2 ^ (n - suc i) =
        rw (← half) ((div-lt_iff_lt-mul (pow_pos (i + 1))).1 (rw two w.legal)) in
        let e : weight_of (n - i) (s / 2 ^ i / 2) ≡ weight_of (n - suc i) (s / 2 ^ i / 2) =
        rw m (weight-top (n - suc i) (s / 2 ^ i / 2) y) in
        let h : weight_of (n - suc i) (s / 2 ^ i / 2) < 3 ^ (n - suc i) = weight-lt (n - suc i) (s / 2 ^ i / 2) in
        let f : 0 < 3 ^ (i + 1) = one-le-pow (i + 1) 3 (omega arith) in
        let g : weight_of (n - suc i) (s / 2 ^ i / 2) * 3 ^ (i + 1) + (3 ^ (i + 1) - 1) < 3 ^ (n - suc i) * 3 ^ (i + 1) =
        digits_lt h (omega arith) in
        let k : 3 ^ (i + 1) ≡ 3 ^ i * 3 = rw (add-one i) (pow-suc 3 i) in
        rw (e, ← k) (omega arith)

    pub joining-room : (2 * power ≤ end) × (end + power ≤ 3 ^ n)
    joining-room = rw (w.power-is, end_is, spread above 2 (3 ^ i)) (omega (arith, above-lt))

    -- the numbers that are added have a 2 at digit i
    digit : (j : ℕ) → end ≤ j → j < end + power → ternary_digit 3 j i ≡ 2
    unfolding ternary_digit
    digit j b l =
        let l' : j - end < 3 ^ i = rw (← w.power-is) (omega arith) in
        let e : j ≡ (above * 3 + 2) * 3 ^ i + (j - end) = rw (← end_is) (omega arith) in
        let d : j / 3 ^ i ≡ above * 3 + 2 = ap (λ (x : ℕ). x / 3 ^ i) e ∙ digits_div (above * 3 + 2) l' in
        omega arith

    pub joining-next : {exit : List ℕ} → HalvesJoined sound exit end power power
        → Joining settled exit n s (end + power) (power * 3) (i + 1)
    unfolding above
    joining-next {exit} q = record {
      few = w.few;
      settings = w.settings;
      room = rw q.same_length w.room;
      legal = w.legal;
      within = omega (arith, joining-in);
      power-is = power-next 3 i w.power-is;
      ones = rw (half, add-one i, pow-suc 2 i) (gather (s / 2 ^ i) (s / 2 ^ i / 2) (2 ^ i) (omega arith) ∙ w.ones);
      number =
          let a : above ≡ weight_of (n - i) (s / 2 ^ i / 2) = refl in
          let l : i < n = joining-in in
          let m : suc (n - (i + 1)) ≡ n - i = omega arith in
          rw (
            half,
            m,
            add-one i,
            pow-suc 3 i,
            w.power-is,
            end_is,
            spread above 2 (3 ^ i),
            ← a,
            add-mul above 1
                (3 ^ i * 3),
          )
          (omega arith);
      right = λ j l. ⊎_elim (λ b. q.kept j b ∙ w.right j b) (λ (b : end ≤ j). new j b l) (lt-or-le j end);
    }
      where
        new : (j : ℕ) → end ≤ j → j < end + power → get_or exit j 0 ≡ sound_byte (settled_by settled) n j
        new j b l =
            let r : (2 * power ≤ end) × (end + power ≤ 3 ^ n) = joining-room in
            let at : end + (j - end) ≡ j = omega arith in
            let first : end - power + (j - end) ≡ j - power = omega arith in
            let second : end - 2 * power + (j - end) ≡ j - 2 * power = omega arith in
            let h : get_or exit j 0 ≡ bit_and (get_or sound (j - power) 0) (get_or sound (j - 2 * power) 0) =
            rw (at, first, second) at (q.both (j - end) (omega arith)) in
            h ∙ rw (w.right (j - power) (omega arith), w.right (j - 2 * power) (omega arith), w.power-is)
            (sym (byte-free (settled_by settled) n j i (omega arith) joining-in (digit j b l)))

  -- it is at 0: the next setting's number
  pub joining-end : (s / 2 ^ i % 2 ≡ 1 → ⊥) → Filled settled sound n (s + 1) end
  joining-end ne = record {
    few = w.few;
    settings = w.settings;
    room = w.room;
    number =
        let e : n + 1 ≡ i + suc (n - i) = omega (arith, w.within) in
        let z : s / 2 ^ i % 2 ≡ 0 = let h : s / 2 ^ i % 2 < 2 = omega arith in omega arith in
        w.number ∙ rw (e, ← w.ones, weight-shift i (suc (n - i)) (s / 2 ^ i + 1), weight-next (n - i) (s / 2 ^ i) z);
    right = w.right;
  }

-- before the first setting, and after the last
pub filled_none : (settled sound : List ℕ) (n : ℕ) → n ≤ max_inputs → 2 ^ n ≤ length settled → 3 ^ n ≤ length sound
    → Filled settled sound n 0 0
filled_none settled sound n few settings room = record {
  few = few;
  settings = settings;
  room = room;
  number = sym (weight-none (n + 1));
  right = λ j l. absurd (not-suc-le-zero l);
}

pub filled-all : {settled sound : List ℕ} {n k : ℕ} → Filled settled sound n (2 ^ n) k → k ≡ 3 ^ n
filled-all {n = n} f = f.number ∙ weight-power n

-- the bytes of the assignments stand in front of a table with more room
pub front-length : {settled sound : List ℕ} {n k : ℕ} → Filled settled sound n (2 ^ n) k
    → length (take k sound) ≡ 3 ^ n
front-length {sound = sound} {k = k} f = let e = filled-all f in length-take-le k sound (omega (arith, f.room, e)) ∙ e

pub filled-front : {settled sound : List ℕ} {n k : ℕ} → Filled settled sound n (2 ^ n) k
    → Filled settled (take k sound) n (2 ^ n) k
filled-front {sound = sound} {k = k} f = record {
  few = f.few;
  settings = f.settings;
  room = omega (arith, front-length f);
  number = f.number;
  right = λ j l. get_or-take k sound j 0 l ∙ f.right j l;
}
