-- What is known of the entries among the first q pairs, and how it grows: laws over plain lists. Assumes nothing.
use mathlib.Core.Path.{◌≡◌, refl, sym, ap, ◌∙◌}
use mathlib.Core.Logic.{⊎_elim}
use mathlib.Core.Bool.{true, false}
use mathlib.Core.List.{List, [], ◌∷◌, ◌++◌, map, append-nil, append_assoc, map-append}
use Prim.Native.Nat.{ℕ, zero, suc, ◌+◌, ◌-◌, ◌*◌, ◌/◌, ◌%◌, ◌^◌, ◌≤◌, ◌<◌}
use native.Mathlib.Nat.{zero-mul, mul-le-mul_right}
use native.Mathlib.Numerals.{add-one}
use native.Mathlib.Omega.{arith}
use lib.ListN.{length, set, length-append, length-set, length-map}
use borrow.Author.Tests.{le-leb, lt-leb}
use Rattle.prelude.specs.Lists.{keep, up_to, joined, placed, tab}
use Rattle.prelude.proofs.Tests.{lt-or-le}
use Rattle.prelude.proofs.Tab.{length-tab, tab-add}
use Rattle.prelude.proofs.Lists.{joined-append, keep_append}
use Rattle.prelude.proofs.Slices.{set-placed}
use Rattle.netlist.specs.Assignments.{Assignment}
use Rattle.theory_cover.specs.Entries.{mask_pair_at, within_at, NextPair, entry_by, entries_below, entries_by}
use Rattle.theory_cover.specs.Entries.{EntriesReached, Words, EntriesWritten}
use Rattle.theory_cover.specs.Over.{assignment_words, nothing}
use Rattle.theory_cover.proofs.ListFacts.{keep-le, keep-up_to-suc}
use Rattle.op_cover.proofs.PairWalk.{first-pair}

module _ (table : List ℕ) (n q : ℕ) where
  -- one pair more: an entry, or none
  entries-add : entry_by table n q ≡ true
      → entries_below table n (q + 1) ≡ entries_below table n q ++ (mask_pair_at n q ∷ [])
  unfolding entries_below
  entries-add e =
      rw (add-one q, keep-up_to-suc (entry_by table n) q, e)
      (map-append (mask_pair_at n) (keep (entry_by table n) (up_to q)) (q ∷ []))

  entries-skip : entry_by table n q ≡ false → entries_below table n (q + 1) ≡ entries_below table n q
  unfolding entries_below
  entries-skip e = rw (add-one q, keep-up_to-suc (entry_by table n) q, e, append-nil)

  -- an entry counts
  count_add : entry_by table n q ≡ true → length (entries_below table n (q + 1)) ≡ length (entries_below table n q) + 1
  count_add e = rw (entries-add e, length-append (entries_below table n q) (mask_pair_at n q ∷ []))

  -- those below q are the first of those below q + m
  abbrev later : ℕ → List Assignment
  later m = map (mask_pair_at n) (keep (entry_by table n) (tab (λ j. q + j) m))

  entries-more : (m : ℕ) → entries_below table n (q + m) ≡ entries_below table n q ++ later m
  unfolding entries_below
  entries-more m =
      rw (tab-add (λ k. k) q m, keep_append (entry_by table n) (up_to q) (tab (λ j. q + j) m))
      (map-append (mask_pair_at n) (keep (entry_by table n) (up_to q)) (keep (entry_by table n) (tab (λ j. q + j) m)))

  count-le : (m : ℕ) → length (entries_below table n q) ≤ length (entries_below table n (q + m))
  count-le m = rw (entries-more m, length-append (entries_below table n q) (later m)) (omega arith)

  same_count : (m : ℕ) → length (entries_below table n (q + m)) ≤ length (entries_below table n q)
      → entries_below table n (q + m) ≡ entries_below table n q
  same_count m h =
      let l : length (entries_below table n (q + m)) ≡ length (entries_below table n q) + length (later m) =
      ap length (entries-more m) ∙ length-append (entries_below table n q) (later m) in
      entries-more m ∙ ap (λ (xs : List Assignment). entries_below table n q ++ xs) (empty (later m) (omega arith))
      ∙ append-nil (entries_below table n q)
    where
      empty : (xs : List Assignment) → length xs ≤ 0 → xs ≡ []
      empty [] l = refl
      empty (x ∷ xs) l = absurd (omega arith)

-- the pairs passed over on the way to the next assignment are no entries
module _ (table : List ℕ) (n : ℕ) where
  over : (k d : ℕ) → ((x : ℕ) → k ≤ x → x < k + d → entry_by table n x ≡ false)
      → entries_below table n (k + d) ≡ entries_below table n k
  over k zero h = ap (entries_below table n) (omega arith)
  over k (suc d) h =
      ap (entries_below table n) (omega arith)
      ∙ entries-skip table n (k + d) (h (k + d) (omega arith) (omega arith))
      ∙ over k d (λ x a b. h x a (omega arith))

  not_within : (x : ℕ) → within_at n x ≡ false → entry_by table n x ≡ false
  unfolding entry_by
  not_within x e = rw e

  entries-jump : {q r : ℕ} → NextPair n q r → entries_below table n r ≡ entries_below table n (q + 1)
  entries-jump {q} {r} x =
      let l : q < r = x.above in
      ap (entries_below table n) (omega arith)
      ∙ over (q + 1) (r - (q + 1)) (λ y a b. not_within y (x.least y (omega arith) (omega arith)))

-- no more entries than pairs
pub entries-few : (table : List ℕ) (n : ℕ) → length (entries_by table n) ≤ 2 ^ n * 2 ^ n
unfolding entries_by entries_below
entries-few table n =
    let l : length (keep (entry_by table n) (up_to (2 ^ n * 2 ^ n))) ≤ length (up_to (2 ^ n * 2 ^ n)) =
    keep-le (entry_by table n) (up_to (2 ^ n * 2 ^ n)) in
    rw (length-map (keep (entry_by table n) (up_to (2 ^ n * 2 ^ n))) (mask_pair_at n))
    (rw (length-tab (λ k. k) (2 ^ n * 2 ^ n)) at l)

words_of-append : (xs ys : List Assignment) → assignment_words (xs ++ ys) ≡ assignment_words xs ++ assignment_words ys
unfolding assignment_words
words_of-append xs ys =
    ap joined (map-append (λ (a : Assignment). a.fixed ∷ a.ones ∷ []) xs ys)
    ∙ joined-append (map (λ (a : Assignment). a.fixed ∷ a.ones ∷ []) xs)
    (map (λ (a : Assignment). a.fixed ∷ a.ones ∷ []) ys)

pub length-words : (xs : List Assignment) → length (assignment_words xs) ≡ 2 * length xs
unfolding assignment_words
length-words [] = refl
length-words (x ∷ xs) = let i : length (assignment_words xs) ≡ 2 * length xs = length-words xs in omega arith

-- before the first row
pub reached-first : (marks : List ℕ) (n : ℕ) → EntriesReached marks n (0 * 2 ^ n) 0
unfolding entries_below
reached-first marks n =
    rw (zero-mul (2 ^ n)) (record { within = omega arith; legal = λ l. first-pair n; counted = refl })

pub words-first : (marks first : List ℕ) (n : ℕ) → Words marks first first n (0 * 2 ^ n)
unfolding entries_below assignment_words
words-first marks first n = rw (zero-mul (2 ^ n)) (record { same_length = refl; words = refl })

-- at an entry one more is counted, of all that there are
pub one_more : {marks : List ℕ} {n q count : ℕ} → EntriesReached marks n q count → q < 2 ^ n * 2 ^ n
    → entry_by marks n q ≡ true
    → count + 1 ≤ length (entries_by marks n)
unfolding entries_by
one_more {marks} {n} {q} w l e =
    let k : q + 1 + (2 ^ n * 2 ^ n - (q + 1)) ≡ 2 ^ n * 2 ^ n = omega arith in
    let le : length (entries_below marks n (q + 1)) ≤ length (entries_below marks n (2 ^ n * 2 ^ n)) =
    rw k at (count-le marks n (q + 1) (2 ^ n * 2 ^ n - (q + 1))) in
    let c : length (entries_below marks n (q + 1)) ≡ length (entries_below marks n q) + 1 = count_add marks n q e in
    omega (arith, w.counted)

-- from pair q to the next one
module _ {marks : List ℕ} {n q r count : ℕ} (w : EntriesReached marks n q count) (x : NextPair n q r) where
  pub reached-skip : entry_by marks n q ≡ false → EntriesReached marks n r count
  reached-skip e = record {
    within = x.end;
    legal = x.legal;
    counted = rw (entries-jump marks n x, entries-skip marks n q e) w.counted;
  }

  pub words-skip : entry_by marks n q ≡ false → {first out : List ℕ} → Words marks first out n q
      → Words marks first out n r
  words-skip e {first} {out} v = record {
    same_length = v.same_length;
    words = rw (entries-jump marks n x, entries-skip marks n q e) v.words;
  }

  module _ (e : entry_by marks n q ≡ true) where
    pub reached-add : EntriesReached marks n r (count + 1)
    reached-add = record {
      within = x.end;
      legal = x.legal;
      counted = rw (entries-jump marks n x, count_add marks n q e, w.counted);
    }

    so_far : List ℕ
    so_far = assignment_words (entries_below marks n q)

    next-words : assignment_words (entries_below marks n r) ≡ so_far ++ (q / 2 ^ n ∷ []) ++ (q % 2 ^ n ∷ [])
    unfolding so_far assignment_words mask_pair_at
    next-words =
        ap assignment_words (entries-jump marks n x ∙ entries-add marks n q e)
        ∙ words_of-append (entries_below marks n q) (mask_pair_at n q ∷ [])
        ∙ sym (append_assoc so_far (q / 2 ^ n ∷ []) (q % 2 ^ n ∷ []))

    pub words-add : {fixed ones : ℕ} {first out : List ℕ} → fixed ≡ q / 2 ^ n → ones ≡ q % 2 ^ n
        → 2 * length (entries_by marks n) ≤ length out
        → Words marks first out n q → Words marks first (set (set out (2 * count) fixed) (2 * count + 1) ones) n r
    unfolding so_far
    words-add {fixed} {ones} {first} {out} f o room v =
        let a : length so_far ≡ 2 * count = length-words (entries_below marks n q) ∙ rw w.counted in
        let m : count + 1 ≤ length (entries_by marks n) = one_more w (omega (arith, x.above, x.end)) e in
        let once : set out (2 * count) (q / 2 ^ n) ≡ placed (so_far ++ (q / 2 ^ n ∷ [])) first =
        rw (v.words, ← a) (set-placed so_far first (length so_far) (q / 2 ^ n) refl (omega (arith, v.same_length))) in
        let here : length (so_far ++ (q / 2 ^ n ∷ [])) ≡ 2 * count + 1 =
        length-append so_far (q / 2 ^ n ∷ []) ∙ omega arith in
        record {
          same_length = simp length-set v.same_length;
          words =
              rw (f, o, once, ← here)
              (set-placed (so_far ++ (q / 2 ^ n ∷ [])) first (length (so_far ++ (q / 2 ^ n ∷ []))) (q % 2 ^ n) refl
              (rw here (omega (arith, v.same_length))))
              ∙ ap (λ (xs : List ℕ). placed xs first) (sym next-words);
        }

-- where as many entries are counted as there are, none is left
module _ {marks : List ℕ} {n q count : ℕ} (w : EntriesReached marks n q count) where
  pub all-reached : length (entries_by marks n) ≤ count → entries_below marks n q ≡ entries_by marks n
  unfolding entries_by
  all-reached l =
      let k : q + (2 ^ n * 2 ^ n - q) ≡ 2 ^ n * 2 ^ n = omega (arith, w.within) in
      sym (rw k at (same_count marks n q (2 ^ n * 2 ^ n - q) (rw k (omega (arith, w.counted)))))

  pub not-all : count < length (entries_by marks n) → q < 2 ^ n * 2 ^ n
  unfolding entries_by
  not-all l =
      ⊎_elim (λ h. h)
      (λ (h : 2 ^ n * 2 ^ n ≤ q).
      let e : q ≡ 2 ^ n * 2 ^ n = omega (arith, w.within) in
      let f : length (entries_below marks n q) ≡ length (entries_below marks n (2 ^ n * 2 ^ n)) = rw e in
      absurd (omega (arith, w.counted)))
      (lt-or-le q (2 ^ n * 2 ^ n))

-- .. so there is a row left where not all are counted
pub row-left : {marks : List ℕ} {n f count : ℕ} → EntriesReached marks n (f * 2 ^ n) count
    → count < length (entries_by marks n) → f < 2 ^ n
row-left {marks} {n} {f} w l =
    ⊎_elim (λ h. h)
    (λ (h : 2 ^ n ≤ f).
    let a : f * 2 ^ n < 2 ^ n * 2 ^ n = not-all w l in
    let b : 2 ^ n * 2 ^ n ≤ f * 2 ^ n = mul-le-mul_right (2 ^ n) h in
    absurd (omega arith))
    (lt-or-le f (2 ^ n))

-- `write_entries`: there is room, or there is not
pub with-room : {entries : List Assignment} {entry exit : List ℕ} {count : ℕ} → count ≡ length entries
    → 2 * count ≤ length entry
    → exit ≡ placed (assignment_words entries) entry
    → EntriesWritten entries entry exit count
with-room {entries} {entry} c r e =
    record {
      counted = c;
      written = rw (le-leb (2 * length entries) (length entry) (rw (← c) r)) e;
    }

pub without-room : {entries : List Assignment} {entry : List ℕ} {count : ℕ} → count ≡ length entries
    → length entry < 2 * count
    → EntriesWritten entries entry entry count
without-room {entries} {entry} c r =
    record {
      counted = c;
      written = rw (lt-leb (2 * length entries) (length entry) (rw (← c) r));
    }

-- `write_nothing`: the same for the one entry that fixes nothing
pub nothing_written : (entry : List ℕ) → 2 ≤ length entry
    → EntriesWritten (nothing ∷ []) entry (set (set entry 0 0) 1 0) 1
unfolding assignment_words
nothing_written entry l = with-room refl l (zeros entry l)
  where
    zeros : (xs : List ℕ) → 2 ≤ length xs → set (set xs 0 0) 1 0 ≡ placed (assignment_words (nothing ∷ [])) xs
    zeros [] l = absurd (omega arith)
    zeros (x ∷ []) l = absurd (omega arith)
    zeros (x ∷ y ∷ xs) l = refl

pub nothing-kept : (entry : List ℕ) → length entry < 2 → EntriesWritten (nothing ∷ []) entry entry 1
nothing-kept entry l = without-room refl l
