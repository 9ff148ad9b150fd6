-- Laws of the index of names.
--   walk-to                             the search for an entry that stops a walk
--   ends-one, ends-near, ends-inside    a name's walk ends at one place, not far behind the last hash, in the index
--   index-hit, index-miss               what the entry at the walk's end says of the name
--   entry-tells, entry-told             and the number that it gives
--   repeats-hit, repeats-miss           and of the next name of the table
--   held_more, index-more               one more name, stored at its walk's end
--   index-none, held_new                an empty index
--   Entering                            the loop that enters name after name
-- Assumes nothing.
use Prim.Native.Nat.{ℕ, zero, suc, ◌+◌, ◌-◌, ◌≤◌, ◌<◌, max}
use mathlib.Core.Path.{◌≡◌, refl, sym, ◌∙◌}
use mathlib.Core.Logic.{⊎_elim, ∥∥₁_elim}
use Rattle.std.proofs.Math.Nat.{ℕ_set}
use Rattle.std.proofs.Math.Bridge.{le_prop}
use Rattle.std.proofs.lemmas.Grind.{not_there}
use mathlib.Core.Bool.{Bool, true, false}
use mathlib.Core.List.{List}
use native.Mathlib.Nat.{le_antisymm, mod-lt}
use native.Mathlib.Numerals.{add-one, unary_clauses}
use native.Mathlib.Omega.{arith}
use lib.ListN.{length, get_or, set, replicate, length-set, length-replicate, get_or-replicate, get_or-eq_default}
use lib.Seq.{get_or-set_same, get_or-set_other}
use lib.Dec.{eqb}
use borrow.Author.Tests.{eqb-true, eq-eqb, lt-ltb, le-ltb}
use Rattle.prelude.proofs.Tests.{not-both, not-true-false, lt-or-le, eq-or-ne}
use Rattle.std.specs.declared.option.Option.{Option}
use Rattle.std.specs.declared.option.Option.TheVariants.{None, Some}
use Rattle.std.proofs.lemmas.Option.{none-some}
use Rattle.std.specs.Option.{SomeIff}
use Rattle.prelude.specs.Lists.{IfBelow}
use Rattle.prelude.proofs.Least.{least-is}
use Rattle.prelude.proofs.Places.{FoundFrom}
use Rattle.text_names.specs.Search.{is_at, index_of, repeats_at}
use Rattle.text_names.specs.Index.{hashes, hash_of, stops_at, WalkEnds, WalkTo, Stored, Held, Indexed, NameEntered}
use Rattle.text_names.specs.Index.{AllEntered}
use Rattle.text_names.proofs.Searching.{Sought, sought-none, sought-more, sought-here, sought-all}

hash-below : (name : ℕ) → hash_of name < hashes
unfolding hash_of
hash-below name = mod-lt name (omega arith)

pub stops-none : (names : List ℕ) (name entry : ℕ) → entry ≡ 0 → stops_at names name entry ≡ true
unfolding stops_at
stops-none names name entry e = rw e

stops-own : (names : List ℕ) (name i entry : ℕ) → entry ≡ suc i → stops_at names name entry ≡ true
    → get_or names i 0 ≡ name
unfolding stops_at is_at
stops-own names name i entry e s = eqb-true (get_or names i 0) name (rw e at s)

own-stops : (names : List ℕ) (i entry : ℕ) → entry ≡ suc i → stops_at names (get_or names i 0) entry ≡ true
unfolding stops_at is_at
own-stops names i entry e = rw e (eq-eqb (get_or names i 0) (get_or names i 0) refl)

pub stops-entry : (names : List ℕ) (name entry : ℕ) → (entry ≡ 0 → ⊥)
    → eqb (get_or names (entry - 1) 0) name ≡ stops_at names name entry
unfolding stops_at is_at
stops-entry names name zero ne = absurd (ne refl)
stops-entry names name (suc i) ne = simp unary_clauses

-- ---- a walk

-- the search for the first entry from the hash on that stops the walk
pub walk-to : (names index : List ℕ) (name h : ℕ) (r : Option ℕ) → h ≡ hash_of name
    → FoundFrom (λ at. stops_at names name (get_or index at 0)) h (length index) r → WalkTo names index name r
walk-to names index name h (Some at) e found =
    (found.below, record { from = omega (arith, found.from); passed = λ j a b. found.passed j (omega arith) b; stops = found.passes })
walk-to names index name h None e found =
    let end = max h (length index) in (
      end,
      omega arith,
      record {
        from = omega arith;
        passed = λ j a b. found j (omega arith) (omega arith);
        stops = stops-none names name (get_or index end 0) (get_or-eq_default index 0 (omega arith));
      },
    )

module _ (names index : List ℕ) (name : ℕ) where
  pub ends-one : (a b : ℕ) → WalkEnds names index name a → WalkEnds names index name b → a ≡ b
  ends-one a b f g =
      ⊎_elim (λ l. not-both f.stops (g.passed a f.from l))
      (λ ge. ⊎_elim (λ l. not-both g.stops (f.passed b g.from l)) (λ le. le_antisymm le ge) (lt-or-le b a))
      (lt-or-le a b)

  pub ends-near : (count at : ℕ) → Indexed names count index → WalkEnds names index name at → at ≤ hashes + count
  ends-near count at h f =
      ⊎_elim
      (λ l. not-both (stops-none names name (get_or index (hashes + count) 0) (h.beyond (hashes + count) (omega arith)))
      (f.passed (hashes + count) (let b = hash-below name in omega arith) l))
      (λ le. le) (lt-or-le (hashes + count) at)

  pub ends-inside : (count at : ℕ) → Indexed names count index → WalkEnds names index name at → at < length index
  ends-inside count at h f =
      let n = ends-near count at h f in let r = h.room in let s = h.few in let w = h.within in omega arith

  -- an index with room for all has an entry at the walk's end
  pub ends-here : (count : ℕ) → Indexed names count index → (at : ℕ) × (length index ≤ at) × WalkEnds names index name at → ⊥
  ends-here count h (at, behind, f) = let l = ends-inside count at h f in omega arith

pub held_of : {names : List ℕ} {count : ℕ} {index : List ℕ} → Indexed names count index → Held names count index
held_of h = record { few = h.few; within = h.within; entries = h.entries; stored = h.stored }

module _ (names index : List ℕ) (count name at : ℕ) (h : Held names count index)
    (f : WalkEnds names index name at) where
  -- where a name of the table is this one, its entry stands at the walk's end
  there : (j : ℕ) → j < count → is_at names name j ≡ true → get_or index at 0 ≡ suc j
  unfolding is_at
  there j l e =
      let s = h.stored j l in
      let n : get_or names j 0 ≡ name = eqb-true (get_or names j 0) name e in
      let g : WalkEnds names index name s.at = rw n at s.ends in
      rw (ends-one names index name at s.at f g) s.entry

  pub index-hit : (i : ℕ) → get_or index at 0 ≡ suc i → i ≡ index_of names count name
  unfolding index_of is_at
  index-hit i e =
      let b : get_or index at 0 ≤ count = h.entries at in
      sym
      (least-is (is_at names name) count i (omega arith)
      (λ j l. not-true-false (is_at names name j) (λ t. let g = there j (omega arith) t in omega arith))
      (λ _. eq-eqb (get_or names i 0) name (stops-own names name i (get_or index at 0) e f.stops)))

  pub index-miss : get_or index at 0 ≡ 0 → count ≡ index_of names count name
  unfolding index_of
  index-miss e =
      sym
      (least-is (is_at names name) count count (omega arith)
      (λ j l. not-true-false (is_at names name j) (λ t. let g = there j l t in omega arith)) (λ l. absurd (omega arith)))

  -- the number behind the entry at the walk's end, where it is not 0
  pub entry-tells : (r : Option ℕ) → SomeIff r (1 ≤ get_or index at 0) (get_or index at 0 - 1)
      → IfBelow (index_of names count name) count r
  entry-tells None none = let g = index-miss (omega (arith, none)) in λ l. omega arith
  entry-tells (Some i) is =
      let e = is.0 in
      let b : get_or index at 0 ≤ count = h.entries at in
      let g : i ≡ index_of names count name = index-hit i (omega (arith, is.1)) in
      (omega arith, g)

-- the same where it is known only that the index holds the names, and not by which proof
pub entry-told : (names index : List ℕ) (count name at : ℕ) → ∥ Held names count index ∥₁ → WalkEnds names index name at
    → (r : Option ℕ) → SomeIff r (1 ≤ get_or index at 0) (get_or index at 0 - 1) → IfBelow (index_of names count name) count r
entry-told names index count name at h f None none =
    λ l. not_there h (λ x. entry-tells names index count name at x f None none l)
entry-told names index count name at h f (Some i) is = (
  ∥∥₁_elim h le_prop (λ x. (entry-tells names index count name at x f (Some i) is).0),
  ∥∥₁_elim h (ℕ_set _ _) (λ x. (entry-tells names index count name at x f (Some i) is).1),
)

-- ---- the next name

module _ (names index : List ℕ) (i at : ℕ) (h : Held names i index)
    (f : WalkEnds names index (get_or names i 0) at) where
  pub repeats-hit : (get_or index at 0 ≡ 0 → ⊥) → true ≡ repeats_at names i
  unfolding repeats_at
  repeats-hit ne = go (get_or index at 0) refl
    where
      go : (e : ℕ) → get_or index at 0 ≡ e → true ≡ repeats_at names i
      go zero e = absurd (ne e)
      go (suc j) e =
          let b : get_or index at 0 ≤ i = h.entries at in
          let g : j ≡ index_of names i (get_or names i 0) = index-hit names index i (get_or names i 0) at h f j e in
          sym (lt-ltb (index_of names i (get_or names i 0)) i (omega arith))

  pub repeats-miss : get_or index at 0 ≡ 0 → false ≡ repeats_at names i
  unfolding repeats_at
  repeats-miss e =
      let g : i ≡ index_of names i (get_or names i 0) = index-miss names index i (get_or names i 0) at h f e in
      sym (le-ltb (index_of names i (get_or names i 0)) i (omega arith))

  -- an entry stored where there was none is on no other name's way
  module _ (inside : at < length index) (l : i < length names) (e : get_or index at 0 ≡ 0) where
    abbrev after : List ℕ
    after = set index at (suc i)

    entry_new : get_or after at 0 ≡ suc i
    entry_new = get_or-set_same index at (suc i) 0 inside

    pub entry_other : (j : ℕ) → (j ≡ at → ⊥) → get_or after j 0 ≡ get_or index j 0
    entry_other j ne = get_or-set_other index at j (suc i) 0 ne

    passed-kept : (name j : ℕ) → stops_at names name (get_or index j 0) ≡ false → get_or after j 0 ≡ get_or index j 0
    passed-kept name j p = entry_other j (λ s. not-both (stops-none names name (get_or index j 0) (rw s e)) p)

    stored-kept : (k : ℕ) → Stored names index k → Stored names after k
    stored-kept k s =
        let own : get_or after s.at 0 ≡ get_or index s.at 0 =
        entry_other s.at (λ q. absurd (let t = s.entry in let u = rw q at t in omega arith)) in
        record {
          at = s.at;
          ends =
              record {
                from = s.ends.from;
                passed = λ j a b. let p = s.ends.passed j a b in rw (passed-kept (get_or names k 0) j p) p;
                stops = rw own s.ends.stops;
              };
          entry = own ∙ s.entry;
        }

    stored-new : Stored names after i
    stored-new =
        record {
          at = at;
          ends =
              record {
                from = f.from;
                passed = λ j a b. rw (entry_other j (λ q. omega arith)) (f.passed j a b);
                stops = own-stops names i (get_or after at 0) entry_new;
              };
          entry = entry_new;
        }

    pub held_more : Held names (i + 1) (set index at (i + 1))
    held_more =
        rw add-one
        record {
          few = h.few;
          within = omega arith;
          entries =
              λ j. ⊎_elim (λ q. rw q (let n = entry_new in omega arith))
              (λ ne. let b = h.entries j in let o = entry_other j ne in omega arith) (eq-or-ne j at);
          stored =
              λ k q. ⊎_elim (λ (s : k ≡ i). rw s stored-new) (λ ne. stored-kept k (h.stored k (omega arith)))
              (eq-or-ne k i);
        }

module _ (names index : List ℕ) (i at : ℕ) (h : Indexed names i index)
    (f : WalkEnds names index (get_or names i 0) at) (l : i < length names) (e : get_or index at 0 ≡ 0) where
  near : at ≤ hashes + i
  near = ends-near names index (get_or names i 0) i at h f

  more : Held names (i + 1) (set index at (i + 1))
  more = held_more names index i at (held_of h) f (ends-inside names index (get_or names i 0) i at h f) l e

  pub index-more : Indexed names (i + 1) (set index at (i + 1))
  index-more =
      record {
        few = h.few;
        room = rw (length-set index at (i + 1)) h.room;
        within = more.within;
        entries = more.entries;
        beyond =
            λ j q. get_or-set_other index at j (i + 1) 0 (λ s. let n = near in omega arith) ∙ h.beyond j (omega arith);
        stored = more.stored;
      }

-- ---- an empty index

pub index-none : (names index : List ℕ) → length names < 65536 → hashes + length names < length index
    → ((j : ℕ) → get_or index j 0 ≡ 0) → Indexed names 0 index
index-none names index few room none =
    record {
      few = few;
      room = room;
      within = omega arith;
      entries = λ j. let e = none j in omega arith;
      beyond = λ j _. none j;
      stored = λ i l. absurd (omega arith);
    }

-- of a new array
new_none : (n j : ℕ) → get_or {A = ℕ} (replicate n 0) j 0 ≡ 0
new_none n j =
    ⊎_elim (λ (l : j < n). get_or-replicate n j 0 0 l)
    (λ (l : n ≤ j). get_or-eq_default (replicate n 0) 0 (rw length-replicate l)) (lt-or-le j n)

pub held_new : (names : List ℕ) (n : ℕ) → length names < 65536 → Held names 0 (replicate n 0)
held_new names n few =
    record {
      few = few;
      within = omega arith;
      entries = λ j. let e = new_none n j in omega arith;
      stored = λ i l. absurd (omega arith);
    }

-- ---- the loop that enters name after name

-- i names are entered, and none of them repeats one before it; an index that had room for all still has
pub record Entering (names index₀ : List ℕ) (i : ℕ) (index : List ℕ) : Type 0 where
  pub sized : length index ≡ length index₀
  pub held : Held names i index
  pub sought : Sought (repeats_at names) (length names) i
  pub indexed : Indexed names 0 index₀ → Indexed names i index

pub entering-none : {names index : List ℕ} → Held names 0 index → Entering names index 0 index
entering-none h = record { sized = refl; held = h; sought = sought-none; indexed = λ x. x }

module _ {names index₀ : List ℕ} {i : ℕ} {index : List ℕ} (h : Entering names index₀ i index) where
  module _ {after : List ℕ} {r : Bool} (told : NameEntered names i index after r) (l : i < length names) where
    pub still-sized : length after ≡ length index₀
    still-sized = told.sized ∙ h.sized

    pub entering-more : r ≡ false → Entering names index₀ (i + 1) after
    entering-more e =
        record {
          sized = still-sized;
          held = told.stored e;
          sought = sought-more h.sought l (sym (told.new e)) refl;
          indexed = λ x. told.indexed (h.indexed x) e;
        }

    pub entering-repeat : r ≡ true → Indexed names 0 index₀ → AllEntered names after (Some i)
    entering-repeat e x =
        record {
          answer = sought-here h.sought l (told.answer (h.indexed x)) e;
          indexed = λ m. absurd (none-some i (sym m));
        }

  module _ (e : i ≡ length names) where
    pub sought-last : Sought (repeats_at names) (length names) (length names)
    sought-last = rw e at h.sought

    pub entering-all : Indexed names 0 index₀ → AllEntered names index None
    entering-all x = record { answer = sought-all sought-last; indexed = λ _. rw e at (h.indexed x) }
