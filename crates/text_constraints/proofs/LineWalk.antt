-- Reading never lines one by one: what is left of them, and what those that are read have told. Assumes nothing.
--   Left, on_line, left-none: the lines that are left, the first of them, and none
--   failed-first: the first of two tests
--   Saying: what the lines read have told, and what is still to be told
--   Reading, reading-start, line-ready, reading-next, reading-done: the turns of the loop
--   none_told: no line tells nothing
--   words_placed: the words stand in the beginning of the slice
use Prim.Native.Nat.{ℕ, suc, ◌+◌, ◌-◌, ◌*◌, ◌≤◌, ◌<◌}
use mathlib.Core.Path.{◌≡◌, refl, sym, ap, ◌∙◌}
use mathlib.Core.Bool.{Bool, true, false, cond}
use mathlib.Core.List.{List, [], ◌∷◌, ◌++◌}
use mathlib.Core.Option.{Option, none, some}
use native.Mathlib.Omega.{arith}
use lib.ListN.{length, set, take, drop, length-set, length-drop}
use lib.Seq.{drop_at, drop-drop, sets, sets-eq}
use Rattle.prelude.specs.Lists.{all, member_list, placed}
use Rattle.prelude.proofs.Tests.{and_left, and_right}
use Rattle.prelude.proofs.Elements.{rest-is-drop}
use Rattle.netlist.specs.declared.Refusal.{Refusal}
use Rattle.netlist.specs.declared.Refusal.TheVariants.{DuplicateDeclaration, UndeclaredName}
use Rattle.words_refusals.specs.Tests.{Test}
use Rattle.std.specs.Result.{result_and}
use Rattle.std.specs.declared.result.Result.TheVariants.{Ok}
use Rattle.words_refusals.specs.Tests.{test_at}
use Rattle.netlist.specs.Netlist.{Name}
use Rattle.netlist.specs.StoredBlock.{never_words}
use Rattle.netlist.specs.Syntax.{Pair, Tree, is_legal_never, print_lines, print_never}
use Rattle.netlist.specs.Reading.{Mention, mentions, never_mentions, first_repeat, or_else, first_repeat_in, first_outside}
use Rattle.netlist.specs.Reading.{excluded_names, assignment_of}
use Rattle.words_refusals.proofs.Promised.{IsFailed}
use Rattle.theory_grammar.proofs.Places.{print_never-split}
use Rattle.text_names.specs.Index.{max_pairs}
use Rattle.text_lines.specs.Lines.{length_with_lf}
use Rattle.words_layout.specs.Masks.{masks_of}
use Rattle.text_pairs.specs.Tables.{InputsAre}
use Rattle.text_constraints.specs.declared.LineTold.{LineTold}
use Rattle.text_constraints.specs.Places.{NeverAt, NeversAt, lines_mentions, lines_words, Told}
use Rattle.text_constraints.specs.Ready.{LineReady, LineRead, LinesReady, LinesRead}
use Rattle.text_constraints.proofs.NeverText.{line-size, line-inside}

-- ---- the lines that are left

-- of which `holds` says what is still to be told
pub record Left (text : List ℕ) (at left : ℕ) (S : List (List Pair) → Type 0) : Type 0 where
  pub lines : List (List Pair)
  pub is : NeversAt at left lines text
  pub holds : S lines

-- the first of them, and the others behind it
module _ {text : List ℕ} {at left : ℕ} {ps : List Pair} {more : List (List Pair)}
    (a : NeversAt at left (ps ∷ more) text) where
  head-line : NeverAt at ps text
  unfolding print_lines
  head-line = record {
    legal = and_left (is_legal_never ps) (all is_legal_never more) a.legal;
    rest = print_lines print_never more a.rest;
    stand = a.stand;
  }

  tail-lines : NeversAt (at + length_with_lf (drop at text)) (left - 1) more text
  unfolding print_lines
  tail-lines =
      let others = print_lines print_never more a.rest in
      let e : drop at text ≡ print_never ps [] ++ others = a.stand ∙ print_never-split ps others in
      rw (line-size head-line)
      (record {
        counted = omega (arith, a.counted);
        legal = and_right (is_legal_never ps) (all is_legal_never more) a.legal;
        rest = a.rest;
        stand =
            sym (drop-drop (length (print_never ps [])) at text)
            ∙ rw e (drop_at (print_never ps []) others (length (print_never ps [])) refl);
      })

module _ {text : List ℕ} {at left : ℕ} {S : List (List Pair) → Type 0} (l : Left text at left S) where
  pub on_line : {Q : Type 0} → 0 < left
      → ((ps : List Pair) (more : List (List Pair)) → NeverAt at ps text
      → NeversAt (at + length_with_lf (drop at text)) (left - 1) more text → S (ps ∷ more) → Q)
      → Q
  on_line {Q} pos f = go l.lines l.is l.holds
    where
      go : (lines : List (List Pair)) → NeversAt at left lines text → S lines → Q
      go [] a h = absurd (omega (arith, a.counted))
      go (ps ∷ more) a h = f ps more (head-line a) (tail-lines a) h

  pub left-none : left ≤ 0 → S []
  left-none z = go l.lines l.is l.holds
    where
      go : (lines : List (List Pair)) → NeversAt at left lines text → S lines → S []
      go [] a h = h
      go (ps ∷ more) a h = absurd (omega (arith, a.counted))

-- ---- what is told first

or_else-assoc : (p q r : Option ℕ) → or_else p (or_else q r) ≡ or_else (or_else p q) r
unfolding or_else
or_else-assoc (some p) q r = refl
or_else-assoc none q r = refl

-- a test that fails is the first of two
pub failed-first : (p q : Option ℕ) (why : ℕ → Refusal) {r : Test} → r ≡ test_at p why → IsFailed r
    → r ≡ test_at (or_else p q) why
unfolding or_else test_at
failed-first none q why e k = absurd (k e)
failed-first (some x) q why e k = e

or_else-none : (p : Option ℕ) → or_else p none ≡ p
unfolding or_else
or_else-none (some p) = refl
or_else-none none = refl

outside-append : (known : List Name) (ds es : List Mention)
    → first_outside known (ds ++ es) ≡ or_else (first_outside known ds) (first_outside known es)
unfolding first_outside or_else
outside-append known [] es = refl
outside-append known (d ∷ ds) es = go (member_list d.name known) (outside-append known ds es)
  where
    go : (b : Bool) → first_outside known (ds ++ es) ≡ or_else (first_outside known ds) (first_outside known es)
        → cond b (first_outside known (ds ++ es)) (some d.place)
        ≡ or_else (cond b (first_outside known ds) (some d.place)) (first_outside known es)
    go true h = h
    go false h = refl

first-outside : (known : List Name) (ps : List Pair) (more : List (List Pair)) (at : ℕ)
    → first_outside known (lines_mentions (ps ∷ more) at)
    ≡ or_else (first_outside known (never_mentions ps at))
    (first_outside known (lines_mentions more (at + length (print_never ps []))))
unfolding mentions
first-outside known ps more at =
    outside-append known (never_mentions ps at) (lines_mentions more (at + length (print_never ps [])))

-- ---- what the lines read have told, and with `lines` all are told

pub record Saying (ns : List (List Pair)) (known : List Name) (from : ℕ) (masks : List ℕ) (at i : ℕ)
    (repeat outside : Test) (masks' : List ℕ)
    (lines : List (List Pair)) : Type 0 where
  pub p : Option ℕ
  pub q : Option ℕ
  pub repeat_is : repeat ≡ test_at p DuplicateDeclaration
  pub outside_is : outside ≡ test_at q UndeclaredName
  pub repeats : first_repeat_in ns from ≡ or_else p (first_repeat_in lines at)
  pub outsides : first_outside known (lines_mentions ns from) ≡ or_else q (first_outside known (lines_mentions lines at))
  pub words : sets masks 0 (lines_words known ns) ≡ sets masks' (2 * i) (lines_words known lines)

-- in the middle of the loop
pub record Reading (text : List ℕ) (from count : ℕ) (inputs : List ℕ) (n : ℕ) (masks : List ℕ) (at i : ℕ)
    (repeat outside : Test)
    (names masks' : List ℕ) : Type 0 where
  pub within : i ≤ count
  pub name_room : length names ≡ max_pairs
  pub mask_room : length masks' ≡ length masks
  pub now' : (ns : List (List Pair)) (known : List Name) → NeversAt from count ns text → InputsAre known n inputs
      → Left text at (count - i) (Saying ns known from masks at i repeat outside masks')

-- a test and then another, as `and` joins them
abbrev pub FirstOf : Test → Test → Test → Type 0
FirstOf one other r =
    (p q : Option ℕ) (why : ℕ → Refusal) → one ≡ test_at p why → other ≡ test_at q why → r ≡ test_at (or_else p q) why

pub first-of_and : (one other : Test) {r : Test} → r ≡ result_and one other → FirstOf one other r
unfolding test_at or_else
first-of_and one other e p q why a b = e ∙ joined p a
  where
    joined : (p : Option ℕ) → one ≡ test_at p why → result_and one other ≡ test_at (or_else p q) why
    joined (some x) a = rw a refl
    joined none a = rw a b

module _ {text : List ℕ} {from count : ℕ} {inputs : List ℕ} {n : ℕ} {names masks : List ℕ}
    (ready : LinesReady text from count inputs n names masks) where
  pub reading-start : Reading text from count inputs n masks from 0 (Ok tt) (Ok tt) names masks
  unfolding test_at or_else
  reading-start =
      record {
        within = omega arith;
        name_room = ready.name_room;
        mask_room = refl;
        now' =
            λ ns known is are.
            let e : count - 0 ≡ count = omega arith in
            rw e (record {
              lines = ns;
              is = is;
              holds =
                  record {
                    p = none;
                    q = none;
                    repeat_is = refl;
                    outside_is = refl;
                    repeats = refl;
                    outsides = refl;
                    words = refl;
                  };
            });
      }

  module _ {at i : ℕ} {repeat outside : Test} {names' masks' : List ℕ}
      (r : Reading text from count inputs n masks at i repeat outside names' masks') where
    here-left : Left text at (count - i) (Saying ready.lines ready.inputs_ready.known from masks at i repeat
        outside masks')
    here-left = r.now' ready.lines ready.inputs_ready.known ready.is ready.inputs_ready.are

    -- a line is read from the rest of the text
    rest-line : {ps : List Pair} → NeverAt at ps text → NeverAt 0 ps (take (length text - at) (drop at text))
    rest-line h = record { legal = h.legal; rest = h.rest; stand = rest-is-drop text at ∙ h.stand }

    module _ (more' : i < count) where
      pub line-there : at + 8 ≤ length text
      line-there = on_line here-left (omega arith) λ ps more h _ _. line-inside h

      pub line-ready : LineReady (take (length text - at) (drop at text)) at inputs n names'
      line-ready =
          let l = line-there in
          on_line here-left (omega arith) λ ps more h _ _. record {
            pairs = ps;
            is = rest-line h;
            short = rw (rest-is-drop text at, length-drop at text) (omega (arith, ready.short));
            near = omega (arith, ready.short);
            inputs_ready = ready.inputs_ready;
            name_room = r.name_room;
          }

      pub reading-next : {names'' : List ℕ} {line : LineTold}
          → LineRead (take (length text - at) (drop at text)) at inputs n names'' line
          → {repeat' outside' : Test} → FirstOf repeat line.repeat repeat' → FirstOf outside line.outside outside'
          → {next : ℕ} → next ≡ at + length_with_lf (drop at text)
          → Reading text from count inputs n masks next (i + 1) repeat' outside' names''
          (set (set masks' (2 * i) line.defined) (2 * i + 1) line.ones)
      unfolding first_repeat_in never_words assignment_of masks_of
      reading-next {names''} {line} read {repeat'} {outside'} f g {next} e =
          record {
            within = omega arith;
            name_room = read.name_room;
            mask_room =
                length-set (set masks' (2 * i) line.defined) (2 * i + 1) line.ones
                ∙ length-set masks' (2 * i) line.defined ∙ r.mask_room;
            now' =
                λ ns known is are.
                let less : count - (i + 1) ≡ count - i - 1 = omega arith in
                rw (less, e)
                (on_line (r.now' ns known is are) (omega arith) λ ps more h others s.
                let said = read.says ps known (rest-line h) are in
                let x : 2 * (i + 1) ≡ suc (suc (2 * i)) = omega arith in
                let y : 2 * i + 1 ≡ suc (2 * i) = omega arith in
                record {
                  lines = more;
                  is = others;
                  holds = record {
                    p = or_else s.p (first_repeat [] (never_mentions ps at));
                    q = or_else s.q (first_outside known (never_mentions ps at));
                    repeat_is = f _ _ DuplicateDeclaration s.repeat_is said.repeats;
                    outside_is = g _ _ UndeclaredName s.outside_is said.outsides;
                    repeats =
                        rw (line-size h) (s.repeats ∙ or_else-assoc s.p (first_repeat [] (never_mentions ps at)) _);
                    outsides =
                        rw (line-size h)
                        (s.outsides ∙ ap (or_else s.q) (first-outside known ps more at)
                        ∙ or_else-assoc s.q (first_outside known (never_mentions ps at)) _);
                    words = s.words ∙ rw (said.defined, said.ones, x, y) refl;
                  };
                });
          }

    pub reading-done : count ≤ i
        → LinesRead text from count inputs n masks masks' (record { repeat = repeat; outside = outside })
    unfolding first_repeat_in mentions first_outside
    reading-done l =
        record {
          say =
              λ ns known is are.
              let s = left-none (r.now' ns known is are) (omega arith) in
              record {
                repeats = rw (s.repeats, or_else-none s.p) s.repeat_is;
                outsides = rw (s.outsides, or_else-none s.q) s.outside_is;
                words = sym s.words;
              };
        }

-- no line tells nothing
pub none_told : (t : Tree) (masks : List ℕ) → t.nevers ≡ []
    → Told t masks masks (record { repeat = Ok tt; outside = Ok tt })
unfolding first_repeat_in excluded_names mentions first_outside test_at
none_told t masks e = record { repeats = rw e; outsides = rw e; words = rw e }

-- ---- the words

words-length : (known : List Name) (ns : List (List Pair)) → length (lines_words known ns) ≡ 2 * length ns
unfolding never_words
words-length known [] = refl
words-length known (ps ∷ more) = let h = words-length known more in omega arith

-- in the beginning of the slice
pub words_placed : (known : List Name) (ns : List (List Pair)) (entry : List ℕ) → 2 * length ns ≤ length entry
    → sets entry 0 (lines_words known ns) ≡ placed (lines_words known ns) entry
words_placed known ns entry room =
    let n = words-length known ns in
    let z : 0 + length (lines_words known ns) ≡ length (lines_words known ns) = omega arith in
    rw z at (sets-eq (lines_words known ns) entry 0 (omega arith))
