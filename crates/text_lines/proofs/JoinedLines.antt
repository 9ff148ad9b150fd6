-- Lines one after the other at a place of a text: where line i starts, what follows there, and the lists that are read
-- line by line. Assumes nothing.
use Prim.Native.Nat.{ℕ, zero, suc, ◌+◌, ◌-◌, ◌≤◌, ◌<◌}
use mathlib.Core.Path.{◌≡◌, refl, sym, ap, ◌∙◌}
use mathlib.Core.Bool.{Bool, true, false, cond, false≢true}
use mathlib.Core.List.{List, [], ◌∷◌, ◌++◌, map, append_assoc, append-nil, map-append}
use native.Mathlib.Nat.{add-zero, add_assoc}
use native.Mathlib.Omega.{arith}
use lib.ListN.{length, get_or, take, drop, length-append, take-append-drop}
use lib.Seq.{drop_at, drop-drop, take-suc, drop-cons}
use lib.Dec.{eqb}
use borrow.Author.Tests.{eqb-true}
use Rattle.prelude.specs.Lists.{all, joined, sum, tab}
use Rattle.prelude.proofs.Quantifiers.{all-at}
use Rattle.prelude.proofs.Tests.{and_left, and_right}
use Rattle.prelude.proofs.Tab.{tab-ext}
use Rattle.prelude.proofs.Lists.{joined-append, sum-append}
use Rattle.text_lines.specs.Lines.{times, length_with_lf, line_opens, line_offset, gates_to}
use Rattle.text_lines.specs.Trees.{is_empty, is_line}
use Rattle.text_lines.proofs.Starts.{times-append}

-- ---- one line

-- without an LF before it, a line stays one
pub line-append : (xs ys : List ℕ) → times 10 xs ≡ 0 → is_line (xs ++ ys) ≡ is_line ys
line-append [] ys h = refl
line-append (x ∷ xs) ys h = go (eqb x 10) h (line-append xs ys)
  where
    go : (b : Bool) → cond b 1 0 + times 10 xs ≡ 0 → (times 10 xs ≡ 0 → is_line (xs ++ ys) ≡ is_line ys)
        → cond b (is_empty (xs ++ ys)) (is_line (xs ++ ys)) ≡ is_line ys
    go true h f = absurd (omega arith)
    go false h f = f (omega arith)

-- what is read of a line that something follows
pub record OneLine (l rest : List ℕ) : Type 0 where
  pub size : length_with_lf (l ++ rest) ≡ length l
  pub opens : line_opens (l ++ rest) ≡ times 40 l
  pub ends : times 10 l ≡ 1

pub one_line : (l rest : List ℕ) → is_line l ≡ true → OneLine l rest
one_line [] rest h = absurd (false≢true h)
one_line (x ∷ xs) rest h = go (eqb x 10) refl xs h (one_line xs rest)
  where
    go : (b : Bool) → eqb x 10 ≡ b → (xs : List ℕ) → cond b (is_empty xs) (is_line xs) ≡ true
        → (is_line xs ≡ true → OneLine xs rest) → OneLine (x ∷ xs) rest
    go true e [] h f = rw (eqb-true x 10 e) (record { size = refl; opens = refl; ends = refl })
    go true e (y ∷ ys) h f = absurd (false≢true h)
    go false e xs h f =
        let r = f h in
        record { size = rw (e, r.size); opens = rw (e, r.opens); ends = rw (e, r.ends) }

-- ---- lines one after the other

-- the gates of a line
abbrev pub inner_opens : List ℕ → ℕ
inner_opens l = times 40 l - 1

pub times-joined : (b : ℕ) (ls : List (List ℕ)) → times b (joined ls) ≡ sum (map (times b) ls)
times-joined b [] = refl
times-joined b (l ∷ ls) = let h = times-joined b ls in rw (times-append b l (joined ls)) (omega arith)

pub line-count : (ls : List (List ℕ)) → all is_line ls ≡ true → times 10 (joined ls) ≡ length ls
line-count [] h = refl
line-count (l ∷ ls) h =
    let r = (one_line l [] (and_left (is_line l) (all is_line ls) h)).ends in
    let s = line-count ls (and_right (is_line l) (all is_line ls) h) in
    rw (times-append 10 l (joined ls)) (omega arith)

-- lines stand at a place of a text, and then `rest`
module _ (text : List ℕ) (from : ℕ) (ls : List (List ℕ)) (rest : List ℕ) (lines : all is_line ls ≡ true)
    (stand : drop from text ≡ joined ls ++ rest) where
  split-at-line : (i : ℕ) → joined (take i ls) ++ joined (drop i ls) ≡ joined ls
  split-at-line i = sym (joined-append (take i ls) (drop i ls)) ∙ ap joined (take-append-drop i ls)

  behind : (i at : ℕ) → at ≡ from + length (joined (take i ls)) → drop at text ≡ joined (drop i ls) ++ rest
  behind i at e =
      let a = joined (take i ls) in
      let b = joined (drop i ls) ++ rest in
      let whole : drop from text ≡ a ++ b = stand ∙ rw (← split-at-line i, append_assoc) refl in
      ap (λ k. drop k text) e ∙ sym (drop-drop (length a) from text) ∙ rw whole (drop_at a b (length a) refl)

  line_at : (i : ℕ) → i < length ls → joined (drop i ls) ++ rest ≡ get_or ls i [] ++ (joined (drop (suc i) ls) ++ rest)
  line_at i l = rw (drop-cons ls i [] l, append_assoc)

  joined-suc : (i : ℕ) → i < length ls
      → length (joined (take (suc i) ls)) ≡ length (joined (take i ls)) + length (get_or ls i [])
  joined-suc i l = rw (take-suc ls i [] l, joined-append (take i ls) (get_or ls i [] ∷ []), append-nil, length-append)

  at-line : (i : ℕ) → i < length ls → OneLine (get_or ls i []) (joined (drop (suc i) ls) ++ rest)
  at-line i l = one_line (get_or ls i []) (joined (drop (suc i) ls) ++ rest) (all-at is_line ls i [] lines l)

  -- line i starts behind the lines before it
  pub start_is : (i : ℕ) → i ≤ length ls → line_offset text from i ≡ from + length (joined (take i ls))
  unfolding line_offset
  start_is zero l = omega arith
  start_is (suc i) l =
      let h = start_is i (omega arith) in
      let d : drop (line_offset text from i) text ≡ get_or ls i [] ++ (joined (drop (suc i) ls) ++ rest) =
      behind i (line_offset text from i) h
      ∙ line_at i (omega arith) in
      let s = (at-line i (omega arith)).size in
      let j = joined-suc i (omega arith) in
      rw (d, s, h) (omega arith)

  -- and what follows there is the line and the lines behind it
  pub rest-is : (i : ℕ) → i ≤ length ls → drop (line_offset text from i) text ≡ joined (drop i ls) ++ rest
  rest-is i l = behind i (line_offset text from i) (start_is i l)

  -- the gates in the first i lines
  pub gates-are : (i : ℕ) → i ≤ length ls → gates_to text from i ≡ sum (map inner_opens (take i ls))
  unfolding gates_to
  gates-are zero l = refl
  gates-are (suc i) l =
      let h = gates-are i (omega arith) in
      let o : line_opens (drop (line_offset text from i) text) ≡ times 40 (get_or ls i []) =
      rw (rest-is i (omega arith), line_at i (omega arith))
      (at-line i (omega arith)).opens in
      let i' : i < length ls = omega arith in
      rw (take-suc ls i [] i', map-append inner_opens (take i ls) (get_or ls i [] ∷ []), sum-append, o, h) (omega arith)

-- ---- what is read at each line, from its start and from what follows there

module _ {A : Type 0} where
  -- the first value, and then the others
  pub tab-front : (f : ℕ → A) (n : ℕ) → tab f (suc n) ≡ f 0 ∷ tab (λ i. f (suc i)) n
  tab-front f zero = refl
  tab-front f (suc n) = ap (λ (l : List A). l ++ (f (suc n) ∷ [])) (tab-front f n)

module _ {B : Type 0} (f : ℕ → List ℕ → B) (rest : List ℕ) where
  abbrev pub each_line : ℕ → List (List ℕ) → List B
  each_line at [] = []
  each_line at (l ∷ ls) = f at (l ++ (joined ls ++ rest)) ∷ each_line (at + length l) ls

  tab-each : (at : ℕ) (ls : List (List ℕ))
      → tab (λ i. f (at + length (joined (take i ls))) (joined (drop i ls) ++ rest)) (length ls) ≡ each_line at ls
  tab-each at [] = refl
  tab-each at (l ∷ ls) =
      tab-front (λ i. f (at + length (joined (take i (l ∷ ls)))) (joined (drop i (l ∷ ls)) ++ rest)) (length ls)
      ∙ rw (add-zero, append_assoc)
      (ap (λ (r : List B). f at (l ++ (joined ls ++ rest)) ∷ r)
      (tab-ext _ _ (length ls) (λ i h. rw (length-append l (joined (take i ls)), add_assoc))
      ∙ tab-each (at + length l) ls))

  -- a list that is read line by line, by the index of the line
  pub tab-lines : (text : List ℕ) (from : ℕ) (ls : List (List ℕ)) → all is_line ls ≡ true
      → drop from text ≡ joined ls ++ rest
      → tab (λ i. f (line_offset text from i) (drop (line_offset text from i) text)) (length ls) ≡ each_line from ls
  tab-lines text from ls h e =
      tab-ext _ _ (length ls)
      (λ i l. let l' : i ≤ length ls = omega arith in rw (
        rest-is text from ls rest h e i l',
        start_is text from ls rest h e i l',
      ))
      ∙ tab-each from ls
