-- Words copied while a rendering is written, case by case. Cited by the functions of `entry`. Assumes nothing.
use Prim.Native.Nat.{ℕ, zero, suc, ◌+◌, ◌-◌, ◌*◌, ◌≤◌, ◌<◌}
use mathlib.Core.Path.{◌≡◌, refl, sym, ◌∙◌}
use mathlib.Core.Logic.{◌⊎◌, inl, inr}
use mathlib.Core.Bool.{Bool, true, false, cond, ◌&&◌}
use mathlib.Core.List.{List, ◌++◌, append_assoc}
use native.Mathlib.Numerals.{add-one}
use native.Mathlib.Omega.{arith}
use borrow.Author.Tests.{lt-ltb, le-ltb, le-leb, lt-leb}
use lib.ListN.{length, get_or, set, take, drop, length-set, length-take, length-drop}
use lib.Dec.{leb, ltb}
use lib.Seq.{sets, sets-eq, get_or-take, get_or-drop}
use Rattle.std.proofs.lemmas.List.{drop-drop}
use Rattle.prelude.specs.Lists.{tab, joined}
use Rattle.prelude.proofs.Stores.{sets-joined-next}
use Rattle.prelude.proofs.Tab.{tab-ext, tab-get_d}
use Rattle.words_layout.specs.declared.nodes.Nodes.{Nodes}
use Rattle.words_layout.specs.Nodes.{gate_named}
use Rattle.unroll_emission.specs.declared.entry.Entry.{Entry}
use Rattle.unroll_emission.specs.Words.{mapped_word, entry_word, entry_words, output_entry, table_after, copy_words}
use Rattle.unroll_emission.specs.Words.{copy_at, shown_at, word_from}

-- Inside a range, or not.
between : {A : Type 0} (a x b : ℕ) (y z : A) → a ≤ x → x < b → cond (leb a x && ltb x b) y z ≡ y
between a x b y z l k = rw (le-leb a x l, lt-ltb x b k) refl

outside : {A : Type 0} (a x b : ℕ) (y z : A) → (x < a) ⊎ (b ≤ x) → cond (leb a x && ltb x b) y z ≡ z
outside a x b y z (inl l) = rw (lt-leb a x l) refl
outside a x b y z (inr l) = go (leb a x)
  where
    go : (t : Bool) → cond (t && ltb x b) y z ≡ z
    go true = rw (le-ltb x b l) refl
    go false = refl

-- Of the gate k that `gate_named` answered: its word is mapped,
module _ (nodes : Nodes) (newest : List ℕ) (w : ℕ) {k : ℕ} (is : k ≡ gate_named nodes.inputs nodes.gates w) where
  pub mapped-named : k < nodes.gates → mapped_word nodes newest w ≡ get_or newest k 0
  unfolding mapped_word
  mapped-named l = rw (← is, lt-ltb k nodes.gates l) refl

  -- A word that names no gate is kept.
  pub mapped-none : nodes.gates ≤ k → mapped_word nodes newest w ≡ w
  unfolding mapped_word
  mapped-none l = rw (← is, le-ltb k nodes.gates l) refl

-- What a word is mapped to: an operand's word, of an input, a gate or a constant.
module _ (nodes : Nodes) (newest : List ℕ) (w : ℕ) where
  abbrev n : ℕ
  n = nodes.inputs

  abbrev m : ℕ
  m = nodes.gates

  pub mapped-gate : n ≤ w → w < n + m → mapped_word nodes newest w ≡ get_or newest (w - n) 0
  unfolding gate_named
  mapped-gate lo hi = mapped-named nodes newest w names (omega arith)
    where
      names : w - n ≡ gate_named n m w
      names = rw (le-ltb w n lo, lt-ltb w (n + m) hi) refl

  pub mapped-other : (w < n) ⊎ (n + m ≤ w) → mapped_word nodes newest w ≡ w
  unfolding gate_named
  mapped-other h = mapped-none nodes newest w (names h) (omega arith)
    where
      names : (w < n) ⊎ (n + m ≤ w) → m ≡ gate_named n m w
      names (inl lo) = rw (lt-ltb w n lo) refl
      names (inr hi) = rw (le-ltb w n (omega arith), le-ltb w (n + m) hi) refl

module _ (ws : List ℕ) (nodes : Nodes) (e : Entry) (newest : List ℕ) where
  -- A word in the range is mapped,
  pub entry-mapped : (i : ℕ) → e.first ≤ i → i < e.last
      → entry_word ws nodes e newest i ≡ mapped_word nodes newest (get_or ws (e.from + i) 0)
  unfolding entry_word
  entry-mapped i l k =
      between e.first i e.last (mapped_word nodes newest (get_or ws (e.from + i) 0)) (get_or ws (e.from + i) 0) l k

  -- A word of an entry before `first` or from `last` on is kept.
  pub entry_kept : (i : ℕ) → (i < e.first) ⊎ (e.last ≤ i) → entry_word ws nodes e newest i ≡ get_or ws (e.from + i) 0
  unfolding entry_word
  entry_kept i h =
      outside e.first i e.last (mapped_word nodes newest (get_or ws (e.from + i) 0)) (get_or ws (e.from + i) 0) h

pub length-copy : (ws : List ℕ) (nodes : Nodes) (j : ℕ) (newest : List ℕ) → length (copy_words ws nodes j newest) ≡ 5
unfolding copy_words entry_words
length-copy ws nodes j newest = refl

pub length-copy_at : (ws : List ℕ) (nodes : Nodes) (order newest : List ℕ) (t : ℕ)
    → length (copy_at ws nodes order newest t) ≡ 5
unfolding copy_at
length-copy_at ws nodes order newest t =
    length-copy ws nodes (get_or order t 0) (table_after nodes.inputs order newest t)

pub length-shown_at : (ws : List ℕ) (nodes : Nodes) (newest : List ℕ) (o : ℕ) → length (shown_at ws nodes newest o) ≡ 5
unfolding shown_at entry_words
length-shown_at ws nodes newest o = refl

-- No slice changes its length.
pub length-table_after : (n : ℕ) (order newest : List ℕ) (t : ℕ) → length (table_after n order newest t) ≡ length newest
unfolding table_after
length-table_after n order newest zero = refl
length-table_after n order newest (suc t) =
    length-set (table_after n order newest t) (get_or order t 0) (n + t) ∙ length-table_after n order newest t

-- ---- the turns of the loops over copies and outputs

pub table-next : (n : ℕ) (order newest : List ℕ) (t : ℕ) (table table' : List ℕ) → table ≡ table_after n order newest t
    → table' ≡ set table (get_or order t 0) (n + t) → table' ≡ table_after n order newest (t + 1)
unfolding table_after
table-next n order newest t table table' e h = rw (add-one, ← e) h

pub copies-next : (ws : List ℕ) (nodes : Nodes) (order newest entry table out out' : List ℕ) (t : ℕ)
    → out ≡ sets entry nodes.start (joined (tab (copy_at ws nodes order newest) t))
    → table ≡ table_after nodes.inputs order newest t
    → out' ≡ sets out (nodes.start + 5 * t) (copy_words ws nodes (get_or order t 0) table)
    → out' ≡ sets entry nodes.start (joined (tab (copy_at ws nodes order newest) (t + 1)))
unfolding copy_at
copies-next ws nodes order newest entry table out out' t e h f =
    sets-joined-next (copy_at ws nodes order newest) 5 (length-copy_at ws nodes order newest) entry out out'
    nodes.start t e (rw h at f)

pub outputs-next : (ws : List ℕ) (nodes : Nodes) (newest entry out out' : List ℕ) (to o : ℕ)
    → out ≡ sets entry to (joined (tab (shown_at ws nodes newest) o))
    → out' ≡ sets out (to + 5 * o) (entry_words ws nodes (output_entry (nodes.start + 5 * nodes.gates + 5 * o)) newest)
    → out' ≡ sets entry to (joined (tab (shown_at ws nodes newest) (o + 1)))
unfolding shown_at
outputs-next ws nodes newest entry out out' to o e f =
    sets-joined-next (shown_at ws nodes newest) 5 (length-shown_at ws nodes newest) entry out out' to o e f

-- ---- words copied to the same place

pub copied-words : (ws out : List ℕ) (at count : ℕ) → at + count ≤ length ws → at + count ≤ length out
    → take at out ++ (take count (drop at ws) ++ drop count (drop at out)) ≡ sets out at (tab (word_from ws at) count)
unfolding word_from
copied-words ws out at count l k =
    let long : length (take count (drop at ws)) ≡ count = simp (length-take, length-drop) (omega arith) in
    let same : tab (λ i. get_or ws (at + i) 0) count ≡ take count (drop at ws) =
    tab-ext (λ i. get_or ws (at + i) 0) (λ i. get_or (take count (drop at ws)) i 0) count
    (λ i il. sym (get_or-take count (drop at ws) i 0 il ∙ get_or-drop at ws i 0))
    ∙ tab-get_d 0 (take count (drop at ws)) count long in
    rw (same, sets-eq (take count (drop at ws)) out at (rw long k), long, drop-drop count at out, append_assoc) refl
