-- Copies of a list of gates, and what stands for each gate after them: over a list and then another, their number,
-- kinds, operand counts and operands. Render's code and every other file of this crate cite it.
--   newest_after-*                             what stands for each gate, after a list and another
--   copies-append, copies-snoc, get_d-copies   the copies of a list
--   copied-kind, length-copied, get_d-copied   a copy's kind and operands
--   copied-reads                              it reads earlier copies only
-- Assumes nothing.
use Prim.Native.Nat.{ℕ, zero, suc, ◌+◌, ◌≤◌, ◌<◌}
use mathlib.Core.Path.{◌≡◌, refl, ap, ◌∙◌}
use mathlib.Core.Logic.{⊎_elim}
use mathlib.Core.Bool.{Bool, true, false, false≢true}
use mathlib.Core.List.{List, [], ◌∷◌, ◌++◌, map}
use native.Mathlib.Omega.{arith}
use lib.ListN.{length, get_or, set, take, length-map, length-set, length-replicate, get_or-map}
use lib.Seq.{get_or-set_same}
use Rattle.prelude.specs.Lists.{joined, member}
use Rattle.prelude.proofs.Lists.{member-first, member-cases, member-one}
use Rattle.netlist.specs.Netlist.{Operand, input, gate, constant, Gate, Block, gate_count, gate_of}
use Rattle.netlist.specs.Groups.{gate_operand}
use Rattle.netlist.specs.Rendering.{no_copies, copied_operand, copied, copies, newest_after}
use Rattle.theory_fixpoint.proofs.ListFacts.{get_d-replicate-default, AfterSet, new, old, after-set}
use Rattle.theory_unrolling.specs.Copies.{IsCopy, AreCopies}

input-not-gate : {i j : ℕ} → input i ≡ gate j → ⊥
input-not-gate e = let z : ◌≡◌ {A = ℕ} 0 1 = cc in omega arith

constant-not-gate : {v : Bool} {j : ℕ} → constant v ≡ gate j → ⊥
constant-not-gate e = let z : ◌≡◌ {A = ℕ} 0 1 = cc in omega arith

-- ---- what stands for the gates

-- more copies may be made
pub is_copy-more : (t u : ℕ) (o : Operand) → t ≤ u → IsCopy t o → IsCopy u o
is_copy-more t u (input i) l h = h
is_copy-more t u (gate c) l h = omega arith
is_copy-more t u (constant c) l h = h

-- Before the first copy nothing stands for any gate.
pub no_copies-are_copies : (b : Block) → AreCopies 0 (no_copies b)
unfolding no_copies
no_copies-are_copies b j = rw (get_d-replicate-default (gate_count b) j (constant false)) refl

pub length-no_copies : (b : Block) → length (no_copies b) ≡ gate_count b
unfolding no_copies
length-no_copies b = length-replicate (gate_count b) (constant false)

-- One copy more is made, of gate j.
pub set-are_copies : (t j : ℕ) (newest : List Operand) → AreCopies t newest → AreCopies (suc t) (set newest j (gate t))
set-are_copies t j newest h k = go (after-set newest j k (gate t) (constant false))
  where
    go : AfterSet newest j k (gate t) (constant false)
        → IsCopy (suc t) (get_or (set newest j (gate t)) k (constant false))
    go (new e l q) = rw q (omega arith)
    go (old n q) = rw q (is_copy-more t (suc t) (get_or newest k (constant false)) (omega arith) (h k))

pub length-newest_after : (newest : List Operand) (t : ℕ) (js : List ℕ)
    → length (newest_after newest t js) ≡ length newest
unfolding newest_after
length-newest_after newest t [] = refl
length-newest_after newest t (j ∷ js) =
    length-newest_after (set newest j (gate t)) (suc t) js ∙ length-set newest j (gate t)

-- After the copies of js, what stands for a gate is constant 0 or one of the copies made.
pub newest_after-are_copies : (newest : List Operand) (t : ℕ) (js : List ℕ) → AreCopies t newest
    → AreCopies (t + length js) (newest_after newest t js)
unfolding newest_after
newest_after-are_copies newest t [] h j = is_copy-more t (t + 0) (get_or newest j (constant false)) (omega arith) (h j)
newest_after-are_copies newest t (i ∷ js) h j =
    let r = newest_after-are_copies (set newest i (gate t)) (suc t) js (set-are_copies t i newest h) j in
    is_copy-more (suc t + length js) (t + suc (length js))
    (get_or (newest_after (set newest i (gate t)) (suc t) js) j (constant false)) (omega arith) r

-- What stands for the gates after one list of copies and then another.
pub newest_after-append : (newest : List Operand) (t : ℕ) (js ks : List ℕ)
    → newest_after newest t (js ++ ks) ≡ newest_after (newest_after newest t js) (t + length js) ks
unfolding newest_after
newest_after-append newest t [] ks = let e : t ≡ t + 0 = omega arith in ap (λ (u : ℕ). newest_after newest u ks) e
newest_after-append newest t (j ∷ js) ks =
    let e : suc t + length js ≡ t + suc (length js) = omega arith in
    newest_after-append (set newest j (gate t)) (suc t) js ks
    ∙ ap (λ (u : ℕ). newest_after (newest_after (set newest j (gate t)) (suc t) js) u ks) e

-- One copy more at the end: it is the newest of its gate.
pub newest_after-snoc : (newest : List Operand) (t : ℕ) (js : List ℕ) (j : ℕ)
    → newest_after newest t (js ++ (j ∷ [])) ≡ set (newest_after newest t js) j (gate (t + length js))
unfolding newest_after
newest_after-snoc newest t js j = newest_after-append newest t js (j ∷ [])

-- what stands for gate j is a copy
HasCopy : List Operand → ℕ → Type 0
HasCopy newest j = (c : ℕ) × (get_or newest j (constant false) ≡ gate c)

set_keeps : (newest : List Operand) (t i j : ℕ) → HasCopy newest j → HasCopy (set newest i (gate t)) j
unfolding HasCopy
set_keeps newest t i j h = go (after-set newest i j (gate t) (constant false))
  where
    go : AfterSet newest i j (gate t) (constant false) → HasCopy (set newest i (gate t)) j
    go (new e l q) = (t, q)
    go (old n q) = (h.0, q ∙ h.1)

newest_after-keeps : (newest : List Operand) (t : ℕ) (js : List ℕ) (j : ℕ) → HasCopy newest j
    → HasCopy (newest_after newest t js) j
unfolding newest_after
newest_after-keeps newest t [] j h = h
newest_after-keeps newest t (i ∷ js) j h =
    newest_after-keeps (set newest i (gate t)) (suc t) js j (set_keeps newest t i j h)

has-copied : (newest : List Operand) (t : ℕ) (js : List ℕ) (j : ℕ) → j < length newest → member j js ≡ true
    → HasCopy (newest_after newest t js) j
unfolding newest_after HasCopy
has-copied newest t [] j l m = absurd (false≢true m)
has-copied newest t (i ∷ js) j l m =
    ⊎_elim
    (λ e. newest_after-keeps (set newest i (gate t)) (suc t) js j
    (t, rw e (get_or-set_same newest i (gate t) (constant false) (rw e at l))))
    (λ s. has-copied (set newest i (gate t)) (suc t) js j (rw length-set l) s) (member-first j i js m)

-- For a gate that is copied stands a copy.
pub newest_after-copied : (newest : List Operand) (t : ℕ) (js : List ℕ) (j : ℕ) → j < length newest → member j js ≡ true
    → (c : ℕ) × (get_or (newest_after newest t js) j (constant false) ≡ gate c)
unfolding HasCopy
newest_after-copied newest t js j l m = has-copied newest t js j l m

-- ---- copies

-- There is one for each gate listed.
pub length-copies : (b : Block) (newest : List Operand) (t : ℕ) (js : List ℕ)
    → length (copies b newest t js) ≡ length js
unfolding copies
length-copies b newest t [] = refl
length-copies b newest t (j ∷ js) = ap suc (length-copies b (set newest j (gate t)) (suc t) js)

-- The copies of one list and then another.
pub copies-append : (b : Block) (newest : List Operand) (t : ℕ) (js ks : List ℕ)
    → copies b newest t (js ++ ks) ≡ copies b newest t js ++ copies b (newest_after newest t js) (t + length js) ks
unfolding copies newest_after
copies-append b newest t [] ks = let e : t ≡ t + 0 = omega arith in ap (λ (u : ℕ). copies b newest u ks) e
copies-append b newest t (j ∷ js) ks =
    let e : suc t + length js ≡ t + suc (length js) = omega arith in
    ap (λ (r : List Gate). copied newest (gate_of b j) ∷ r)
    (copies-append b (set newest j (gate t)) (suc t) js ks
    ∙ ap (λ (u : ℕ). copies b (set newest j (gate t)) (suc t) js
    ++ copies b (newest_after (set newest j (gate t)) (suc t) js) u ks) e)

-- One gate more at the end.
pub copies-snoc : (b : Block) (newest : List Operand) (t : ℕ) (js : List ℕ) (j : ℕ)
    → copies b newest t (js ++ (j ∷ [])) ≡ copies b newest t js ++ (copied (newest_after newest t js) (gate_of b j) ∷ [])
unfolding copies
copies-snoc b newest t js j = copies-append b newest t js (j ∷ [])

-- Copy i is the copy of the gate listed at i, with what stood for the gates then.
pub get_d-copies : (b : Block) (newest : List Operand) (t : ℕ) (js : List ℕ) (i : ℕ) (d : Gate) → i < length js
    → get_or (copies b newest t js) i d ≡ copied (newest_after newest t (take i js)) (gate_of b (get_or js i 0))
unfolding copies newest_after
get_d-copies b newest t [] i d l = absurd (omega arith)
get_d-copies b newest t (j ∷ js) zero d l = refl
get_d-copies b newest t (j ∷ js) (suc i) d l = get_d-copies b (set newest j (gate t)) (suc t) js i d (omega arith)

-- ---- one copy

-- A copy has the kind of the original gate,
pub copied-kind : (newest : List Operand) (g : Gate) → (copied newest g).kind ≡ g.kind
unfolding copied
copied-kind newest g = refl

-- A copy has as many operands as its gate.
pub length-copied : (newest : List Operand) (g : Gate) → length (copied newest g).operands ≡ length g.operands
unfolding copied
length-copied newest g = length-map g.operands (copied_operand newest)

-- Each operand is the original's, copied.
pub get_d-copied : (newest : List Operand) (g : Gate) (i : ℕ)
    → get_or (copied newest g).operands i (constant false) ≡ copied_operand newest (get_or g.operands i (constant false))
unfolding copied copied_operand
get_d-copied newest g i = get_or-map (copied_operand newest) g.operands i (constant false)

-- A copied operand that is a gate is a copy made before.
pub copied_operand-below : (t : ℕ) (newest : List Operand) → AreCopies t newest → (o : Operand) (c : ℕ)
    → copied_operand newest o ≡ gate c → c < t
unfolding copied_operand
copied_operand-below t newest h (input i) c e = absurd (input-not-gate e)
copied_operand-below t newest h (constant v) c e = absurd (constant-not-gate e)
copied_operand-below t newest h (gate j) c e = rw e at (h j)

-- A copy reads only copies made before.
pub copied-reads : (t : ℕ) (newest : List Operand) → AreCopies t newest → (g : Gate) (k : ℕ)
    → member k (joined (map gate_operand (copied newest g).operands)) ≡ true → k < t
unfolding copied gate_operand
copied-reads t newest h g k m = go g.operands m
  where
    one : (o : Operand) → ((c : ℕ) → o ≡ gate c → c < t) → member k (gate_operand o) ≡ true → k < t
    one (input i) h m = absurd (false≢true m)
    one (constant v) h m = absurd (false≢true m)
    one (gate j) h m = let e = member-one k j m in rw e (h j refl)

    go : (os : List Operand) → member k (joined (map gate_operand (map (copied_operand newest) os))) ≡ true → k < t
    go [] m = absurd (false≢true m)
    go (o ∷ os) m =
        ⊎_elim (one (copied_operand newest o) (copied_operand-below t newest h o)) (go os)
        (member-cases k (gate_operand (copied_operand newest o))
        (joined (map gate_operand (map (copied_operand newest) os))) m)
