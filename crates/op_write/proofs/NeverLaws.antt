-- What is written for an input in a never line, and for the line, from the words that were read. Cited by the functions
-- of `nevers`.
-- Assumes nothing.
use Prim.Native.Nat.{ℕ, ◌+◌, ◌*◌}
use mathlib.Core.Path.{◌≡◌, refl}
use mathlib.Core.List.{List, [], ◌++◌}
use lib.ListN.{get_or}
use borrow.Author.Tests.{eq-eqb, ne_eqb}
use Rattle.prelude.specs.Lists.{ascii}
use Rattle.netlist.specs.Assignments.{bit}
use Rattle.netlist.specs.StoredBlock.{inputs_at, name_size}
use Rattle.text_pieces.specs.Pieces.{pieces, pair_piece}
use Rattle.op_write.specs.Lines.{fixed_text, never_text}

module _ (ws : List ℕ) (fixed ones i : ℕ) where
  pub fixed-none : (bit fixed i ≡ 1 → ⊥) → fixed_text ws fixed ones i ≡ []
  unfolding fixed_text
  fixed-none ne = rw (ne_eqb (bit fixed i) 1 ne) refl

  pub fixed-some : bit fixed i ≡ 1 → fixed_text ws fixed ones i
      ≡ pair_piece ws (inputs_at + name_size * i) (48 + bit ones i)
  unfolding fixed_text
  fixed-some e = rw (eq-eqb (bit fixed i) 1 e) refl

pub never-of : (ws : List ℕ) (at fixed ones n : ℕ) → fixed ≡ get_or ws at 0 → ones ≡ get_or ws (at + 1) 0 → n ≡ get_or ws 0 0
    → never_text ws at ≡ ascii "(never" ++ (pieces (fixed_text ws fixed ones) n ++ ascii ")\n")
unfolding never_text
never-of ws at fixed ones n f o e = rw (f, o, e) refl
