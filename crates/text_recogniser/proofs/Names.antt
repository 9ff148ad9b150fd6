-- Names by their first byte: one law for each way through the code. Assumes nothing.
use mathlib.Core.Path.{◌≡◌, refl, ap, ◌∙◌}
use mathlib.Core.Bool.{Bool, true, false}
use mathlib.Core.List.{List, ◌∷◌}
use Prim.Native.Nat.{ℕ, ◌<◌}
use lib.ListN.{length, drop, get_or}
use Rattle.std.specs.Prelude.{Err}
use Rattle.netlist.specs.Names.{is_letter, is_name_start, is_underscore}
use Rattle.netlist.specs.Parse.{stop, name_bytes, name_after, name_reader}
use Rattle.text_recogniser.specs.Readers.{scan_of, first_byte}
use Rattle.text_recogniser.proofs.Continues.{scan-map}
use Rattle.text_recogniser.proofs.First.{there, if-taken, if-left}

pub no_start : is_name_start 0 ≡ false
unfolding is_name_start is_letter is_underscore
no_start = refl

no-first : (u : Bool) → first_byte u 0 ≡ false
unfolding first_byte is_letter
no-first true = no_start
no-first false = refl

module _ (u : Bool) (s : List ℕ) where
  pub name-there : first_byte u (get_or s 0 0) ≡ true → 0 < length s
  name-there h = there (first_byte u) s (no-first u) h

  pub name-first : first_byte u (get_or s 0 0) ≡ true
      → scan_of (name_reader (first_byte u) s) ≡ scan_of (name_bytes 7 (drop 1 s))
  unfolding name_reader name_after
  name-first h =
      ap scan_of (if-taken _ _ (first_byte u) s (no-first u) h)
      ∙ scan-map (name_bytes 7) (λ cs. get_or s 0 0 ∷ cs) (drop 1 s)

  pub name-none : first_byte u (get_or s 0 0) ≡ false → scan_of (name_reader (first_byte u) s) ≡ Err (length s)
  unfolding name_reader stop
  name-none h = ap scan_of (if-left _ _ (first_byte u) s h)
