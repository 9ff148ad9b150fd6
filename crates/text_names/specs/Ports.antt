-- The four name words of a port, from its number. Assumes nothing.
use Rattle.std.specs.Prelude.{ℕ, ◌/◌, ◌%◌, List, [], ◌∷◌}

unfoldable pub port_words : ℕ → List ℕ
port_words p = p % 65536 ∷ p / 65536 % 65536 ∷ p / 4294967296 % 65536 ∷ p / 281474976710656 % 65536 ∷ []
