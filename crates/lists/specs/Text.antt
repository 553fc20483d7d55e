-- Texts as bytes. Definitions only.
--   ascii text    the codes of the text's characters, one byte each for plain ASCII
use Rattle.std.specs.Prelude.{ℕ, List, [] as empty, ◌∷◌ as ◌before◌}
use Prim.Native.Char.{code}
use Prim.Native.String.{String, [], ◌∷◌}

-- the codes of the text's characters
unfoldable pub ascii : String → List ℕ
ascii [] = empty
ascii (c ∷ text) = ◌before◌ (code c) (ascii text)
