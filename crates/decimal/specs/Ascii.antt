-- A text as its bytes, one for each character: the texts here are ASCII.
use Rattle.std.specs.Prelude.{ℕ, List, [], ◌∷◌}
use Prim.Native.Char.{code}
use Prim.Native.String.{String, [] as end, ◌∷◌ as ◌then◌}

abbrev pub ascii : String → List ℕ
ascii end = []
ascii (c then text) = code c ∷ ascii text
