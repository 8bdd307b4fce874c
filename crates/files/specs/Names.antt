-- The names of the files beside a proof.
use Rattle.std.specs.Prelude.{ℕ, ◌+◌, List, [], ◌++◌, leb, length, take}
use Rattle.base.specs.Choice.{pick}
use Rattle.files.specs.declared.Name.{Name}

-- the bytes of a name
unfoldable pub path_of : Name → List ℕ
path_of name = take name.length name.text

-- a proof's name with an ending; nothing where that is longer than any path
unfoldable pub beside : List ℕ → List ℕ → List ℕ
beside proof ending = pick (leb (length proof + length ending) 4095) (proof ++ ending) []
