-- The folder of a path: its bytes up to the last slash.
use Rattle.std.specs.Prelude.{List, ℕ, zero, suc, eqb, length, get_or}
use Rattle.base.specs.Choice.{pick}

-- how many of the first k bytes there are up to the last slash among them, that one included
unfoldable pub folder_in : ℕ → List ℕ → ℕ
folder_in zero path = 0
folder_in (suc k) path = pick (eqb (get_or path k 0) 47) (suc k) (folder_in k path)

unfoldable pub folder_length : List ℕ → ℕ
folder_length path = folder_in (length path) path
