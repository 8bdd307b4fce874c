-- What the parts of reading and of laying out say.
use Rattle.std.specs.Prelude.{◌≡◌, ℕ, ◌+◌, ◌-◌, ◌*◌, Bool, true, not, List, [], ◌∷◌, length}
use Rattle.base.specs.Bytes.{written}
use Rattle.base.specs.Choice.{pick, both, every}
use Rattle.decimal.specs.Numbers.{is_digit, readable, fits, numbers_from}

-- a byte that can be read after a value, and the value after it
abbrev pub goes_on : ℕ → ℕ → Bool
goes_on b value = both (readable b) (pick (is_digit b) (fits (10 * value + (b - 48))) true)

abbrev pub next_value : ℕ → ℕ → ℕ
next_value b value = pick (is_digit b) (10 * value + (b - 48)) 0

-- each byte can be read, and each number fits
unfoldable pub all_fit : Bool → ℕ → List ℕ → Bool
all_fit within value bytes = both (every readable bytes) (every fits (numbers_from within value bytes))

-- the number that ends at a byte that is no digit
abbrev pub ended : Bool → Bool → ℕ → List ℕ
ended within digit value = pick (both within (not digit)) (value ∷ []) []

-- a text written over `before` from a place on, and the place after it
pub record Wrote (before : List ℕ) (at : ℕ) (text after : List ℕ) (end : ℕ) : Type 0 where
  pub out : after ≡ written before at text
  pub next : end ≡ at + length text
