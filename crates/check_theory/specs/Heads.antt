-- What stands in a head, and when two heads say the same.
use Rattle.std.specs.Prelude.{◌≡◌, ℕ, List, ◌++◌, length, drop}
use Rattle.base.specs.Limits.{IsEdition, IsDepth, IsCount}
use Rattle.file_head.specs.Layout.{head_numbers}

pub record IsHead (edition : ℕ) (statement root : List ℕ) (n t : ℕ) : Type 0 where
  pub exists : IsEdition edition
  pub statement_size : length statement ≡ 32
  pub root_size : length root ≡ 32
  pub depth : IsDepth n
  pub count : IsCount t

pub record SameHead
    (edition : ℕ) (statement root : List ℕ) (n t : ℕ) (edition' : ℕ) (statement' root' : List ℕ) (n' t' : ℕ)
    : Type 0
  where
    pub editions : edition ≡ edition'
    pub statements : statement ≡ statement'
    pub roots : root ≡ root'
    pub depths : n ≡ n'
    pub counts : t ≡ t'

-- the bytes begin with the numbers of a head, which end at a place
pub record NumbersRead (edition : ℕ) (bytes : List ℕ) (n t at : ℕ) : Type 0 where
  pub exists : IsEdition edition
  pub depth : IsDepth n
  pub count : IsCount t
  pub ends : at ≡ length (head_numbers edition n t)
  pub form : bytes ≡ head_numbers edition n t ++ drop at bytes
