-- What a refused end of hashing gives C: 32 zero bytes and no blocks.
use mathlib.Core.Path.{◌≡◌, refl}
use mathlib.Core.Bool.{Bool, true, false}
use mathlib.Core.List.{List, [], ◌∷◌}
use Prim.Native.Nat.{ℕ}
use Rattle.base.specs.Bytes.{zeros}
use Rattle.base.specs.Choice.{pick}
use Rattle.base.specs.Row.{first_of, is_done}
use Rattle.sha256.specs.declared.Hash.{Hash}
use Rattle.sha256.specs.Portions.{finish_row, finish_digest, finish_blocks, digest_row, digest_answer, digest_blocks}

refused : (t : Bool) (digest : List ℕ) (blocks : ℕ) → is_done (first_of ((t, 5) ∷ [])) ≡ false
    → (zeros 32 ≡ pick t (zeros 32) digest) × (0 ≡ pick t 0 blocks)
refused true digest blocks e = (refl, refl)
refused false digest blocks e = cc

pub not-finished : (s : Hash) → is_done (finish_row s) ≡ false → (zeros 32 ≡ finish_digest s) × (0 ≡ finish_blocks s)
unfolding finish_row finish_digest finish_blocks
not-finished s e = refused _ _ _ e

pub not-digested : (m : List ℕ) → is_done (digest_row m) ≡ false → (zeros 32 ≡ digest_answer m) × (0 ≡ digest_blocks m)
unfolding digest_row digest_answer digest_blocks
not-digested m e = refused _ _ _ e
