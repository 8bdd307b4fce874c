-- `sha256::encode::digest_bytes` meets its contract. The bytes of each word in turn.
use Rattle.std.proofs.Common.{◌≡◌, ℕ, List, [], ◌∷◌, ◌++◌, get_or}
use Rattle.std.proofs.Math.Nat.{div-div-eq-div-mul}
use Rattle.std.specs.Int.{w32, to_be_bytes}
use Rattle.base.specs.Bytes.{big_endian}
use Rattle.sha256.specs.Digest.{digest_of}
use Rattle.sha256.proofs.encode.digest_bytes.Goals as goal

four : (b : List ℕ) (x : ℕ) → b ≡ to_be_bytes w32 x → get_or b 0 0 ∷ get_or b 1 0 ∷ get_or b 2 0 ∷ get_or b 3 0 ∷ [] ≡ big_endian 4 x
unfolding big_endian
four b x e = rw e (simp div-div-eq-div-mul)

pub returns : goal.returns
unfolding digest_of
returns c =
    λ i.
    four _ _ c.to_be_bytes-a.ensures i ++ four _ _ c.to_be_bytes-b.ensures i ++ four _ _ c.to_be_bytes-c.ensures i ++
    four _ _ c.to_be_bytes-d.ensures i ++ four _ _ c.to_be_bytes-e.ensures i ++ four _ _ c.to_be_bytes-f.ensures i ++
    four _ _ c.to_be_bytes-g.ensures i ++ four _ _ c.to_be_bytes-h.ensures i
