-- `sha256::encode::digest_after` meets its contract.
use Prim.Native.Nat.{ℕ}
use mathlib.Core.Path.{ap, ◌∙◌}
use mathlib.Core.List.{List}
use Rattle.sha256.specs.Padding.{blocks}
use Rattle.sha256.specs.Digest.{hash_after, digest_of}
use Rattle.sha256.proofs.Padded.{last-laid}
use Rattle.sha256.proofs.encode.digest_after.Goals as goal

pub returns : goal.returns
returns c =
    let n = c.block_count-end in
    c.digest_bytes.ensures ∙
    ap digest_of
    (c.absorb.ensures ∙
    ap (λ (l : List ℕ). hash_after c.args.words l (blocks l))
    (rw n.ensures
    (last-laid _ _ _ _ _ _ c.requires.0 c.big_endian-bits.ensures c.put.ensures c.put-2.ensures
    (rw n.ensures at c.put-3.ensures))))
