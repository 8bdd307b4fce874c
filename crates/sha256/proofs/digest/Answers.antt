-- `sha256::digest` meets its contract. Whole blocks straight from the message, then its last blocks.
use Prim.Native.Nat.{◌*◌, ◌+◌}
use mathlib.Core.Path.{sym, ap, ◌∙◌}
use lib.Dec.{leb}
use native.Mathlib.Omega.{arith}
use lib.ListN.{length}
use mathlib.Core.List.{List, ◌++◌}
use Prim.Native.Nat.{ℕ}
use Rattle.base.specs.Limits.{max_hashed}
use Rattle.sha256.specs.Padding.{padding, blocks}
use Rattle.sha256.specs.Digest.{hash_after, digest_of}
use Rattle.sha256.specs.Portions.{digest_blocks, digest_answer}
use Rattle.base.specs.Number.{outcome_number}
use Rattle.base.proofs.RowLaws.{passed}
use Rattle.sha256.proofs.Blocks.{part-from}
use Rattle.sha256.proofs.Digests.{digest-split, blocks-hashed}
use Rattle.sha256.proofs.digest.Goals as goal

pub returns-clause-digest_value : goal.returns-clause-digest_value
unfolding digest_blocks digest_answer
returns-clause-digest_value c =
    let m = c.args.message.now in
    let last = ap (λ (l : List ℕ). l ++ padding (length m)) (part-from (64 * blocks m) m) in
    let few = passed (leb (max_hashed + 1) (0 + length m)) 5 0 (omega arith)
    (sym c.check_count.ensures ∙ ap outcome_number c.in_ok-check_count.was) in
    rw few.0 (
      c.digest_after.ensures
          ∙ (λ i. digest_of (hash_after (c.absorb-words.ensures i) (last i) (blocks (last i))))
          ∙ digest-split m,
      c.block_count.ensures ∙ sym (blocks-hashed m),
    )
