-- How often tails are compressed: with the portions of a message and at their end as often as the message has blocks.
use Prim.Native.Nat.{ℕ, ◌+◌, ◌/◌, ◌%◌, ◌≤◌}
use mathlib.Core.Path.{◌≡◌, refl, ap, ◌∙◌}
use mathlib.Core.Bool.{Bool, true, false}
use mathlib.Core.List.{List, [], ◌∷◌, ◌++◌, flatten}
use native.Mathlib.Omega.{arith}
use borrow.Author.Tests.{eqb-true, eqb-false}
use lib.Dec.{eqb}
use lib.ListN.{length, length-append}
use Rattle.base.specs.Choice.{pick}
use Rattle.base.specs.Limits.{max_hashed}
use Rattle.sha256.specs.declared.Hash.{Hash}
use Rattle.sha256.specs.Padding.{padding, blocks_of}
use Rattle.sha256.specs.Portions.{new_hash, pushed, compressions, update_state, updated_all, compressions_all, finish_blocks, digest_blocks}
use Rattle.sha256.proofs.Pushing.{pushed-taken, pushed_all-taken}
use Rattle.sha256.proofs.Digests.{length-padding, blocks-hashed}
use Rattle.sha256.proofs.Portions.{taken-done, portions-state, finish-counted, digest-counted}

-- one byte: a block is full where 64 divides what is then taken
one_more : (taken : ℕ) → taken / 64 + pick (eqb (taken % 64) 63) 1 0 ≡ (taken + 1) / 64
one_more taken = go (eqb (taken % 64) 63) refl
  where
    go : (t : Bool) → eqb (taken % 64) 63 ≡ t → taken / 64 + pick t 1 0 ≡ (taken + 1) / 64
    go true e = omega (arith, eqb-true (taken % 64) 63 e)
    go false e = let ne : taken % 64 ≡ 63 → ⊥ = eqb-false (taken % 64) 63 e in omega (arith, ne)

-- what is taken, by another name
counted-from : (taken taken' more count : ℕ) → taken ≡ taken' → taken / 64 + count ≡ (taken + more) / 64
    → taken' / 64 + count ≡ (taken' + more) / 64
counted-from taken taken' more count e h = rw e at h

pub compressions-count : (s : Hash) (bytes : List ℕ) → s.taken / 64 + compressions s bytes ≡ (s.taken + length bytes) / 64
unfolding compressions
compressions-count s [] = omega arith
compressions-count s (byte ∷ bytes) =
    let n : s.taken + length (byte ∷ bytes) ≡ s.taken + 1 + length bytes = omega arith in
    rw n
    (omega (arith, one_more s.taken, counted-from (pushed s byte).taken _ _ _ (pushed-taken s byte) (compressions-count (pushed s byte) bytes)))

-- of every state: those at the end make up the message's
pub end-count : (s : Hash) → s.taken / 64 + compressions s (padding s.taken) ≡ blocks_of s.taken
end-count s = compressions-count s (padding s.taken) ∙ ap (λ (k : ℕ). (s.taken + k) / 64) (length-padding s.taken) ∙ omega arith

portions-count : (s : Hash) (parts : List (List ℕ)) → s.taken + length (flatten parts) ≤ max_hashed
    → s.taken / 64 + compressions_all s parts ≡ (s.taken + length (flatten parts)) / 64
unfolding compressions_all flatten
portions-count s [] h = omega arith
portions-count s (part ∷ parts) h =
    let n : length (part ++ flatten parts) ≡ length part + length (flatten parts) = length-append part (flatten parts) in
    let e : (update_state s part).taken ≡ s.taken + length part = taken-done s part (omega arith) in
    rw n
    (omega (
      arith,
      compressions-count s part,
      counted-from (update_state s part).taken _ _ _ e (portions-count (update_state s part) parts (omega arith)),
    ))

-- a message in portions, whatever the cut
pub record PortionsCounted (parts : List (List ℕ)) : Type 0 where
  pub whole : finish_blocks (updated_all new_hash parts) ≡ digest_blocks (flatten parts)
  pub compressed :
      let s : Hash = updated_all new_hash parts in
      compressions_all new_hash parts + compressions s (padding s.taken) ≡ finish_blocks s

pub portions-counted : (parts : List (List ℕ)) → length (flatten parts) ≤ max_hashed → PortionsCounted parts
portions-counted parts h =
    let s : Hash = updated_all new_hash parts in
    let e : s.taken ≡ 0 + length (flatten parts) =
    ap (λ (t : Hash). t.taken) (portions-state new_hash parts (omega arith)) ∙ pushed_all-taken new_hash (flatten parts) in
    let few : s.taken ≤ max_hashed = omega arith in
    record {
      whole = rw (finish-counted s few, digest-counted (flatten parts) h, blocks-hashed (flatten parts), e) (omega arith);
      compressed = rw (finish-counted s few) (omega (arith, rw (← e) at (portions-count new_hash parts (omega arith)), end-count s));
    }
