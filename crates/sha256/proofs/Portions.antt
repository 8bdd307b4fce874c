-- Hashing in portions: however a message is cut, every portion is taken, and the end gives the message's digest.
use Prim.Native.Nat.{ℕ, ◌+◌, ◌≤◌}
use mathlib.Core.Path.{◌≡◌, refl, sym, ap, ◌∙◌}
use mathlib.Core.List.{List, [], ◌∷◌, ◌++◌, flatten}
use native.Mathlib.Omega.{arith}
use borrow.Author.Tests.{lt-leb}
use lib.ListN.{length, length-append}
use Rattle.sha256.specs.declared.Hash.{Hash}
use Rattle.sha256.specs.Padding.{blocks_of}
use Rattle.sha256.specs.Digest.{blocks_hashed, digest}
use Rattle.base.specs.Limits.{max_hashed}
use Rattle.sha256.specs.Portions.{new_hash, pushed_all, update_row, update_state, updated_all, AllDone, finish_row, finish_blocks, finish_digest, digest_blocks}
use Rattle.sha256.proofs.Pushing.{pushed_all-append, pushed_all-taken}
use Rattle.sha256.proofs.Digests.{digest-pushed}

-- ---- a portion that is not too long

pub outcome-done : (s : Hash) (part : List ℕ) → s.taken + length part ≤ max_hashed → update_row s part ≡ 0
unfolding update_row
outcome-done s part h = rw (lt-leb (max_hashed + 1) (s.taken + length part) (omega arith))

pub state-done : (s : Hash) (part : List ℕ) → s.taken + length part ≤ max_hashed → update_state s part ≡ pushed_all s part
unfolding update_state
state-done s part h = rw (lt-leb (max_hashed + 1) (s.taken + length part) (omega arith))

-- ---- portions one after another

pub taken-done : (s : Hash) (part : List ℕ) → s.taken + length part ≤ max_hashed → (update_state s part).taken ≡ s.taken + length part
taken-done s part h = ap (λ (t : Hash). t.taken) (state-done s part h) ∙ pushed_all-taken s part

pub portions-done : (s : Hash) (parts : List (List ℕ)) → s.taken + length (flatten parts) ≤ max_hashed → AllDone s parts
unfolding AllDone flatten
portions-done s [] h = tt
portions-done s (part ∷ parts) h =
    let n : length (part ++ flatten parts) ≡ length part + length (flatten parts) = length-append part (flatten parts) in (
      outcome-done s part (omega arith),
      portions-done (update_state s part) parts (omega (arith, taken-done s part (omega arith))),
    )

pub portions-state : (s : Hash) (parts : List (List ℕ)) → s.taken + length (flatten parts) ≤ max_hashed
    → updated_all s parts ≡ pushed_all s (flatten parts)
unfolding updated_all pushed_all flatten
portions-state s [] h = refl
portions-state s (part ∷ parts) h =
    let n : length (part ++ flatten parts) ≡ length part + length (flatten parts) = length-append part (flatten parts) in
    portions-state (update_state s part) parts (omega (arith, taken-done s part (omega arith))) ∙
    ap (λ (t : Hash). pushed_all t (flatten parts)) (state-done s part (omega arith)) ∙
    sym (pushed_all-append s part (flatten parts))

-- ---- the end

pub finish-done : (s : Hash) → s.taken ≤ max_hashed → finish_row s ≡ 0
unfolding finish_row
finish-done s h = rw (lt-leb (max_hashed + 1) (s.taken + 0) (omega arith))

pub finish-digest : (m : List ℕ) → length m ≤ max_hashed → finish_digest (pushed_all new_hash m) ≡ digest m
unfolding finish_digest
finish-digest m h =
    rw (lt-leb (max_hashed + 1) ((pushed_all new_hash m).taken + 0) (omega (arith, pushed_all-taken new_hash m))) (digest-pushed m)

-- ---- the blocks

pub finish-counted : (s : Hash) → s.taken ≤ max_hashed → finish_blocks s ≡ blocks_of s.taken
unfolding finish_blocks
finish-counted s h = rw (lt-leb (max_hashed + 1) (s.taken + 0) (omega arith))

pub digest-counted : (m : List ℕ) → length m ≤ max_hashed → digest_blocks m ≡ blocks_hashed m
unfolding digest_blocks
digest-counted m h = rw (lt-leb (max_hashed + 1) (0 + length m) (omega arith))

-- ---- the theorem

pub record InPortions (parts : List (List ℕ)) : Type 0 where
  pub taken : AllDone new_hash parts
  pub done : finish_row (updated_all new_hash parts) ≡ 0
  pub same : finish_digest (updated_all new_hash parts) ≡ digest (flatten parts)

pub in-portions : (parts : List (List ℕ)) → length (flatten parts) ≤ max_hashed → InPortions parts
in-portions parts h =
    let e : updated_all new_hash parts ≡ pushed_all new_hash (flatten parts) = portions-state new_hash parts (omega arith) in
    record {
      taken = portions-done new_hash parts (omega arith);
      done = rw e (finish-done (pushed_all new_hash (flatten parts)) (omega (arith, pushed_all-taken new_hash (flatten parts))));
      same = rw e (finish-digest (flatten parts) h);
    }
