-- `checkpoint::writing::put_parts` meets its contract: the three parts one behind the other, and the SHA-256 of them behind.
use mathlib.Core.Path.{◌≡◌, refl, sym}
use mathlib.Core.List.{◌++◌}
use Prim.Native.Nat.{◌+◌}
use native.Mathlib.Omega.{arith}
use borrow.Author.Rules.{rules}
use lib.ListN.{length, length-append}
use lib.Seq.{length-take-le}
use Rattle.base.proofs.WrittenLaws.{written-three}
use Rattle.checkpoint.proofs.WritingLaws.{hashed}
use Rattle.checkpoint.proofs.writing.put_parts.Goals as goal

pub slice_bounds-digest_of-end-2 : goal.slice_bounds-digest_of-end-2
slice_bounds-digest_of-end-2 c =
    sym (length-take-le _ _ (omega (arith, c.requires.laid_in_bounds, c.put.auto.dst, c.put-2.auto.dst, c.put-3.auto.dst)))

pub slice_bounds-put-end : goal.slice_bounds-put-end
slice_bounds-put-end c = search rules

pub put-requires-4 : goal.put-requires-4
put-requires-4 c =
    omega (arith, c.requires.laid_in_bounds, c.put.auto.dst, c.put-2.auto.dst, c.put-3.auto.dst)

-- how long the three parts are

size : (c : goal.After-slice_known-5-1) → let a = c.args in
    length a.head.now + length a.store.now + length a.laid.now ≡ length (a.head.now ++ a.store.now ++ a.laid.now)
size c = sym (rw (length-append, length-append))

pub returns : goal.returns
returns c =
    let a = c.args in
    hashed a.out.now (a.head.now ++ a.store.now ++ a.laid.now) _ _ _ _
    (written-three a.out.now a.head.now a.store.now a.laid.now _ _ _ _ _ c.put.ensures c.put-2.ensures
    c.put-3.ensures refl refl)
    (size c) c.digest_of-digest.ensures c.put-4.ensures
