-- `sha256::Hash::beyond` meets its contract. By the law of bytes that fill the tail and go on.
use Prim.Native.Nat.{◌≤◌, ◌+◌, ◌-◌, ◌%◌}
use mathlib.Core.Path.{◌≡◌, sym, ◌∙◌}
use lib.ListN.{length, take}
use lib.Seq.{length-take-le}
use Rattle.compression.specs.Compression.{compressed}
use Rattle.sha256.specs.Padding.{words}
use Rattle.sha256.specs.Portions.{cleared, pushed_all}
use Rattle.sha256.proofs.Blocks.{hash_after-one, part-from}
use Rattle.sha256.proofs.Pushing.{room-le, room-fills, pushed_all-beyond}
use borrow.Author.Rules.{rules}
use Rattle.base.proofs.Copying.{written-sets}
use Rattle.sha256.proofs.Hash.beyond.Goals as goal

pub returns : goal.returns
returns c =
    let s = c.args.self in
    let bytes = c.args.bytes.now in
    let room = 64 - s.taken % 64 in
    let n : length s.tail ≡ 64 = search rules in
    let fits : s.taken % 64 + length (take room bytes) ≤ length s.tail =
    rw (length-take-le _ bytes (room-le _ _ c.requires.0), n) (room-fills s.taken) in
    let tail = c.put.ensures ∙ written-sets _ _ _ fits in
    let now = c.absorb-words.ensures ∙ hash_after-one _ _ (search rules) ∙ (λ i. compressed s.words (words 16 (tail i))) in
    c.aligned.ensures ∙
    (λ i. pushed_all (cleared (now i) (s.taken + room)) (part-from room bytes i)) ∙
    sym (pushed_all-beyond s bytes c.requires.0)
