-- A proof's name with an ending, laid into the room of a name.
use mathlib.Core.Path.{◌≡◌, refl}
use mathlib.Core.List.{List, [], ◌++◌}
use Prim.Native.Nat.{ℕ, ◌+◌, ◌≤◌, ◌<◌}
use lib.ListN.{length, take, drop, length-append}
use lib.Seq.{take_at}
use borrow.Author.Tests.{le-leb, lt-leb}
use Rattle.base.specs.Bytes.{written}
use Rattle.files.specs.Names.{beside}

pub beside-none : (proof ending : List ℕ) → 4095 < length proof + length ending → [] ≡ beside proof ending
unfolding beside
beside-none proof ending h = rw (lt-leb (length proof + length ending) 4095 h)

pub beside-laid :
    (text once twice proof ending : List ℕ) → length proof + length ending ≤ 4095 → once ≡ written text 0 proof
    → twice ≡ written once (length proof) ending
    → take (length proof + length ending) twice ≡ beside proof ending
unfolding beside written
beside-laid text once twice proof ending h e f =
    let front : take (length proof) once ≡ proof = rw e (take_at proof (drop (0 + length proof) text) (length proof) refl) in
    rw (le-leb (length proof + length ending) 4095 h, f, front)
    (take_at (proof ++ ending) (drop (length proof + length ending) once) (length proof + length ending) (length-append proof ending))
