-- The folder of a path, byte by byte.
use mathlib.Core.Path.{◌≡◌, ◌∙◌}
use Prim.Native.Nat.{ℕ, zero, suc, ◌+◌, ◌≤◌}
use native.Mathlib.Numerals.{add-one}
use native.Mathlib.Omega.{arith}
use mathlib.Core.Bool.{Bool, true, false}
use mathlib.Core.List.{List}
use lib.Dec.{eqb}
use lib.ListN.{length, get_or}
use Rattle.base.specs.Choice.{pick}
use Rattle.files.specs.Folder.{folder_in, folder_length}

pub next-folder :
    (i end next : ℕ) (path : List ℕ) → end ≡ folder_in i path → next ≡ pick (eqb (get_or path i 0) 47) (i + 1) end
    → next ≡ folder_in (i + 1) path
unfolding folder_in
next-folder i end next path e n = n ∙ rw (e, add-one i)

pick-le : (t : Bool) (x y z : ℕ) → x ≤ z → y ≤ z → pick t x y ≤ z
pick-le true x y z h k = h
pick-le false x y z h k = k

pub folder-le : (k : ℕ) (path : List ℕ) → folder_in k path ≤ k
unfolding folder_in
folder-le zero path = omega arith
folder-le (suc k) path = pick-le (eqb (get_or path k 0) 47) (suc k) (folder_in k path) (suc k) (omega arith) (omega (arith, folder-le k path))

pub whole-folder : (i end : ℕ) (path : List ℕ) → end ≡ folder_in i path → i ≡ length path → end ≡ folder_length path
unfolding folder_length
whole-folder i end path e all = e ∙ rw all
