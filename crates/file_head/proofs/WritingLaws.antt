-- Laws of writing the head: the numbers in their groups, part after part over the front of the output, and all of it by the row's answer.
use mathlib.Core.Path.{◌≡◌}
use mathlib.Core.List.{List, ◌++◌}
use Prim.Native.Nat.{ℕ, ◌+◌, ◌/◌, ◌≤◌, ◌<◌}
use native.Mathlib.Omega.{arith}
use lib.ListN.{length, length-append}
use Rattle.base.specs.Limits.{max_depth, max_challenges}
use Rattle.base.specs.Bytes.{written}
use Rattle.base.proofs.WrittenLaws.{written-three}
use Rattle.groups.specs.Groups.{groups, groups_of, max_groups}
use Rattle.groups.proofs.Steps.{groups-last, groups-more}
use Rattle.groups.proofs.Sizes.{groups-same}
use Rattle.file_head.specs.Layout.{head_numbers, head, head_size, file_size}
use Rattle.file_head.specs.Head.{length_from}

-- ---- a number in at most two groups
pub two-enough : (x : ℕ) → x < 16384 → groups_of x ≡ groups 2 x
two-enough x small = groups-same max_groups 2 x (omega arith) (omega arith) (omega arith) (omega arith)

one-group : (x : ℕ) → x < 128 → length (groups 2 x) ≡ 1
one-group x h = rw (groups-last 1 x h)

two-groups : (x : ℕ) → 128 ≤ x → x < 16384 → length (groups 2 x) ≡ 2
two-groups x m h = rw (groups-more 1 x m, groups-last 0 (x / 128) (omega arith))

pub numbers-length : (edition n t : ℕ)
    → length (head_numbers edition n t) ≡ length (groups 2 edition) + length (groups 2 n) + length (groups 2 t)
unfolding head_numbers
numbers-length edition n t = rw (length-append, length-append)

-- an edition in one byte
pub size-numbers : (edition n t : ℕ) → edition < 128 → length (head_numbers edition n t) + 64 ≡ head_size n t
size-numbers edition n t small = rw (numbers-length edition n t, one-group edition small)

module _ (n t : ℕ) (small : n ≤ max_depth) where
  pub size-three : t < 128 → length_from n t 3 ≡ file_size n t
  unfolding file_size
  size-three h = rw (one-group n (omega arith), one-group t h)

  pub size-four : 128 ≤ t → t ≤ max_challenges → length_from n t 4 ≡ file_size n t
  unfolding file_size
  size-four m h = rw (one-group n (omega arith), two-groups t m (omega arith))

-- a file that fits has a head that fits
pub head-fits : (n t room : ℕ) → file_size n t ≤ room → head_size n t ≤ room
unfolding file_size
head-fits n t room h = omega arith

-- the three numbers, each in as many groups as it takes
module _ (edition n t : ℕ) (small : edition < 128) (depth : n ≤ max_depth) (count : t ≤ max_challenges) where
  numbers-are : head_numbers edition n t ≡ groups_of edition ++ groups_of n ++ groups_of t
  unfolding head_numbers
  numbers-are = rw (two-enough edition (omega arith), two-enough n (omega arith), two-enough t (omega arith))

  pub numbers-size : length (head_numbers edition n t) ≡ length (groups_of edition) + length (groups_of n) + length (groups_of t)
  numbers-size = rw (numbers-are, length-append, length-append)

  pub numbers-put : (out o1 o2 o3 : List ℕ) (second third : ℕ) → o1 ≡ written out 0 (groups_of edition)
      → o2 ≡ written o1 second (groups_of n) → o3 ≡ written o2 third (groups_of t)
      → second ≡ length (groups_of edition) → third ≡ second + length (groups_of n) → o3 ≡ written out 0 (head_numbers edition n t)
  numbers-put out o1 o2 o3 second third e1 e2 e3 s2 s3 =
      rw numbers-are (written-three out (groups_of edition) (groups_of n) (groups_of t) o1 o2 o3 second third e1 e2 e3 s2 s3)

pub head-put : (edition : ℕ) (statement root : List ℕ) (n t : ℕ) (out o1 o2 o3 : List ℕ) (at : ℕ) → length statement ≡ 32
    → at ≡ length (head_numbers edition n t)
    → o1 ≡ written out 0 (head_numbers edition n t) → o2 ≡ written o1 at statement → o3 ≡ written o2 (at + 32) root → o3 ≡ written out 0
    (head edition statement root n t)
unfolding head
head-put edition statement root n t out o1 o2 o3 at s a e1 e2 e3 =
    written-three out (head_numbers edition n t) statement root o1 o2 o3 at (at + 32) e1 e2 e3 a (rw s)
