-- Document 01, 'The store keeps levels 0 to m': no two labels share a byte, each lies inside the store, and no store is longer than the longest.
use mathlib.Core.Path.{◌≡◌, refl}
use mathlib.Core.Logic.{◌⊎◌, inl, inr}
use Prim.Native.Nat.{ℕ, suc, ◌+◌, ◌^◌, ◌≤◌, ◌<◌}
use native.Mathlib.Numerals.{add-one}
use native.Mathlib.Omega.{arith}
use mathlib.Core.Bool.{Bool, true, false}
use lib.Dec.{ltb}
use lib.Pow.{pow_pos, pow_mono}
use borrow.Author.Tests.{ltb-true, ltb-false}
use Rattle.base.specs.Limits.{max_memory, max_store}
use Rattle.tree.specs.Nodes.{Node, node, InTree}
use Rattle.tree.specs.Store.{slot, store_size}

-- a whole level lies before the next one's first slot
slot-level : (v w : Node) → v.position < 2 ^ v.level → v.level < w.level → slot v + 32 ≤ slot w
slot-level v w inside lower =
    let a : 2 ^ suc v.level ≤ 2 ^ w.level = pow_mono {i = suc v.level} {j = w.level} lower in
    omega (arith, pow_pos v.level, pow_pos w.level)

slot-position : (l p q : ℕ) → p < q → slot (node l p) + 32 ≤ slot (node l q)
slot-position l p q less = omega arith

pub slots_apart :
    (v w : Node) → v.position < 2 ^ v.level → w.position < 2 ^ w.level → (v ≡ w → ⊥)
    → (slot v + 32 ≤ slot w) ⊎ (slot w + 32 ≤ slot v)
slots_apart v w a b differ = levels (ltb v.level w.level) (ltb w.level v.level) refl refl
  where
    positions :
        (s t : Bool) → ltb v.position w.position ≡ s → ltb w.position v.position ≡ t → v.level ≡ w.level
        → (slot v + 32 ≤ slot w) ⊎ (slot w + 32 ≤ slot v)
    positions true t e f g =
        inl (rw g (slot-position w.level v.position w.position (ltb-true v.position w.position e)))
    positions false true e f g =
        inr (rw g (slot-position w.level w.position v.position (ltb-true w.position v.position f)))
    positions false false e f g =
        let h : v.position ≡ w.position =
        omega (arith, ltb-false v.position w.position e, ltb-false w.position v.position f) in
        let r : node v.level v.position ≡ node w.level w.position = rw (g, h) in
        absurd (differ r)

    levels :
        (s t : Bool) → ltb v.level w.level ≡ s → ltb w.level v.level ≡ t
        → (slot v + 32 ≤ slot w) ⊎ (slot w + 32 ≤ slot v)
    levels true t e f = inl (slot-level v w a (ltb-true v.level w.level e))
    levels false true e f = inr (slot-level w v b (ltb-true w.level v.level f))
    levels false false e f =
        positions (ltb v.position w.position) (ltb w.position v.position) refl refl
        (omega (arith, ltb-false v.level w.level e, ltb-false w.level v.level f))

pub slot-inside : (m : ℕ) (v : Node) → InTree m v → slot v + 32 ≤ store_size m
slot-inside m v in_tree =
    let a : 2 ^ v.level ≤ 2 ^ m = pow_mono {i = v.level} {j = m} in_tree.0 in
    rw (add-one m) (omega (arith, pow_pos v.level, in_tree.1))

-- 'no run needs a store over 1,048,544 bytes' (W-209)
pub store-fits : (m : ℕ) → m ≤ max_memory → store_size m ≤ max_store
store-fits m low = omega (arith, pow_mono {i = m + 1} {j = max_memory + 1} (omega arith))
