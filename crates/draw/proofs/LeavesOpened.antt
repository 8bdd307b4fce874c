-- The leaves of a proof's challenges: written one after another, their count, and that they are leaves.
use mathlib.Core.Path.{◌≡◌, refl, sym, ap, ◌∙◌}
use Prim.Native.Nat.{ℕ, zero, suc, ◌+◌, ◌-◌, ◌^◌, ◌≤◌, ◌<◌}
use native.Mathlib.Numerals.{add-one}
use native.Mathlib.Omega.{arith}
use mathlib.Core.Bool.{true}
use mathlib.Core.List.{List, [], ◌∷◌, ◌++◌, append-nil}
use borrow.Author.Tests.{lt-ltb}
use lib.ListN.{length, take, drop, set}
use lib.Seq.{take-suc-set, append_snoc, drop-set-lt, drop-drop}
use Rattle.base.specs.Choice.{every}
use Rattle.base.specs.Limits.{max_depth, max_challenges}
use Rattle.base.specs.Bytes.{zeros}
use Rattle.base.proofs.Zeros.{drop-zeros}
use Rattle.chain_theory.specs.Planning.{is_leaf}
use Rattle.chain_theory.proofs.Lists.{every-both}
use Rattle.file_head.specs.Challenge.{challenge_leaf}
use Rattle.file_head.proofs.Leaves.{challenge_leaf-small}
use Rattle.draw.specs.Drawing.{leaves_from}

module _ (edition n : ℕ) (statement root : List ℕ) where
  pub length-leaves : (i left : ℕ) → length (leaves_from edition n statement root i left) ≡ left
  unfolding leaves_from
  length-leaves i zero = refl
  length-leaves i (suc left) = ap suc (length-leaves (i + 1) left)

  pub leaves-inside : n ≤ max_depth → (i left : ℕ) → every (is_leaf n) (leaves_from edition n statement root i left) ≡ true
  unfolding leaves_from is_leaf
  leaves-inside small i zero = unfold every in refl
  leaves-inside small i (suc left) =
      every-both (is_leaf n) (challenge_leaf edition n statement root i) (leaves_from edition n statement root (i + 1) left)
      (lt-ltb (challenge_leaf edition n statement root i) (2 ^ n) (challenge_leaf-small edition n statement root i (omega arith)))
      (leaves-inside small (i + 1) left)

  -- leaves written one after another, of which the rest are still to come
  module _ (count : ℕ) where
    pub leaves_none : leaves_from edition n statement root 1 (count - 0) ≡ leaves_from edition n statement root 1 count
    leaves_none = let all : count - 0 ≡ count = omega arith in rw all

    pub leaves-more :
        (leaves : List ℕ) (i leaf : ℕ) → i < count → i < length leaves → leaf ≡ challenge_leaf edition n statement root (i + 1)
        → take i leaves ++ leaves_from edition n statement root (i + 1) (count - i) ≡ leaves_from edition n statement root 1 count
        → take (i + 1) (set leaves i leaf) ++ leaves_from edition n statement root (i + 1 + 1) (count - (i + 1))
        ≡ leaves_from edition n statement root 1 count
    unfolding leaves_from
    leaves-more leaves i leaf h k here before =
        let more : count - i ≡ suc (count - (i + 1)) = omega arith in
        let first : take (i + 1) (set leaves i leaf) ≡ take i leaves ++ (leaf ∷ []) = rw (add-one i) (take-suc-set leaves i leaf k) in
        rw (first, append_snoc, here) (rw more at before)

    pub leaves_all : (leaves : List ℕ) (i : ℕ) → i ≡ count
        → take i leaves ++ leaves_from edition n statement root (i + 1) (count - i) ≡ leaves_from edition n statement root 1 count
        → take count leaves ≡ leaves_from edition n statement root 1 count
    unfolding leaves_from
    leaves_all leaves i all e =
        let none : count - i ≡ 0 = omega arith in
        sym (append-nil (take count leaves)) ∙ (rw (none, all) at e)

-- the places behind them stay zero
pub zeros-more :
    (leaves : List ℕ) (i leaf : ℕ) → i < max_challenges → drop i leaves ≡ zeros (max_challenges - i)
    → drop (i + 1) (set leaves i leaf) ≡ zeros (max_challenges - (i + 1))
zeros-more leaves i leaf h before =
    let e : max_challenges - i - 1 ≡ max_challenges - (i + 1) = omega arith in
    drop-set-lt (i + 1) leaves i leaf (omega arith)
    ∙ sym (drop-drop 1 i leaves)
    ∙ ap (λ (l : List ℕ). drop 1 l) before
    ∙ drop-zeros (max_challenges - i) 1 (omega arith)
    ∙ ap zeros e
