-- A list behind a part written over it, and a list read part by part.
use mathlib.Core.Path.{◌≡◌, refl, sym, ap, ◌∙◌}
use mathlib.Core.Logic.{inr}
use Prim.Native.Nat.{ℕ, suc, ◌+◌, ◌*◌, ◌≤◌, ◌<◌}
use native.Mathlib.Nat.{mul-suc, mul-zero, add_comm}
use native.Mathlib.Omega.{arith}
use mathlib.Core.List.{List, [], ◌∷◌, ◌++◌, append_assoc}
use lib.ListN.{length, take, drop, get_or, length-drop, take-append-drop}
use lib.Seq.{take_all, drop-drop}
use Rattle.base.specs.Bytes.{joined, written}
use Rattle.base.proofs.Copying.{length-written}
use Rattle.base.proofs.WrittenLaws.{written_apart}

pub written_behind :
    (bytes part : List ℕ) (at from : ℕ) → at + length part ≤ length bytes → at + length part ≤ from
    → drop from (written bytes at part) ≡ drop from bytes
written_behind bytes part at from fits behind =
    let whole : (l : List ℕ) → length l ≡ length bytes → take (length bytes) (drop from l) ≡ drop from l =
    λ l e. take_all (length bytes) (drop from l) (rw length-drop (omega arith)) in
    sym (whole (written bytes at part) (length-written bytes at part fits))
    ∙ written_apart bytes part at fits from (length bytes) (inr behind)
    ∙ whole bytes refl

-- A list that has the parts of xs, each of w, one after the other, is these and what lies behind them.
pub joined-whole :
    (w : ℕ) (xs : List (List ℕ)) (d : List ℕ) → ((i : ℕ) → i < length xs → take w (drop (w * i) d) ≡ get_or xs i [])
    → d ≡ joined xs ++ drop (w * length xs) d
unfolding joined
joined-whole w [] d each = rw mul-zero
joined-whole w (x ∷ xs) d each =
    let first : take w d ≡ x = rw mul-zero at (each 0 (omega arith)) in
    let next : (k : ℕ) → drop (w * k) (drop w d) ≡ drop (w * suc k) d = λ k. rw (drop-drop, mul-suc, add_comm w (w * k)) in
    let rest : drop w d ≡ joined xs ++ drop (w * length xs) (drop w d) =
    joined-whole w xs (drop w d) (λ i small. rw next (each (suc i) (omega arith))) in
    sym (take-append-drop w d) ∙ rw (first, append_assoc) (ap (λ l. x ++ l) (rest ∙ rw next))
