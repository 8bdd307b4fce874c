-- Lines after one another, where both are short.
use mathlib.Core.Path.{◌≡◌, ap, ◌∙◌}
use Prim.Native.Nat.{ℕ, ◌≤◌}
use native.Mathlib.Omega.{arith}
use mathlib.Core.List.{List, [], ◌++◌}
use lib.ListN.{length}
use Rattle.lines.specs.Line.{added}
use Rattle.lines.proofs.LineLaws.{added-fits}

pub two : {all line next a b : List ℕ} → all ≡ added line next → line ≡ a → next ≡ b → length a ≤ 4000 → length b ≤ 4000 → all ≡ a ++ b
two {all} {line} {next} {a} {b} e p q h k =
    e ∙ ap (λ (l : List ℕ). added l next) p ∙ ap (added a) q ∙ added-fits a b (omega arith)

pub one : {line none text : List ℕ} → none ≡ [] → line ≡ added none text → length text ≤ 1000 → line ≡ text
one {line} {none} {text} e p h = p ∙ ap (λ (l : List ℕ). added l text) e ∙ added-fits [] text (omega arith)
