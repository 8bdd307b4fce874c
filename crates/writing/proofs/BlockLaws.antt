-- The blocks of a writing's labels are those of the opening under way. The file plays no part: which node is next and what is hashed for
-- it do not depend on the file's bytes.
use mathlib.Core.Path.{◌≡◌, refl, ap, ap₂, ◌∙◌}
use mathlib.Core.Bool.{false}
use mathlib.Core.List.{List}
use Prim.Native.Nat.{ℕ, zero, suc, ◌+◌, ◌≤◌, ◌<◌}
use native.Mathlib.Omega.{arith}
use borrow.Author.Tests.{ne_eqb}
use Rattle.machine.specs.Machines as machines
use Rattle.opening.specs.Rows.{nodes_anew}
use Rattle.opening.specs.Steps as openings
use Rattle.opening.specs.Names.{open_of}
use Rattle.writing.specs.declared.Writing.{Writing}
use Rattle.writing.specs.Possible.{writing_of, written_of}
use Rattle.writing.specs.Steps.{Written, may_follow, stepped, writing_machine, steps, blocks_over}
use Rattle.writing.proofs.OpenLaws.{made_after, anew-kept}
use Rattle.writing.proofs.StepLaws.{followed-stays}

-- one label that is not the opening's last, with any output in place of the opening's part of the file
label-under :
    (store : List ℕ) (w : Writing) (file out : List ℕ)
    → may_follow (writing_of w.root w.count w.number (openings.stepped store (open_of w.opening out)).opening) ≡ false
    → (stepped store (written_of w file)).writing
    ≡ writing_of w.root w.count w.number (openings.stepped store (open_of w.opening out)).opening
unfolding stepped openings.stepped
label-under store w file out under = ap (λ (s : Written). s.writing) (followed-stays store w.count _ under)

module _ (store : List ℕ) (s : Written) (out : List ℕ) where
  abbrev w : Writing
  w = s.writing

  abbrev anew : ℕ
  anew = nodes_anew w.opening.depth w.opening.memory

  abbrev start : openings.Open
  start = open_of w.opening out

  abbrev under : ℕ → Writing
  under k = writing_of w.root w.count w.number (openings.steps store k start).opening

  none-follows : (k : ℕ) → w.opening.made + k < anew → may_follow (under k) ≡ false
  none-follows k few =
      rw (ne_eqb (under k).opening.made (nodes_anew (under k).opening.depth (under k).opening.memory)
      (λ e. omega (arith, made_after store start k, anew-kept store start k)))

  -- the writing while its opening has labels left
  pub writing-under : (k : ℕ) → w.opening.made + k < anew → (steps store k s).writing ≡ under k
  unfolding machines.steps writing_machine openings.opening_machine
  writing-under zero few = refl
  writing-under (suc k) few =
      ap (λ (v : Writing). (stepped store (written_of v (steps store k s).file)).writing) (writing-under k (omega arith))
      ∙ label-under store (under k) (steps store k s).file (openings.steps store k start).out (none-follows (suc k) few)

  pub blocks-under : (k : ℕ) → w.opening.made + k ≤ anew → blocks_over store k s ≡ openings.blocks_over store k start
  unfolding machines.cost_of
  blocks-under zero few = refl
  blocks-under (suc k) few =
      ap₂ (λ (a b : ℕ). a + b) (blocks-under k (omega arith))
      (ap (λ (v : Writing). openings.next_blocks_of store v.opening) (writing-under k (omega arith)))
