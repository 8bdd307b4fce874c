-- W-206: a file under writing keeps its edition: it is begun with the one it is started with, the openings that follow are of the same, and
-- steps and calls leave it as it is, whatever the state.
use mathlib.Core.Path.{◌≡◌, refl}
use mathlib.Core.Bool.{Bool, true, false}
use mathlib.Core.List.{List}
use Prim.Native.Nat.{ℕ, zero, suc, ◌+◌}
use Rattle.base.specs.Choice.{pick}
use Rattle.machine.specs.Calls.{after_calls}
use Rattle.machine.proofs.CallLaws.{calls-keep}
use Rattle.opening.specs.declared.Opening.{Opening}
use Rattle.opening.specs.Steps as openings
use Rattle.writing.specs.declared.Writing.{Writing}
use Rattle.writing.specs.Steps.{Written, begun, may_follow, followed, new_writing, stepped, writing_machine, advanced}

abbrev of_writing : Written → ℕ
of_writing s = s.writing.opening.edition

-- of two writings of one edition either is
one_of : (follows : Bool) (s t : Written) → of_writing t ≡ of_writing s → of_writing (pick follows t s) ≡ of_writing s
one_of true s t e = e
one_of false s t e = refl

followed-keeps : (store : List ℕ) (left : ℕ) (s : Written) → of_writing (followed store left s) ≡ of_writing s
unfolding followed begun
followed-keeps store zero s = refl
followed-keeps store (suc left) s =
    let w : Writing = s.writing in
    let o : Opening = w.opening in
    let next : Written = begun o.edition o.statement w.root o.depth o.memory w.count store (w.number + 1) s.file in
    one_of (may_follow w) s (followed store left next) (followed-keeps store left next)

pub new-edition :
    (edition : ℕ) (statement root : List ℕ) (n m t : ℕ) (store file : List ℕ)
    → (new_writing edition statement root n m t store file).writing.opening.edition ≡ edition
unfolding new_writing begun
new-edition edition statement root n m t store file = followed-keeps store t _

module _ (store : List ℕ) where
  writing-step-keeps : (s : Written) → of_writing ((writing_machine store).step s) ≡ of_writing s
  unfolding writing_machine stepped openings.stepped
  writing-step-keeps s = followed-keeps store s.writing.count _

  pub writing-calls-keep-edition :
      (budgets : List ℕ) (s : Written) → (after_calls (advanced store) s budgets).writing.opening.edition ≡ s.writing.opening.edition
  writing-calls-keep-edition = calls-keep (writing_machine store) of_writing writing-step-keeps
