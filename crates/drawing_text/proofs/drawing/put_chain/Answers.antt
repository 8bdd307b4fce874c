-- `drawing_text::drawing::put_chain` meets its contract: a drawn chain is the plan of the opened leaves.
use Rattle.std.proofs.Common.{◌≡◌, ℕ, ◌<◌, List, get_or, refl, sym, ◌∙◌, Result, Ok, Err}
use Rattle.std.specs.Result.{IsOk}
use Rattle.base.specs.Limits.{max_chain}
use Rattle.base.specs.declared.refusal.Refusal.{Refusal}
use Rattle.file_head.specs.declared.sizes.Head.{Head}
use Rattle.file_head.specs.Head.{head_answer, head_of}
use Rattle.proof_file.specs.FileCheck.{file_check}
use Rattle.planning.proofs.AnswerLaws.{done-wrote}
use Rattle.draw.proofs.AcceptedFile.{no_refusal, size-read, leaves-read}
use Rattle.drawing_text.proofs.ChainLaws.{file-accepted, plan-done}
use Rattle.drawing_text.proofs.drawing.put_chain.Goals as goal

-- the head of an accepted file is read
is-read : (bytes statement : List ℕ) (n t : ℕ) → ((j : ℕ) → get_or bytes j 0 < 256) → file_check bytes statement n t ≡ 0
    → (r : Result Head Refusal) → head_answer r ≡ head_of bytes → IsOk r
is-read bytes statement n t small ok (Ok head) e = refl
is-read bytes statement n t small ok (Err why) e = absurd (no_refusal bytes statement n t small ok why e)

pub unwrap-head-requires : goal.unwrap-head-requires
unwrap-head-requires c =
    let a = c.args in
    is-read a.file.now a.statement a.depth a.count (λ j. (c.type_inv.file j).fits)
    (file-accepted a.file.now a.statement a.depth a.count max_chain _ c.requires.0) _ c.read_head.ensures

pub opened_leaves-leaves-requires-clause-whole : goal.opened_leaves-leaves-requires-clause-whole
opened_leaves-leaves-requires-clause-whole c =
    let a = c.args in
    let head = c.unwrap-head.result in
    size-read a.file.now a.statement a.depth a.count (λ j. (c.type_inv.file j).fits)
    (file-accepted a.file.now a.statement a.depth a.count max_chain _ c.requires.0) head.edition head.depth head.count head.end
    (rw c.unwrap-head.ensures at c.read_head.ensures)

-- the leaves that are planned

pub put_plan-requires : goal.put_plan-requires
put_plan-requires c =
    let a = c.args in
    let head = c.unwrap-head.result in
    let leaves =
    leaves-read a.file.now a.statement a.depth a.count (λ j. (c.type_inv.file j).fits)
    (file-accepted a.file.now a.statement a.depth a.count max_chain _ c.requires.0) head.edition head.depth head.count head.end
    (rw c.unwrap-head.ensures at c.read_head.ensures) _ c.opened_leaves-leaves.ensures in
    (plan-done a.file.now a.statement a.depth a.count max_chain _ c.requires.0 (λ j. (c.type_inv.file j).fits) _ leaves, (c.requires.1 ∙ rw (sym leaves), c.requires.2))

pub returns : goal.returns
returns c =
    let a = c.args in
    let head = c.unwrap-head.result in
    let leaves =
    leaves-read a.file.now a.statement a.depth a.count (λ j. (c.type_inv.file j).fits)
    (file-accepted a.file.now a.statement a.depth a.count max_chain _ c.requires.0) head.edition head.depth head.count head.end
    (rw c.unwrap-head.ensures at c.read_head.ensures) _ c.opened_leaves-leaves.ensures in
    rw (sym leaves) (done-wrote _ _ _ _ _ (plan-done a.file.now a.statement a.depth a.count max_chain _ c.requires.0 (λ j. (c.type_inv.file j).fits) _ leaves) c.put_plan.ensures)
