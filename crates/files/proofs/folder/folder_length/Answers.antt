-- `files::folder::folder_length` meets its contract.
use mathlib.Core.Path.{refl, ◌∙◌}
use native.Mathlib.Omega.{arith}
use borrow.Author.Tests.{eq-eqb, ne_eqb}
use Rattle.files.specs.Folder.{folder_in}
use Rattle.files.proofs.FolderLaws.{next-folder, folder-le, whole-folder}
use Rattle.files.proofs.folder.folder_length.Goals as goal
use Rattle.files.proofs.folder.folder_length.Goals.{then-byte-eq47, else-byte-eq47}

pub loop-i-init : goal.loop-i-init
unfolding folder_in
loop-i-init c = refl

pub loop-i-preserved : goal.loop-i-preserved
loop-i-preserved c =
    let l = c.loop-i in
    elim c.if-byte-eq47.branch [
      | then-byte-eq47 w ↦ next-folder l.i l.end _ c.args.path.now l.invariant (w.end-is ∙ rw (eq-eqb _ 47 w.if-byte-eq47.true))
      | else-byte-eq47 w ↦ next-folder l.i l.end _ c.args.path.now l.invariant (w.end-is ∙ rw (ne_eqb _ 47 w.if-byte-eq47.false))
    ]

pub returns-clause-value : goal.returns-clause-value
returns-clause-value c =
    whole-folder _ _ _ c.loop-i.invariant (omega (arith, c.loop-i.auto.i-end, c.loop-i-test.false))

pub returns-clause-bound : goal.returns-clause-bound
returns-clause-bound c =
    let path = c.args.path.now in
    omega (arith, folder-le c.loop-i.i path, c.loop-i.invariant, c.loop-i.auto.i-end)
