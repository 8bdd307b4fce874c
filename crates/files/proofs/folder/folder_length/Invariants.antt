-- The invariant: the folder of the bytes so far.
use mathlib.Core.Path.{◌≡◌}
use Rattle.files.specs.Folder.{folder_in}
use Rattle.files.proofs.folder.folder_length.Given as goal

abbrev pub invariant-loop-i : goal.invariant-loop-i
invariant-loop-i l = l.end ≡ folder_in l.i l.path
