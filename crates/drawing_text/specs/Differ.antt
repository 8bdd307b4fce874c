-- Refusal 9 in words: what of a file is not as wanted, one line each.
use Rattle.std.specs.Prelude.{ℕ, Bool, List, [], ◌++◌, eqb}
use Rattle.base.specs.Choice.{pick}
use Rattle.decimal.specs.Ascii.{ascii}
use Rattle.decimal.specs.Text.{field}
use Rattle.drawing_text.specs.declared.Found.{Found}

unfoldable pub report_text : Bool → List ℕ
report_text same = pick same [] (ascii "the proof is not of this report\n")

-- a number and the one wanted, each after its words; nothing where they are the same
unfoldable pub other_text : List ℕ → ℕ → List ℕ → ℕ → List ℕ
other_text a x b y = pick (eqb x y) [] (field a x ++ field b y ++ ascii "\n")

unfoldable pub depth_text : ℕ → ℕ → List ℕ
depth_text own n = other_text (ascii "the proof's depth is ") own (ascii ", not ") n

unfoldable pub count_text : ℕ → ℕ → List ℕ
count_text own t = other_text (ascii "the proof has ") own (ascii " challenges, not ") t

-- by the depth and count wanted
unfoldable pub differ_text : Found → ℕ → ℕ → List ℕ
differ_text found n t = report_text found.same_report ++ depth_text found.depth n ++ count_text found.count t
