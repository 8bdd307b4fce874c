-- Document 01's rule of a label over SHA-256, in an edition's tree of depth n.
use Rattle.std.specs.Prelude.{ℕ, List}
use Rattle.sha256.specs.Digest.{digest}
use Rattle.tree.specs.Labels.{Rule}
use Rattle.tree.specs.Rules.{document_rule}

abbrev pub stamp_rule : ℕ → ℕ → List ℕ → Rule
stamp_rule edition n statement = document_rule edition n statement digest
