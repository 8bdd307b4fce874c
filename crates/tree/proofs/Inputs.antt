-- The hash inputs of edition 2 written out, for a reader who does not want `ordered`: an inner node's, and that of a leaf with three parents.
use mathlib.Core.Path.{◌≡◌}
use Prim.Native.Nat.{ℕ}
use mathlib.Core.List.{List, [], ◌∷◌, ◌++◌, append-nil}
use Rattle.base.specs.Bytes.{big_endian, joined}
use Rattle.tree.specs.Nodes.{Node}
use Rattle.tree.specs.Labels.{Label, ordered, tag, input_head, document_input}

module _ (n : ℕ) (statement : List ℕ) where
  -- right child before left
  pub right-before-left :
      (v : Node) (left right : Label)
      → document_input 2 n statement v (left ∷ right ∷ []) ≡ statement ++ v.level ∷ big_endian 8 v.position ++ (right ++ left)
  unfolding document_input ordered input_head tag joined
  right-before-left v left right = rw append-nil

  -- the largest level first
  pub largest-level-first :
      (v : Node) (first second third : Label)
      → document_input 2 n statement v (first ∷ second ∷ third ∷ [])
      ≡ statement ++ v.level ∷ big_endian 8 v.position ++ (third ++ (second ++ first))
  unfolding document_input ordered input_head tag joined
  largest-level-first v first second third = rw append-nil
