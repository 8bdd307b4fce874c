-- Document 01's hash input: its length, and that the parents' labels stand in it whole and can be read back.
use mathlib.Core.Path.{◌≡◌}
use Prim.Native.Nat.{ℕ, ◌+◌, ◌*◌, ◌<◌}
use native.Mathlib.Omega.{arith}
use mathlib.Core.List.{List, [], ◌++◌, append_cancel_left}
use lib.ListN.{length, take, drop, get_or, length-append}
use lib.Seq.{drop-append-add}
use Rattle.base.specs.Bytes.{joined}
use Rattle.base.specs.Lists.{EachOf}
use Rattle.base.proofs.BytesLaws.{length-big_endian, length-joined, joined-injective, joined_at}
use Rattle.tree.specs.Nodes.{Node}
use Rattle.tree.specs.Labels.{Label, ordered, input_head, document_input}
use Rattle.tree.specs.Rules.{document_rule, Readable, Whole}
use Rattle.tree.proofs.Ordered.{ordered-length, ordered-injective, ordered-each}

module _ (edition n : ℕ) (statement : List ℕ) (size : length statement ≡ 32) (v : Node) where
  pub length-head : length (input_head edition n statement v) ≡ 41
  unfolding input_head
  length-head = simp (length-append, length-big_endian) (omega arith)

  pub length-input :
      (labels : List Label) → EachOf 32 labels → length (document_input edition n statement v labels) ≡ 41 + 32 * length labels
  unfolding document_input
  length-input labels each =
      rw (length-append, length-head, length-joined 32 (ordered edition labels) (ordered-each edition 32 labels each), ordered-length)

  -- the label of number i, from 0, in the order hashed
  pub label-in-input :
      (labels : List Label) → EachOf 32 labels → (i : ℕ) → i < length labels →
      take 32 (drop (41 + 32 * i) (document_input edition n statement v labels)) ≡ get_or (ordered edition labels) i []
  unfolding document_input
  label-in-input labels each i h =
      let head : List ℕ = input_head edition n statement v in
      let xs : List Label = ordered edition labels in
      let there : take 32 (drop (length head + 32 * i) (head ++ joined xs)) ≡ get_or xs i [] =
      rw drop-append-add (joined_at 32 xs (ordered-each edition 32 labels each) i (rw ordered-length h)) in
      rw length-head at there

-- Different labels give different inputs.
pub input-injective :
    (edition n : ℕ) (statement : List ℕ) (v : Node) (xs ys : List Label) → length xs ≡ length ys → EachOf 32 xs → EachOf 32 ys →
    document_input edition n statement v xs ≡ document_input edition n statement v ys → xs ≡ ys
unfolding document_input
input-injective edition n statement v xs ys count s t e =
    let hashed : List Label = ordered edition xs in
    let hashed₂ : List Label = ordered edition ys in
    ordered-injective edition xs ys
    (joined-injective 32 hashed hashed₂ (rw (ordered-length edition xs, ordered-length edition ys) count)
    (ordered-each edition 32 xs s) (ordered-each edition 32 ys t)
    (append_cancel_left (input_head edition n statement v) (joined hashed) (joined hashed₂) e))

module _ (edition n : ℕ) (statement : List ℕ) (hash : List ℕ → Label) where
  pub document-readable : Readable (document_rule edition n statement hash)
  document-readable = record { read_back = input-injective edition n statement }

  pub document-whole : length statement ≡ 32 → Whole edition (document_rule edition n statement hash)
  document-whole size = record { whole = label-in-input edition n statement size }
