-- Document 01's rule of labels, and what a theorem may ask of any rule.
use Rattle.std.specs.Prelude.{◌≡◌, ℕ, ◌+◌, ◌*◌, ◌<◌, List, [], length, take, drop, get_or}
use Rattle.base.specs.Lists.{EachOf}
use Rattle.tree.specs.Nodes.{Node}
use Rattle.tree.specs.Labels.{Label, Rule, ordered, document_input}

-- document 01's layout in an edition's tree of depth n, with any hash
abbrev pub document_rule : ℕ → ℕ → List ℕ → (List ℕ → Label) → Rule
document_rule edition n statement hash = record { input = document_input edition n statement; hash = hash }

-- different labels give different inputs, where labels have 32 bytes
pub record Readable (r : Rule) : Type 0 where
  pub read_back : (v : Node) (xs ys : List Label) → length xs ≡ length ys → EachOf 32 xs → EachOf 32 ys → r.input v xs ≡ r.input v ys → xs ≡ ys

-- each parent's label stands whole in the input, after the first 41 bytes, at its place in the order hashed
pub record Whole (edition : ℕ) (r : Rule) : Type 0 where
  pub whole :
      (v : Node) (xs : List Label) → EachOf 32 xs → (i : ℕ) → i < length xs →
      take 32 (drop (41 + 32 * i) (r.input v xs)) ≡ get_or (ordered edition xs) i []

-- the hash gives 32 bytes
pub record Hash32 (r : Rule) : Type 0 where
  pub hash_length : (x : List ℕ) → length (r.hash x) ≡ 32
