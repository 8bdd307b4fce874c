-- `labelling::rule::Tree::label` meets its contract: the number of parents gives the length of the input, and zeros follow it.
use mathlib.Core.Path.{◌≡◌, refl, ap, ◌∙◌}
use Prim.Native.Nat.{ℕ, ◌+◌, ◌-◌, ◌*◌}
use mathlib.Core.List.{List, ◌++◌}
use native.Mathlib.Omega.{arith}
use borrow.Author.Rules.{rules}
use lib.ListN.{length, take}
use Rattle.base.specs.Bytes.{zeros}
use Rattle.sha256.specs.Digest.{digest}
use Rattle.tree.specs.Nodes.{node}
use Rattle.tree.specs.Labels.{document_input, in_labels}
use Rattle.labelling.specs.Buffer.{input_space}
use Rattle.labelling.proofs.Filled.{input-length, front_of}
use Rattle.labelling.proofs.rule.Tree.label.Goals as goal

pub put_input-requires : goal.put_input-requires
put_input-requires c =
    record {
      level_le_depth = (c.requires.level_le_depth.0, c.requires.level_le_depth.1, c.requires.rest_len.1, omega (arith, c.requires.rest_len));
      input_value = (refl, omega (arith, c.requires));
    }

abbrev size_of : goal.After-input-3-1 → ℕ
size_of c = 41 + 32 * c.args.parents

abbrev input_of : goal.After-input-3-1 → List ℕ
input_of c =
    let a = c.args in
    document_input a.self.now.edition a.self.now.depth a.self.now.statement (node a.target.level a.target.position) (in_labels (a.front.now ++ a.rest.now))

in-front :
    (c : goal.After-input-3-1)
    → (take (size_of c) c.put_input.new.input ≡ input_of c)
    × (c.put_input.new.input ≡ take (size_of c) c.put_input.new.input ++ zeros (input_space - size_of c))
in-front c =
    let a = c.args in
    let size : 41 + 32 * a.parents ≡ 41 + length a.front.now + length a.rest.now = omega (arith, c.requires.rest_len) in
    rw size
    (front_of _ _ input_space _
    (input-length a.self.now.edition a.self.now.depth a.self.now.statement a.target.level a.target.position a.front.now a.rest.now (search rules)
    (omega (arith, c.requires.rest_len)))
    c.put_input.ensures)

pub hash_front-requires : goal.hash_front-requires
hash_front-requires c =
    record {
      len_le_max_label_input = omega (arith, c.requires.level_le_depth);
      input_value = (in-front c).1;
    }

abbrev size_of-at-after-input-4-1 : goal.After-input-4-1 → ℕ
size_of-at-after-input-4-1 c = 41 + 32 * c.args.parents

abbrev input_of-at-after-input-4-1 : goal.After-input-4-1 → List ℕ
input_of-at-after-input-4-1 c =
    let a = c.args in
    document_input a.self.now.edition a.self.now.depth a.self.now.statement (node a.target.level a.target.position) (in_labels (a.front.now ++ a.rest.now))

in-front-at-after-input-4-1 :
    (c : goal.After-input-4-1)
    → (take (size_of-at-after-input-4-1 c) c.put_input.new.input ≡ input_of-at-after-input-4-1 c)
    × (c.put_input.new.input ≡ take (size_of-at-after-input-4-1 c) c.put_input.new.input ++ zeros (input_space - size_of-at-after-input-4-1 c))
in-front-at-after-input-4-1 c =
    let a = c.args in
    let size : 41 + 32 * a.parents ≡ 41 + length a.front.now + length a.rest.now = omega (arith, c.requires.rest_len) in
    rw size
    (front_of _ _ input_space _
    (input-length a.self.now.edition a.self.now.depth a.self.now.statement a.target.level a.target.position a.front.now a.rest.now (search rules)
    (omega (arith, c.requires.rest_len)))
    c.put_input.ensures)

pub returns : goal.returns
returns c = c.hash_front.ensures.value ∙ ap digest (in-front-at-after-input-4-1 c).0
