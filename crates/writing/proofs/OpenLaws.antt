-- Several steps of any opening: what they keep, and that the output keeps its length.
use mathlib.Core.Path.{◌≡◌, refl, sym, ap, ◌∙◌}
use mathlib.Core.Bool.{Bool, true, false}
use mathlib.Core.List.{List}
use Prim.Native.Nat.{ℕ, zero, suc, ◌+◌, ◌-◌, ◌*◌, ◌≤◌, ◌<◌}
use native.Mathlib.Nat.{add-zero}
use native.Mathlib.Omega.{arith}
use lib.ListN.{length}
use Rattle.base.specs.Choice.{pick}
use Rattle.base.specs.Bytes.{written}
use Rattle.base.proofs.Copying.{length-written}
use Rattle.machine.specs.Machines as machines
use Rattle.machine.proofs.StepLaws.{done-some, advanced-by}
use Rattle.tree.specs.Nodes.{Node, node, same_node}
use Rattle.tree.specs.Openings.{opening_size}
use Rattle.labelling.specs.Step.{next_node, next_label}
use Rattle.sha256.proofs.Digests.{digest-length}
use Rattle.opening.specs.declared.Opening.{Opening}
use Rattle.opening.specs.Rows.{nodes_anew}
use Rattle.opening.specs.Names.{open_of}
use Rattle.opening_places.specs.Places.{ancestor, beside, placed, front}
use Rattle.opening.specs.Steps.{Open, opening_of, stepped, opening_machine, steps, labels_in, blocks_over, blocks_in, advanced}
use Rattle.opening.proofs.StepLaws.{anew-few, next-below}
use Rattle.run_theory.specs.Openings.{Openable}
use Rattle.run_theory.proofs.OpeningCalls.{reopen-fits}
use Rattle.run_theory.proofs.Editions.{opening-steps-keep-edition}

-- a label put in its place
placed-length :
    (n leaf : ℕ) (out : List ℕ) (w : Node) (label : List ℕ) → 1 ≤ n → opening_size n ≤ length out → 1 ≤ w.level → length label ≡ 32
    → length (placed n leaf out w label) ≡ length out
unfolding placed
placed-length n leaf out w label deep fits low whole = go (same_node w (node n leaf)) (same_node w (beside n leaf w.level))
  where
    go :
        (s t : Bool)
        → length (pick s (written out 0 label) (pick t (written out (32 * (n - w.level + 1)) label) out)) ≡ length out
    go true t = length-written out 0 label (omega arith)
    go false true = length-written out (32 * (n - w.level + 1)) label (omega arith)
    go false false = refl

module _ (store : List ℕ) (s : Open) where
  pub open_more : (k : ℕ) → steps store (suc k) s ≡ stepped store (steps store k s)
  unfolding machines.steps opening_machine
  open_more k = refl

  pub statement-kept : (k : ℕ) → (steps store k s).opening.statement ≡ s.opening.statement
  unfolding machines.steps opening_machine stepped
  statement-kept zero = refl
  statement-kept (suc k) = statement-kept k

  pub edition-kept : (k : ℕ) → (steps store k s).opening.edition ≡ s.opening.edition
  edition-kept k = opening-steps-keep-edition store k s

  pub depth-kept : (k : ℕ) → (steps store k s).opening.depth ≡ s.opening.depth
  unfolding machines.steps opening_machine stepped
  depth-kept zero = refl
  depth-kept (suc k) = depth-kept k

  pub memory_kept : (k : ℕ) → (steps store k s).opening.memory ≡ s.opening.memory
  unfolding machines.steps opening_machine stepped
  memory_kept zero = refl
  memory_kept (suc k) = memory_kept k

  pub leaf-kept : (k : ℕ) → (steps store k s).opening.leaf ≡ s.opening.leaf
  unfolding machines.steps opening_machine stepped
  leaf-kept zero = refl
  leaf-kept (suc k) = leaf-kept k

  pub made_after : (k : ℕ) → (steps store k s).opening.made ≡ s.opening.made + k
  unfolding machines.steps opening_machine stepped
  made_after zero = sym (add-zero s.opening.made)
  made_after (suc k) = rw (made_after k) (omega arith)

  pub anew-kept :
      (k : ℕ)
      → nodes_anew (steps store k s).opening.depth (steps store k s).opening.memory
      ≡ nodes_anew s.opening.depth s.opening.memory
  anew-kept k = rw (depth-kept k, memory_kept k)

  -- the opening by its fields
  pub opening-after :
      (k : ℕ)
      → (steps store k s).opening
      ≡ opening_of s.opening.edition s.opening.statement s.opening.depth s.opening.memory s.opening.leaf (s.opening.made + k)
      (steps store k s).opening.held
  opening-after k =
      λ i. opening_of (edition-kept k i) (statement-kept k i) (depth-kept k i) (memory_kept k i) (leaf-kept k i) (made_after k i)
      (steps store k s).opening.held

-- one step of an opening that has a node left
stepped-length :
    (store : List ℕ) (s : Open) → s.opening.made < nodes_anew s.opening.depth s.opening.memory
    → 1 ≤ s.opening.depth → opening_size s.opening.depth ≤ length s.out → length (stepped store s).out ≡ length s.out
unfolding stepped next_label
stepped-length store s few deep fits =
    let o : Opening = s.opening in
    let h : ℕ = o.depth - o.memory in
    let v : Node = ancestor o.depth o.leaf o.memory in
    placed-length o.depth o.leaf s.out (next_node h v o.made)
    (next_label o.edition o.statement h v (front o.depth o.memory o.leaf store) o.held o.made) deep fits
    (omega (arith, next-below h o.made v (next_node h v o.made) (anew-few o.depth o.memory o.made few) refl))
    (digest-length _)

pub steps-length :
    (store : List ℕ) (s : Open) (k : ℕ) → s.opening.made + k ≤ nodes_anew s.opening.depth s.opening.memory
    → 1 ≤ s.opening.depth → opening_size s.opening.depth ≤ length s.out → length (steps store k s).out ≡ length s.out
unfolding machines.steps opening_machine
steps-length store s zero few deep fits = refl
steps-length store s (suc k) few deep fits =
    let so_far : length (steps store k s).out ≡ length s.out = steps-length store s k (omega arith) deep fits in
    stepped-length store (steps store k s)
    (omega (arith, made_after store s k, anew-kept store s k))
    (omega (arith, depth-kept store s k))
    (omega (arith, depth-kept store s k))
    ∙ so_far

-- a call whose budget is left makes as many labels
module _
    (store : List ℕ) (o : Opening) (out : List ℕ) (k : ℕ) (fits : Openable o.edition o.depth o.memory o.leaf (length store) (length out))
    (few : o.made + k ≤ nodes_anew o.depth o.memory) where
  pub labels-all : labels_in store (open_of o out) k ≡ k
  unfolding opening_machine
  labels-all =
      done-some (opening_machine store) (open_of o out) k (reopen-fits o (length store) (length out) fits (omega arith)) ∙ omega arith

  pub advanced-all : advanced store (open_of o out) k ≡ steps store k (open_of o out)
  advanced-all = sym (advanced-by (opening_machine store) (open_of o out) k k (sym labels-all))

  pub blocks-all : blocks_in store (open_of o out) k ≡ blocks_over store k (open_of o out)
  unfolding machines.cost_in
  blocks-all = ap (λ (j : ℕ). blocks_over store j (open_of o out)) labels-all
