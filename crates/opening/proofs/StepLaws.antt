-- The next node below the leaf's ancestor on level m, and one step more.
use mathlib.Core.Path.{◌≡◌, refl, sym, ap, ap₂, ◌∙◌}
use mathlib.Core.List.{List}
use Prim.Native.Nat.{ℕ, zero, suc, ◌+◌, ◌-◌, ◌*◌, ◌^◌, ◌≤◌, ◌<◌}
use native.Mathlib.Nat.{add-zero}
use native.Mathlib.Omega.{arith}
use lib.Pow.{pow_mono}
use Rattle.base.specs.Limits.{max_depth}
use Rattle.machine.proofs.StepLaws.{no_step, step-last, cost-none, cost-more}
use Rattle.tree.specs.Nodes.{Node}
use Rattle.tree.specs.Walk.{nodes_in}
use Rattle.tree.proofs.Order.{Place, place_of, place-top, order-placed}
use Rattle.labelling.specs.Step.{next_node, held_with}
use Rattle.opening.specs.Rows.{nodes_anew}
use Rattle.opening.specs.Names.{open_of, next_anew, label_anew, blocks_anew}
use Rattle.opening_places.specs.Places.{ancestor, placed, front}
use Rattle.labelling.specs.Blocks.{most_blocks}
use Rattle.opening.specs.declared.Opening.{Opening}
use Rattle.opening.specs.Steps.{opening_of, Open, stepped, opening_machine, steps, next_blocks_of, step_blocks, blocks_over}

-- the ancestor's own label is not made anew
pub anew-few : (n m k : ℕ) → k < nodes_anew n m → k + 1 < nodes_in (n - m)
unfolding nodes_in
anew-few n m k few = omega arith

pub anew-small : (n m : ℕ) → n ≤ max_depth → nodes_anew n m < 2 ^ (max_depth + 1)
anew-small n m deep = omega (arith, pow_mono {i = n - m + 1} {j = max_depth + 1} (omega arith))

not_top :
    (h k depth height across : ℕ) → height + depth ≡ h → across < 2 ^ depth → (across ≡ 0 → height ≡ h → k + 1 ≡ nodes_in h)
    → k + 1 < nodes_in h → 1 ≤ depth
not_top h k zero height across fits inside top few = absurd (omega (arith, top (omega arith) (omega arith)))
not_top h k (suc depth) height across fits inside top few = omega arith

pub next-below : (h k : ℕ) (v w : Node) → k + 1 < nodes_in h → w ≡ next_node h v k → v.level < w.level
next-below h k v w few is =
    let pl : Place h k = place_of h k (omega arith) in
    let top : pl.across ≡ 0 → pl.height ≡ h → k + 1 ≡ nodes_in h = λ a e. rw (← e) (place-top pl.height k (rw a at pl.at)) in
    rw (is, order-placed v pl)
    (omega (arith, not_top h k pl.depth pl.height pl.across pl.fits pl.inside top few))

-- a step by the node and the label that were made
pub one-step : (h n leaf : ℕ) (v w w' : Node) (label label' held held' out out' : List ℕ) → w ≡ w' → label ≡ label'
    → held' ≡ held_with h v held w label → out' ≡ placed n leaf out w label
    → (held' ≡ held_with h v held w' label') × (out' ≡ placed n leaf out w' label')
one-step h n leaf v w w' label label' held held' out out' is so e f =
    (e ∙ ap₂ (λ (u : Node) (x : List ℕ). held_with h v held u x) is so, f ∙ ap₂ (λ (u : Node) (x : List ℕ). placed n leaf out u x) is so)

-- a step by what was made over the labels in front, which are those that the store holds
module _ (store : List ℕ) (o : Opening) (out aboves : List ℕ) (read : aboves ≡ front o.depth o.memory o.leaf store) where
  abbrev label : List ℕ
  label = label_anew o.edition o.statement o.depth o.memory o.leaf aboves o.held o.made

  step-anew : (o' : Opening) (out' : List ℕ)
      → o' ≡ opening_of o.edition o.statement o.depth o.memory o.leaf (o.made + 1)
      (held_with (o.depth - o.memory) (ancestor o.depth o.leaf o.memory) o.held (next_anew o.depth o.memory o.leaf o.made) label)
      → out' ≡ placed o.depth o.leaf out (next_anew o.depth o.memory o.leaf o.made) label
      → stepped store (open_of o out) ≡ open_of o' out'
  unfolding stepped
  step-anew o' out' e f = rw (e, f, read)

  blocks-anew : (blocks : ℕ) → blocks ≡ blocks_anew o.edition o.statement o.depth o.memory o.leaf aboves o.held o.made
      → blocks ≡ step_blocks store (open_of o out)
  unfolding next_blocks_of
  blocks-anew blocks e = e ∙ ap (λ (x : List ℕ). blocks_anew o.edition o.statement o.depth o.memory o.leaf x o.held o.made) read

-- k steps from a state led to this opening and this output, and cost so many blocks
pub record Led (store : List ℕ) (s : Open) (k : ℕ) (o : Opening) (out : List ℕ) (blocks : ℕ) : Type 0 where
  pub reached : steps store k s ≡ open_of o out
  pub depth : o.depth ≡ s.opening.depth
  pub memory : o.memory ≡ s.opening.memory
  pub leaf : o.leaf ≡ s.opening.leaf
  pub made : o.made ≡ s.opening.made + k
  pub spent : blocks ≡ blocks_over store k s
  pub few : blocks ≤ most_blocks * k

pub led-none : (store : List ℕ) (o : Opening) (out : List ℕ) → Led store (open_of o out) 0 o out 0
led-none store o out =
    record {
      reached = no_step (opening_machine store) (open_of o out);
      depth = refl;
      memory = refl;
      leaf = refl;
      made = sym (add-zero o.made);
      spent = sym (cost-none (opening_machine store) (step_blocks store) (open_of o out));
      few = omega arith;
    }

module _ (store : List ℕ) (s : Open) (k : ℕ) (o : Opening) (out : List ℕ) (blocks : ℕ) (led : Led store s k o out blocks)
    (aboves : List ℕ) (read : aboves ≡ front s.opening.depth s.opening.memory s.opening.leaf store) where
  one_more : steps store (k + 1) s ≡ stepped store (steps store k s)
  unfolding opening_machine
  one_more = step-last (opening_machine store) k s

  held-read : aboves ≡ front o.depth o.memory o.leaf store
  held-read = rw (led.depth, led.memory, led.leaf) read

  pub led-more : (o' : Opening) (out' : List ℕ) (more : ℕ)
      → o' ≡ opening_of o.edition o.statement o.depth o.memory o.leaf (o.made + 1)
      (held_with (o.depth - o.memory) (ancestor o.depth o.leaf o.memory) o.held (next_anew o.depth o.memory o.leaf o.made)
      (label_anew o.edition o.statement o.depth o.memory o.leaf aboves o.held o.made))
      → out' ≡ placed o.depth o.leaf out (next_anew o.depth o.memory o.leaf o.made)
      (label_anew o.edition o.statement o.depth o.memory o.leaf aboves o.held o.made)
      → more ≡ blocks_anew o.edition o.statement o.depth o.memory o.leaf aboves o.held o.made → more ≤ most_blocks
      → Led store s (k + 1) o' out' (blocks + more)
  led-more o' out' more e f cost few =
      record {
        reached = one_more ∙ ap (stepped store) led.reached ∙ step-anew store o out aboves held-read o' out' e f;
        depth = ap (λ (x : Opening). x.depth) e ∙ led.depth;
        memory = ap (λ (x : Opening). x.memory) e ∙ led.memory;
        leaf = ap (λ (x : Opening). x.leaf) e ∙ led.leaf;
        made = ap (λ (x : Opening). x.made) e ∙ omega (arith, led.made);
        spent = cost-more (opening_machine store) (step_blocks store) k s (open_of o out) blocks more led.reached led.spent
            (blocks-anew store o out aboves held-read more cost);
        few = omega (arith, led.few, few);
      }

pub led-all : (store : List ℕ) (s : Open) (k : ℕ) (o : Opening) (out : List ℕ) (blocks : ℕ) → Led store s k o out blocks
    → (count : ℕ) → k ≡ count
    → (o ≡ (steps store count s).opening) × (out ≡ (steps store count s).out) × (blocks ≡ blocks_over store count s) × (blocks ≤ most_blocks * count)
led-all store s k o out blocks led count e =
    let f : steps store count s ≡ open_of o out = rw e at led.reached in
    (ap (λ (t : Open). t.opening) (sym f), ap (λ (t : Open). t.out) (sym f), rw e at led.spent, rw e at led.few)
