-- The labels of a call, for a loop that reads arrays of numbers in place of the runs: one turn more.
use mathlib.Core.Path.{◌≡◌, sym, ap, subst, ◌∙◌}
use mathlib.Core.Bool.{true}
use mathlib.Core.Logic.{◌⊎◌, inl, inr}
use mathlib.Core.List.{List}
use Prim.Native.Nat.{ℕ, ◌+◌, ◌-◌, ◌≤◌, ◌<◌}
use native.Mathlib.Omega.{arith}
use lib.Dec.{ltb}
use lib.ListN.{length, set, get_or-eq_default}
use lib.Seq.{get_or-set_same, get_or-set_other}
use borrow.Author.Tests.{ltb-true}
use Rattle.base.specs.Bytes.{written}
use Rattle.base.specs.Limits.{max_depth, max_memory}
use Rattle.base.proofs.ChoiceLaws.{lt-or-le}
use Rattle.machine.proofs.StepLaws.{step-last}
use Rattle.tree.specs.Walk.{nodes_in}
use Rattle.run.specs.declared.Run.{Run}
use Rattle.run.specs.Steps as alone
use Rattle.run.specs.Steps.{Stamped, stamped}
use Rattle.unit.specs.Runs.{run_at, left_of, unfinished, size_of, store_from, part_from}
use Rattle.unit.specs.Rows.{unit_row}
use Rattle.unit.specs.declared.checks.Lane.{Lane}
use Rattle.unit.specs.Plans.{Planned, outside_lane, lane_at}
use Rattle.unit.specs.Turns.{Carried, carried, unit_of, own_of, first_after, next_run, served, turned, unit_machine, turns, turn_blocks}
use Rattle.unit.proofs.RowLaws.{Sound, sound, RunGoes, fits, depth-fits, memory-fits}
use Rattle.unit.proofs.NextLaws.{first-same}
use Rattle.unit.proofs.TurnLaws.{all_left, reached, sound-after, next-some, turned-is, turn-costs, served-other, served-from, less-left, same_or_not}

-- the state that k turns led to, and what is known of its runs
module _ (s : Carried) (goes : unit_row s.unit (length s.store) ≡ 0) (k count last : ℕ) (runs : List Run) (store : List ℕ)
    (so_far : turns k s ≡ carried (unit_of count last runs) store) (few : k < all_left s) (lanes : List Lane) (plan : Planned runs count lanes)
    (i : ℕ) (is : i ≡ first_after (λ j. ltb 0 (lane_at lanes j).left) count count last) where
  abbrev now-at : Carried
  now-at = carried (unit_of count last runs) store

  pub now-sound : Sound now-at
  now-sound = subst (λ t. Sound t) so_far (sound-after s (sound s goes) k (omega arith))

  now-left : 0 < all_left now-at
  now-left = omega (arith, (reached s (sound s goes) k (omega arith)).left, ap all_left so_far)

  -- whose turn it is
  pub turn_is : i ≡ next_run (unit_of count last runs)
  unfolding next_run
  turn_is =
      is
      ∙ first-same (λ j. ltb 0 (lane_at lanes j).left) (λ j. unfinished (run_at runs j)) count now-sound.some.0
      (λ j among. ap (ltb 0) (plan.remain j among.0 among.1)) count last

  pub turn-among : (1 ≤ i) × (i ≤ count)
  turn-among = rw turn_is (next-some now-at now-sound now-left).0

  pub turn-unfinished : unfinished (run_at runs i) ≡ true
  turn-unfinished = rw turn_is (next-some now-at now-sound now-left).1

  turn-some : 0 < left_of (run_at runs i)
  turn-some = ltb-true 0 (left_of (run_at runs i)) turn-unfinished

  -- what the numbers say of it
  pub turn-from : (lane_at lanes i).from ≡ store_from runs i
  turn-from = plan.begins i turn-among.0 turn-among.1

  pub turn-remains : 0 < (lane_at lanes i).left
  turn-remains = omega (arith, turn-some, plan.remain i turn-among.0 turn-among.1)

  turn-goes : RunGoes runs (length store) i
  turn-goes = now-sound.each i turn-among.0 turn-among.1

  pub turn-possible : ((run_at runs i).depth ≤ max_depth) × ((run_at runs i).memory ≤ max_memory) × ((run_at runs i).made < nodes_in (run_at runs i).depth)
  turn-possible = (depth-fits runs (length store) i turn-goes, memory-fits runs (length store) i turn-goes, omega (arith, turn-some))

  pub turn-fits : (lane_at lanes i).from + size_of (run_at runs i) ≤ length store
  turn-fits = omega (arith, turn-from, fits runs (length store) i turn-goes)

  -- its label
  abbrev turn-own : Stamped
  turn-own = stamped (run_at runs i) (part_from (lane_at lanes i).from (run_at runs i).memory store)

  own_is : turn-own ≡ own_of now-at i
  own_is = ap (λ (at : ℕ). stamped (run_at runs i) (part_from at (run_at runs i).memory store)) turn-from

  pub turn-blocks : (blocks : ℕ) → blocks ≡ alone.step_blocks turn-own → blocks ≡ turn_blocks now-at
  turn-blocks blocks e =
      e ∙ ap alone.step_blocks own_is
      ∙ ap (λ (j : ℕ). alone.step_blocks (own_of now-at j)) turn_is
      ∙ sym (turn-costs now-at now-sound now-left)

  module _ (next : Run) (next-is : next ≡ (alone.stepped turn-own).run) where
    stepped-run : next ≡ (alone.stepped (own_of now-at i)).run
    stepped-run = next-is ∙ ap (λ t. (alone.stepped t).run) own_is

    pub turn_more : (store' : List ℕ) → store' ≡ written store (lane_at lanes i).from (alone.stepped turn-own).store
        → turns (k + 1) s ≡ carried (unit_of count i (set runs (i - 1) next)) store'
    unfolding served unit_machine
    turn_more store' e =
        let part : written store (store_from runs i) (alone.stepped (own_of now-at i)).store ≡ store' =
        sym (e ∙ (λ c. written store (turn-from c) (alone.stepped (own_is c)).store)) in
        let made : served i now-at ≡ carried (unit_of count i (set runs (i - 1) next)) store' =
        (λ c. carried (unit_of count i (set runs (i - 1) (sym stepped-run c))) (part c)) in
        step-last unit_machine k s
        ∙ ap turned so_far
        ∙ turned-is now-at now-sound now-left
        ∙ ap (λ (j : ℕ). served j now-at) (sym turn_is)
        ∙ made

    -- the numbers of the runs after it
    left-size : i - 1 < length lanes
    left-size = cases (lt-or-le (i - 1) (length lanes))
      where
        cases : (i - 1 < length lanes) ⊎ (length lanes ≤ i - 1) → i - 1 < length lanes
        cases (inl inside) = inside
        cases (inr beyond) = absurd (omega (arith, turn-remains, ap (λ (l : Lane). l.left) (get_or-eq_default lanes outside_lane beyond)))

    -- its lane with one label less
    abbrev spent : Lane
    spent = record { from = (lane_at lanes i).from; left = (lane_at lanes i).left - 1 }

    then_runs : (served i now-at).unit.runs ≡ set runs (i - 1) next
    unfolding served
    then_runs = ap (set runs (i - 1)) (sym stepped-run)

    spent-here : lane_at (set lanes (i - 1) spent) i ≡ spent
    spent-here = get_or-set_same lanes (i - 1) spent outside_lane left-size

    spent-other : (j : ℕ) → 1 ≤ j → (j ≡ i → ⊥) → lane_at (set lanes (i - 1) spent) j ≡ lane_at lanes j
    spent-other j some other =
        get_or-set_other lanes (i - 1) (j - 1) spent outside_lane (λ (e : j - 1 ≡ i - 1). other (omega (arith, turn-among.0)))

    remain-then : (j : ℕ) → 1 ≤ j → j ≤ count → (lane_at (set lanes (i - 1) spent) j).left ≡ left_of (run_at (served i now-at).unit.runs j)
    remain-then j some among = cases (same_or_not j i)
      where
        cases : (j ≡ i) ⊎ (j ≡ i → ⊥) → (lane_at (set lanes (i - 1) spent) j).left ≡ left_of (run_at (served i now-at).unit.runs j)
        cases (inl e) =
            rw e
            (ap (λ (l : Lane). l.left) spent-here
            ∙ omega (arith, plan.remain i turn-among.0 turn-among.1, less-left now-at now-sound i turn-among turn-unfinished))
        cases (inr other) =
            ap (λ (l : Lane). l.left) (spent-other j some other)
            ∙ plan.remain j some among
            ∙ ap left_of (sym (served-other now-at now-sound i turn-among turn-unfinished j some other))

    begins-then : (j : ℕ) → 1 ≤ j → j ≤ count → (lane_at (set lanes (i - 1) spent) j).from ≡ store_from runs j
    begins-then j some among = cases (same_or_not j i)
      where
        cases : (j ≡ i) ⊎ (j ≡ i → ⊥) → (lane_at (set lanes (i - 1) spent) j).from ≡ store_from runs j
        cases (inl e) = rw e (ap (λ (l : Lane). l.from) spent-here ∙ turn-from)
        cases (inr other) = ap (λ (l : Lane). l.from) (spent-other j some other) ∙ plan.begins j some among

    pub turn-plan : Planned (set runs (i - 1) next) count (set lanes (i - 1) spent)
    turn-plan =
        subst (λ now-runs. Planned now-runs count (set lanes (i - 1) spent)) then_runs
        (record {
          begins = λ j some among. begins-then j some among ∙ sym (served-from now-at now-sound i turn-among turn-unfinished j);
          remain = remain-then;
        })
