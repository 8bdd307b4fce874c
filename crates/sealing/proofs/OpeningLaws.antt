-- An opening's calls, over any store, and what they give over a store that holds the labels.
use mathlib.Core.Path.{◌≡◌, sym, ap, subst, ◌∙◌}
use Prim.Native.Nat.{ℕ, ◌-◌, ◌≤◌}
use native.Mathlib.Omega.{arith}
use mathlib.Core.List.{List, ◌++◌}
use lib.ListN.{length, drop}
use Rattle.machine.specs.Machines.{Goes}
use Rattle.tree.specs.Openings.{opening_size}
use Rattle.opening.specs.declared.Opening.{Opening}
use Rattle.opening.specs.Rows.{nodes_anew}
use Rattle.opening.specs.Names.{open_of}
use Rattle.opening.specs.Steps.{new_opening, Open, opening_machine, started, started_out, steps, advanced}
use Rattle.run_theory.specs.Openings.{HoldsLabels, Openable, new_open}
use Rattle.run_theory.proofs.OpeningCalls.{reopen-fits, started-fits, started_out-fits}
use Rattle.run_theory.proofs.OpeningRun.{opening-reached, opening-done}
use Rattle.check_theory.specs.TreeFile.{opening_of}
use Rattle.writing.proofs.OpenLaws.{edition-kept, depth-kept, memory_kept, leaf-kept, made_after, steps-length}
use Rattle.sealing.proofs.Spending.{spent-none, spent_all, spend}

-- the labels that remain of an opening
abbrev pub remaining_in : Open → ℕ
remaining_in s = nodes_anew s.opening.depth s.opening.memory - s.opening.made

-- an opening that a call does not refuse goes on to its end
module _ (store : List ℕ) (s : Open)
    (fits : Openable s.opening.edition s.opening.depth s.opening.memory s.opening.leaf (length store) (length s.out))
    (few : s.opening.made ≤ nodes_anew s.opening.depth s.opening.memory) where
  still-fits : (k : ℕ) → k ≤ remaining_in s
      → Openable (steps store k s).opening.edition (steps store k s).opening.depth (steps store k s).opening.memory
      (steps store k s).opening.leaf (length store)
      (length (steps store k s).out)
  still-fits k enough =
      rw (
        edition-kept store s k,
        depth-kept store s k,
        memory_kept store s k,
        leaf-kept store s k,
        steps-length store s k (omega arith) fits.depth.0 fits.out_fits,
      )
      fits

  pub opening-goes : Goes (opening_machine store) s (remaining_in s)
  unfolding opening_machine
  opening-goes =
      record {
        done =
            λ k enough.
            reopen-fits (steps store k s).opening (length store) (length (steps store k s).out) (still-fits k enough)
            (rw (depth-kept store s k, memory_kept store s k, made_after store s k) (omega arith));
        left = λ k enough. rw (depth-kept store s k, memory_kept store s k, made_after store s k) (omega arith);
      }

-- an opening begun for a leaf over the front of an output
module _ (edition : ℕ) (statement : List ℕ) (n m leaf : ℕ) (store out : List ℕ) (fits : Openable edition n m leaf (length store) (length out))
    (first : Opening) (begun : List ℕ) (start : first ≡ started edition statement n m leaf (length store) (length out))
    (start-out : begun ≡ started_out edition n m leaf store out) where
  is-new : first ≡ new_opening edition statement n m leaf
  is-new = start ∙ started-fits edition statement n m leaf (length store) (length out) fits

  begins : open_of first begun ≡ new_open edition statement n m leaf store out
  begins = rw (is-new, start-out, started_out-fits edition n m leaf store out fits)

  abbrev s : Open
  s = open_of first begun

  module _ (left : ℕ) where
    pub first_opening : left ≡ nodes_anew n m
        → (first ≡ (steps store (nodes_anew n m - left) s).opening) × (begun ≡ (steps store (nodes_anew n m - left) s).out)
    first_opening e =
        let same = sym (spent-none (opening_machine store) s (nodes_anew n m) left e) in
        (ap (λ (t : Open). t.opening) same, ap (λ (t : Open). t.out) same)

    module _ (state : Opening) (here : List ℕ) (is-opening : state ≡ (steps store (nodes_anew n m - left) s).opening)
        (is-out : here ≡ (steps store (nodes_anew n m - left) s).out) where
      -- after a call
      module _ (same : length begun ≡ length out) (few : left ≤ nodes_anew n m) (budget : ℕ) (enough : budget ≤ left)
          (next : Opening) (there : List ℕ) (e : next ≡ (advanced store (open_of state here) budget).opening)
          (f : there ≡ (advanced store (open_of state here) budget).out) where
        goes : Goes (opening_machine store) s (nodes_anew n m)
        goes =
            let all : remaining_in s ≡ nodes_anew n m = rw is-new (omega arith) in
            subst (λ (k : ℕ). Goes (opening_machine store) s k) all
            (opening-goes store s (rw (is-new, same) fits) (rw is-new (omega arith)))

        after_call : advanced store (open_of state here) budget ≡ steps store (nodes_anew n m - (left - budget)) s
        after_call =
            ap (λ (t : Open). advanced store t budget) (λ i. open_of (is-opening i) (is-out i))
            ∙ spend (opening_machine store) s (nodes_anew n m) left budget goes few enough

        pub next-opening : (next ≡ (steps store (nodes_anew n m - (left - budget)) s).opening)
            × (there ≡ (steps store (nodes_anew n m - (left - budget)) s).out)
        next-opening = (e ∙ ap (λ (t : Open). t.opening) after_call, f ∙ ap (λ (t : Open). t.out) after_call)

      -- none is left: the leaf's opening, and behind it as it was
      pub last-opening : left ≤ 0 → HoldsLabels edition statement n m store → here ≡ opening_of edition statement n leaf ++ drop (opening_size n) out
      last-opening none holds =
          let low : m ≤ n = omega arith in
          is-out
          ∙ ap (λ (t : Open). t.out) (spent_all (opening_machine store) s (nodes_anew n m) left none)
          ∙ ap (λ (t : Open). (steps store (nodes_anew n m) t).out) begins
          ∙ ap (λ (t : Open). t.out)
          (opening-reached edition statement n m leaf store out holds fits.depth.1 low fits.position (nodes_anew n m) (omega arith))
          ∙ opening-done edition statement n m leaf out fits.depth.0 low fits.out_fits
