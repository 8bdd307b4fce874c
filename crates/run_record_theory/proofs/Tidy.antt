-- Tidying a run commutes with a step: a step reads no byte beyond the held labels, and leaves zero behind them where it found zero.
use mathlib.Core.Path.{◌≡◌, refl, sym, ap, ◌∙◌}
use mathlib.Core.Bool.{Bool, true, false}
use mathlib.Core.List.{List, [], ◌++◌, append_assoc}
use Prim.Native.Nat.{ℕ, ◌+◌, ◌-◌, ◌*◌, ◌≤◌, ◌<◌}
use native.Mathlib.Omega.{arith}
use lib.ListN.{length, take, drop, length-append, length-drop, length-replicate, take-append-drop}
use lib.Seq.{take_at, drop_at, take-add, drop-drop, length-take-le}
use Rattle.base.specs.Limits.{max_depth, held_size}
use Rattle.base.specs.Bytes.{zeros, written}
use Rattle.base.specs.Choice.{pick}
use Rattle.base.proofs.Parts.{written_behind}
use Rattle.base.proofs.WrittenLaws.{written-two}
use Rattle.base.proofs.Zeros.{zeros-split, filled_more}
use Rattle.tree.specs.Nodes.{Node, root}
use Rattle.tree.specs.Labels.{Label, in_labels, label_by}
use Rattle.tree.specs.Held.{held}
use Rattle.tree.specs.Walk.{nodes_in}
use Rattle.labelling.specs.Rule.{stamp_rule}
use Rattle.labelling.specs.Step.{next_node, place_of, is_leaf, hashed_labels, next_label, held_with}
use Rattle.labelling.proofs.HeldSize.{held-size}
use Rattle.run.specs.declared.Run.{Run}
use Rattle.run.specs.Steps.{run_of, Stamped, stamped, stored, stepped}
use Rattle.run_record.specs.Layout.{held_length, record_of}
use Rattle.run_record_theory.specs.Pausing.{HasArrays, tidied, tidied_at}
use Rattle.run_theory.proofs.GoesOn.{next-size}
use Rattle.run_record.proofs.HeldCounts.{held_fits}
use Rattle.run_record_theory.proofs.Places.{count-leaf, count-inner, count-after, place-fits}

-- the first bytes of some places, and zero behind them
unfoldable pub kept : ℕ → List ℕ → List ℕ
kept size places = take size places ++ zeros (held_size - size)

module _ (size : ℕ) (places : List ℕ) (fits : size ≤ length places) where
  pub kept-front : take size (kept size places) ≡ take size places
  unfolding kept
  kept-front = take_at (take size places) (zeros (held_size - size)) size (length-take-le size places fits)

  pub kept-length : size ≤ held_size → length (kept size places) ≡ held_size
  unfolding kept
  kept-length small = rw (length-append, length-take-le size places fits, length-replicate) (omega arith)

  pub kept-twice : kept size (kept size places) ≡ kept size places
  unfolding kept
  kept-twice = ap (λ (l : List ℕ). l ++ zeros (held_size - size)) kept-front

-- ---- what a step does with the places, from a place `at` on
module _ (places : List ℕ) (whole : length places ≡ held_size) (at : ℕ) where
  -- an inner node reads its two children's labels
  inner-read : at + 64 ≤ held_size → take 64 (drop at (kept (at + 64) places)) ≡ take 64 (drop at places)
  unfolding kept
  inner-read fits =
      rw (
        take-add at 64 places,
        append_assoc (take at places) (take 64 (drop at places)) (zeros (held_size - (at + 64))),
        drop_at (take at places) (take 64 (drop at places) ++ zeros (held_size - (at + 64))) at (length-take-le at places (omega arith)),
      )
      (take_at (take 64 (drop at places)) (zeros (held_size - (at + 64))) 64
      (length-take-le 64 (drop at places) (rw length-drop (omega arith))))

  -- the places before, the two children's, and what is behind
  front-parts : take (at + 64) places ≡ take at places ++ (take 32 (drop at places) ++ take 32 (drop (at + 32) places))
  front-parts = take-add at 64 places ∙ ap (λ (l : List ℕ). take at places ++ l) (take-add 32 32 (drop at places) ∙ rw (drop-drop 32 at places))

  with-behind : (behind : List ℕ)
      → take (at + 64) places ++ behind ≡ take at places ++ (take 32 (drop at places) ++ (take 32 (drop (at + 32) places) ++ behind))
  with-behind behind = rw front-parts (simp append_assoc)

  module _ (label : List ℕ) (size : length label ≡ 32) where
    -- a leaf's label is written behind the held ones
    leaf-kept : at + 32 ≤ held_size → kept (at + 32) (written places at label) ≡ written (kept at places) at label
    unfolding kept
    leaf-kept fits =
        ap (λ (l : List ℕ). l ++ zeros (held_size - (at + 32))) (written_behind places label at 32 (omega arith) size)
        ∙ sym
        (filled_more held_size (take at places ++ zeros (held_size - at)) (take at places) label at refl
        (length-take-le at places (omega arith)) (omega arith)
        ∙ rw size)

    -- an inner node's label takes the place of the first child's, and the second's is set to zero
    two-written : (behind : List ℕ) → at + 64 ≤ held_size
        → written (written (take (at + 64) places ++ behind) at label) (at + 32) (zeros 32)
        ≡ take at places ++ (label ++ (zeros 32 ++ behind))
    two-written behind fits =
        rw (with-behind behind)
        (written-two (take at places) (take 32 (drop at places)) (take 32 (drop (at + 32) places)) behind label (zeros 32) at 32
        (length-take-le at places (omega arith)) size
        (length-take-le 32 (drop at places) (rw length-drop (omega arith)))
        (length-take-le 32 (drop (at + 32) places) (rw length-drop (omega arith))))

    inner-kept : at + 64 ≤ held_size
        → kept (at + 32) (written (written places at label) (at + 32) (zeros 32))
        ≡ written (written (kept (at + 64) places) at label) (at + 32) (zeros 32)
    unfolding kept
    inner-kept fits =
        let rest : List ℕ = drop (at + 64) places in
        let z : held_size - (at + 32) - 32 ≡ held_size - (at + 64) = omega arith in
        let now : written (written places at label) (at + 32) (zeros 32) ≡ take at places ++ (label ++ (zeros 32 ++ rest)) =
        ap (λ (l : List ℕ). written (written l at label) (at + 32) (zeros 32)) (sym (take-append-drop (at + 64) places))
        ∙ two-written rest fits in
        let front : take (at + 32) (take at places ++ (label ++ (zeros 32 ++ rest))) ≡ take at places ++ label =
        ap (take (at + 32)) (sym (append_assoc (take at places) label (zeros 32 ++ rest)))
        ∙ take_at (take at places ++ label) (zeros 32 ++ rest) (at + 32)
        (rw (length-append, length-take-le at places (omega arith), size)) in
        ap (λ (l : List ℕ). take (at + 32) l ++ zeros (held_size - (at + 32))) now
        ∙ ap (λ (l : List ℕ). l ++ zeros (held_size - (at + 32))) front
        ∙ rw (two-written (zeros (held_size - (at + 64))) fits, zeros-split (held_size - (at + 32)) 32 (omega arith), z)
        (append_assoc (take at places) label (zeros 32 ++ zeros (held_size - (at + 64))))

-- ---- one step of a run of depth n after k labels
module _ (n k : ℕ) (places : List ℕ) (whole : length places ≡ held_size) (shallow : n ≤ max_depth) (small : k < nodes_in n) where
  read_same :
      (t : Bool) → is_leaf n root (next_node n root k) ≡ t
      → pick t (take (32 * place_of root (next_node n root k)) (kept (held_length n k) places))
      (take 64 (drop (32 * place_of root (next_node n root k)) (kept (held_length n k) places)))
      ≡ pick t (take (32 * place_of root (next_node n root k)) places) (take 64 (drop (32 * place_of root (next_node n root k)) places))
  read_same true leaf =
      let c : length (held n k) ≡ place_of root (next_node n root k) = count-leaf n k small leaf in
      rw (← c) (kept-front (held_length n k) places (omega (arith, held_fits n k shallow (omega arith))))
  read_same false inner =
      let at : ℕ = 32 * place_of root (next_node n root k) in
      let c : held_length n k ≡ at + 64 = omega (arith, count-inner n k small inner) in
      rw c (inner-read places whole at (omega (arith, held_fits n k shallow (omega arith))))

  label_same : (edition : ℕ) (statement : List ℕ)
      → next_label edition statement n root [] (kept (held_length n k) places) k ≡ next_label edition statement n root [] places k
  unfolding next_label hashed_labels
  label_same edition statement =
      ap (λ (bytes : List ℕ). label_by (stamp_rule edition (root.level + n) statement) (next_node n root k) (in_labels bytes))
      (read_same (is_leaf n root (next_node n root k)) refl)

  module _ (label : List ℕ) (size : length label ≡ 32) where
    places_same :
        (t : Bool) → is_leaf n root (next_node n root k) ≡ t
        → (at : ℕ) → at ≡ 32 * place_of root (next_node n root k)
        → kept (held_length n (k + 1)) (pick t (written places at label) (written (written places at label) (at + 32) (zeros 32)))
        ≡ pick t (written (kept (held_length n k) places) at label) (written (written (kept (held_length n k) places) at label) (at + 32) (zeros 32))
    places_same true leaf at is =
        let c : held_length n k ≡ at = omega (arith, count-leaf n k small leaf) in
        let d : held_length n (k + 1) ≡ at + 32 = omega (arith, count-after n k small) in
        rw (c, d) (leaf-kept places whole at label size (omega (arith, place-fits n k small shallow)))
    places_same false inner at is =
        let c : held_length n k ≡ at + 64 = omega (arith, count-inner n k small inner) in
        let d : held_length n (k + 1) ≡ at + 32 = omega (arith, count-after n k small) in
        rw (c, d) (inner-kept places whole at label size (omega (arith, held_fits n k shallow (omega arith))))

    held_same :
        kept (held_length n (k + 1)) (held_with n root places (next_node n root k) label)
        ≡ held_with n root (kept (held_length n k) places) (next_node n root k) label
    unfolding held_with
    held_same = places_same (is_leaf n root (next_node n root k)) refl (32 * place_of root (next_node n root k)) refl

    pub places-size : length (held_with n root places (next_node n root k) label) ≡ held_size
    places-size = held-size n 0 0 k (omega arith) small places label whole size

-- ---- runs
-- tidying keeps the front of the places
pub tidied-places : (run : Run) → (tidied run).held ≡ kept (held_length run.depth run.made) run.held
unfolding tidied kept
tidied-places run = refl

module _ (run : Run) (arrays : HasArrays run) (shallow : run.depth ≤ max_depth) (few : run.made ≤ nodes_in run.depth) where
  -- the held labels lie within the places
  pub held-inside : held_length run.depth run.made ≤ length run.held
  held-inside = omega (arith, held_fits run.depth run.made shallow few, arrays.places_size)

  pub tidied-arrays : HasArrays (tidied run)
  unfolding tidied kept
  tidied-arrays =
      record {
        statement_size = arrays.statement_size;
        places_size =
            kept-length (held_length run.depth run.made) run.held held-inside (held_fits run.depth run.made shallow few);
      }

  -- once is enough
  pub tidied-twice : tidied (tidied run) ≡ tidied run
  unfolding tidied kept
  tidied-twice =
      ap (run_of run.edition run.statement run.depth run.memory run.made)
      (kept-twice (held_length run.depth run.made) run.held held-inside)

  -- a record has only what tidying keeps
  pub tidied-record : record_of (tidied run) ≡ record_of run
  unfolding tidied kept record_of
  tidied-record = rw (kept-front (held_length run.depth run.made) run.held held-inside)

-- ---- tidying and a step
module _ (s : Stamped) (arrays : HasArrays s.run) (shallow : s.run.depth ≤ max_depth) (small : s.run.made < nodes_in s.run.depth) where
  -- a step keeps the lengths
  pub stepped-arrays : HasArrays (stepped s).run
  unfolding stepped
  stepped-arrays =
      record {
        statement_size = arrays.statement_size;
        places_size =
            places-size s.run.depth s.run.made s.run.held arrays.places_size shallow small _
            (next-size s.run.edition s.run.statement s.run.depth s.run.held s.run.made);
      }

  -- tidied before or after, it is the same
  pub tidy-stepped : tidied_at (stepped s) ≡ stepped (tidied_at s)
  unfolding tidied stepped kept
  tidy-stepped =
      let r : Run = s.run in
      let n : ℕ = r.depth in
      let w : Node = next_node n root r.made in
      let label : Label = next_label r.edition r.statement n root [] r.held r.made in
      let places : List ℕ = kept (held_length n r.made) r.held in
      let e : label ≡ next_label r.edition r.statement n root [] places r.made =
      sym (label_same n r.made r.held arrays.places_size shallow small r.edition r.statement) in
      let h : kept (held_length n (r.made + 1)) (held_with n root r.held w label)
      ≡ held_with n root places w (next_label r.edition r.statement n root [] places r.made) =
      held_same n r.made r.held arrays.places_size shallow small label (next-size r.edition r.statement n r.held r.made)
      ∙ ap (held_with n root places w) e in
      λ i. stamped (run_of r.edition r.statement n r.memory (r.made + 1) (h i)) (stored r.memory s.store w (e i))
