-- The openings begun one after another while the one under way is done, and the labels made one opening after another.
use mathlib.Core.Path.{◌≡◌, refl, sym, ap, ◌∙◌}
use mathlib.Core.Bool.{Bool, true, false}
use mathlib.Core.List.{List}
use Prim.Native.Nat.{ℕ, zero, suc, ◌+◌, ◌-◌, ◌*◌, ◌^◌, ◌≤◌, ◌<◌, min}
use native.Mathlib.Nat.{add-zero, suc-mul, mul-le-mul_right}
use native.Mathlib.Omega.{arith}
use borrow.Author.Tests.{eqb-true, ltb-true}
use lib.Dec.{ltb, eqb}
use lib.ListN.{length}
use Rattle.base.specs.Choice.{both}
use Rattle.base.proofs.ChoiceLaws.{both_first, both-second}
use Rattle.base.specs.Limits.{max_challenges}
use Rattle.machine.proofs.StepLaws.{no_step, steps-add, cost-none, cost-add}
use Rattle.opening.specs.declared.Opening.{Opening}
use Rattle.opening.specs.Rows.{nodes_anew}
use Rattle.opening.proofs.StepLaws.{anew-small}
use Rattle.writing.specs.declared.Writing.{Writing}
use Rattle.writing.specs.Possible.{Room, Ready, GoesOn, writing_of, written_of, labelled}
use Rattle.writing.specs.Steps.{Written, begun, may_follow, followed, remaining, writing_machine, steps, step_blocks, blocks_over}
use Rattle.writing.proofs.BegunLaws.{begun-ready}
use Rattle.writing.proofs.StepLaws.{followed-stays, under_left, steps-labelled, labelled-ready, labelled-remaining}

-- a writing and its file from which what is left to begin gives the same
pub record Following (store file₀ : List ℕ) (w₀ : Writing) (file : List ℕ) (w : Writing) : Type 0 where
  pub root : w.root ≡ w₀.root
  pub count : w.count ≡ w₀.count
  pub edition : w.opening.edition ≡ w₀.opening.edition
  pub statement : w.opening.statement ≡ w₀.opening.statement
  pub depth : w.opening.depth ≡ w₀.opening.depth
  pub memory : w.opening.memory ≡ w₀.opening.memory
  pub ready : Ready w (length store) (length file₀)
  pub later : w₀.number ≤ w.number
  pub left : remaining w ≡ remaining w₀
  pub same : followed store (w₀.count + w₀.number - w.number) (written_of w file) ≡ followed store w₀.count (written_of w₀ file₀)

pub following-none : (store file : List ℕ) (w : Writing) → Ready w (length store) (length file) → Following store file w file w
following-none store file w ready =
    let all : w.count + w.number - w.number ≡ w.count = omega arith in
    record {
      root = refl;
      count = refl;
      edition = refl;
      statement = refl;
      depth = refl;
      memory = refl;
      ready = ready;
      later = omega arith;
      left = refl;
      same = rw all;
    }

-- the code's test, over the labels of an opening as computed at the start
pub test-answer :
    (store file₀ : List ℕ) (w₀ : Writing) (file : List ℕ) (w : Writing) → Following store file₀ w₀ file w
    → (anew : ℕ) → anew ≡ nodes_anew w₀.opening.depth w₀.opening.memory
    → (b t : Bool) → b ≡ both (eqb w.opening.made anew) (ltb w.number w.count) → b ≡ t → may_follow w ≡ t
test-answer store file₀ w₀ file w so_far anew is b t e f = rw (so_far.depth, so_far.memory, ← is) (sym e ∙ f)

-- an opening that is done and not the last leaves all labels of those after it
next-left : (t i anew made : ℕ) → made ≡ anew → i < t → (t - (i + 1)) * anew + (anew - 0) ≡ (t - i) * anew + (anew - made)
next-left t i anew made e few =
    let one : t - i ≡ suc (t - (i + 1)) = omega arith in
    rw (one, suc-mul (t - (i + 1)) anew, e) (omega arith)

both-known : {w : Writing} {file : List ℕ} {s : Written} → w ≡ s.writing → file ≡ s.file → written_of w file ≡ s
both-known e f = rw (e, f)

labelled-count : (store : List ℕ) (k : ℕ) (w : Writing) (file : List ℕ) → (labelled store k (written_of w file)).writing.count ≡ w.count
unfolding labelled
labelled-count store k w file = refl

-- the next opening begun
module _
    (store file₀ : List ℕ) (w₀ : Writing) (file : List ℕ) (w : Writing) (so_far : Following store file₀ w₀ file w)
    (size : length file ≡ length file₀) (test : may_follow w ≡ true) where
  abbrev anew : ℕ
  anew = nodes_anew w.opening.depth w.opening.memory

  done : w.opening.made ≡ anew
  done = eqb-true w.opening.made anew (both_first (eqb w.opening.made anew) (ltb w.number w.count) test)

  pub not_last : w.number < w.count
  not_last = ltb-true w.number w.count (both-second (eqb w.opening.made anew) (ltb w.number w.count) test)

  -- it is one of the same writing, and has room
  abbrev next : Written
  next = begun w₀.opening.edition w₀.opening.statement w₀.root w₀.opening.depth w₀.opening.memory w₀.count store (w.number + 1) file

  room-now : Room w.opening.edition w.opening.depth w.opening.memory w.count (w.number + 1) (length store) (length file₀)
  room-now =
      let r : Room w.opening.edition w.opening.depth w.opening.memory w.count w.number (length store) (length file₀) = so_far.ready.room in
      record {
        exists = r.exists;
        depth = r.depth;
        memory = r.memory;
        store_fits = r.store_fits;
        number = (omega arith, omega (arith, not_last));
        count = r.count;
        file_fits = r.file_fits;
      }

  next-room : Room w₀.opening.edition w₀.opening.depth w₀.opening.memory w₀.count (w.number + 1) (length store) (length file₀)
  next-room = rw (so_far.edition, so_far.depth, so_far.memory, so_far.count) at room-now

  pub begin-room : Room w₀.opening.edition w₀.opening.depth w₀.opening.memory w₀.count (w.number + 1) (length store) (length file)
  begin-room = rw size next-room

  followed-next :
      (left : ℕ) → followed store (suc left) (written_of w file) ≡ followed store left next
  unfolding followed
  followed-next left = rw (test, so_far.edition, so_far.statement, so_far.root, so_far.depth, so_far.memory, so_far.count)

  next-ready : Ready next.writing (length store) (length file₀)
  next-ready =
      begun-ready w₀.opening.edition w₀.opening.statement w₀.root w₀.opening.depth w₀.opening.memory w₀.count (w.number + 1)
      (length store) (length file₀) next-room store file

  next-remaining : remaining next.writing ≡ remaining w₀
  unfolding begun
  next-remaining =
      let here : remaining next.writing ≡ remaining w =
      rw (← so_far.depth, ← so_far.memory, ← so_far.count) (next-left w.count w.number anew w.opening.made done not_last) in
      here ∙ so_far.left

  next-same :
      followed store (w₀.count + w₀.number - (w.number + 1)) next ≡ followed store w₀.count (written_of w₀ file₀)
  next-same =
      let one : w₀.count + w₀.number - w.number ≡ suc (w₀.count + w₀.number - (w.number + 1)) =
      omega (arith, not_last, so_far.count, so_far.ready.room.number) in
      sym (followed-next (w₀.count + w₀.number - (w.number + 1))) ∙ rw one at so_far.same

  next-following : Following store file₀ w₀ next.file (writing_of w₀.root w₀.count (w.number + 1) next.writing.opening)
  unfolding begun
  next-following =
      record {
        root = refl;
        count = refl;
        edition = refl;
        statement = refl;
        depth = refl;
        memory = refl;
        ready = next-ready;
        later = omega (arith, so_far.later);
        left = next-remaining;
        same = next-same;
      }

  pub following-more :
      (o : Opening) (file' : List ℕ) → o ≡ next.writing.opening → file' ≡ next.file
      → Following store file₀ w₀ file' (writing_of w₀.root w₀.count (w.number + 1) o)
  following-more o file' e f = rw (e, f) next-following

-- nothing more to begin
module _
    (store file₀ : List ℕ) (w₀ : Writing) (file : List ℕ) (w : Writing) (so_far : Following store file₀ w₀ file w)
    (test : may_follow w ≡ false) where
  reached : followed store w₀.count (written_of w₀ file₀) ≡ written_of w file
  reached = sym so_far.same ∙ followed-stays store (w₀.count + w₀.number - w.number) (written_of w file) test

  pub following-done :
      (w ≡ (followed store w₀.count (written_of w₀ file₀)).writing)
      × ((file ≡ (followed store w₀.count (written_of w₀ file₀)).file) × GoesOn w₀ w 0 (length store) (length file₀))
  following-done = (
    rw reached,
    (rw reached, record { ready = so_far.ready; under = test; fewer = add-zero (remaining w) ∙ so_far.left }),
  )

-- some labels at once, and what follows them
pub under-ready :
    (store file : List ℕ) (w : Writing) → Ready w (length store) (length file) → (k : ℕ)
    → w.opening.made + k ≤ nodes_anew w.opening.depth w.opening.memory
    → (w₁ : Writing) (file₁ : List ℕ) → w₁ ≡ (labelled store k (written_of w file)).writing → length file₁ ≡ length file
    → Ready w₁ (length store) (length file₁)
under-ready store file w ready k few w₁ file₁ e size = rw (e, size) (labelled-ready store file w ready k few)

pub some-labelled :
    (store file : List ℕ) (w : Writing) → Ready w (length store) (length file) → (k : ℕ) → 1 ≤ k
    → w.opening.made + k ≤ nodes_anew w.opening.depth w.opening.memory
    → (w₁ w₂ : Writing) (file₁ file₂ : List ℕ) → w₁ ≡ (labelled store k (written_of w file)).writing
    → file₁ ≡ (labelled store k (written_of w file)).file → length file₁ ≡ length file
    → w₂ ≡ (followed store w₁.count (written_of w₁ file₁)).writing → file₂ ≡ (followed store w₁.count (written_of w₁ file₁)).file
    → GoesOn w₁ w₂ 0 (length store) (length file₁)
    → (w₂ ≡ (steps store k (written_of w file)).writing)
    × ((file₂ ≡ (steps store k (written_of w file)).file) × GoesOn w w₂ k (length store) (length file))
some-labelled store file w ready zero some few w₁ w₂ file₁ file₂ e₁ f₁ size e₂ f₂ on = absurd (omega arith)
some-labelled store file w ready (suc k) some few w₁ w₂ file₁ file₂ e₁ f₁ size e₂ f₂ on =
    let under : written_of w₁ file₁ ≡ labelled store (suc k) (written_of w file) = both-known e₁ f₁ in
    let count : w₁.count ≡ w.count = ap (λ (v : Writing). v.count) e₁ ∙ labelled-count store (suc k) w file in
    let all : followed store w₁.count (written_of w₁ file₁) ≡ steps store (suc k) (written_of w file) =
    ap (λ (c : ℕ). followed store c (written_of w₁ file₁)) count ∙ ap (followed store w.count) under
    ∙ sym (steps-labelled store file w ready k few) in
    let left : remaining w₁ + suc k ≡ remaining w = rw e₁ (labelled-remaining store file w ready (suc k) few) in (
      e₂ ∙ ap (λ (s : Written). s.writing) all,
      (
        f₂ ∙ ap (λ (s : Written). s.file) all,
        record { ready = rw size at on.ready; under = on.under; fewer = omega (arith, on.fewer, left) },
      ),
    )

-- few openings, each of few labels
pub remaining-few : (w : Writing) (store file : ℕ) → Ready w store file → remaining w < 2 ^ 56
remaining-few w store file r =
    let anew : ℕ = nodes_anew w.opening.depth w.opening.memory in
    omega (
      arith,
      mul-le-mul_right {m = w.count - w.number} {n = max_challenges} anew (omega (arith, r.room.count)),
      anew-small w.opening.depth w.opening.memory r.room.depth.1,
    )

-- ---- labels opening after opening: what is left to make gives the same
pub record Labelling (store file₀ : List ℕ) (w₀ : Writing) (labels : ℕ) (file : List ℕ) (w : Writing) (left : ℕ) : Type 0 where
  pub ready : Ready w (length store) (length file₀)
  pub under : may_follow w ≡ false
  pub few : left ≤ remaining w
  pub same : steps store left (written_of w file) ≡ steps store labels (written_of w₀ file₀)

module _
    (store file₀ : List ℕ) (w₀ : Writing) (labels : ℕ) (file : List ℕ) (w : Writing) (left : ℕ)
    (so_far : Labelling store file₀ w₀ labels file w left) where
  -- the labels of the next turn: some, and no more than are left to make and left of the opening
  pub chunk-some :
      (anew k : ℕ) → 0 < left → anew ≡ nodes_anew w.opening.depth w.opening.memory → k ≡ min left (anew - w.opening.made)
      → (1 ≤ k) × (k ≤ left) × (w.opening.made + k ≤ nodes_anew w.opening.depth w.opening.memory)
  chunk-some anew k some is e =
      let more : w.opening.made < nodes_anew w.opening.depth w.opening.memory =
      under_left w (length store) (length file₀) so_far.ready so_far.under (omega (arith, so_far.few)) in
      (omega arith, omega arith, omega arith)

  pub labelling-more :
      (k : ℕ) (w' : Writing) (file' : List ℕ) → k ≤ left → w' ≡ (steps store k (written_of w file)).writing
      → file' ≡ (steps store k (written_of w file)).file → GoesOn w w' k (length store) (length file₀)
      → Labelling store file₀ w₀ labels file' w' (left - k)
  labelling-more k w' file' small e f on =
      let all : k + (left - k) ≡ left = omega arith in
      record {
        ready = on.ready;
        under = on.under;
        few = omega (arith, on.fewer, so_far.few);
        same = rw (e, f) (steps-add (writing_machine store) (left - k) k (written_of w file) ∙ rw all so_far.same);
      }

  -- the blocks so far and those of what is left
  pub labelling-cost :
      (k : ℕ) (w' : Writing) (file' : List ℕ) (all blocks more : ℕ) → k ≤ left → w' ≡ (steps store k (written_of w file)).writing
      → file' ≡ (steps store k (written_of w file)).file → more ≡ blocks_over store k (written_of w file)
      → blocks + blocks_over store left (written_of w file) ≡ all → blocks + more + blocks_over store (left - k) (written_of w' file') ≡ all
  labelling-cost k w' file' all blocks more small e f is so =
      let both : k + (left - k) ≡ left = omega arith in
      let split : blocks_over store k (written_of w file) + blocks_over store (left - k) (steps store k (written_of w file))
      ≡ blocks_over store left (written_of w file) =
      rw both at (cost-add (writing_machine store) (step_blocks store) (left - k) k (written_of w file)) in
      rw (both-known e f) (omega (arith, split, is, so))

  pub labelling-counted :
      left ≡ 0 → (all blocks : ℕ) → blocks + blocks_over store left (written_of w file) ≡ all → blocks ≡ all
  labelling-counted none all blocks so =
      omega (arith, cost-none (writing_machine store) (step_blocks store) (written_of w file), rw none at so)

  pub labelling-done :
      left ≡ 0 → (w ≡ (steps store labels (written_of w₀ file₀)).writing) × (file ≡ (steps store labels (written_of w₀ file₀)).file)
  labelling-done none =
      let reached : written_of w file ≡ steps store labels (written_of w₀ file₀) =
      sym (no_step (writing_machine store) (written_of w file)) ∙ rw none at so_far.same in
      (ap (λ (s : Written). s.writing) reached, ap (λ (s : Written). s.file) reached)
