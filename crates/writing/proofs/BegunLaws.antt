-- The calls on an opening's part of the file, as the definitions have them.
use mathlib.Core.Path.{◌≡◌, sym, ap, subst, ◌∙◌}
use mathlib.Core.List.{List, ◌++◌}
use Prim.Native.Nat.{ℕ, ◌+◌, ◌-◌, ◌^◌, ◌≤◌, ◌<◌}
use native.Mathlib.Omega.{arith}
use lib.ListN.{length, take, drop}
use Rattle.base.specs.Bytes.{written}
use Rattle.base.proofs.Parts.{part-size, part_length}
use Rattle.tree.specs.Openings.{opening_size}
use Rattle.opening.specs.declared.Opening.{Opening}
use Rattle.opening.specs.Rows.{nodes_anew, open_row, reopen_row}
use Rattle.opening.specs.Steps as openings
use Rattle.opening.specs.Names.{open_of}
use Rattle.file_head.specs.Challenge.{challenge_leaf}
use Rattle.file_head.specs.Layout.{head, head_size, opening_from, head_written}
use Rattle.run_theory.specs.Openings.{Openable}
use Rattle.run_theory.proofs.OpeningCalls.{open-fits, reopen-fits, started-fits, started_out-fits}
use Rattle.file_head.proofs.Leaves.{challenge_leaf-small}
use Rattle.file_head.proofs.RowLaws.{head_done}
use Rattle.writing.specs.declared.Writing.{Writing}
use Rattle.writing.specs.Possible.{Room, Ready, writing_of, written_of, labelled, labelled_blocks}
use Rattle.writing.specs.Steps.{Written, begun, followed, new_writing}
use Rattle.writing.proofs.PartLaws.{part-fits, part-back}
use Rattle.writing.proofs.OpenLaws.{labels-all, advanced-all, blocks-all}

-- an opening over its part can be started and continued
part-openable :
    (edition n m t i : ℕ) (store file : List ℕ) (leaf : ℕ) → Room edition n m t i (length store) (length file) → leaf < 2 ^ n
    → Openable edition n m leaf (length store) (length (take (opening_size n) (drop (opening_from n (head_size n t) i) file)))
part-openable edition n m t i store file leaf room inside =
    record {
      exists = room.exists;
      depth = room.depth;
      memory = room.memory;
      store_fits = room.store_fits;
      position = inside;
      out_fits =
          omega (
            arith,
            part_length file (opening_from n (head_size n t) i) (opening_size n)
                (part-fits n t i room.number.0 room.number.1 (length file) room.file_fits),
          );
    }

-- the leaf of an opening that can be written is one of the tree
module _ (edition : ℕ) (statement root : List ℕ) (n m t i store file : ℕ) (room : Room edition n m t i store file) where
  leaf-inside : challenge_leaf edition n statement root i < 2 ^ n
  leaf-inside = challenge_leaf-small edition n statement root i (omega (arith, room.depth))

  -- what is begun can be continued
  pub begun-ready : (bytes out : List ℕ) → Ready (begun edition statement root n m t bytes i out).writing store file
  unfolding begun
  begun-ready bytes out = record { room = room; position = leaf-inside; few = omega arith }

module _
    (edition : ℕ) (statement root : List ℕ) (n m t i : ℕ) (store file : List ℕ) (room : Room edition n m t i (length store) (length file))
    (leaf from : ℕ) (is : leaf ≡ challenge_leaf edition n statement root i) (at : from ≡ opening_from n (head_size n t) i)
    (part : List ℕ) (lent : part ≡ take (from + opening_size n - from) (drop from file)) where
  there : part ≡ take (opening_size n) (drop (opening_from n (head_size n t) i) file)
  there = lent ∙ part-size file from (opening_size n) ∙ rw at

  openable : Openable edition n m leaf (length store) (length part)
  openable =
      rw there (part-openable edition n m t i store file leaf room (rw is (leaf-inside edition statement root n m t i (length store) (length file) room)))

  pub begun-done : open_row edition n m leaf (length store) (length part) ≡ 0
  begun-done = open-fits edition n m leaf (length store) (length part) openable

  pub begun-opening :
      (o : Opening) → o ≡ openings.started edition statement n m leaf (length store) (length part)
      → o ≡ (begun edition statement root n m t store i file).writing.opening
  unfolding begun
  begun-opening o made = made ∙ started-fits edition statement n m leaf (length store) (length part) openable ∙ rw is

  pub begun-file :
      (part' : List ℕ) → part' ≡ openings.started_out edition n m leaf store part → length part' ≡ length part
      → take from file ++ (part' ++ drop (from + opening_size n - from) (drop from file)) ≡ (begun edition statement root n m t store i file).file
  unfolding begun
  begun-file part' put same =
      let size : from + opening_size n - from ≡ opening_size n = omega arith in
      let whole : length part' ≡ opening_size n =
      same ∙ ap length there ∙ part_length file (opening_from n (head_size n t) i) (opening_size n)
      (part-fits n t i room.number.0 room.number.1 (length file) room.file_fits) in
      rw (size, part-back file part' from (opening_size n) whole, put, started_out-fits edition n m leaf store part openable, there, is, at)

module _
    (w : Writing) (store file : List ℕ) (ready : Ready w (length store) (length file)) (k from : ℕ)
    (few : w.opening.made + k ≤ nodes_anew w.opening.depth w.opening.memory)
    (at : from ≡ opening_from w.opening.depth (head_size w.opening.depth w.count) w.number)
    (part : List ℕ) (lent : part ≡ take (from + opening_size w.opening.depth - from) (drop from file)) where
  abbrev n : ℕ
  n = w.opening.depth

  under-there : part ≡ take (opening_size n) (drop (opening_from n (head_size n w.count) w.number) file)
  under-there = lent ∙ part-size file from (opening_size n) ∙ rw at

  under-openable : Openable w.opening.edition n w.opening.memory w.opening.leaf (length store) (length part)
  under-openable =
      rw under-there
      (part-openable w.opening.edition n w.opening.memory w.count w.number store file w.opening.leaf ready.room ready.position)

  all_made : openings.advanced store (open_of w.opening part) k ≡ openings.steps store k (open_of w.opening part)
  all_made = advanced-all store w.opening part k under-openable few

  pub labelled-done : reopen_row w.opening (length store) (length part) ≡ 0
  labelled-done = reopen-fits w.opening (length store) (length part) under-openable (omega arith)

  pub labelled-count : openings.labels_in store (open_of w.opening part) k ≡ k
  labelled-count = labels-all store w.opening part k under-openable few

  pub labelled-blocks : openings.blocks_in store (open_of w.opening part) k ≡ labelled_blocks store k (written_of w file)
  labelled-blocks =
      blocks-all store w.opening part k under-openable few
      ∙ ap (λ (x : List ℕ). openings.blocks_over store k (open_of w.opening x)) under-there

  pub labelled-writing :
      (o : Opening) → o ≡ (openings.advanced store (open_of w.opening part) k).opening
      → writing_of w.root w.count w.number o ≡ (labelled store k (written_of w file)).writing
  unfolding labelled
  labelled-writing o made = rw (made, all_made, under-there)

  pub labelled-file :
      (part' : List ℕ) → part' ≡ (openings.advanced store (open_of w.opening part) k).out → length part' ≡ length part
      → take from file ++ (part' ++ drop (from + opening_size n - from) (drop from file)) ≡ (labelled store k (written_of w file)).file
  unfolding labelled
  labelled-file part' put same =
      let size : from + opening_size n - from ≡ opening_size n = omega arith in
      let whole : length part' ≡ opening_size n =
      same ∙ ap length under-there ∙ part_length file (opening_from n (head_size n w.count) w.number) (opening_size n)
      (part-fits n w.count w.number ready.room.number.0 ready.room.number.1 (length file) ready.room.file_fits) in
      rw (size, part-back file part' from (opening_size n) whole, put, all_made, under-there, at)

-- a new writing: head, first opening, and what follows it
module _
    (edition : ℕ) (statement root : List ℕ) (n m t : ℕ) (store file file₁ : List ℕ)
    (room : Room edition n m t 1 (length store) (length file))
    (e₁ : file₁ ≡ head_written edition statement root n t file) (o : Opening) (file₂ : List ℕ)
    (e₂ : o ≡ (begun edition statement root n m t store 1 file₁).writing.opening) (f₂ : file₂ ≡ (begun edition statement root n m t store 1 file₁).file) where
  first-begun : written_of (writing_of root t 1 o) file₂ ≡ begun edition statement root n m t store 1 file₁
  unfolding begun
  first-begun = rw (e₂, f₂)

  pub first-ready : length file₂ ≡ length file → Ready (writing_of root t 1 o) (length store) (length file₂)
  first-ready size =
      rw size
      (subst (λ (s : Written). Ready s.writing (length store) (length file)) (sym first-begun)
      (begun-ready edition statement root n m t 1 (length store) (length file) room store file₁))

  head-there : file₁ ≡ written file 0 (head edition statement root n t)
  unfolding head_written
  head-there = rw (head_done edition n t (length file) room.exists room.depth (omega (arith, room.number, room.count)) room.file_fits) at e₁

  all-begun : followed store t (written_of (writing_of root t 1 o) file₂) ≡ new_writing edition statement root n m t store file
  unfolding new_writing
  all-begun = rw (first-begun, head-there)

  pub new-written :
      (w : Writing) (file₃ : List ℕ) → w ≡ (followed store t (written_of (writing_of root t 1 o) file₂)).writing
      → file₃ ≡ (followed store t (written_of (writing_of root t 1 o) file₂)).file
      → (w ≡ (new_writing edition statement root n m t store file).writing) × (file₃ ≡ (new_writing edition statement root n m t store file).file)
  new-written w file₃ e f = (e ∙ ap (λ (s : Written). s.writing) all-begun, f ∙ ap (λ (s : Written). s.file) all-begun)
