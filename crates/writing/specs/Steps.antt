-- Writing a file: its head, then each opening in its part of the file, one label at a time. When an opening is done the next
-- one is begun, so that the opening under way has labels left unless the file is done.
use Rattle.std.specs.Prelude.{ℕ, zero, suc, ◌+◌, ◌-◌, ◌*◌, Bool, List, ltb, eqb, length, take, drop}
use Rattle.base.specs.Choice.{pick, both}
use Rattle.base.specs.Bytes.{zeros, written}
use Rattle.base.specs.Row.{is_done}
use Rattle.tree.specs.Openings.{opening_size}
use Rattle.machine.specs.Machines as machines
use Rattle.machine.specs.Machines.{Machine}
use Rattle.opening.specs.declared.Opening.{Opening}
use Rattle.opening.specs.Rows.{nodes_anew}
use Rattle.opening.specs.Steps as openings
use Rattle.opening_places.specs.Places.{copied_all}
use Rattle.file_head.specs.Challenge.{challenge_leaf}
use Rattle.file_head.specs.Layout.{head, head_size, opening_from}
use Rattle.writing.specs.declared.Writing.{Writing}
use Rattle.writing.specs.Rows.{write_row, rewrite_row}

-- a writing with its file
pub record Written : Type 0 where
  pub writing : Writing
  pub file : List ℕ

-- opening i's part of the file
abbrev pub part_of : ℕ → ℕ → ℕ → List ℕ → List ℕ
part_of n t i file = take (opening_size n) (drop (opening_from n (head_size n t) i) file)

abbrev pub with_part : ℕ → ℕ → ℕ → List ℕ → List ℕ → List ℕ
with_part n t i file part = written file (opening_from n (head_size n t) i) part

-- opening i begun: its leaf is challenge i's, and what the store holds of it is copied to its part
unfoldable pub begun : ℕ → List ℕ → List ℕ → ℕ → ℕ → ℕ → List ℕ → ℕ → List ℕ → Written
begun edition statement root n m t store i file =
    let leaf : ℕ = challenge_leaf edition n statement root i in
    record {
      writing = record { root = root; count = t; number = i; opening = openings.new_opening edition statement n m leaf };
      file = with_part n t i file (copied_all n m leaf store (part_of n t i file));
    }

-- the opening under way is done and is not the last
abbrev pub may_follow : Writing → Bool
may_follow w =
    both (eqb w.opening.made (nodes_anew w.opening.depth w.opening.memory)) (ltb w.number w.count)

-- the next openings begun, of the same edition, while the one under way is done, `left` of them at most
unfoldable pub followed : List ℕ → ℕ → Written → Written
followed store zero s = s
followed store (suc left) s =
    let w : Writing = s.writing in
    let o : Opening = w.opening in
    pick (may_follow w)
    (followed store left (begun o.edition o.statement w.root o.depth o.memory w.count store (w.number + 1) s.file))
    s

-- a new writing: the head, and the first opening that has labels to make
unfoldable pub new_writing : ℕ → List ℕ → List ℕ → ℕ → ℕ → ℕ → List ℕ → List ℕ → Written
new_writing edition statement root n m t store file =
    followed store t (begun edition statement root n m t store 1 (written file 0 (head edition statement root n t)))

-- what stands beside a refused start
abbrev pub no_writing : Writing
no_writing = record { root = zeros 32; count = 0; number = 0; opening = openings.no_opening }

unfoldable pub started : ℕ → List ℕ → List ℕ → ℕ → ℕ → ℕ → List ℕ → List ℕ → Written
started edition statement root n m t store file =
    pick (is_done (write_row edition n m t (length store) (length file)))
    (new_writing edition statement root n m t store file)
    (record { writing = no_writing; file = file })

-- one label of the opening under way
unfoldable pub stepped : List ℕ → Written → Written
stepped store s =
    let w : Writing = s.writing in
    let n : ℕ = w.opening.depth in
    let o : openings.Open = openings.stepped store (record { opening = w.opening; out = part_of n w.count w.number s.file }) in
    followed store w.count
    (record {
      writing = record { root = w.root; count = w.count; number = w.number; opening = o.opening };
      file = with_part n w.count w.number s.file o.out;
    })

-- the labels that remain: of the opening under way, and of those after it
abbrev pub remaining : Writing → ℕ
remaining w =
    let anew : ℕ = nodes_anew w.opening.depth w.opening.memory in
    (w.count - w.number) * anew + (anew - w.opening.made)

-- the writing of a file over its store as a machine: the checks of a call, the labels that remain, and one label
unfoldable pub writing_machine : List ℕ → Machine Written
writing_machine store =
    record {
      row = λ s. rewrite_row s.writing (length store) (length s.file);
      remaining = λ s. remaining s.writing;
      step = stepped store;
    }

abbrev pub steps : List ℕ → ℕ → Written → Written
steps store k s = machines.steps (writing_machine store) k s

-- the smaller of the budget and what remains; a refused call labels none
abbrev pub labels_in : List ℕ → Written → ℕ → ℕ
labels_in store s budget = machines.done_in (writing_machine store) s budget

-- W-207: the blocks of the next label of the opening under way, and those of the labels that a call makes
abbrev pub step_blocks : List ℕ → Written → ℕ
step_blocks store s = openings.next_blocks_of store s.writing.opening

abbrev pub blocks_over : List ℕ → ℕ → Written → ℕ
blocks_over store k s = machines.cost_of (writing_machine store) (step_blocks store) k s

abbrev pub blocks_in : List ℕ → Written → ℕ → ℕ
blocks_in store s budget = machines.cost_in (writing_machine store) (step_blocks store) s budget

-- the writing and its file after a call
abbrev pub advanced : List ℕ → Written → ℕ → Written
advanced store s budget = machines.advanced (writing_machine store) s budget
