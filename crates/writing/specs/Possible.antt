-- What a call that is not refused knows of a writing, and short names for the contracts of the functions inside.
use Rattle.std.specs.Prelude.{◌≡◌, ℕ, ◌+◌, ◌^◌, ◌≤◌, ◌<◌, Bool, false, List, leb}
use Rattle.base.specs.Limits.{max_challenges, IsEdition, IsDepth, IsMemory}
use Rattle.base.specs.Row.{outside, either}
use Rattle.tree.specs.Store.{store_size}
use Rattle.run.specs.Rows.{impossible}
use Rattle.opening.specs.declared.Opening.{Opening}
use Rattle.opening.specs.Rows.{nodes_anew}
use Rattle.opening.specs.Steps as openings
use Rattle.opening.specs.Names.{open_of}
use Rattle.file_head.specs.Layout.{file_size}
use Rattle.writing.specs.declared.Writing.{Writing}
use Rattle.writing.specs.Steps.{Written, part_of, with_part, may_follow, remaining}

abbrev pub writing_of : List ℕ → ℕ → ℕ → Opening → Writing
writing_of root t i opening = record { root = root; count = t; number = i; opening = opening }

abbrev pub written_of : Writing → List ℕ → Written
written_of w file = record { writing = w; file = file }

-- the first condition of continuing
abbrev pub state_outside : Writing → Bool
state_outside w =
    let o : Opening = w.opening in
    either
    (impossible o.edition o.depth o.memory o.made (nodes_anew o.depth o.memory))
    (either (leb (2 ^ o.depth) o.leaf)
    (either (outside 1 max_challenges w.count) (either (outside 1 w.count w.number) (may_follow w))))

-- opening i of t of an edition's file at depth n can be written: over the lengths of store and file
pub record Room (edition n m t i store file : ℕ) : Type 0 where
  pub exists : IsEdition edition
  pub depth : IsDepth n
  pub memory : IsMemory n m
  pub store_fits : store_size m ≤ store
  pub number : (1 ≤ i) × (i ≤ t)
  pub count : t ≤ max_challenges
  pub file_fits : file_size n t ≤ file

-- a writing that can be, with a store and a file that are long enough
pub record Ready (w : Writing) (store file : ℕ) : Type 0 where
  pub room : Room w.opening.edition w.opening.depth w.opening.memory w.count w.number store file
  pub position : w.opening.leaf < 2 ^ w.opening.depth
  pub few : w.opening.made ≤ nodes_anew w.opening.depth w.opening.memory

-- what a writing is after k labels: it has labels left unless the file is done, and k fewer than before
pub record GoesOn (w w' : Writing) (k store file : ℕ) : Type 0 where
  pub ready : Ready w' store file
  pub under : may_follow w' ≡ false
  pub fewer : remaining w' + k ≡ remaining w

-- the opening under way, in its part of the file
abbrev pub under_way : Written → openings.Open
under_way s = let w : Writing = s.writing in open_of w.opening (part_of w.opening.depth w.count w.number s.file)

-- k labels of the opening under way, and nothing begun
unfoldable pub labelled : List ℕ → ℕ → Written → Written
labelled store k s =
    let w : Writing = s.writing in
    let o : openings.Open = openings.steps store k (under_way s) in
    written_of (writing_of w.root w.count w.number o.opening) (with_part w.opening.depth w.count w.number s.file o.out)

-- their blocks
abbrev pub labelled_blocks : List ℕ → ℕ → Written → ℕ
labelled_blocks store k s = openings.blocks_over store k (under_way s)
