-- What reading gives back of any bytes: the head's numbers, and the openings as parts of the bytes.
use Rattle.std.specs.Prelude.{ℕ, ◌+◌, ◌*◌, Bool, not, List, eqb, length, take, drop, Result, Ok, Err}
use Rattle.base.specs.Choice.{pick, both}
use Rattle.base.specs.Limits.{max_depth, max_challenges}
use Rattle.base.specs.declared.refusal.Refusal.{Refusal}
use Rattle.base.specs.Number.{number_of}
use Rattle.base.specs.Row.{outside, no_edition}
use Rattle.groups.specs.Groups.{number_groups}
use Rattle.groups.specs.Reading.{read_at, checked}
use Rattle.tree.specs.Openings.{opening_size}
use Rattle.file_head.specs.declared.sizes.Head.{Head}
use Rattle.file_head.specs.Layout.{opening_from}

-- what reading a head answers: edition, depth, count and the place after its numbers, or document 01's number of the refusal
pub data HeadAnswer : Type 0 where
  numbers : ℕ → ℕ → ℕ → ℕ → HeadAnswer
  not_read : ℕ → HeadAnswer

abbrev pub head_answer : Result Head Refusal → HeadAnswer
head_answer (Ok h) = numbers h.edition h.depth h.count h.end
head_answer (Err r) = not_read (number_of r)

-- a head's refusal, 0 if it is read, and its edition, depth and count, each 0 if it is refused
abbrev pub head_refusal : HeadAnswer → ℕ
head_refusal (numbers e n t at) = 0
head_refusal (not_read r) = r

abbrev pub head_edition : HeadAnswer → ℕ
head_edition (numbers e n t at) = e
head_edition (not_read r) = 0

abbrev pub head_depth : HeadAnswer → ℕ
head_depth (numbers e n t at) = n
head_depth (not_read r) = 0

abbrev pub head_count : HeadAnswer → ℕ
head_count (numbers e n t at) = t
head_count (not_read r) = 0

-- Row 'File, each number in turn': 10 and 11 by the groups; then 12: an edition that does not exist (W-206), or 1, or 8.
unfoldable pub head_of : List ℕ → HeadAnswer
head_of bytes =
    checked not_read (read_at bytes 0 number_groups) no_edition 12
    (λ e at. checked not_read (read_at bytes at number_groups) (outside 1 max_depth) 1
    (λ n at. checked not_read (read_at bytes at number_groups) (outside 1 max_challenges) 8 (λ t at. numbers e n t at)))

-- the length of a file whose numbers end at a place
abbrev pub length_from : ℕ → ℕ → ℕ → ℕ
length_from n t at = at + 64 + t * opening_size n

-- the statement and the root, which follow the numbers
abbrev pub statement_at : List ℕ → ℕ → List ℕ
statement_at bytes at = take 32 (drop at bytes)

abbrev pub root_at : List ℕ → ℕ → List ℕ
root_at bytes at = take 32 (drop (at + 32) bytes)

-- opening i, from 1, as a part of the bytes
abbrev pub opening_at : List ℕ → ℕ → ℕ → ℕ → List ℕ
opening_at bytes n at i = take (opening_size n) (drop (opening_from n (at + 64) i) bytes)

-- there is an opening i in bytes of this layout
abbrev pub has_opening : List ℕ → ℕ → ℕ → ℕ → ℕ → Bool
has_opening bytes n t at i = both (eqb (length bytes) (length_from n t at)) (not (outside 1 t i))

-- 'an opening is given back as that part of the caller's bytes': where it begins and how long it is. 'The part is empty if a
-- head number is refused, the length is not the layout's, or there is no opening of that number.'
abbrev pub part_start : List ℕ → ℕ → HeadAnswer → ℕ
part_start bytes i (numbers e n t at) = pick (has_opening bytes n t at i) (opening_from n (at + 64) i) 0
part_start bytes i (not_read r) = 0

abbrev pub part_length : List ℕ → ℕ → HeadAnswer → ℕ
part_length bytes i (numbers e n t at) = pick (has_opening bytes n t at i) (opening_size n) 0
part_length bytes i (not_read r) = 0

unfoldable pub opening_part : List ℕ → ℕ → List ℕ
opening_part bytes i = take (part_length bytes i (head_of bytes)) (drop (part_start bytes i (head_of bytes)) bytes)
